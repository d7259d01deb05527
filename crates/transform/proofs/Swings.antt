-- The swing of a sum of pulses of a levelling is twice the sum of their sizes.
use Rattle.std.proofs.Common.{◌≡◌, ℕ, zero, suc, ◌+◌, ◌-◌, ◌<◌, ◌≤◌, Bool, true, not, List, [], ◌∷◌, length, sym, refl, ap, ◌∙◌, inl, inr, arith}
use mathlib.Core.Path.{fun_ext}
use Rattle.std.proofs.lemmas.Bool.{cases_lt, cases_Bool}
use Rattle.kinds.specs.Columns.{Arity, Columns, nought, plus, minus}
use Rattle.kinds.specs.Kinds.{Kind, Of, Lawful}
use Rattle.transform.specs.Windows.{Record, Trace, trace}
use Rattle.transform.specs.Pulses.{Pulse, pulses, chosen, standing, size, sizes, summed, swing}
use Rattle.transform.proofs.Group.{plus_assoc, plus_comm, plus_left_comm, plus_nought, nought_plus, minus_self, minus_nought, minus_minus, minus_sums, below_zero, above_zero, size_up, size_down, Agree, size_sum}
use Rattle.transform.proofs.Levels.{block, block_on, block_before, block_after, Levels, either_step}
use Rattle.transform.proofs.Sums.{numbered, flags, chosen_numbered, chosen_not_numbered, standing_more, levels_follows, follows_still}
use Rattle.transform.proofs.Counts.{inside, still_outside}
use Rattle.transform.proofs.Stages.{pulses_level, pulses_sum}

doubled : (a : Arity) (x y : Columns a) → plus a (plus a x x) (plus a y y) ≡ plus a (plus a x y) (plus a x y)
doubled a x y = simp (plus_assoc a, plus_left_comm a)

all_numbered : {A : Type 0} (xs : List A) → xs ≡ numbered (λ k. true) xs
unfolding numbered
all_numbered [] = refl
all_numbered (a ∷ rest) = ap (λ l. a ∷ l) (all_numbered rest)

-- sums over days
module _ (K : Kind) where
  summed_same : (n : ℕ) (f g : ℕ → Of K) → ((d : ℕ) → f (suc d) ≡ g (suc d)) → summed K n f ≡ summed K n g
  unfolding summed
  summed_same zero f g h = refl
  summed_same (suc n) f g h = rw (summed_same n f g h, h n)

  summed_plus : (n : ℕ) (f g : ℕ → Of K) → summed K n (λ d. plus K.arity (f d) (g d)) ≡ plus K.arity (summed K n f) (summed K n g)
  unfolding summed
  summed_plus zero f g = sym (plus_nought _ _)
  summed_plus (suc n) f g = rw (summed_plus n f g) (simp (plus_assoc K.arity, plus_comm K.arity, plus_left_comm K.arity))

  summed_none : (n : ℕ) (f : ℕ → Of K) → ((d : ℕ) → d ≤ n → f d ≡ nought K.arity) → summed K n f ≡ nought K.arity
  unfolding summed
  summed_none zero f h = refl
  summed_none (suc n) f h = rw (summed_none n f (λ d l. h d (omega arith)), h (suc n) (omega arith)) (plus_nought _ _)

  summed_one : (n i : ℕ) (f : ℕ → Of K) → 1 ≤ i → i ≤ n → ((d : ℕ) → d ≤ n → (d ≡ i → ⊥) → f d ≡ nought K.arity) → summed K n f ≡ f i
  unfolding summed
  summed_one zero i f g l h = absurd (omega arith)
  summed_one (suc n) i f g l h = elim (cases_lt i (suc n)) [
    | inl m ↦ rw (summed_one n i f g (omega arith) (λ d k e. h d (omega arith) e), h (suc n) (omega arith) (λ e. omega arith)) (plus_nought _ _)
    | inr m ↦ rw (summed_none n f (λ d k. h d (omega arith) (λ e. omega arith))) (nought_plus _ _ ∙ ap f (omega arith))
  ]

  summed_two : (n i j : ℕ) (f : ℕ → Of K) → 1 ≤ i → i < j → j ≤ n → ((d : ℕ) → (d ≡ i → ⊥) → (d ≡ j → ⊥) → f d ≡ nought K.arity) → summed K n f ≡ plus K.arity (f i) (f j)
  unfolding summed
  summed_two zero i j f g l m h = absurd (omega arith)
  summed_two (suc n) i j f g l m h = elim (cases_lt j (suc n)) [
    | inl k ↦ rw (summed_two n i j f g l (omega arith) h, h (suc n) (λ e. omega arith) (λ e. omega arith)) (plus_nought _ _)
    | inr k ↦ rw (summed_one n i f g (omega arith) (λ d r e. h d e (λ e. omega arith))) (ap (λ a. plus K.arity (f i) (f a)) (omega arith))
  ]

module _ (K : Kind) (O : Lawful K) where
  size_nought : size K (nought K.arity) ≡ nought K.arity
  size_nought = size_up K O _ (O.irreflexive _)

  size_negated : (a : Of K) → size K (minus K.arity (nought K.arity) a) ≡ size K a
  size_negated a = elim (cases_Bool (K.below a (nought K.arity))) [
    | inl e ↦ size_up K O _ (below_zero K O _ _ ∙ O.one_way _ _ e) ∙ sym (size_down K O a (O.one_way _ _ e))
    | inr e ↦ size_down K O _ (above_zero K O _ _ ∙ e) ∙ minus_minus _ _ _ ∙ sym (size_up K O a e)
  ]

  -- swings of traces that go the same way at each step add up
  swing_plus : (n : ℕ) (s t : Trace K) → ((b : ℕ) → Agree K (minus K.arity (s (suc b)) (s b)) (minus K.arity (t (suc b)) (t b))) →
      swing K n (λ d. plus K.arity (s d) (t d)) ≡ plus K.arity (swing K n s) (swing K n t)
  unfolding swing
  swing_plus n s t h = summed_same K (n + 1) _ _ (λ d. step d) ∙ summed_plus K (n + 1) _ _
    where
      step : (d : ℕ) → size K (minus K.arity (plus K.arity (s (suc d)) (t (suc d))) (plus K.arity (s (suc d - 1)) (t (suc d - 1)))) ≡
          plus K.arity (size K (minus K.arity (s (suc d)) (s (suc d - 1)))) (size K (minus K.arity (t (suc d)) (t (suc d - 1))))
      step d = rw (let z : suc d - 1 ≡ d = omega arith in z, minus_sums) (size_sum K O _ _ (h d))

  -- a block swings up and down by its amount
  swing_block : (n q w : ℕ) (v : Of K) → 0 < w → q + w ≤ n → swing K n (block K.arity (suc q) w v) ≡ plus K.arity (size K v) (size K v)
  unfolding swing
  swing_block n q w v h l = summed_two K (n + 1) (suc q) (suc (q + w)) _ (omega arith) (omega arith) (omega arith) flat ∙
      rw (
        block_on K.arity (suc q) w v (suc q) (omega arith) (omega arith),
        block_before K.arity (suc q) w v (suc q - 1) (omega arith),
        block_after K.arity (suc q) w v (suc (q + w)) (omega arith),
        block_on K.arity (suc q) w v (suc (q + w) - 1) (omega arith) (omega arith),
        minus_nought,
        size_negated,
      )
    where
      same : (d : ℕ) → (d ≡ suc q → ⊥) → (d ≡ suc (q + w) → ⊥) → block K.arity (suc q) w v d ≡ block K.arity (suc q) w v (d - 1)
      same d e f = elim (cases_lt d (suc q)) [
        | inl m ↦ block_before K.arity (suc q) w v d m ∙ sym (block_before K.arity (suc q) w v (d - 1) (omega arith))
        | inr m ↦ elim (cases_lt d (suc (q + w))) [
          | inl r ↦ block_on K.arity (suc q) w v d m (omega arith) ∙ sym (block_on K.arity (suc q) w v (d - 1) (omega arith) (omega arith))
          | inr r ↦ block_after K.arity (suc q) w v d (omega arith) ∙ sym (block_after K.arity (suc q) w v (d - 1) (omega arith))
        ]
      ]

      flat : (d : ℕ) → (d ≡ suc q → ⊥) → (d ≡ suc (q + w) → ⊥) → size K (minus K.arity (block K.arity (suc q) w v d) (block K.arity (suc q) w v (d - 1))) ≡ nought K.arity
      flat d e f = rw (same d e f, minus_self) size_nought

  pub sizes_none : sizes K [] ≡ nought K.arity
  unfolding sizes
  sizes_none = refl

  pub sizes_more : (p : Pulse K) (ps : List (Pulse K)) → sizes K (p ∷ ps) ≡ plus K.arity (size K p.amount) (sizes K ps)
  unfolding sizes
  sizes_more p ps = refl

  swing_flat : (n : ℕ) → swing K n (standing K []) ≡ nought K.arity
  unfolding swing standing
  swing_flat n = summed_none K (n + 1) _ (λ d l. rw minus_self size_nought)

  pub levels_swing : (n : ℕ) (ps : List (Pulse K)) (m : ℕ → Bool) (x z : Trace K) → ((b : ℕ) → n < b → x (suc b) ≡ x b) → Levels K x ps z →
      swing K n (standing K (numbered m ps)) ≡ plus K.arity (sizes K (numbered m ps)) (sizes K (numbered m ps))
  unfolding numbered
  levels_swing n [] m x z o l = rw (swing_flat n, sizes_none, plus_nought)
  levels_swing n (p ∷ ps) m x z o (q, f, s, k) =
      let S = either_step K O x q p.width p.amount s in
      let rest : List (Pulse K) = numbered (λ k. m (suc k)) ps in
      let ih = levels_swing n ps (λ k. m (suc k)) _ z (λ b h. follows_still K O x _ S.left b (o b h)) k in
      elim (cases_Bool (m 0)) [
        | inr e ↦ rw e ih
        | inl e ↦ rw e
            (ap (swing K n) (fun_ext (λ d. standing_more K p rest d ∙ ap (λ g. plus K.arity (block K.arity g p.width p.amount d) (standing K rest d)) f)) ∙
            swing_plus n (block K.arity (suc q) p.width p.amount) (standing K rest) (S.agree _ (levels_follows K O (λ k. m (suc k)) ps _ z k)) ∙
            rw (swing_block n q p.width p.amount S.some (inside K O n x q p.width p.amount S o), ih, sizes_more p rest) (doubled K.arity _ _))
      ]

  -- the sizes of those chosen and of the others are all the sizes
  sizes_parted : (ps : List (Pulse K)) (m : ℕ → Bool) → sizes K ps ≡ plus K.arity (sizes K (numbered m ps)) (sizes K (numbered (λ k. not (m k)) ps))
  unfolding numbered
  sizes_parted [] m = rw (sizes_none, plus_nought)
  sizes_parted (p ∷ ps) m = rw (sizes_more p ps, sizes_parted ps (λ k. m (suc k))) (elim (cases_Bool (m 0)) [
    | inl e ↦ rw (e, sizes_more p (numbered (λ k. m (suc k)) ps), plus_assoc)
    | inr e ↦ rw (e, sizes_more p (numbered (λ k. not (m (suc k))) ps)) (plus_left_comm _ _ _ _)
  ])

  -- whatever pulses are taken out, the swing of what stands and twice their sizes make the swing of the record
  pub pulses_swing_numbered : (xs : Record K) (m : ℕ → Bool) →
      let out : Of K = sizes K (numbered (λ k. not (m k)) (pulses K xs)) in
      swing K (length xs) (trace K xs) ≡ plus K.arity (swing K (length xs) (standing K (numbered m (pulses K xs)))) (plus K.arity out out)
  pulses_swing_numbered xs m =
      ap (swing K (length xs)) (fun_ext (λ d. sym (pulses_sum K O xs d) ∙ ap (λ l. standing K l d) (all_numbered (pulses K xs)))) ∙
      twice (λ k. true) ∙ rw (← (all_numbered (pulses K xs)), sizes_parted (pulses K xs) m, twice m) (sym (doubled K.arity _ _))
    where
      twice : (m : ℕ → Bool) → swing K (length xs) (standing K (numbered m (pulses K xs))) ≡ plus K.arity (sizes K (numbered m (pulses K xs))) (sizes K (numbered m (pulses K xs)))
      twice m = levels_swing (length xs) (pulses K xs) m _ _ (still_outside K O xs) (pulses_level K O xs)

  pub pulses_swing : (xs : Record K) (keep : Pulse K → Bool) →
      let out : Of K = sizes K (chosen (λ p. not (keep p)) (pulses K xs)) in
      swing K (length xs) (trace K xs) ≡ plus K.arity (swing K (length xs) (standing K (chosen keep (pulses K xs)))) (plus K.arity out out)
  pulses_swing xs keep = rw (chosen_numbered keep (pulses K xs), chosen_not_numbered keep (pulses K xs)) (pulses_swing_numbered xs (flags keep (pulses K xs)))
