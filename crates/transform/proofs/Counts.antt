-- How many pulses a levelling can have: each stills a boundary at which the trace moved, and the
-- last one two.
use Rattle.std.proofs.Common.{◌≡◌, ℕ, zero, suc, ◌+◌, ◌<◌, ◌≤◌, Bool, true, false, cond, ◌||◌, List, [], ◌∷◌, length, sym, ap, ◌∙◌, inl, inr, arith}
use Rattle.std.proofs.lemmas.Bool.{cases_lt, cases_Bool, or_from, or_parts}
use Rattle.kinds.specs.Kinds.{Kind, Of, Lawful}
use Rattle.transform.specs.Windows.{Record, Trace, trace}
use Rattle.transform.specs.Pulses.{Pulse, pulses}
use Rattle.transform.proofs.Smooths.{trace_outside}
use Rattle.transform.proofs.Levels.{cut, Levels, Step, either_step}
use Rattle.transform.proofs.Sums.{follows_still}
use Rattle.transform.proofs.Stages.{pulses_level}

-- how many of the numbers below n meet the test
tally : (ℕ → Bool) → ℕ → ℕ
tally test zero = 0
tally test (suc n) = cond (test n) 1 0 + tally test n

tally_most : (test : ℕ → Bool) (n : ℕ) → tally test n ≤ n
unfolding tally
tally_most test zero = omega arith
tally_most test (suc n) = let h = tally_most test n in elim (cases_Bool (test n)) [ inl e ↦ rw e (omega arith) | inr e ↦ rw e (omega arith) ]

tally_less : (test other : ℕ → Bool) (n : ℕ) → ((b : ℕ) → test b ≡ false → other b ≡ false) → tally other n ≤ tally test n
unfolding tally
tally_less test other zero h = omega arith
tally_less test other (suc n) h =
    let k = tally_less test other n h in
    elim (cases_Bool (test n)) [
      | inl e ↦ elim (cases_Bool (other n)) [ inl f ↦ rw (e, f) (omega arith) | inr f ↦ rw (e, f) (omega arith) ]
      | inr e ↦ rw (e, h n e) (omega arith)
    ]

-- one number fewer meets the test
tally_lost : (test other : ℕ → Bool) (n : ℕ) → ((b : ℕ) → test b ≡ false → other b ≡ false) → (b : ℕ) → b < n → test b ≡ true → other b ≡ false → tally other n < tally test n
unfolding tally
tally_lost test other zero h b l e f = absurd (omega arith)
tally_lost test other (suc n) h b l e f = elim (cases_lt b n) [
  | inl g ↦
      let k = tally_lost test other n h b g e f in
      elim (cases_Bool (test n)) [
        | inl i ↦ elim (cases_Bool (other n)) [ inl j ↦ rw (i, j) (omega arith) | inr j ↦ rw (i, j) (omega arith) ]
        | inr i ↦ rw (i, h n i) (omega arith)
      ]
  | inr g ↦
      let k = tally_less test other n h in
      let z : n ≡ b = omega arith in
      rw (ap test z ∙ e, ap other z ∙ f) (omega arith)
]

tally_one : (test : ℕ → Bool) (n b : ℕ) → b < n → test b ≡ true → 1 ≤ tally test n
unfolding tally
tally_one test zero b l e = absurd (omega arith)
tally_one test (suc n) b l e = elim (cases_lt b n) [
  | inl g ↦ let k = tally_one test n b g e in omega arith
  | inr g ↦ rw (ap test (let z : n ≡ b = omega arith in z) ∙ e) (omega arith)
]

tally_two : (test : ℕ → Bool) (n a b : ℕ) → a < b → b < n → test a ≡ true → test b ≡ true → 2 ≤ tally test n
unfolding tally
tally_two test zero a b h l e f = absurd (omega arith)
tally_two test (suc n) a b h l e f = elim (cases_lt b n) [
  | inl g ↦ let k = tally_two test n a b h g e f in omega arith
  | inr g ↦ let k = tally_one test n a (omega arith) e in rw (ap test (let z : n ≡ b = omega arith in z) ∙ f) (omega arith)
]

-- the trace moves from day b to the next
moves : (K : Kind) → Trace K → ℕ → Bool
moves K x b = K.below (x b) (x (suc b)) || K.below (x (suc b)) (x b)

module _ (K : Kind) (O : Lawful K) where
  moves_not : (x : Trace K) (b : ℕ) → x (suc b) ≡ x b → moves K x b ≡ false
  unfolding moves
  moves_not x b e = rw e (or_from _ _ (O.irreflexive (x b)) (O.irreflexive (x b)))

  moves_still : (x : Trace K) (b : ℕ) → moves K x b ≡ false → x (suc b) ≡ x b
  unfolding moves
  moves_still x b e = O.tight _ _ (or_parts _ _ e).1 (or_parts _ _ e).0

  moves_so : (x : Trace K) (b : ℕ) → (x (suc b) ≡ x b → ⊥) → moves K x b ≡ true
  moves_so x b h = elim (cases_Bool (moves K x b)) [ inl e ↦ e | inr e ↦ absurd (h (moves_still x b e)) ]

  module _ (n : ℕ) (x : Trace K) (q w : ℕ) (v : Of K) (S : Step K x q w v) (o : (b : ℕ) → n < b → x (suc b) ≡ x b) where
    opened : x (suc q) ≡ x q → ⊥
    opened e = S.opens (follows_still K O x _ S.taken q e)

    closed : x (suc (q + w)) ≡ x (q + w) → ⊥
    closed e = S.closes (follows_still K O x _ S.taken (q + w) e)

    pub inside : q + w ≤ n
    inside = elim (cases_lt n (q + w)) [ inl h ↦ absurd (closed (o (q + w) h)) | inr h ↦ h ]

    two_edges : 2 ≤ tally (moves K x) (suc n)
    two_edges = let h = inside in let k = S.some in tally_two (moves K x) (suc n) q (q + w) (omega arith) (omega arith) (moves_so x q opened) (moves_so x (q + w) closed)

    one_fewer : tally (moves K (cut K.arity x (suc q) w v)) (suc n) < tally (moves K x) (suc n)
    one_fewer = let h = inside in let k = S.some in elim S.still [
      | inl e ↦ lost q (omega arith) (moves_so x q opened) (moves_not _ q e)
      | inr e ↦ lost (q + w) (omega arith) (moves_so x (q + w) closed) (moves_not _ (q + w) e)
    ]
      where
        lost : (b : ℕ) → b < suc n → moves K x b ≡ true → moves K (cut K.arity x (suc q) w v) b ≡ false → tally (moves K (cut K.arity x (suc q) w v)) (suc n) < tally (moves K x) (suc n)
        lost = tally_lost (moves K x) _ (suc n) (λ b e. moves_not _ b (follows_still K O x _ S.left b (moves_still x b e)))

  levels_few : (n : ℕ) (ps : List (Pulse K)) (p : Pulse K) (x z : Trace K) → ((b : ℕ) → n < b → x (suc b) ≡ x b) → Levels K x (p ∷ ps) z → length ps + 2 ≤ tally (moves K x) (suc n)
  levels_few n [] p x z o (q, f, s, k) = two_edges n x q p.width p.amount (either_step K O x q p.width p.amount s) o
  levels_few n (r ∷ ps) p x z o (q, f, s, k) =
      let S = either_step K O x q p.width p.amount s in
      let h = one_fewer n x q p.width p.amount S o in
      let g = levels_few n ps r (cut K.arity x (suc q) p.width p.amount) z (λ b l. follows_still K O x _ S.left b (o b l)) k in
      omega arith

  pub levels_length : (n : ℕ) (ps : List (Pulse K)) (x z : Trace K) → ((b : ℕ) → n < b → x (suc b) ≡ x b) → Levels K x ps z → length ps ≤ n
  levels_length n [] x z o l = omega arith
  levels_length n (p ∷ ps) x z o l = let h = levels_few n ps p x z o l in let k = tally_most (moves K x) (suc n) in omega arith

  -- outside the record nothing moves
  pub still_outside : (xs : Record K) (b : ℕ) → length xs < b → trace K xs (suc b) ≡ trace K xs b
  still_outside xs b h = (trace_outside K xs).1 (suc b) (omega arith) ∙ sym ((trace_outside K xs).1 b h)

  pub pulses_few : (xs : Record K) → length (pulses K xs) ≤ length xs
  pulses_few xs = levels_length (length xs) (pulses K xs) _ _ (still_outside xs) (pulses_level K O xs)
