-- What the pulses of a levelling sum to, all of them or some: different choices have different sums.
use Rattle.std.proofs.Common.{◌≡◌, ℕ, zero, suc, ◌+◌, ◌<◌, Bool, true, false, cond, not, List, [], ◌∷◌, ◌++◌, length, sym, refl, ap, ◌∙◌, subst, inl, inr, arith}
use Rattle.std.proofs.lemmas.Bool.{cases_Bool, cond-true, cond-false}
use Rattle.kinds.specs.Columns.{nought, plus}
use Rattle.kinds.specs.Kinds.{Kind, Lawful}
use Rattle.transform.specs.Windows.{Trace}
use Rattle.transform.specs.Pulses.{Pulse, covers, chosen, standing}
use Rattle.transform.proofs.Order.{at_most_same}
use Rattle.transform.proofs.Group.{plus_assoc, plus_comm, plus_minus, plus_cancel, nought_plus, plus_at_most}
use Rattle.transform.proofs.Levels.{block, cut, Levels, Follows, Step, either_step}

-- what a pulse holds on each day
abbrev pub shape : (K : Kind) → Pulse K → Trace K
shape K p = block K.arity p.first p.width p.amount

pub standing_none : (K : Kind) (d : ℕ) → standing K [] d ≡ nought K.arity
unfolding standing
standing_none K d = refl

pub standing_more : (K : Kind) (p : Pulse K) (ps : List (Pulse K)) (d : ℕ) → standing K (p ∷ ps) d ≡ plus K.arity (shape K p d) (standing K ps d)
unfolding standing covers block
standing_more K p ps d = refl

pub standing_append : (K : Kind) (ps qs : List (Pulse K)) (d : ℕ) → standing K (ps ++ qs) d ≡ plus K.arity (standing K ps d) (standing K qs d)
standing_append K [] qs d = rw standing_none (sym (nought_plus _ _))
standing_append K (p ∷ ps) qs d = rw (standing_more K p (ps ++ qs) d, standing_more K p ps d, standing_append K ps qs d) (sym (plus_assoc _ _ _ _))

pub levels_append : (K : Kind) (ps qs : List (Pulse K)) (x y z : Trace K) → Levels K x ps y → Levels K y qs z → Levels K x (ps ++ qs) z
levels_append K [] qs x y z e l = subst (λ t. Levels K t qs z) (sym e) l
levels_append K (p ∷ ps) qs x y z (q, f, s, k) l = (q, f, s, levels_append K ps qs _ y z k l)

-- the pulses sum to what they take away
pub levels_sum : (K : Kind) (ps : List (Pulse K)) (x z : Trace K) → Levels K x ps z → (d : ℕ) → x d ≡ plus K.arity (standing K ps d) (z d)
levels_sum K [] x z e d = rw standing_none (ap (λ t. t d) e ∙ sym (nought_plus _ _))
levels_sum K (p ∷ ps) x z (q, f, s, k) d =
    rw (standing_more K p ps d, f, plus_assoc, ← (levels_sum K ps _ z k d)) (sym (plus_minus _ _ _))

-- those of a list whose numbers meet the test; numbers count from 0
unfoldable pub numbered : {A : Type 0} → (ℕ → Bool) → List A → List A
numbered m [] = []
numbered m (a ∷ rest) = cond (m 0) (a ∷ numbered (λ k. m (suc k)) rest) (numbered (λ k. m (suc k)) rest)

-- whether each number of a list has an element that meets the test
unfoldable pub flags : {A : Type 0} → (A → Bool) → List A → ℕ → Bool
flags test [] k = false
flags test (a ∷ rest) zero = test a
flags test (a ∷ rest) (suc k) = flags test rest k

pub chosen_numbered : {A : Type 0} (test : A → Bool) (xs : List A) → chosen test xs ≡ numbered (flags test xs) xs
unfolding chosen numbered flags
chosen_numbered test [] = refl
chosen_numbered test (a ∷ rest) = ap (λ l. cond (test a) (a ∷ l) l) (chosen_numbered test rest)

pub chosen_not_numbered : {A : Type 0} (test : A → Bool) (xs : List A) → chosen (λ a. not (test a)) xs ≡ numbered (λ k. not (flags test xs k)) xs
unfolding chosen numbered flags
chosen_not_numbered test [] = refl
chosen_not_numbered test (a ∷ rest) = ap (λ l. cond (not (test a)) (a ∷ l) l) (chosen_not_numbered test rest)

module _ (K : Kind) (m : ℕ → Bool) (p : Pulse K) (ps : List (Pulse K)) (d : ℕ) where
  pub standing_with : m 0 ≡ true → standing K (numbered m (p ∷ ps)) d ≡ plus K.arity (shape K p d) (standing K (numbered (λ k. m (suc k)) ps) d)
  unfolding numbered
  standing_with e = ap (λ l. standing K l d) (cond-true _ _ _ e) ∙ standing_more K p _ d

  pub standing_without : m 0 ≡ false → standing K (numbered m (p ∷ ps)) d ≡ standing K (numbered (λ k. m (suc k)) ps) d
  unfolding numbered
  standing_without e = ap (λ l. standing K l d) (cond-false _ _ _ e)

module _ (K : Kind) (O : Lawful K) where
  -- whatever pulses are chosen, their sum rises and falls only where the trace does
  pub levels_follows : (m : ℕ → Bool) (ps : List (Pulse K)) (x z : Trace K) → Levels K x ps z → Follows K x (standing K (numbered m ps))
  unfolding numbered standing
  levels_follows m [] x z e b = (λ _. O.irreflexive _, λ _. O.irreflexive _)
  levels_follows m (p ∷ ps) x z (q, f, s, k) b =
      let S = either_step K O x q p.width p.amount s in
      let F = levels_follows (λ k. m (suc k)) ps _ z k b in
      elim (cases_Bool (m 0)) [
        | inl e ↦ rw (standing_with K m p ps b e, standing_with K m p ps (suc b) e, f)
            (λ n. plus_at_most K O _ _ _ _ ((S.taken b).0 n) (F.0 ((S.left b).0 n)), λ n. plus_at_most K O _ _ _ _ ((S.taken b).1 n) (F.1 ((S.left b).1 n)))
        | inr e ↦ rw (standing_without K m p ps b e, standing_without K m p ps (suc b) e)
            (λ n. F.0 ((S.left b).0 n), λ n. F.1 ((S.left b).1 n))
      ]

  -- what follows a trace does not move where that does not
  pub follows_still : (x s : Trace K) → Follows K x s → (b : ℕ) → x (suc b) ≡ x b → s (suc b) ≡ s b
  follows_still x s F b e = O.tight _ _ ((F b).1 (at_most_same K O _ _ (sym e))) ((F b).0 (at_most_same K O _ _ e))

  -- the first pulse has an edge at which no later one has an edge, so no choice makes up for it
  missed : (m m' : ℕ → Bool) (p : Pulse K) (ps : List (Pulse K)) (x z : Trace K) → Levels K x (p ∷ ps) z → m 0 ≡ true → m' 0 ≡ false →
      ((d : ℕ) → standing K (numbered m (p ∷ ps)) d ≡ standing K (numbered m' (p ∷ ps)) d) → ⊥
  missed m m' p ps x z (q, f, s, k) e e' E =
      elim S.still [ inl h ↦ S.opens (moved q h) | inr h ↦ S.closes (moved (q + p.width) h) ]
    where
      S : Step K x q p.width p.amount
      S = either_step K O x q p.width p.amount s

      t : Trace K
      t = standing K (numbered (λ k. m (suc k)) ps)

      t' : Trace K
      t' = standing K (numbered (λ k. m' (suc k)) ps)

      day : (d : ℕ) → plus K.arity (t d) (block K.arity (suc q) p.width p.amount d) ≡ t' d
      day d = plus_comm _ _ _ ∙ rw (← f) (sym (standing_with K m p ps d e) ∙ E d ∙ standing_without K m' p ps d e')

      moved : (b : ℕ) → cut K.arity x (suc q) p.width p.amount (suc b) ≡ cut K.arity x (suc q) p.width p.amount b →
          block K.arity (suc q) p.width p.amount (suc b) ≡ block K.arity (suc q) p.width p.amount b
      moved b h =
          plus_cancel K.arity (t b) _ _
          (ap (λ a. plus K.arity a (block K.arity (suc q) p.width p.amount (suc b))) (sym (follows_still _ t (levels_follows (λ k. m (suc k)) ps _ z k) b h)) ∙
          day (suc b) ∙ follows_still _ t' (levels_follows (λ k. m' (suc k)) ps _ z k) b h ∙ sym (day b))

  -- so choices with equal sums are the same choice
  pub levels_differ : (ps : List (Pulse K)) (m m' : ℕ → Bool) (x z : Trace K) → Levels K x ps z →
      ((d : ℕ) → standing K (numbered m ps) d ≡ standing K (numbered m' ps) d) → (k : ℕ) → k < length ps → m k ≡ m' k
  levels_differ [] m m' x z l E k h = absurd (let z : k < 0 = h in omega arith)
  levels_differ (p ∷ ps) m m' x z l E k h = at (levels_differ ps (λ k. m (suc k)) (λ k. m' (suc k)) _ z l.3 rest) k h
    where
      first : m 0 ≡ m' 0
      first = elim (cases_Bool (m 0)) [
        | inl e ↦ elim (cases_Bool (m' 0)) [ inl e' ↦ e ∙ sym e' | inr e' ↦ absurd (missed m m' p ps x z l e e' E) ]
        | inr e ↦ elim (cases_Bool (m' 0)) [ inl e' ↦ absurd (missed m' m p ps x z l e' e (λ d. sym (E d))) | inr e' ↦ e ∙ sym e' ]
      ]

      rest : (d : ℕ) → standing K (numbered (λ k. m (suc k)) ps) d ≡ standing K (numbered (λ k. m' (suc k)) ps) d
      rest d = elim (cases_Bool (m 0)) [
        | inl e ↦ plus_cancel K.arity (shape K p d) _ _ (sym (standing_with K m p ps d e) ∙ E d ∙ standing_with K m' p ps d (sym first ∙ e))
        | inr e ↦ sym (standing_without K m p ps d e) ∙ E d ∙ standing_without K m' p ps d (sym first ∙ e)
      ]

      at : ((k : ℕ) → k < length ps → m (suc k) ≡ m' (suc k)) → (k : ℕ) → k < suc (length ps) → m k ≡ m' k
      at later zero h = first
      at later (suc k) h = later k (omega arith)
