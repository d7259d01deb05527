-- Choices among the pulses of a record: different ones have different sums, and no two pulses
-- cover the same days.
use Rattle.std.proofs.Common.{◌≡◌, ℕ, zero, suc, ◌+◌, ◌<◌, Bool, List, [], ◌∷◌, length, get_or, sym, refl, ap, ◌∙◌, subst, inl, inr, arith}
use Rattle.std.specs.List.{ContainsAt as Has, AllByRecursion}
use Rattle.kinds.specs.Kinds.{Kind, Lawful}
use Rattle.transform.specs.Windows.{Record, Trace}
use Rattle.transform.specs.Pulses.{Pulse, pulses, chosen, standing}
use Rattle.transform.specs.Theory.{EachLater}
use Rattle.transform.proofs.Levels.{Levels, either_step}
use Rattle.transform.proofs.Sums.{shape, numbered, flags, chosen_numbered, follows_still, levels_differ}
use Rattle.transform.proofs.Stages.{pulses_level}

pub flags_at : {A : Type 0} (test : A → Bool) (xs : List A) (k : ℕ) (a : A) → k < length xs → flags test xs k ≡ test (get_or xs k a)
unfolding flags
flags_at test [] k a h = absurd (let z : k < 0 = h in omega arith)
flags_at test (x ∷ xs) zero a h = refl
flags_at test (x ∷ xs) (suc k) a h = flags_at test xs k a (let z : suc k < suc (length xs) = h in omega arith)

all_both : {X : Type 0} (P Q R : X → Type 0) → ((x : X) → P x → Q x → R x) → (xs : List X) → AllByRecursion P xs → AllByRecursion Q xs → AllByRecursion R xs
all_both P Q R f [] h k = tt
all_both P Q R f (x ∷ xs) h k = (f x h.0 k.0, all_both P Q R f xs h.1 k.1)

module _ (K : Kind) (O : Lawful K) where
  -- by number: numbers count from 0
  pub pulses_differ_numbered : (xs : Record K) (m m' : ℕ → Bool) → ((d : ℕ) → standing K (numbered m (pulses K xs)) d ≡ standing K (numbered m' (pulses K xs)) d) →
      (k : ℕ) → k < length (pulses K xs) → m k ≡ m' k
  pulses_differ_numbered xs m m' E = levels_differ K O (pulses K xs) m m' _ _ (pulses_level K O xs) E

  pub pulses_differ : (xs : Record K) (keep keep' : Pulse K → Bool) → ((d : ℕ) → standing K (chosen keep (pulses K xs)) d ≡ standing K (chosen keep' (pulses K xs)) d) →
      (p : Pulse K) → Has (pulses K xs) p → keep p ≡ keep' p
  pulses_differ xs keep keep' E p (k, h, e) =
      ap keep (sym (e p)) ∙ sym (flags_at keep (pulses K xs) k p h) ∙
      pulses_differ_numbered xs (flags keep (pulses K xs)) (flags keep' (pulses K xs)) (λ d. rw (← (chosen_numbered keep (pulses K xs)), ← (chosen_numbered keep' (pulses K xs))) (E d)) k h ∙
      flags_at keep' (pulses K xs) k p h ∙ ap keep' (e p)

  -- no pulse has an edge where the trace does not move
  still_for_all : (b : ℕ) (ps : List (Pulse K)) (x z : Trace K) → Levels K x ps z → x (suc b) ≡ x b → AllByRecursion (λ p. shape K p (suc b) ≡ shape K p b) ps
  still_for_all b [] x z l e = tt
  still_for_all b (p ∷ ps) x z (q, f, s, k) e =
      let S = either_step K O x q p.width p.amount s in
      (rw f (follows_still K O x _ S.taken b e), still_for_all b ps _ z k (follows_still K O x _ S.left b e))

  -- and each has one at its first day and one at its last
  edges_of_all : (ps : List (Pulse K)) (x z : Trace K) → Levels K x ps z → AllByRecursion (λ p. (q : ℕ) × (p.first ≡ suc q) × (shape K p (suc q) ≡ shape K p q → ⊥) × (shape K p (suc (q + p.width)) ≡ shape K p (q + p.width) → ⊥)) ps
  edges_of_all [] x z l = tt
  edges_of_all (p ∷ ps) x z (q, f, s, k) =
      let S = either_step K O x q p.width p.amount s in
      ((q, f, rw f S.opens, rw f S.closes), edges_of_all ps _ z k)

  levels_apart : (ps : List (Pulse K)) (x z : Trace K) → Levels K x ps z → EachLater (λ p r. p.first ≡ r.first → p.width ≡ r.width → ⊥) ps
  levels_apart [] x z l = tt
  levels_apart (p ∷ ps) x z (q, f, s, k) = (
    elim (either_step K O x q p.width p.amount s).still [
      | inl e ↦ all_both _ _ _ (λ r t (u, g, o, c) a b. o (subst (λ i. shape K r (suc i) ≡ shape K r i) (omega arith) t)) ps (still_for_all q ps _ z k e) (edges_of_all ps _ z k)
      | inr e ↦ all_both _ _ _ (λ r t (u, g, o, c) a b. c (subst (λ i. shape K r (suc i) ≡ shape K r i) (omega arith) t)) ps (still_for_all (q + p.width) ps _ z k e) (edges_of_all ps _ z k)
    ],
    levels_apart ps _ z k,
  )

  pub pulses_apart : (xs : Record K) → EachLater (λ p r. p.first ≡ r.first → p.width ≡ r.width → ⊥) (pulses K xs)
  pulses_apart xs = levels_apart (pulses K xs) _ _ (pulses_level K O xs)
