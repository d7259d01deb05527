-- The pulses of a record, width by width.
use Rattle.std.proofs.Common.{◌≡◌, ℕ, zero, suc, ◌+◌, ◌-◌, ◌≤◌, Bool, true, false, ltb, List, [], ◌∷◌, ◌++◌, length, sym, refl, ap, ◌∙◌, subst, inl, inr, arith}
use Rattle.std.specs.List.{AllByRecursion}
use Rattle.std.proofs.ByRecursion.{All-append, All-weaker}
use Rattle.std.proofs.lemmas.Bool.{cases_lt, cases_Bool, cond-true, cond-false, lt-ltb, le-ltb}
use Rattle.kinds.specs.Columns.{nought, plus}
use Rattle.kinds.specs.Kinds.{Kind, Lawful}
use Rattle.transform.specs.Windows.{Record, trace, lowered, smooth}
use Rattle.transform.specs.Pulses.{Pulse, in_turn, upward, downward, pulses, chosen, standing}
use Rattle.transform.specs.Theory.{turned, Regular}
use Rattle.transform.proofs.Order.{Below, turned_lawful}
use Rattle.transform.proofs.Windows.{L_apart_turned}
use Rattle.transform.proofs.Smooths.{trace_lowered, trace_raised, length_smooth, length_lowered, smooth_apart, smooth_flat}
use Rattle.transform.proofs.Group.{plus_assoc, plus_nought, nought_plus}
use Rattle.transform.proofs.Levels.{Levels}
use Rattle.transform.proofs.Listing.{Pass, changes_level, changes_regular}
use Rattle.transform.proofs.Sums.{standing_none, standing_append, levels_append, levels_sum}

-- the pulses of one width
abbrev pub stage : (K : Kind) → Record K → ℕ → List (Pulse K)
stage K xs n = upward K xs n ++ downward K xs n

module _ (K : Kind) (O : Lawful K) (xs : Record K) (n : ℕ) where
  -- the two passes of a width
  pub upward_pass : Pass K K.below (suc n) (smooth K n xs) (lowered K (suc n) (smooth K n xs))
  upward_pass = record { lawful = O; some = omega arith; apart = (smooth_apart K O n xs).0; levels = trace_lowered K O (suc n) _ }

  pub downward_pass : Pass K (turned K).below (suc n) (lowered K (suc n) (smooth K n xs)) (smooth K (suc n) xs)
  unfolding smooth
  downward_pass = record {
    lawful = turned_lawful K O;
    some = omega arith;
    apart = rw (trace_lowered K O (suc n) (smooth K n xs)) (L_apart_turned K O (suc n) _ (smooth_apart K O n xs).0 (suc n) (smooth_apart K O n xs).1);
    levels = trace_raised K O (suc n) _;
  }

  pub upward_level : Levels K (trace K (smooth K n xs)) (upward K xs (suc n)) (trace K (lowered K (suc n) (smooth K n xs)))
  unfolding upward
  upward_level = changes_level K O K.below (suc n) _ _ upward_pass (λ x q w v S. inl S)

  pub downward_level : Levels K (trace K (lowered K (suc n) (smooth K n xs))) (downward K xs (suc n)) (trace K (smooth K (suc n) xs))
  unfolding downward
  downward_level = changes_level K O (turned K).below (suc n) _ _ downward_pass (λ x q w v S. inr S)

  pub stage_level : Levels K (trace K (smooth K n xs)) (stage K xs (suc n)) (trace K (smooth K (suc n) xs))
  stage_level = levels_append K (upward K xs (suc n)) (downward K xs (suc n)) _ _ _ upward_level downward_level

  pub upward_regular : AllByRecursion (λ p. Regular K (length xs) (suc n) (trace K (smooth K n xs)) (trace K (lowered K (suc n) (smooth K n xs))) p × Below K (nought K.arity) p.amount) (upward K xs (suc n))
  unfolding upward
  upward_regular =
      subst (λ m. AllByRecursion (λ p. Regular K m (suc n) (trace K (smooth K n xs)) (trace K (lowered K (suc n) (smooth K n xs))) p × Below K (nought K.arity) p.amount) (upward K xs (suc n)))
      (length_smooth K O n xs)
      (changes_regular K O K.below (suc n) _ _ upward_pass)

  pub downward_regular : AllByRecursion (λ p. Regular K (length xs) (suc n) (trace K (lowered K (suc n) (smooth K n xs))) (trace K (smooth K (suc n) xs)) p × Below K p.amount (nought K.arity)) (downward K xs (suc n))
  unfolding downward
  downward_regular =
      subst (λ m. AllByRecursion (λ p. Regular K m (suc n) (trace K (lowered K (suc n) (smooth K n xs))) (trace K (smooth K (suc n) xs)) p × Below K p.amount (nought K.arity)) (downward K xs (suc n)))
      (length_lowered K O (suc n) (smooth K n xs) ∙ length_smooth K O n xs)
      (changes_regular K O (turned K).below (suc n) _ _ downward_pass)

  pub stage_width : AllByRecursion (λ p. p.width ≡ suc n) (stage K xs (suc n))
  stage_width = All-append _ (upward K xs (suc n)) (downward K xs (suc n)) (All-weaker _ _ (λ p h. h.0.wide) _ upward_regular) (All-weaker _ _ (λ p h. h.0.wide) _ downward_regular)

-- what is chosen of two lists one after the other, of a list all of which is chosen, or none
pub chosen_append : {A : Type 0} (test : A → Bool) (ps qs : List A) → chosen test (ps ++ qs) ≡ chosen test ps ++ chosen test qs
unfolding chosen
chosen_append test [] qs = refl
chosen_append test (p ∷ ps) qs = elim (cases_Bool (test p)) [ inl e ↦ rw (e, chosen_append test ps qs) | inr e ↦ rw (e, chosen_append test ps qs) ]

pub chosen_all : {A : Type 0} (test : A → Bool) (ps : List A) → AllByRecursion (λ p. test p ≡ true) ps → chosen test ps ≡ ps
unfolding chosen
chosen_all test [] h = refl
chosen_all test (p ∷ ps) h = cond-true _ _ _ h.0 ∙ ap (λ l. p ∷ l) (chosen_all test ps h.1)

pub chosen_none : {A : Type 0} (test : A → Bool) (ps : List A) → AllByRecursion (λ p. test p ≡ false) ps → chosen test ps ≡ []
unfolding chosen
chosen_none test [] h = refl
chosen_none test (p ∷ ps) h = cond-false _ _ _ h.0 ∙ chosen_none test ps h.1

module _ (K : Kind) (O : Lawful K) (xs : Record K) where
  pub upto_level : (c : ℕ) → Levels K (trace K xs) (in_turn c (stage K xs)) (trace K (smooth K c xs))
  unfolding in_turn smooth
  upto_level zero = refl
  upto_level (suc c) = levels_append K (in_turn c (stage K xs)) (stage K xs (suc c)) _ _ _ (upto_level c) (stage_level K O xs c)

  pub pulses_level : Levels K (trace K xs) (pulses K xs) (trace K (smooth K (length xs) xs))
  unfolding pulses
  pulses_level = upto_level (length xs)

  pub pulses_sum : (d : ℕ) → standing K (pulses K xs) d ≡ trace K xs d
  pulses_sum d = sym (levels_sum K (pulses K xs) _ _ pulses_level d ∙ rw (smooth_flat K O (length xs) xs (omega arith) d) (plus_nought _ _))

  -- no pulse of a width up to w is wider than w,
  narrow : (w c : ℕ) → c ≤ w → chosen (λ p. ltb w p.width) (in_turn c (stage K xs)) ≡ []
  unfolding in_turn chosen
  narrow w zero h = refl
  narrow w (suc c) h =
      chosen_append (λ p. ltb w p.width) (in_turn c (stage K xs)) (stage K xs (suc c)) ∙
      rw (narrow w c (omega arith)) (chosen_none _ _ (All-weaker _ _ (λ p e. le-ltb w p.width (omega arith)) _ (stage_width K O xs c)))

  -- and those of the next k widths take the smooth of width w to that of width w + k
  wider : (w k d : ℕ) → plus K.arity (standing K (chosen (λ p. ltb w p.width) (in_turn (k + w) (stage K xs))) d) (trace K (smooth K (k + w) xs) d) ≡ trace K (smooth K w xs) d
  unfolding in_turn
  wider w zero d = rw (let z : 0 + w ≡ w = omega arith in z, narrow w w (omega arith), standing_none K d) (nought_plus _ _)
  wider w (suc k) d =
      rw (
        let z : suc k + w ≡ suc (k + w) = omega arith in z,
        chosen_append (λ p. ltb w p.width) (in_turn (k + w) (stage K xs)) (stage K xs (suc (k + w))),
        chosen_all (λ p. ltb w p.width) (stage K xs (suc (k + w))) (All-weaker _ _ (λ p e. lt-ltb w p.width (omega arith)) _ (stage_width K O xs (k + w))),
        standing_append K (chosen (λ p. ltb w p.width) (in_turn (k + w) (stage K xs))) (stage K xs (suc (k + w))) d,
        plus_assoc,
        ← (levels_sum K (stage K xs (suc (k + w))) _ _ (stage_level K O xs (k + w)) d),
      )
      (wider w k d)

  pub wider_sum : (w d : ℕ) → standing K (chosen (λ p. ltb w p.width) (pulses K xs)) d ≡ trace K (smooth K w xs) d
  unfolding pulses
  wider_sum w d = elim (cases_lt w (length xs)) [
    | inl h ↦
        let e : (length xs - w) + w ≡ length xs = omega arith in
        sym (plus_nought _ _) ∙ (rw (e, smooth_flat K O (length xs) xs (omega arith) d) at (wider w (length xs - w) d))
    | inr h ↦ rw (narrow w (length xs) h, standing_none K d) (sym (smooth_flat K O w xs h d))
  ]
