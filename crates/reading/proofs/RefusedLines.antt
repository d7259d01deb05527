-- The first condition that the lines of values meet.
use Rattle.std.proofs.Common.{◌≡◌, ℕ, ◌+◌, ◌≤◌, true, false, ◌⊎◌, List, [], ◌∷◌, length, Ok, Err, sym, refl, ap, ◌∙◌, subst, inl, inr, arith}
use Rattle.std.proofs.lemmas.Bool.{both_ways}
use Rattle.kinds.specs.Kinds.{Kind, Of}
use Rattle.refusals.specs.Faults.{Finding}
use Rattle.reading.specs.Parts.{fields}
use Rattle.reading.specs.Refused.{finding, spread, LineMeets, miscounted, no_figure, out_of_turn, past_the_last, may_not_enter, LinesMeet, ended, unended, stage, Before}
use Rattle.reading.specs.Traces.{all_among, trace_names, read_line, none, read_lines}
use Rattle.reading.proofs.AcceptedFacts.{cond_ok, push_ok, none_empty}
use Rattle.reading.proofs.PlaceFacts.{front, behind, no_part, each_part}
use Rattle.reading.proofs.OrderFacts.{later_line, not_itself}
use Rattle.reading.proofs.RefusalFacts.{not_refused, cond_err, push_err}
use Rattle.reading.proofs.RefusedLine.{line_unmet, line_refused}

module _ (K : Kind) (names : List (List ℕ)) where
  moved : (values : List (List ℕ)) (g : Finding) (day day' at at' : ℕ) → day ≡ day' → at ≡ at' → LineMeets K names values day at g → LineMeets K names values day' at' g
  moved values g day day' at at' d a m =
      subst (λ (x : ℕ). LineMeets K names values day' x g) a (subst (λ (x : ℕ). LineMeets K names values x at g) d m)

  -- a line's finding is of the stage of values and on that line
  pub in_line : (values : List (List ℕ)) (day at : ℕ) (g : Finding) → LineMeets K names values day at g → (stage g ≡ 3) × (g.line ≡ day + 1)
  in_line values day at g (miscounted c e) = (rw e refl, rw e refl)
  in_line values day at g (no_figure q n e) = (rw e refl, rw e refl)
  in_line values day at g (out_of_turn z n d e) = (rw e refl, rw e refl)
  in_line values day at g (past_the_last l e) = (rw e refl, rw e refl)
  in_line values day at g (may_not_enter x c b e) = (rw e refl, rw e refl)

  pub in_lines : (day at : ℕ) (ps : List (List ℕ)) (g : Finding) → LinesMeet K names day at ps g → (stage g ≡ 3) × (day + 1 ≤ g.line)
  in_lines day at ps g (ended p n m) =
      let k = in_line (fields p.part) (day + length p.before) (at + spread p.before) g m in
      (k.0, omega (arith, k.1))
  in_lines day at ps g (unended p z n e) = (rw e refl, rw e (omega arith))

  -- what the first of the lines meets: ended, or the last and unended
  abbrev pub First-meets : ℕ → ℕ → List ℕ → List (List ℕ) → Finding → Type 0
  First-meets day at line rest g =
      ((rest ≡ [] → ⊥) × LineMeets K names (fields line) day at g) ⊎ ((rest ≡ []) × (line ≡ [] → ⊥) × (g ≡ finding 12 (day + 1) at))

  pub first_or_behind : (day at : ℕ) (line : List ℕ) (rest : List (List ℕ)) (g : Finding) → LinesMeet K names day at (line ∷ rest) g → First-meets day at line rest g ⊎ LinesMeet K names (day + 1) (at + (length line + 1)) rest g
  first_or_behind day at line rest g (ended p n m) =
      each_part line rest
      (λ b x a. (a ≡ [] → ⊥) → LineMeets K names (fields x) (day + length b) (at + spread b) g → First-meets day at line rest g ⊎ LinesMeet K names (day + 1) (at + (length line + 1)) rest g)
      (λ k l. inl (inl (k, moved (fields line) g (day + 0) day (at + 0) at (omega arith) (omega arith) l)))
      (λ q k l. inr (ended q k (moved (fields q.part) g _ (day + 1 + length q.before) _ (at + (length line + 1) + spread q.before) (omega arith) (omega arith) l)))
      p n m
  first_or_behind day at line rest g (unended p z n e) =
      each_part line rest
      (λ b x a. a ≡ [] → (x ≡ [] → ⊥) → g ≡ finding 12 (day + length b + 1) (at + spread b) → First-meets day at line rest g ⊎ LinesMeet K names (day + 1) (at + (length line + 1)) rest g)
      (λ k l j.
      let d : day + 0 + 1 ≡ day + 1 = omega arith in
      let a : at + 0 ≡ at = omega arith in
      inl (inr (k, l, j ∙ (ap (λ x. finding 12 x (at + 0)) d ∙ ap (finding 12 (day + 1)) a))))
      (λ q k l j.
      let d : day + length (line ∷ q.before) + 1 ≡ day + 1 + length q.before + 1 = omega arith in
      let a : at + spread (line ∷ q.before) ≡ at + (length line + 1) + spread q.before = omega arith in
      inr (unended q k l (j ∙ (ap (λ x. finding 12 x (at + spread (line ∷ q.before))) d ∙ ap (finding 12 (day + 1 + length q.before + 1)) a))))
      p z n e

  pub first_meets : (day at : ℕ) (line : List ℕ) (rest : List (List ℕ)) (g : Finding) → First-meets day at line rest g → LinesMeet K names day at (line ∷ rest) g
  first_meets day at line rest g =
      elim [
        | inl p ↦ ended (front line rest) p.0 (moved (fields line) g day (day + 0) at (at + 0) (omega arith) (omega arith) p.1)
        | inr p ↦
            let d : day + 1 ≡ day + 0 + 1 = omega arith in
            let a : at ≡ at + 0 = omega arith in
            unended (front line rest) p.0 p.1 (p.2 ∙ (ap (λ x. finding 12 x at) d ∙ ap (finding 12 (day + 0 + 1)) a))
      ]

  pub behind_meets : (day at : ℕ) (line : List ℕ) (rest : List (List ℕ)) (g : Finding) → LinesMeet K names (day + 1) (at + (length line + 1)) rest g → LinesMeet K names day at (line ∷ rest) g
  behind_meets day at line rest g (ended p n m) =
      ended (behind line rest p) n (moved (fields p.part) g _ (day + length (line ∷ p.before)) _ (at + spread (line ∷ p.before)) (omega arith) (omega arith) m)
  behind_meets day at line rest g (unended p z n e) =
      let d : day + 1 + length p.before + 1 ≡ day + length (line ∷ p.before) + 1 = omega arith in
      let a : at + (length line + 1) + spread p.before ≡ at + spread (line ∷ p.before) = omega arith in
      unended (behind line rest p) z n (e ∙ (ap (λ x. finding 12 x (at + (length line + 1) + spread p.before)) d ∙ ap (finding 12 (day + length (line ∷ p.before) + 1)) a))

  pub no_lines : (day at : ℕ) (g : Finding) → LinesMeet K names day at [] g → ⊥
  no_lines day at g (ended p n m) = no_part p
  no_lines day at g (unended p z n e) = no_part p

  some_behind : (q : List ℕ) (qs : List (List ℕ)) → q ∷ qs ≡ [] → ⊥
  some_behind q qs e = let z : ◌≡◌ {A = ℕ} 0 1 = cc in omega arith

  -- lines that are accepted meet nothing
  pub lines_unmet : (day at : ℕ) (ps : List (List ℕ)) (xs : List (Of K)) → read_lines K names day at ps ≡ Ok xs → (g : Finding) → LinesMeet K names day at ps g → ⊥
  lines_unmet day at [] xs h g m = no_lines day at g m
  lines_unmet day at (p ∷ []) xs h g m =
      let c = cond_ok (none p) (Ok []) _ xs h in
      elim (first_or_behind day at p [] g m) [
        | inl k ↦ elim k [ inl j ↦ j.0 refl | inr j ↦ j.1 (none_empty p c.0) ]
        | inr k ↦ no_lines _ _ g k
      ]
  lines_unmet day at (p ∷ q ∷ qs) xs h g m =
      let u = push_ok (read_line K names day at (fields p)) (read_lines K names (day + 1) (at + (length p + 1)) (q ∷ qs)) xs h in
      let more = lines_unmet (day + 1) (at + (length p + 1)) (q ∷ qs) u.1 u.3 g in
      elim (first_or_behind day at p (q ∷ qs) g m) [
        | inl k ↦ elim k [ inl j ↦ line_unmet K names (fields p) day at u.0 u.2 g j.1 | inr j ↦ some_behind q qs j.0 ]
        | inr k ↦ more k
      ]

  -- the lines meet this condition, and none before it
  pub record First-in-lines (day at : ℕ) (ps : List (List ℕ)) (f : Finding) : Type 0 where
    pub met : LinesMeet K names day at ps f
    pub first : (g : Finding) → LinesMeet K names day at ps g → Before g f → ⊥

  last_refused : (day at : ℕ) (p : List ℕ) (f : Finding) → none p ≡ false → f ≡ finding 12 (day + 1) at → First-in-lines day at (p ∷ []) f
  last_refused day at p f n e =
      record {
        met = first_meets day at p [] f (inr (refl, λ k. both_ways (none p) n (ap none k), e));
        first =
            λ g m h. elim (first_or_behind day at p [] g m) [
              | inl k ↦ elim k [ inl j ↦ j.0 refl | inr j ↦ not_itself g f (j.2 ∙ sym e) h ]
              | inr k ↦ no_lines _ _ g k
            ];
      }

  first_refused : (day at : ℕ) (p q : List ℕ) (qs : List (List ℕ)) (f : Finding) → all_among (trace_names K) names ≡ true → read_line K names day at (fields p) ≡ Err f → First-in-lines day at (p ∷ q ∷ qs) f
  first_refused day at p q qs f a h =
      let r = line_refused K names (fields p) day at f a h in
      record {
        met = first_meets day at p (q ∷ qs) f (inl (some_behind q qs, r.met));
        first =
            λ g m b. elim (first_or_behind day at p (q ∷ qs) g m) [
              | inl k ↦ elim k [ inl j ↦ r.first g j.1 b | inr j ↦ some_behind q qs j.0 ]
              | inr k ↦ let i = in_lines (day + 1) (at + (length p + 1)) (q ∷ qs) g k in later_line g f (omega (arith, i.0, r.in_stage)) (omega (arith, i.1, r.on_line)) b
            ];
      }

  behind_refused : (day at : ℕ) (p q : List ℕ) (qs : List (List ℕ)) (f : Finding) (x : Of K) → read_line K names day at (fields p) ≡ Ok x → First-in-lines (day + 1) (at + (length p + 1)) (q ∷ qs) f → First-in-lines day at (p ∷ q ∷ qs) f
  behind_refused day at p q qs f x h r =
      record {
        met = behind_meets day at p (q ∷ qs) f r.met;
        first =
            λ g m b. elim (first_or_behind day at p (q ∷ qs) g m) [
              | inl k ↦ elim k [ inl j ↦ line_unmet K names (fields p) day at x h g j.1 | inr j ↦ some_behind q qs j.0 ]
              | inr k ↦ r.first g k b
            ];
      }

  pub lines_refused : (day at : ℕ) (ps : List (List ℕ)) (f : Finding) → all_among (trace_names K) names ≡ true → read_lines K names day at ps ≡ Err f → First-in-lines day at ps f
  lines_refused day at [] f a h = absurd (not_refused [] f h)
  lines_refused day at (p ∷ []) f a h =
      elim (cond_err (none p) (Ok []) _ f h) [ inl k ↦ absurd (not_refused [] f k.1) | inr k ↦ last_refused day at p f k.0 k.1 ]
  lines_refused day at (p ∷ q ∷ qs) f a h =
      let more = lines_refused (day + 1) (at + (length p + 1)) (q ∷ qs) f a in
      elim (push_err (read_line K names day at (fields p)) (read_lines K names (day + 1) (at + (length p + 1)) (q ∷ qs)) f h) [
        | inl k ↦ first_refused day at p q qs f a k
        | inr k ↦ behind_refused day at p q qs f k.0 k.1 (more k.2)
      ]
