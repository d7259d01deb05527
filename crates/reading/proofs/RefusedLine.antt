-- The first condition that a line of values meets.
use Rattle.std.proofs.Common.{◌≡◌, ℕ, ◌+◌, ◌<◌, ◌≤◌, Bool, true, false, cond, ◌&&◌, eqb, ltb, List, [], ◌∷◌, length, pos, is_some, Some, None, Ok, Err, Option, sym, refl, ap, ◌∙◌, subst, inl, inr, arith}
use Rattle.std.proofs.lemmas.Bool.{both_ways, and_parts, and_cases, eqb-true, eqb-false, ltb-true, ltb-false, eq-eqb, false≢true}
use Rattle.kinds.specs.Columns.{within}
use Rattle.kinds.specs.Kinds.{Kind, Of}
use Rattle.figures.specs.declared.heading.Heading.TheVariants.{Day}
use Rattle.refusals.specs.Faults.{Finding}
use Rattle.figures.specs.Figures.{figure}
use Rattle.figures.specs.Headings.{letters}
use Rattle.reading.specs.Parts.{start_under}
use Rattle.reading.specs.Refused.{finding, spread, PartOf, LineMeets, miscounted, no_figure, out_of_turn, past_the_last, may_not_enter, stage, turn, Before}
use Rattle.reading.specs.Traces.{all_among, trace_names, malformed, number_under, is_day, columns_under, check_line, read_line}
use Rattle.reading.proofs.AcceptedFacts.{then_ok, cond_ok, cond_not_ok, unless_ok, figures_all, day_is}
use Rattle.reading.proofs.OrderFacts.{in_turn}
use Rattle.reading.proofs.PlaceFacts.{leftmost, leftmost_none, leftmost_some}
use Rattle.reading.proofs.RefusalFacts.{not_refused, then_err, cond_err, cond_not_err, unless_err}
use Rattle.reading.proofs.UnderFacts.{number_is, columns_are, all_stand}

-- the leftmost field that is no figure
abbrev is_figure_at : ℕ → List ℕ → Bool
is_figure_at at v = is_some (figure v)

pub malformed_leftmost : (at : ℕ) (vs : List (List ℕ)) → malformed at vs ≡ leftmost is_figure_at at vs
malformed_leftmost at [] = refl
malformed_leftmost at (v ∷ vs) = ap (λ o. cond (is_some (figure v)) o (Some at)) (malformed_leftmost (at + length v + 1) vs)

pub none_is : {X : Type 0} (o : Option X) → is_some o ≡ false → o ≡ None
none_is None h = refl
none_is (Some x) h = absurd (false≢true (sym h))

module _ (K : Kind) (names values : List (List ℕ)) (day at : ℕ) where
  -- the line passes the tests before this turn
  pub record Passes (turns : ℕ) : Type 0 where
    pub count : 0 < turns → length values ≡ length names
    pub figures : 1 < turns → malformed at values ≡ None
    pub in_order : 2 < turns → is_day day (number_under names values (letters Day)) ≡ true
    pub in_time : 3 < turns → day ≤ 1000
    pub enters : 4 < turns → (K.has (columns_under K.arity K.names names values) && within K.arity K.bound (columns_under K.arity K.names names values)) ≡ true

  -- then it meets no condition before this turn
  pub unmet : (turns : ℕ) → Passes turns → (g : Finding) → LineMeets K names values day at g → turn g.number < turns → ⊥
  unmet turns p g (miscounted c e) l =
      let k : 0 < turns = subst (λ (x : Finding). turn x.number < turns) e l in
      c (p.count k)
  unmet turns p g (no_figure q n e) l =
      let k : 1 < turns = subst (λ (x : Finding). turn x.number < turns) e l in
      let t = leftmost_none is_figure_at at values (sym (malformed_leftmost at values) ∙ p.figures k) q in
      false≢true (sym (ap is_some n) ∙ t)
  unmet turns p g (out_of_turn z n d e) l =
      let k : 2 < turns = subst (λ (x : Finding). turn x.number < turns) e l in
      d (day_is day z (ap (is_day day) (sym (number_is names values (letters Day) z n)) ∙ p.in_order k))
  unmet turns p g (past_the_last m e) l =
      let k : 3 < turns = subst (λ (x : Finding). turn x.number < turns) e l in
      let t = p.in_time k in
      omega arith
  unmet turns p g (may_not_enter x c b e) l =
      let k : 4 < turns = subst (λ (y : Finding). turn y.number < turns) e l in
      let same = columns_are K.arity K.names names values x c in
      let w = and_parts (K.has x) (within K.arity K.bound x) (subst (λ (y : Of K). (K.has y && within K.arity K.bound y) ≡ true) same (p.enters k)) in
      elim b [ inl f ↦ both_ways (K.has x) f w.0 | inr f ↦ both_ways (within K.arity K.bound x) f w.1 ]

  -- where the condition of a turn stands, but for figures
  abbrev pub stands_at : ℕ → ℕ
  stands_at t = cond (eqb t 2) (start_under at names values (letters Day)) at

  -- a finding of this line that is its first: nothing before its turn is met, and nothing in its turn further left
  pub first_in_line : (f : Finding) → stage f ≡ 3 → f.line ≡ day + 1 → Passes (turn f.number) → ((turn f.number ≡ 1 → ⊥) → f.byte ≤ stands_at (turn f.number)) → (turn f.number ≡ 1 → (p : PartOf values) → figure p.part ≡ None → f.byte ≤ at + spread p.before) → (g : Finding) → LineMeets K names values day at g → Before g f → ⊥
  first_in_line f s l p stands least g m h = elim (in_turn g f h (in_stage g m) (on_line g m)) [ inl k ↦ unmet (turn f.number) p g m k | inr k ↦ further g m k.0 k.1 ]
    where
      in_stage : (x : Finding) → LineMeets K names values day at x → stage f ≤ stage x
      in_stage x (miscounted c e) = rw e (omega arith)
      in_stage x (no_figure q n e) = rw e (omega arith)
      in_stage x (out_of_turn z n d e) = rw e (omega arith)
      in_stage x (past_the_last j e) = rw e (omega arith)
      in_stage x (may_not_enter y c b e) = rw e (omega arith)

      on_line : (x : Finding) → LineMeets K names values day at x → f.line ≤ x.line
      on_line x (miscounted c e) = rw e (omega arith)
      on_line x (no_figure q n e) = rw e (omega arith)
      on_line x (out_of_turn z n d e) = rw e (omega arith)
      on_line x (past_the_last j e) = rw e (omega arith)
      on_line x (may_not_enter y c b e) = rw e (omega arith)

      at_turn : (t : ℕ) → t ≡ turn f.number → (t ≡ 1 → ⊥) → f.byte ≤ stands_at t
      at_turn t e n = subst (λ (x : ℕ). f.byte ≤ stands_at x) (sym e) (stands (λ k. n (e ∙ k)))

      further : (x : Finding) → LineMeets K names values day at x → turn x.number ≡ turn f.number → x.byte < f.byte → ⊥
      further x (miscounted c e) t b =
          let u : ◌≡◌ {A = ℕ} 0 (turn f.number) = sym (ap (λ (y : Finding). turn y.number) e) ∙ t in
          let v : f.byte ≤ at = at_turn 0 u (λ k. omega arith) in
          let w : x.byte ≡ at = ap (λ (y : Finding). y.byte) e in
          omega arith
      further x (no_figure q n e) t b =
          let u : ◌≡◌ {A = ℕ} 1 (turn f.number) = sym (ap (λ (y : Finding). turn y.number) e) ∙ t in
          let v : f.byte ≤ at + spread q.before = least (sym u) q n in
          let w : x.byte ≡ at + spread q.before = ap (λ (y : Finding). y.byte) e in
          omega arith
      further x (out_of_turn z n d e) t b =
          let u : ◌≡◌ {A = ℕ} 2 (turn f.number) = sym (ap (λ (y : Finding). turn y.number) e) ∙ t in
          let v : f.byte ≤ start_under at names values (letters Day) = at_turn 2 u (λ k. omega arith) in
          let w : x.byte ≡ start_under at names values (letters Day) = ap (λ (y : Finding). y.byte) e in
          omega arith
      further x (past_the_last j e) t b =
          let u : ◌≡◌ {A = ℕ} 3 (turn f.number) = sym (ap (λ (y : Finding). turn y.number) e) ∙ t in
          let v : f.byte ≤ at = at_turn 3 u (λ k. omega arith) in
          let w : x.byte ≡ at = ap (λ (y : Finding). y.byte) e in
          omega arith
      further x (may_not_enter y c i e) t b =
          let u : ◌≡◌ {A = ℕ} 4 (turn f.number) = sym (ap (λ (z : Finding). turn z.number) e) ∙ t in
          let v : f.byte ≤ at = at_turn 4 u (λ k. omega arith) in
          let w : x.byte ≡ at = ap (λ (z : Finding). z.byte) e in
          omega arith

  -- a line that is accepted meets nothing
  pub turn_small : (g : Finding) → LineMeets K names values day at g → turn g.number < 5
  turn_small g (miscounted c e) = rw e (omega arith)
  turn_small g (no_figure q n e) = rw e (omega arith)
  turn_small g (out_of_turn z n d e) = rw e (omega arith)
  turn_small g (past_the_last j e) = rw e (omega arith)
  turn_small g (may_not_enter y c b e) = rw e (omega arith)

  -- the checks of a line that they let through
  pub checks_passed : (x : Unit {0}) → check_line names day at values ≡ Ok x → (length values ≡ length names) × (malformed at values ≡ None) × (is_day day (number_under names values (letters Day)) ≡ true) × (day ≤ 1000)
  checks_passed x h =
      let c = cond_ok (eqb (length values) (length names)) _ _ x h in
      let f = unless_ok 11 (day + 1) (malformed at values) _ x c.1 in
      let d = cond_ok (is_day day (number_under names values (letters Day))) _ _ x f.1 in
      let l = cond_not_ok (ltb 1000 day) _ _ x d.1 in
      (eqb-true (length values) (length names) c.0, f.0, d.0, ltb-false 1000 day l.0)

  pub line_unmet : (x : Of K) → read_line K names day at values ≡ Ok x → (g : Finding) → LineMeets K names values day at g → ⊥
  line_unmet x h g m =
      let p = then_ok (check_line names day at values) _ x h in
      let q = checks_passed p.0.0 p.0.1 in
      let e = cond_ok (K.has (columns_under K.arity K.names names values) && within K.arity K.bound (columns_under K.arity K.names names values)) _ _ x p.1 in
      unmet 5 (record { count = λ _. q.0; figures = λ _. q.1; in_order = λ _. q.2; in_time = λ _. q.3; enters = λ _. e.0 }) g m (turn_small g m)

  -- a finding of the line that comes first among those of the line
  pub record First-in-line (f : Finding) : Type 0 where
    pub met : LineMeets K names values day at f
    pub in_stage : stage f ≡ 3
    pub on_line : f.line ≡ day + 1
    pub first : (g : Finding) → LineMeets K names values day at g → Before g f → ⊥

  abbrev never : {P : Type 0} (k n : ℕ) → n ≤ k → k < n → P
  never k n l h = absurd (omega arith)

  miscounts : (f : Finding) → eqb (length values) (length names) ≡ false → f ≡ finding 12 (day + 1) at → First-in-line f
  miscounts f c e =
      let m : LineMeets K names values day at f = miscounted (eqb-false (length values) (length names) c) e in
      record {
        met = m;
        in_stage = rw e refl;
        on_line = rw e refl;
        first =
            rw e (first_in_line (finding 12 (day + 1) at) refl refl
            (record { count = never 0 0 (omega arith); figures = never 1 0 (omega arith); in_order = never 2 0 (omega arith); in_time = never 3 0 (omega arith); enters = never 4 0 (omega arith) })
            (λ _. omega arith)
            (λ k. absurd (omega arith)));
      }

  holds_no_figure : (f : Finding) (byte : ℕ) → length values ≡ length names → malformed at values ≡ Some byte → f ≡ finding 11 (day + 1) byte → First-in-line f
  holds_no_figure f byte c b e =
      let m = leftmost_some is_figure_at at values byte (sym (malformed_leftmost at values) ∙ b) in
      record {
        met = no_figure m.place (none_is (figure m.place.part) m.fails) (e ∙ ap (finding 11 (day + 1)) m.byte_is);
        in_stage = rw e refl;
        on_line = rw e refl;
        first =
            rw e (first_in_line (finding 11 (day + 1) byte) refl refl
            (record { count = λ _. c; figures = never 1 1 (omega arith); in_order = never 2 1 (omega arith); in_time = never 3 1 (omega arith); enters = never 4 1 (omega arith) })
            (λ k. absurd (k refl))
            (λ _ p n. m.least p (ap is_some n)));
      }

  turns_wrong : (f : Finding) → all_among (trace_names K) names ≡ true → length values ≡ length names → malformed at values ≡ None → is_day day (number_under names values (letters Day)) ≡ false → f ≡ finding 13 (day + 1) (start_under at names values (letters Day)) → First-in-line f
  turns_wrong f a c n d e =
      let stand = all_stand K names values a c (figures_all at values n) in
      let other : number_under names values (letters Day) ≡ pos day → ⊥ = λ k. both_ways (is_day day (number_under names values (letters Day))) d (ap (is_day day) k ∙ eq-eqb day day refl) in
      record {
        met = out_of_turn (number_under names values (letters Day)) stand.0 other e;
        in_stage = rw e refl;
        on_line = rw e refl;
        first =
            rw e (first_in_line (finding 13 (day + 1) (start_under at names values (letters Day))) refl refl
            (record { count = λ _. c; figures = λ _. n; in_order = never 2 2 (omega arith); in_time = never 3 2 (omega arith); enters = never 4 2 (omega arith) })
            (λ _. omega arith)
            (λ k. absurd (omega arith)));
      }

  comes_late : (f : Finding) → length values ≡ length names → malformed at values ≡ None → is_day day (number_under names values (letters Day)) ≡ true → 1000 < day → f ≡ finding 1 (day + 1) at → First-in-line f
  comes_late f c n d l e =
      record {
        met = past_the_last l e;
        in_stage = rw e refl;
        on_line = rw e refl;
        first =
            rw e (first_in_line (finding 1 (day + 1) at) refl refl
            (record { count = λ _. c; figures = λ _. n; in_order = λ _. d; in_time = never 3 3 (omega arith); enters = never 4 3 (omega arith) })
            (λ _. omega arith)
            (λ k. absurd (omega arith)));
      }

  stays_out : (f : Finding) → all_among (trace_names K) names ≡ true → length values ≡ length names → malformed at values ≡ None → is_day day (number_under names values (letters Day)) ≡ true → day ≤ 1000 → (K.has (columns_under K.arity K.names names values) && within K.arity K.bound (columns_under K.arity K.names names values)) ≡ false → f ≡ finding 2 (day + 1) at → First-in-line f
  stays_out f a c n d l b e =
      let stand = all_stand K names values a c (figures_all at values n) in
      record {
        met = may_not_enter (columns_under K.arity K.names names values) stand.1 (and_cases (K.has (columns_under K.arity K.names names values)) _ b) e;
        in_stage = rw e refl;
        on_line = rw e refl;
        first =
            rw e (first_in_line (finding 2 (day + 1) at) refl refl
            (record { count = λ _. c; figures = λ _. n; in_order = λ _. d; in_time = λ _. l; enters = never 4 4 (omega arith) })
            (λ _. omega arith)
            (λ k. absurd (omega arith)));
      }

  checks_refused : (f : Finding) → all_among (trace_names K) names ≡ true → check_line names day at values ≡ Err f → First-in-line f
  checks_refused f a h =
      elim (cond_err (eqb (length values) (length names)) _ _ f h) [
        | inr c ↦ miscounts f c.0 c.1
        | inl c ↦
            let count = eqb-true (length values) (length names) c.0 in
            elim (unless_err 11 (day + 1) (malformed at values) _ f c.1) [
              | inl b ↦ holds_no_figure f b.0 count b.1 b.2
              | inr n ↦
                  elim (cond_err (is_day day (number_under names values (letters Day))) _ _ f n.1) [
                    | inr d ↦ turns_wrong f a count n.0 d.0 d.1
                    | inl d ↦
                        elim (cond_not_err (ltb 1000 day) _ _ f d.1) [
                          | inl l ↦ comes_late f count n.0 d.0 (ltb-true 1000 day l.0) l.1
                          | inr l ↦ absurd (not_refused tt f l.1)
                        ]
                  ]
            ]
      ]

  pub line_refused : (f : Finding) → all_among (trace_names K) names ≡ true → read_line K names day at values ≡ Err f → First-in-line f
  line_refused f a h =
      elim (then_err (check_line names day at values) _ f h) [
        | inl k ↦ checks_refused f a k
        | inr p ↦
            let q = checks_passed p.0 p.1 in
            elim (cond_err (K.has (columns_under K.arity K.names names values) && within K.arity K.bound (columns_under K.arity K.names names values)) (Ok (columns_under K.arity K.names names values)) _ f p.2) [
              | inl r ↦ absurd (not_refused _ f r.1)
              | inr r ↦ stays_out f a q.0 q.1 q.2 q.3 r.0 r.1
            ]
      ]
