-- The first condition that the names line meets.
use Rattle.std.proofs.Common.{◌≡◌, ℕ, ◌+◌, ◌<◌, ◌≤◌, Bool, true, false, cond, not, ◌&&◌, eqb, ◌⊎◌, List, [], ◌∷◌, length, Some, None, Ok, Err, sym, refl, ap, ◌∙◌, subst, inl, inr, arith}
use Rattle.std.proofs.lemmas.Slice.Eq.{bytes_eq-Decides}
use Rattle.std.proofs.lemmas.Bool.{cases_Bool, both_ways, and_parts, and_cases, and_left, and_right, or_cases, or_left, or_right, eqb-false, ne_eqb, false≢true, true≢false}
use Rattle.std.specs.List.{ContainsAt as Has}
use Rattle.std.specs.Str.{bytes_eq}
use Rattle.kinds.specs.Kinds.{Kind}
use Rattle.refusals.specs.Faults.{Finding}
use Rattle.reading.specs.Parts.{fields, start_under}
use Rattle.reading.specs.Refused.{finding, spread, PartOf, NamesMeet, unknown, repeated, missing, unended_names, stage, Before}
use Rattle.reading.specs.Traces.{among, all_among, trace_names, bad_name, none, check_names}
use Rattle.reading.proofs.AcceptedFacts.{cond_ok, unless_ok}
use Rattle.reading.proofs.PlaceFacts.{part_within, leftmost, leftmost_none, leftmost_some, among_has, has_among, not_among, has_not, starts_here, starts_earlier}
use Rattle.reading.proofs.OrderFacts.{in_turn, not_itself}
use Rattle.reading.proofs.RefusalFacts.{not_refused, cond_err, unless_err}

-- a name is known and the first of its name
abbrev right_name : List (List ℕ) → List (List ℕ) → ℕ → List ℕ → Bool
right_name known line at n = among n known && eqb (start_under 0 line line n) at

pub bad_leftmost : (known line : List (List ℕ)) (at : ℕ) (ns : List (List ℕ)) → bad_name known line at ns ≡ leftmost (right_name known line) at ns
bad_leftmost known line at [] = refl
bad_leftmost known line at (n ∷ ns) = ap (λ o. cond (right_name known line at n) o (Some at)) (bad_leftmost known line (at + length n + 1) ns)

module _ (known line : List (List ℕ)) (p : PartOf line) where
  unknown_fails : (Has known p.part → ⊥) → right_name known line (0 + spread p.before) p.part ≡ false
  unknown_fails h = and_left (among p.part known) _ (has_not p.part known h)

  repeated_fails : Has p.before p.part → right_name known line (0 + spread p.before) p.part ≡ false
  repeated_fails h =
      let s : start_under 0 line line p.part < 0 + spread p.before = subst (λ (l : List (List ℕ)). start_under 0 l l p.part < 0 + spread p.before) (sym p.are) (starts_earlier 0 p.part p.before p.after (has_among p.part p.before h)) in
      and_right (among p.part known) _ (ne_eqb (start_under 0 line line p.part) (0 + spread p.before) (λ e. omega arith))

  fails_by : right_name known line (0 + spread p.before) p.part ≡ false → (Has known p.part → ⊥) ⊎ Has p.before p.part
  fails_by h =
      elim (and_cases (among p.part known) _ h) [
        | inl k ↦ inl (not_among p.part known k)
        | inr k ↦
            elim (cases_Bool (among p.part p.before)) [
              | inl j ↦ inr (among_has p.part p.before j)
              | inr j ↦ absurd (eqb-false (start_under 0 line line p.part) (0 + spread p.before) k (subst (λ (l : List (List ℕ)). start_under 0 l l p.part ≡ 0 + spread p.before) (sym p.are) (starts_here 0 p.part p.before p.after j)))
            ]
      ]

-- names that are all there, and one that is not
pub all_there : (ns ms : List (List ℕ)) → all_among ns ms ≡ true → (n : List ℕ) → among n ns ≡ true → among n ms ≡ true
all_there [] ms h n k = absurd (false≢true k)
all_there (m ∷ ns) ms h n k =
    let p = and_parts (among m ms) (all_among ns ms) h in
    let more = all_there ns ms p.1 n in
    elim (or_cases (bytes_eq n m) (among n ns) k) [
      | inl e ↦ subst (λ (x : List ℕ). among x ms ≡ true) (sym ((bytes_eq-Decides n m).0 e)) p.0
      | inr e ↦ more e
    ]

pub one_missing : (ns ms : List (List ℕ)) → all_among ns ms ≡ false → (n : List ℕ) × (among n ns ≡ true) × (among n ms ≡ false)
one_missing [] ms h = absurd (true≢false h)
one_missing (m ∷ ns) ms h =
    let more = one_missing ns ms in
    elim (and_cases (among m ms) (all_among ns ms) h) [
      | inl e ↦ (m, or_left (bytes_eq m m) (among m ns) ((bytes_eq-Decides m m).1 refl), e)
      | inr e ↦ let k = more e in (k.0, or_right (bytes_eq k.0 m) (among k.0 ns) k.1, k.2)
    ]

pub by_byte : (g f : Finding) (a b : ℕ) → g ≡ finding 10 1 a → f ≡ finding 10 1 b → Before g f → a < b
by_byte g f a b p q h =
    let k : Before (finding 10 1 a) (finding 10 1 b) = subst (λ (x : Finding). Before (finding 10 1 a) x) q (subst (λ (x : Finding). Before x f) p h) in
    elim (in_turn (finding 10 1 a) (finding 10 1 b) k (omega arith) (omega arith)) [ inl j ↦ absurd (omega arith) | inr j ↦ j.1 ]

module _ (K : Kind) (names : List ℕ) (rest : List (List ℕ)) where
  pub in_names_line : (g : Finding) → NamesMeet K names rest g → stage g ≡ 2
  in_names_line g (unknown p k e) = rw e refl
  in_names_line g (repeated p k e) = rw e refl
  in_names_line g (missing n k m e) = rw e refl
  in_names_line g (unended_names k e) = rw e refl

  -- the line that is accepted
  pub names_pass : (x : Unit {0}) → check_names K names (not (none rest)) ≡ Ok x → (bad_name (trace_names K) (fields names) 0 (fields names) ≡ None) × (not (none rest) ≡ true) × (all_among (trace_names K) (fields names) ≡ true)
  names_pass x h =
      let u = unless_ok 10 1 (bad_name (trace_names K) (fields names) 0 (fields names)) _ x h in
      let c = cond_ok (not (none rest) && all_among (trace_names K) (fields names)) _ _ x u.1 in
      let p = and_parts (not (none rest)) _ c.0 in
      (u.0, p.0, p.1)

  all_right : bad_name (trace_names K) (fields names) 0 (fields names) ≡ None → (p : PartOf (fields names)) → right_name (trace_names K) (fields names) (0 + spread p.before) p.part ≡ true
  all_right h = leftmost_none (right_name (trace_names K) (fields names)) 0 (fields names) (sym (bad_leftmost (trace_names K) (fields names) 0 (fields names)) ∙ h)

  pub names_unmet : (x : Unit {0}) → check_names K names (not (none rest)) ≡ Ok x → (g : Finding) → NamesMeet K names rest g → ⊥
  names_unmet x h g (unknown p k e) = both_ways _ (unknown_fails (trace_names K) (fields names) p k) (all_right (names_pass x h).0 p)
  names_unmet x h g (repeated p k e) = both_ways _ (repeated_fails (trace_names K) (fields names) p k) (all_right (names_pass x h).0 p)
  names_unmet x h g (missing n k m e) = m (among_has n (fields names) (all_there (trace_names K) (fields names) (names_pass x h).2 n (has_among n (trace_names K) k)))
  names_unmet x h g (unended_names k e) = false≢true (sym (ap (λ (r : List (List ℕ)). not (none r)) k) ∙ (names_pass x h).1)

  -- the names line meets this condition, and none before it
  pub record First-in-names (f : Finding) : Type 0 where
    pub met : NamesMeet K names rest f
    pub first : (g : Finding) → NamesMeet K names rest g → Before g f → ⊥

  wrong_name : (f : Finding) (byte : ℕ) → bad_name (trace_names K) (fields names) 0 (fields names) ≡ Some byte → f ≡ finding 10 1 byte → First-in-names f
  wrong_name f byte h e =
      let m = leftmost_some (right_name (trace_names K) (fields names)) 0 (fields names) byte (sym (bad_leftmost (trace_names K) (fields names) 0 (fields names)) ∙ h) in
      let here : byte ≡ spread m.place.before = omega (arith, m.byte_is) in
      let is : f ≡ finding 10 1 (spread m.place.before) = e ∙ ap (finding 10 1) here in
      let within : spread m.place.before ≤ length names = part_within 44 names m.place in
      record {
        met = elim (fails_by (trace_names K) (fields names) m.place m.fails) [ inl k ↦ unknown m.place k is | inr k ↦ repeated m.place k is ];
        first = λ g k b. left g b here within m.least k;
      }
    where
      left : (g : Finding) → Before g f → {s : ℕ} → byte ≡ s → s ≤ length names → ((p : PartOf (fields names)) → right_name (trace_names K) (fields names) (0 + spread p.before) p.part ≡ false → byte ≤ 0 + spread p.before) → NamesMeet K names rest g → ⊥
      left g b here within least (unknown p k j) =
          let l = least p (unknown_fails (trace_names K) (fields names) p k) in
          let o = by_byte g f (spread p.before) byte j e b in
          omega arith
      left g b here within least (repeated p k j) =
          let l = least p (repeated_fails (trace_names K) (fields names) p k) in
          let o = by_byte g f (spread p.before) byte j e b in
          omega arith
      left g b here within least (missing n k m j) = let o = by_byte g f (length names) byte j e b in omega arith
      left g b here within least (unended_names k j) = let o = by_byte g f (length names) byte j e b in omega arith

  lacks : (f : Finding) → bad_name (trace_names K) (fields names) 0 (fields names) ≡ None → (not (none rest) && all_among (trace_names K) (fields names)) ≡ false → f ≡ finding 10 1 (length names) → First-in-names f
  lacks f h c e =
      record {
        met =
            elim (and_cases (not (none rest)) _ c) [
              | inl k ↦ unended_names (nothing rest k) e
              | inr k ↦ let n = one_missing (trace_names K) (fields names) k in missing n.0 (among_has n.0 (trace_names K) n.1) (not_among n.0 (fields names) n.2) e
            ];
        first = left;
      }
    where
      nothing : (r : List (List ℕ)) → not (none r) ≡ false → r ≡ []
      nothing [] k = refl
      nothing (x ∷ xs) k = absurd (true≢false k)

      left : (g : Finding) → NamesMeet K names rest g → Before g f → ⊥
      left g (unknown p k j) b = both_ways _ (unknown_fails (trace_names K) (fields names) p k) (all_right h p)
      left g (repeated p k j) b = both_ways _ (repeated_fails (trace_names K) (fields names) p k) (all_right h p)
      left g (missing n k m j) b = not_itself g f (j ∙ sym e) b
      left g (unended_names k j) b = not_itself g f (j ∙ sym e) b

  pub names_refused : (f : Finding) → check_names K names (not (none rest)) ≡ Err f → First-in-names f
  names_refused f h =
      elim (unless_err 10 1 (bad_name (trace_names K) (fields names) 0 (fields names)) _ f h) [
        | inl b ↦ wrong_name f b.0 b.1 b.2
        | inr n ↦
            elim (cond_err (not (none rest) && all_among (trace_names K) (fields names)) (Ok tt) _ f n.1) [
              | inl k ↦ absurd (not_refused tt f k.1)
              | inr k ↦ lacks f n.0 k.0 k.1
            ]
      ]
