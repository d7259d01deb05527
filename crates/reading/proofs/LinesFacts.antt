-- Lemmas on the lines of a trace text.
use Rattle.std.proofs.Common.{◌≡◌, ℕ, ◌+◌, ◌<◌, ◌≤◌, true, false, cond, List, [], ◌∷◌, ◌++◌, map, length, take, drop, set, is_ok, Some, None, Ok, Err, Option, Result, sym, refl, ap, ◌∙◌, subst, arith}
use Rattle.std.proofs.lemmas.Bool.{lt-ltb, le-ltb}
use Rattle.std.proofs.lemmas.List.{append-nil, append_assoc, length_push, length-set, take_more_set, map_push, drop-set-lt, drop-drop}
use Rattle.kinds.specs.Kinds.{Kind, Of}
use Rattle.refusals.specs.declared.fault.LineFault.{LineFault}
use Rattle.refusals.specs.declared.fault.FieldFault.{FieldFault}
use Rattle.refusals.specs.Faults.{Finding, at_name, line_found}
use Rattle.reading.specs.Parts.{fields, lines}
use Rattle.reading.specs.Traces.{none, push, onto, refuse, read_line, read_lines, read_all, bad_name, all_among, trace_names, told, counted, within_room, Midway, LinesRead, Reads}
use Rattle.reading.proofs.PartFacts.{parts_some}

pub onto_none : {X E : Type 0} (r : Result (List X) E) → r ≡ onto [] r
onto_none (Ok xs) = refl
onto_none (Err e) = refl

pub onto_push : {X E : Type 0} (done : List X) (x : X) (r : Result (List X) E) → onto done (push (Ok x) r) ≡ onto (done ++ x ∷ []) r
onto_push done x (Ok xs) = ap Ok (sym (append_assoc done (x ∷ []) xs))
onto_push done x (Err e) = refl

pub some_not_none : {X : Type 0} (xs : List X) → 0 < length xs → none xs ≡ false
some_not_none [] h = absurd (omega arith)
some_not_none (x ∷ xs) h = refl

pub lines_more : (K : Kind) (names : List (List ℕ)) (day at : ℕ) (left line next : List ℕ) → lines left ≡ line ∷ lines next → read_lines K names day at (lines left) ≡ push (read_line K names day at (fields line)) (read_lines K names (day + 1) (at + (length line + 1)) (lines next))
lines_more K names day at left line next e =
    let k = some_not_none (lines next) (parts_some 10 next) in
    ap (read_lines K names day at) e ∙ rw k refl

pub lines_last : (K : Kind) (names : List (List ℕ)) (day at : ℕ) (left line : List ℕ) → lines left ≡ line ∷ [] → read_lines K names day at (lines left) ≡ cond (none line) (Ok []) (refuse 12 (day + 1) at)
lines_last K names day at left line e = ap (read_lines K names day at) e

module _ {V : Type 0} (K : Kind) (columns : V → Of K) where
  pub midway_start : (before : List V) (reading : Result (List (Of K)) Finding) → Midway K columns before before reading reading 0
  midway_start before reading =
      record { totals = []; are = onto_none reading; count = refl; kept = λ _. refl; rest = refl }

  pub midway_step : (before after : List V) (reading ahead : Result (List (Of K)) Finding) (days : ℕ) (v : V) → Midway K columns before after reading (push (Ok (columns v)) ahead) days → Midway K columns before (set after days v) reading ahead (days + 1)
  midway_step before after reading ahead days v m =
      record {
        totals = m.totals ++ columns v ∷ [];
        are = m.are ∙ onto_push m.totals (columns v) ahead;
        count = length_push m.totals (columns v) ∙ ap (λ n. n + 1) m.count;
        kept = λ h. go (rw length-set at h);
        rest =
            drop-set-lt (days + 1) after days v (omega arith)
            ∙ (sym (drop-drop 1 days after) ∙ (ap (drop 1) m.rest ∙ drop-drop 1 days before));
      }
    where
      go : days + 1 ≤ length after → map columns (take (days + 1) (set after days v)) ≡ m.totals ++ columns v ∷ []
      go h =
          ap (map columns) (take_more_set after days v (omega arith))
          ∙ (map_push columns (take days after) v ∙ ap (λ xs. xs ++ columns v ∷ []) (m.kept (omega arith)))

  pub midway_stop : (before after : List V) (reading ahead : Result (List (Of K)) Finding) (days : ℕ) (e : Finding) → Midway K columns before after reading (push (Err e) ahead) days → reading ≡ Err e
  midway_stop before after reading ahead days e m = m.are

  pub midway_end : (before after : List V) (reading : Result (List (Of K)) Finding) (days : ℕ) → Midway K columns before after reading (Ok []) days → LinesRead K columns before after reading days
  midway_end before after reading days m =
      record { totals = m.totals; are = m.are ∙ ap Ok (append-nil m.totals); count = m.count; kept = m.kept; rest = m.rest }

  -- one line on: a total, or the fault that ends it
  pub line_read : (before after after' : List V) (reading : Result (List (Of K)) Finding) (names : List (List ℕ)) (days at : ℕ) (left line next : List ℕ) (r : Result V LineFault) (v : V) → lines left ≡ line ∷ lines next → told columns line_found r ≡ read_line K names (days + 1) at (fields line) → r ≡ Ok v → after' ≡ set after days v → Midway K columns before after reading (read_lines K names (days + 1) at (lines left)) days → Midway K columns before after' reading (read_lines K names (days + 1 + 1) (at + (length line + 1)) (lines next)) (days + 1)
  line_read before after after' reading names days at left line next r v cut line-is was put m =
      let ahead : Result (List (Of K)) Finding = read_lines K names (days + 1 + 1) (at + (length line + 1)) (lines next) in
      let told_is : read_line K names (days + 1) at (fields line) ≡ Ok (columns v) = sym line-is ∙ ap (told columns line_found) was in
      let here : read_lines K names (days + 1) at (lines left) ≡ push (Ok (columns v)) ahead = lines_more K names (days + 1) at left line next cut ∙ ap (λ (x : Result (Of K) Finding). push x ahead) told_is in
      rw put (midway_step before after reading ahead days v (subst (λ (x : Result (List (Of K)) Finding). Midway K columns before after reading x days) here m))

  pub line_broke : (before after : List V) (reading : Result (List (Of K)) Finding) (names : List (List ℕ)) (days at : ℕ) (left line next : List ℕ) (r : Result V LineFault) (f : LineFault) → lines left ≡ line ∷ lines next → told columns line_found r ≡ read_line K names (days + 1) at (fields line) → r ≡ Err f → Midway K columns before after reading (read_lines K names (days + 1) at (lines left)) days → reading ≡ Err (line_found f)
  line_broke before after reading names days at left line next r f cut line-is was m =
      let ahead : Result (List (Of K)) Finding = read_lines K names (days + 1 + 1) (at + (length line + 1)) (lines next) in
      let told_is : read_line K names (days + 1) at (fields line) ≡ Err (line_found f) = sym line-is ∙ ap (told columns line_found) was in
      let here : read_lines K names (days + 1) at (lines left) ≡ push (Err (line_found f)) ahead = lines_more K names (days + 1) at left line next cut ∙ ap (λ (x : Result (Of K) Finding). push x ahead) told_is in
      midway_stop before after reading ahead days (line_found f) (subst (λ (x : Result (List (Of K)) Finding). Midway K columns before after reading x days) here m)

-- a names line without a fault
pub names_good : (K : Kind) (text names values : List ℕ) (r : Result (Unit {0}) FieldFault) → lines text ≡ names ∷ lines values → r ≡ at_name (bad_name (trace_names K) (fields names) 0 (fields names)) → true ≡ is_ok r → all_among (trace_names K) (fields names) ≡ true → read_all K (lines text) ≡ read_lines K (fields names) 1 (length names + 1) (lines values)
names_good K text names values r cut checked right all =
    ap (read_all K) cut ∙ go (bad_name (trace_names K) (fields names) 0 (fields names)) refl
  where
    go : (o : Option ℕ) → o ≡ bad_name (trace_names K) (fields names) 0 (fields names) → read_all K (names ∷ lines values) ≡ read_lines K (fields names) 1 (length names + 1) (lines values)
    go None e = rw (← e, some_not_none (lines values) (parts_some 10 values), all) refl
    go (Some byte) e = absurd (let z : ◌≡◌ {A = ℕ} 0 1 = cc in omega arith)

-- readings that are known by their count
pub counted_err : {X : Type 0} (reading : Result (List X) Finding) (e : Finding) (room : ℕ) → Err e ≡ counted reading → within_room room reading ≡ Err e
counted_err (Ok xs) e room h = absurd (let z : ◌≡◌ {A = ℕ} 0 1 = cc in omega arith)
counted_err (Err d) e room h = let k : e ≡ d = cc in ap Err (sym k)

pub counted_long : {X : Type 0} (reading : Result (List X) Finding) (n room : ℕ) → Ok n ≡ counted reading → room < n → within_room room reading ≡ refuse 8 0 0
counted_long (Ok xs) n room h l = let e : n ≡ length xs = cc in rw (lt-ltb room (length xs) (omega arith)) refl
counted_long (Err d) n room h l = absurd (let z : ◌≡◌ {A = ℕ} 0 1 = cc in omega arith)

pub counted_good : {X : Type 0} (reading : Result (List X) Finding) (n room : ℕ) (xs : List X) → Ok n ≡ counted reading → n ≤ room → reading ≡ Ok xs → (within_room room reading ≡ Ok xs) × (n ≡ length xs)
counted_good reading n room xs h l e =
    let k : Ok n ≡ Ok (length xs) = h ∙ ap counted e in
    let m : n ≡ length xs = cc in
    (ap (within_room room) e ∙ rw (le-ltb room (length xs) (omega arith)) refl, m)

-- lines that are counted and then read into a list with room for them
pub read_good : {V : Type 0} (K : Kind) (columns : V → Of K) (before after : List V) (all reading : Result (List (Of K)) Finding) (days counts room : ℕ) → all ≡ reading → Ok days ≡ counted reading → days ≤ room → room ≡ length after → LinesRead K columns before after reading counts → Reads K columns before after (within_room room all) (Ok days)
read_good K columns before after all reading days counts room split count fits long read =
    let good = counted_good reading days room read.totals count fits read.are in
    let same : counts ≡ days = omega (arith, good.1, read.count) in
    let kept = subst (λ (n : ℕ). n ≤ length after → map columns (take n after) ≡ read.totals) same read.kept in
    let rest = subst (λ (n : ℕ). drop n after ≡ drop n before) same read.rest in
    let few : days ≤ length after = omega arith in
    (ap (within_room room) split ∙ (good.0 ∙ ap Ok (sym (kept few))), few, rest)
