-- What a text that is read holds, and how far in it a refusal can stand.
use Rattle.std.proofs.Common.{◌≡◌, ℕ, ◌+◌, ◌<◌, ◌≤◌, true, not, ◌&&◌, eqb, ltb, List, [], ◌∷◌, length, is_some, Some, None, Ok, Err, Option, Result, refl, inl, inr, arith}
use Rattle.std.specs.List.{AllByRecursion}
use Rattle.std.specs.Str.{bytes_eq}
use Rattle.std.proofs.lemmas.Bool.{cases_Bool, and_parts, cond_both, ltb-false}
use Rattle.kinds.specs.Columns.{within}
use Rattle.kinds.specs.Kinds.{Kind, Of}
use Rattle.figures.specs.declared.heading.Heading.TheVariants.{Day}
use Rattle.refusals.specs.Faults.{Finding}
use Rattle.figures.specs.Figures.{figure}
use Rattle.figures.specs.Headings.{letters, twins}
use Rattle.reading.specs.Parts.{parts, longer, lines, fields, start_under}
use Rattle.reading.specs.Traces.{among, all_among, trace_names, bad_name, malformed, number_under, is_day, columns_under, unless_at, check_line, then, read_line, none, push, read_lines, check_names, read_all, within_room, read_text}
use Rattle.reading.proofs.PartFacts.{parts_some}

-- the bytes of some parts, with one behind each
abbrev pub span : List (List ℕ) → ℕ
span [] = 0
span (p ∷ ps) = length p + 1 + span ps

span_longer : (b : ℕ) (ps : List (List ℕ)) → 0 < length ps → span (longer b ps) ≡ span ps + 1
span_longer b [] h = absurd (omega arith)
span_longer b (p ∷ ps) h = omega arith

pub span_parts : (c : ℕ) (bs : List ℕ) → span (parts c bs) ≡ length bs + 1
span_parts c [] = refl
span_parts c (b ∷ bs) =
    let h = span_parts c bs in
    let g = span_longer b (parts c bs) (parts_some c bs) in
    elim (cases_Bool (eqb b c)) [ inl e ↦ rw e (omega arith) | inr e ↦ rw e (omega arith) ]

-- a place, if there is one, up to m
abbrev UpTo : ℕ → Option ℕ → Type 0
UpTo m None = Unit {0}
UpTo m (Some n) = n ≤ m

up_to_more : (m n : ℕ) (o : Option ℕ) → m ≤ n → UpTo m o → UpTo n o
up_to_more m n None h u = tt
up_to_more m n (Some k) h u = omega arith

malformed_place : (at : ℕ) (vs : List (List ℕ)) → UpTo (at + span vs) (malformed at vs)
malformed_place at [] = tt
malformed_place at (v ∷ vs) =
    cond_both (is_some (figure v)) _ _ (UpTo (at + span (v ∷ vs)))
    (λ e. up_to_more (at + length v + 1 + span vs) _ _ (omega arith) (malformed_place (at + length v + 1) vs))
    (λ e. omega arith)

bad_name_place : (known line : List (List ℕ)) (at : ℕ) (ns : List (List ℕ)) → UpTo (at + span ns) (bad_name known line at ns)
bad_name_place known line at [] = tt
bad_name_place known line at (n ∷ ns) =
    cond_both (among n known && eqb (start_under 0 line line n) at) _ _ (UpTo (at + span (n ∷ ns)))
    (λ e. up_to_more (at + length n + 1 + span ns) _ _ (omega arith) (bad_name_place known line (at + length n + 1) ns))
    (λ e. omega arith)

start_place : (at : ℕ) (names values : List (List ℕ)) (name : List ℕ) → start_under at names values name ≤ at + span values
start_place at [] values name = omega arith
start_place at (n ∷ names) [] name = omega arith
start_place at (n ∷ names) (v ∷ values) name =
    cond_both (bytes_eq n name) _ _ (λ k. k ≤ at + span (v ∷ values))
    (λ e. omega arith)
    (λ e. let h = start_place (at + length v + 1) names values name in omega arith)

-- a refusal is not that of a buffer, and its line and byte are up to m
abbrev pub Near : ℕ → Finding → Type 0
Near m f = (f.number ≤ 13) × (f.line ≤ m) × (f.byte ≤ m)

-- what is read is as P says, and a refusal is near
abbrev pub Fair : {X : Type 0} → ℕ → (X → Type 0) → Result X Finding → Type 0
Fair m P (Ok x) = P x
Fair m P (Err f) = Near m f

fair_then : {X Y : Type 0} (m : ℕ) (P : X → Type 0) (Q : Y → Type 0) (a : Result X Finding) (b : Result Y Finding) → Fair m P a → Fair m Q b → Fair m Q (then a b)
fair_then m P Q (Ok x) b p q = q
fair_then m P Q (Err f) b p q = p

fair_unless : {X : Type 0} (m : ℕ) (P : X → Type 0) (number line : ℕ) (o : Option ℕ) (r : Result X Finding) → number ≤ 13 → line ≤ m → UpTo m o → Fair m P r → Fair m P (unless_at number line o r)
fair_unless m P number line None r h l u p = p
fair_unless m P number line (Some b) r h l u p = (h, l, u)

-- any answer at all
abbrev pub Any : {X : Type 0} → X → Type 0
Any x = Unit {0}

module _ (K : Kind) (m : ℕ) where
  -- a total that may be entered
  abbrev pub Enters : Of K → Type 0
  Enters x = within K.arity K.bound x ≡ true

  check_fair : (names : List (List ℕ)) (day at : ℕ) (values : List (List ℕ)) → day + 1 ≤ m → at + span values ≤ m → Fair m Any (check_line names day at values)
  check_fair names day at values d h =
      cond_both (eqb (length values) (length names)) _ _ (Fair m Any)
      (λ e. fair_unless m Any 11 (day + 1) (malformed at values) _ (omega arith) d (up_to_more (at + span values) m _ h (malformed_place at values))
      (cond_both (is_day day (number_under names values (letters Day))) _ _ (Fair m Any)
      (λ e. cond_both (ltb 1000 day) _ _ (Fair m Any) (λ f. (omega arith, d, omega arith)) (λ f. tt))
      (λ e. (omega arith, d, omega (arith, start_place at names values (letters Day))))))
      (λ e. (omega arith, d, omega arith))

  line_fair : (names : List (List ℕ)) (day at : ℕ) (values : List (List ℕ)) → day + 1 ≤ m → at + span values ≤ m → Fair m Enters (read_line K names day at values)
  line_fair names day at values d h =
      let x = columns_under K.arity K.names names values in
      fair_then m Any Enters (check_line names day at values) _ (check_fair names day at values d h)
      (cond_both (K.has x && within K.arity K.bound x) _ _ (Fair m Enters) (λ e. (and_parts (K.has x) (within K.arity K.bound x) e).1) (λ e. (omega arith, d, omega arith)))

  push_fair : (r : Result (Of K) Finding) (rs : Result (List (Of K)) Finding) → Fair m Enters r → Fair m (AllByRecursion Enters) rs → Fair m (AllByRecursion Enters) (push r rs)
  push_fair (Ok x) (Ok xs) p q = (p, q)
  push_fair (Ok x) (Err f) p q = q
  push_fair (Err f) rs p q = p

  lines_fair : (names : List (List ℕ)) (day at : ℕ) (ls : List (List ℕ)) → day + 1 + span ls ≤ m → at + span ls ≤ m → Fair m (AllByRecursion Enters) (read_lines K names day at ls)
  lines_fair names day at [] d h = tt
  lines_fair names day at (l ∷ rest) d h =
      let s = span_parts 44 l in
      cond_both (none rest) _ _ (Fair m (AllByRecursion Enters))
      (λ e. cond_both (none l) _ _ (Fair m (AllByRecursion Enters)) (λ f. tt) (λ f. (omega arith, omega arith, omega arith)))
      (λ e. push_fair _ _ (line_fair names day at (fields l) (omega arith) (omega arith)) (lines_fair names (day + 1) (at + (length l + 1)) rest (omega arith) (omega arith)))

  all_fair : (ls : List (List ℕ)) → 1 + span ls ≤ m → Fair m (AllByRecursion Enters) (read_all K ls)
  all_fair [] h = tt
  all_fair (names ∷ rest) h =
      let s = span_parts 44 names in
      fair_then m Any (AllByRecursion Enters) (check_names K names (not (none rest))) _
      (fair_unless m Any 10 1 (bad_name (trace_names K) (fields names) 0 (fields names)) _ (omega arith) (omega arith)
      (up_to_more (0 + span (fields names)) m _ (omega arith) (bad_name_place (trace_names K) (fields names) 0 (fields names)))
      (cond_both (not (none rest) && all_among (trace_names K) (fields names)) _ _ (Fair m Any) (λ e. tt) (λ e. (omega arith, omega arith, omega arith))))
      (lines_fair (fields names) 1 (length names + 1) rest (omega arith) (omega arith))

-- a record that was read is short, and its totals may be entered
abbrev pub Fit : (K : Kind) → ℕ → List (Of K) → Type 0
Fit K room xs = (length xs ≤ room) × AllByRecursion (λ x. within K.arity K.bound x ≡ true) xs

room_fair : (K : Kind) (m room : ℕ) (r : Result (List (Of K)) Finding) → Fair m (AllByRecursion (Enters K m)) r → Fair m (Fit K room) (within_room room r)
room_fair K m room (Ok xs) p = cond_both (ltb room (length xs)) _ _ (Fair m (Fit K room)) (λ e. (omega arith, omega arith, omega arith)) (λ e. (ltb-false room (length xs) e, p))
room_fair K m room (Err f) p = p

pub text_fair : (K : Kind) (room : ℕ) (text : List ℕ) → Fair 40002 (Fit K room) (read_text K room text)
text_fair K room text =
    cond_both (twins K.arity K.names) _ _ (Fair 40002 (Fit K room)) (λ e. (omega arith, omega arith, omega arith))
    (λ e. cond_both (ltb 40000 (length text)) _ _ (Fair 40002 (Fit K room)) (λ f. (omega arith, omega arith, omega arith))
    (λ f. room_fair K 40002 room (read_all K (lines text)) (all_fair K 40002 (lines text) (omega (arith, span_parts 10 text, ltb-false 40000 (length text) f)))))
