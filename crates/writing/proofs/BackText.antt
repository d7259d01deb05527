-- A written record, read back.
use Rattle.std.proofs.Common.{◌≡◌, ℕ, ◌+◌, ◌*◌, ◌^◌, ◌<◌, ◌≤◌, Bool, true, false, cond, leb, List, [], ◌∷◌, ◌++◌, map, length, take, drop, ℤ, pos, negsuc, nat_abs, Some, None, Ok, Option, Result, sym, refl, ap, ◌∙◌, arith}
use lib.Signed.{mag}
use Rattle.std.proofs.lemmas.Fmt.{length-decimal-le, length_signed_le}
use Rattle.std.proofs.lemmas.List.{length-append, take_at}
use Rattle.std.proofs.lemmas.Bool.{and_parts, and_from, eq-eqb, le-ltb, le-leb, leb-true, ltb-true}
use Rattle.std.specs.Fmt.{signed_decimal}
use Rattle.std.specs.Option.{ok_or}
use Rattle.kinds.specs.Columns.{Arity, one, two, Each, All, Columns, times, within, fits64}
use Rattle.kinds.specs.Entries.{not_entered}
use Rattle.kinds.specs.declared.name.Name.{Name}
use Rattle.kinds.specs.declared.name.Name.TheVariants.{Cents as cents, Pieces as pieces}
use Rattle.kinds.specs.Kinds.{Kind, Of, Lawful}
use Rattle.figures.specs.declared.heading.Heading.{Heading}
use Rattle.figures.specs.declared.heading.Heading.TheVariants.{Day}
use Rattle.writer.specs.declared.value.Value.TheVariants.{Count, Amount}
use Rattle.refusals.specs.Faults.{Finding}
use Rattle.figures.specs.Headings.{letters, twins, column_headings}
use Rattle.reading.specs.Parts.{lines, fields}
use Rattle.refusals.specs.declared.refusal.Refusal.TheVariants.{OutputTooShort}
use Rattle.writing.specs.Laws.{ReadsBack}
use Rattle.writing.specs.Texts as Texts
use Rattle.writing.specs.Texts.{trace_headings, trace_values, trace_lines, trace_text}
use Rattle.reading.specs.Traces.{bad_name, all_among, trace_names, none, malformed, number_under, columns_under, check_line, read_line, read_lines, read_all, read_text, entered, refuse, then}
use Rattle.writer.specs.Values.{shown, line}
use Rattle.writer.specs.Written.{Writes}
use Rattle.writing.proofs.BackFacts.{body, body_fields, line_first}
use Rattle.writing.proofs.BackLines.{clean_headings, names_of, day_values, texts_of, Small, clean_values, names_known, as_many, all_figures, day_back, columns_back}
use Rattle.writer.proofs.LineFacts.{written_length}
use Rattle.reading.proofs.LinesFacts.{some_not_none}
use Rattle.reading.proofs.PartFacts.{parts_some}

-- bounds leave figures of at most 13 digits
pub bound_small : (a : Arity) (bound : Each a ℕ) (has : Columns a → Bool) → ((x : Columns a) → within a (times a 5000000 bound) x ≡ true → has x ≡ true) → ((x : Columns a) → has x ≡ true → All a (λ v. fits64 v ≡ true) x) → All a (λ b. b < 2000000000000) bound
bound_small one b has roomy fitting =
    let f = fitting (pos (5000000 * b)) (roomy (pos (5000000 * b)) (le-leb (5000000 * b) (5000000 * b) (omega arith))) in
    let l = ltb-true (5000000 * b) (2 ^ 63) f in
    omega arith
bound_small two b has roomy fitting =
    let f = fitting (pos (5000000 * b.0), pos (5000000 * b.1))
    (roomy (pos (5000000 * b.0), pos (5000000 * b.1))
    (and_from _ _ (le-leb (5000000 * b.0) (5000000 * b.0) (omega arith)) (le-leb (5000000 * b.1) (5000000 * b.1) (omega arith)))) in
    let l = ltb-true (5000000 * b.0) (2 ^ 63) f.0 in
    let m = ltb-true (5000000 * b.1) (2 ^ 63) f.1 in
    (omega arith, omega arith)

pub within_small : (a : Arity) (bound : Each a ℕ) (x : Columns a) → All a (λ b. b < 2000000000000) bound → within a bound x ≡ true → Small a x
within_small one b x s h = let l = leb-true (nat_abs x) b h in omega arith
within_small two b x s h =
    let p = and_parts (leb (nat_abs x.0) b.0) (leb (nat_abs x.1) b.1) h in
    let l = leb-true (nat_abs x.0) b.0 p.0 in
    let m = leb-true (nat_abs x.1) b.1 p.1 in
    (omega (arith, s.0), omega (arith, s.1))

pub within_more : (a : Arity) (bound : Each a ℕ) (x : Columns a) → within a bound x ≡ true → within a (times a 5000000 bound) x ≡ true
within_more one b x h = let l = leb-true (nat_abs x) b h in le-leb (nat_abs x) (5000000 * b) (omega arith)
within_more two b x h =
    let p = and_parts (leb (nat_abs x.0) b.0) (leb (nat_abs x.1) b.1) h in
    let l = leb-true (nat_abs x.0) b.0 p.0 in
    let m = leb-true (nat_abs x.1) b.1 p.1 in
    and_from _ _ (le-leb (nat_abs x.0) (5000000 * b.0) (omega arith)) (le-leb (nat_abs x.1) (5000000 * b.1) (omega arith))

-- the checks of a good line
pub check_good : (names values : List (List ℕ)) (d at : ℕ) → length values ≡ length names → malformed at values ≡ None → number_under names values (letters Day) ≡ pos d → d ≤ 1000 → check_line names d at values ≡ Ok tt
check_good names values d at l m n h =
    rw (eq-eqb (length values) (length names) l, m, n, eq-eqb d d refl, le-ltb 1000 d h) refl

pub entered_good : (K : Kind) (x y : Of K) (r : Result (Of K) Finding) → y ≡ x → K.has x ≡ true → within K.arity K.bound x ≡ true → entered K y r ≡ Ok x
entered_good K x y r e h w = rw (e, h, w) refl

-- lengths
pub mag_below : (z : ℤ) (n : ℕ) → nat_abs z < n → mag z < n
mag_below (pos m) n h = h
mag_below (negsuc m) n h = omega arith

pub signed_short : (z : ℤ) → nat_abs z < 2000000000000 → length (signed_decimal z) ≤ 14
signed_short z h = let m = mag_below z 2000000000000 h in length_signed_le 13 z (omega arith) (omega arith)

pub day_short : (a : Arity) (d : ℕ) (x : Columns a) → d ≤ 1000 → Small a x → length (line shown (day_values a d x)) ≤ 35
day_short one d x l s =
    let e = written_length shown (Count d) (Amount x ∷ []) in
    let f = written_length shown (Amount x) [] in
    let m = length-decimal-le 4 d (omega arith) (omega arith) (omega arith) in
    let n = signed_short x s in
    omega arith
day_short two d x l s =
    let e = written_length shown (Count d) (Amount x.0 ∷ (Amount x.1 ∷ [])) in
    let f = written_length shown (Amount x.0) (Amount x.1 ∷ []) in
    let g = written_length shown (Amount x.1) [] in
    let m = length-decimal-le 4 d (omega arith) (omega arith) (omega arith) in
    let n = signed_short x.0 s.0 in
    let o = signed_short x.1 s.1 in
    omega arith

pub names_short : (a : Arity) (n : Each a Name) → length (line letters (Day ∷ column_headings a n)) ≤ 18
names_short one cents = omega arith
names_short one pieces = omega arith
names_short two n = go n.0 n.1
  where
    go : (p q : Name) → length (line letters (Day ∷ column_headings two (p, q))) ≤ 18
    go cents cents = omega arith
    go cents pieces = omega arith
    go pieces cents = omega arith
    go pieces pieces = omega arith

pub entered_parts : (K : Kind) (d : ℕ) (x : Of K) (xs : List (Of K)) → not_entered K d (x ∷ xs) ≡ None → (within K.arity K.bound x ≡ true) × (not_entered K (d + 1) xs ≡ None)
entered_parts K d x xs h = go (within K.arity K.bound x) refl h
  where
    go : (t : Bool) → t ≡ within K.arity K.bound x → cond t (not_entered K (d + 1) xs) (Some d) ≡ None → (within K.arity K.bound x ≡ true) × (not_entered K (d + 1) xs ≡ None)
    go true e k = (sym e, k)
    go false e k = absurd (let z : ◌≡◌ {A = ℕ} 0 1 = cc in omega arith)

-- a text whose names line is good
pub all_good : (K : Kind) (this : List ℕ) (rest names : List (List ℕ)) (xs : List (Of K)) → fields this ≡ names → none rest ≡ false → bad_name (trace_names K) names 0 names ≡ None → all_among (trace_names K) names ≡ true → read_lines K names 1 (length this + 1) rest ≡ Ok xs → read_all K (this ∷ rest) ≡ Ok xs
all_good K this rest names xs parts some bad all back = rw (parts, some, bad, all, back) refl

module _ (K : Kind) (L : Lawful K) (apart : twins K.arity K.names ≡ false) where
  small : (x : Of K) → within K.arity K.bound x ≡ true → Small K.arity x
  small x w = within_small K.arity K.bound x (bound_small K.arity K.bound K.has L.roomy L.fitting) w

  pub line_back : (d at : ℕ) (x : Of K) → d ≤ 1000 → within K.arity K.bound x ≡ true → read_line K (names_of K.arity K.names) d at (texts_of K.arity d x) ≡ Ok x
  line_back d at x l w =
      let s = small x w in
      let checked = check_good (names_of K.arity K.names) (texts_of K.arity d x) d at (as_many K.arity K.names d x) (all_figures K.arity d x at (omega arith) s) (day_back K.arity K.names d x (omega arith)) l in
      let held = L.roomy x (within_more K.arity K.bound x w) in
      ap (λ (c : Result (Unit {0}) Finding). then c (entered K (columns_under K.arity K.names (names_of K.arity K.names) (texts_of K.arity d x)) (refuse 2 (d + 1) at))) checked
      ∙ entered_good K x _ _ (columns_back K.arity K.names apart d x s) held w

  pub days_back : (d at : ℕ) (xs : List (Of K)) → d + length xs ≤ 1001 → not_entered K d xs ≡ None → read_lines K (names_of K.arity K.names) d at (lines (trace_lines K d xs)) ≡ Ok xs
  unfolding trace_values
  days_back d at [] l h = refl
  days_back d at (x ∷ xs) l h =
      let names : List (List ℕ) = names_of K.arity K.names in
      let p = entered_parts K d x xs h in
      let s = small x p.0 in
      let clean = clean_values K.arity d x (omega arith) s in
      let rest : List ℕ = trace_lines K (d + 1) xs in
      let this : List ℕ = body shown (Count d) (map Amount (Texts.column_list K x)) in
      let cut : lines (line shown (day_values K.arity d x) ++ rest) ≡ this ∷ lines rest = line_first shown (Count d) (map Amount (Texts.column_list K x)) rest clean in
      let parts : fields this ≡ texts_of K.arity d x = body_fields shown (Count d) (map Amount (Texts.column_list K x)) clean in
      let read : read_line K names d at (fields this) ≡ Ok x = ap (read_line K names d at) parts ∙ line_back d at x (omega arith) p.0 in
      let more = days_back (d + 1) (at + (length this + 1)) xs (omega arith) p.1 in
      ap (read_lines K names d at) cut ∙ rw (some_not_none (lines rest) (parts_some 10 rest), read, more) refl

  pub lines_short : (d : ℕ) (xs : List (Of K)) → d + length xs ≤ 1001 → not_entered K d xs ≡ None → length (trace_lines K d xs) ≤ 35 * length xs
  unfolding trace_values
  lines_short d [] l h = omega arith
  lines_short d (x ∷ xs) l h =
      let p = entered_parts K d x xs h in
      let this = day_short K.arity d x (omega arith) (small x p.0) in
      let more = lines_short (d + 1) xs (omega arith) p.1 in
      let both = length-append (line shown (day_values K.arity d x)) (trace_lines K (d + 1) xs) in
      omega arith

  pub text_back : (xs : List (Of K)) (room : ℕ) → length xs ≤ 1000 → not_entered K 1 xs ≡ None → length xs ≤ room → read_text K room (trace_text K xs) ≡ Ok xs
  unfolding trace_headings
  text_back xs room l h r =
      let names : List (List ℕ) = names_of K.arity K.names in
      let columns : List Heading = column_headings K.arity K.names in
      let rest : List ℕ = trace_lines K 1 xs in
      let this : List ℕ = body letters Day columns in
      let clean = clean_headings (Day ∷ columns) in
      let cut : lines (line letters (Day ∷ columns) ++ rest) ≡ this ∷ lines rest = line_first letters Day columns rest clean in
      let parts : fields this ≡ names = body_fields letters Day columns clean in
      let known = names_known K.arity K.names apart in
      let short : length (trace_text K xs) ≤ 40000 =
      let a = names_short K.arity K.names in
      let b = lines_short 1 xs (omega arith) h in
      let c = length-append (line letters (Day ∷ columns)) rest in
      omega arith in
      let some = some_not_none (lines rest) (parts_some 10 rest) in
      let good : read_all K (lines (trace_text K xs)) ≡ Ok xs = ap (read_all K) cut ∙ all_good K this (lines rest) names xs parts some known.0 known.1 (days_back 1 (length this + 1) xs (omega arith) h) in
      rw (apart, le-ltb 40000 (length (trace_text K xs)) short, good, le-ltb room (length xs) r) refl

-- the same of the bytes in the buffer
pub written_back : (K : Kind) → Lawful K → twins K.arity K.names ≡ false → (xs : List (Of K)) (before after : List ℕ) (r : Option ℕ) → length xs ≤ 1000 → None ≡ not_entered K 1 xs → Writes 0 (trace_text K xs) before after r → ReadsBack K xs after (ok_or r OutputTooShort)
written_back K L apart xs before after (Some bytes) few entered w =
    let size : length (trace_text K xs) ≡ bytes = omega (arith, w.1) in
    let taken : take bytes after ≡ trace_text K xs = ap (take bytes) w.0 ∙ take_at (trace_text K xs) (drop (0 + length (trace_text K xs)) before) bytes size in
    λ room fits. ap (read_text K room) taken ∙ text_back K L apart xs room few (sym entered) fits
written_back K L apart xs before after None few entered w = tt
