-- Which kind of total a text is read as, and what is told of it.
use Rattle.std.proofs.Common.{◌≡◌, ℕ, suc, ◌≤◌, true, false, cond, eqb, ltb, List, [], ◌∷◌, length, take, is_some, is_ok, Some, None, Ok, Err, Option, Result, sym, refl, ap, subst, inl, inr, arith}
use Rattle.std.specs.List.{position_or_len}
use Rattle.std.specs.Option.{option_map, unwrap_or}
use Rattle.std.specs.Str.{bytes_eq}
use Rattle.std.proofs.lemmas.List.{length-take-le}
use Rattle.std.proofs.lemmas.List.Recursion.{is_position_or_len}
use Rattle.std.proofs.lemmas.Bool.{cases_Bool, cases_lt, lt-ltb, le-ltb}
use Rattle.kinds.specs.Kinds.{Kind}
use Rattle.kinds.specs.Wholes.{paper, mobile}
use Rattle.refusals.specs.declared.refusal.Refusal.{Refusal}
use Rattle.refusals.specs.declared.fault.FileFault.{FileFault}
use Rattle.refusals.specs.Table.{number}
use Rattle.refusals.specs.Faults.{found, refusal_of}
use Rattle.reading.specs.Parts.{reach, holds, fields, under, field_under}
use Rattle.reading.specs.Traces.{among, read_text}
use Rattle.reading.proofs.PartFacts.{reach_le}
use Rattle.report.specs.Reports.{first_line, names_pieces, told, report_as, report_of, most_bytes, Reported, ShortAlone, PulsesWritten, Told}
use Rattle.report.proofs.ReadFacts.{Fair, Fit, text_fair}
use Rattle.report.proofs.ShortFacts.{only_14}
use Rattle.report.proofs.ReportFacts.{reports_fit}

eqb_turned : (m n : ℕ) → eqb m n ≡ eqb n m
eqb_turned m n = grind (arith)

same_turned : (xs ys : List ℕ) → bytes_eq xs ys ≡ bytes_eq ys xs
same_turned [] [] = refl
same_turned [] (y ∷ ys) = refl
same_turned (x ∷ xs) [] = refl
same_turned (x ∷ xs) (y ∷ ys) = rw (eqb_turned x y, same_turned xs ys) refl

-- a name has a field under it in its own line exactly where it is among the names
under_among : (ns : List (List ℕ)) (name : List ℕ) → is_some (under ns ns name) ≡ among name ns
under_among [] name = refl
under_among (n ∷ ns) name =
    rw (same_turned name n)
    (elim (cases_Bool (bytes_eq n name)) [ inl e ↦ rw e refl | inr e ↦ rw e (under_among ns name) ])

-- how many bytes stand before the first c, in std's words
reach_place : (c : ℕ) (bs : List ℕ) → reach c bs ≡ position_or_len (λ b. eqb b c) bs
reach_place c = is_position_or_len (reach c) (λ b. eqb b c) refl (λ b bs. ap (λ n. cond (eqb b c) 0 n) (omega arith))

placed : (n m : ℕ) → n ≤ m → unwrap_or (cond (ltb n m) (Some n) None) m ≡ n
placed n m h =
    elim (cases_lt n m) [ inl l ↦ rw (lt-ltb n m l) refl | inr g ↦ rw (le-ltb n m g) (omega arith) ]

-- what is left of a search for the first c
pub reach_found : (c : ℕ) (bs : List ℕ) (o : Option ℕ) → o ≡ cond (ltb (position_or_len (λ b. eqb b c) bs) (length bs)) (Some (position_or_len (λ b. eqb b c) bs)) None → unwrap_or o (length bs) ≡ reach c bs
reach_found c bs o e =
    let h = reach_place c bs in
    let l : reach c bs ≤ length bs = reach_le c bs in
    rw (e, ← h) (placed (reach c bs) (length bs) l)

reach_first : (c : ℕ) (bs : List ℕ) → reach c (take (reach c bs) bs) ≡ reach c bs
reach_first c [] = refl
reach_first c (b ∷ bs) =
    elim (cases_Bool (eqb b c)) [ inl e ↦ rw e refl | inr e ↦ rw (e, e) (ap suc (reach_first c bs)) ]

-- the first line holds no line feed
first_line_whole : (text : List ℕ) → holds 10 (first_line text) ≡ false
first_line_whole text =
    le-ltb (reach 10 (first_line text)) (length (first_line text))
    (let l = length-take-le (reach 10 text) text (reach_le 10 text) in let r = reach_first 10 text in omega arith)

pub pieces_named : (text name line : List ℕ) → line ≡ first_line text → is_some (field_under line line name) ≡ among name (fields (first_line text))
pieces_named text name line e =
    let h = first_line_whole text in
    rw e (rw h (under_among (fields (first_line text)) name))

pub some_mapped : {A B : Type 0} (f : A → B) (o : Option A) (r : Option B) → option_map f o ≡ r → is_some o ≡ is_some r
some_mapped f None r e = ap is_some e
some_mapped f (Some a) r e = ap is_some e

-- a reading that failed did not fail for a buffer
not_short : (K : Kind) (text : List ℕ) (fault : FileFault) → read_text K 1000 text ≡ Err (found fault) → number (refusal_of fault) ≡ 14 → ⊥
not_short K text fault e n = let f = subst (Fair 40002 (Fit K 1000)) e (text_fair K 1000 text) in omega (arith, f.0)

-- what is told after the pulses
pub reported : (K : Kind) (text before now after : List ℕ) (p : Result ℕ FileFault) (r : Result ℕ Refusal) → PulsesWritten K text before now p → Told p now after r → Reported (report_as K text) before after r
unfolding report_as
reported K text before now after (Ok n) r w (a, e) = rw (a, e) w
reported K text before now after (Err fault) r (inl (n, w)) t = let (a, e) = t.0 n in rw (a, e) (n, w)
reported K text before now after (Err fault) r (inr (a, e)) t =
    subst (λ bs. Reported (told K (read_text K 1000 text)) bs after r) a
    (subst (λ x. Reported (told K x) now after r) (sym e) (t.1 (not_short K text fault e)))

-- mobile totals or paper totals
pub report_mobile : (text : List ℕ) → names_pieces text ≡ true → report_as mobile text ≡ report_of text
unfolding report_of
report_mobile text e = rw e refl

pub report_paper : (text : List ℕ) → names_pieces text ≡ false → report_as paper text ≡ report_of text
unfolding report_of
report_paper text e = rw e refl

-- a buffer with room for every report is not refused
never_short : (text before after : List ℕ) (r : Result ℕ Refusal) → Reported (report_of text) before after r → most_bytes ≤ length before → is_ok r ≡ true
never_short text before after (Ok n) w h = refl
never_short text before after (Err e) w h = absurd (omega (arith, reports_fit text, w.1.1))

short_alone : (bytes before after : List ℕ) (r : Result ℕ Refusal) → Reported bytes before after r → ShortAlone r
short_alone bytes before after (Ok n) w = tt
short_alone bytes before after (Err e) w = only_14 e w.0

-- what is promised of a report, from the bytes due
pub report_due : (text bytes before after : List ℕ) (r : Result ℕ Refusal) → bytes ≡ report_of text → Reported bytes before after r → Reported (report_of text) before after r × (most_bytes ≤ length before → is_ok r ≡ true) × ShortAlone r
report_due text bytes before after r e w =
    let answer = subst (λ bs. Reported bs before after r) e w in
    (answer, never_short text before after r answer, short_alone (report_of text) before after r answer)
