-- The names line and the line of a day, read back.
use Rattle.std.proofs.Common.{◌≡◌, ℕ, suc, ◌^◌, ◌<◌, true, false, eqb, leb, List, [], ◌∷◌, map, length, ℤ, pos, negsuc, nat_abs, None, decimal, refl, ap, arith}
use Rattle.std.proofs.lemmas.Fmt.{digits_decimal}
use Rattle.std.proofs.lemmas.Bool.{and_parts, and_from, not_from_false, ne_eqb, leb-true, true≢false}
use Rattle.std.specs.Fmt.{signed_decimal}
use Rattle.kinds.specs.Columns.{Arity, one, two, Each, All, Columns}
use Rattle.kinds.specs.declared.name.Name.{Name}
use Rattle.kinds.specs.declared.name.Name.TheVariants.{Cents as cents, Pieces as pieces}
use Rattle.kinds.specs.Kinds.{code}
use Rattle.figures.specs.declared.heading.Heading.{Heading}
use Rattle.figures.specs.declared.heading.Heading.TheVariants.{Day, Cents, Pieces, Pulse, Width, First, State, Refusal, Line, Byte}
use Rattle.writer.specs.declared.value.Value.{Value}
use Rattle.writer.specs.declared.value.Value.TheVariants.{Count, Amount}
use Rattle.figures.specs.Bytes.{is_digit}
use Rattle.figures.specs.Figures.{digits, figure}
use Rattle.figures.specs.Headings.{letters, first, second, if_any, twins, column_headings}
use Rattle.reading.specs.Traces.{bad_name, all_among, malformed, number_or_0, number_under, columns_under}
use Rattle.writer.specs.Values.{shown}
use Rattle.writing.proofs.BackFacts.{absent, Clean}
use Rattle.figures.proofs.FigureLaws.{own, figure_signed}

-- neither a comma nor a line feed is a digit
pub absent_digits : (c : ℕ) (bs : List ℕ) → c < 48 → digits bs ≡ true → absent c bs ≡ true
absent_digits c [] l h = refl
absent_digits c (b ∷ bs) l h =
    let p = and_parts (is_digit b) (digits bs) h in
    let q = and_parts (leb 48 b) (leb b 57) p.0 in
    let least = leb-true 48 b q.0 in
    and_from _ _ (not_from_false _ (ne_eqb b c (omega arith))) (absent_digits c bs l p.1)

pub absent_signed : (c : ℕ) (z : ℤ) → c < 45 → nat_abs z < 2 ^ 63 → absent c (signed_decimal z) ≡ true
absent_signed c (pos n) l h = absent_digits c (decimal n) (omega arith) (digits_decimal own n (omega arith))
absent_signed c (negsuc n) l h =
    and_from _ _ (not_from_false _ (ne_eqb 45 c (omega arith))) (absent_digits c (decimal (suc n)) (omega arith) (digits_decimal own (suc n) (omega arith)))

pub clean_letters : (h : Heading) → (absent 44 (letters h) ≡ true) × (absent 10 (letters h) ≡ true)
clean_letters Day = (refl, refl)
clean_letters Cents = (refl, refl)
clean_letters Pieces = (refl, refl)
clean_letters Pulse = (refl, refl)
clean_letters Width = (refl, refl)
clean_letters First = (refl, refl)
clean_letters State = (refl, refl)
clean_letters Refusal = (refl, refl)
clean_letters Line = (refl, refl)
clean_letters Byte = (refl, refl)

pub clean_headings : (hs : List Heading) → Clean letters hs
clean_headings [] = tt
clean_headings (h ∷ hs) = ((clean_letters h).0, (clean_letters h).1, clean_headings hs)

-- the names and the values of a trace text
abbrev pub names_of : (a : Arity) → Each a Name → List (List ℕ)
names_of a n = letters Day ∷ map letters (column_headings a n)

abbrev pub day_values : (a : Arity) → ℕ → Columns a → List Value
day_values a d x = Count d ∷ map Amount (first a x ∷ if_any (second a x))

-- each column is below a limit in absolute value
abbrev pub Small : (a : Arity) → Columns a → Type 0
Small a x = All a (λ z. nat_abs z < 2000000000000) x

pub clean_values : (a : Arity) (d : ℕ) (x : Columns a) → d < 10 ^ 18 → Small a x → Clean shown (day_values a d x)
clean_values one d x l s = (
  absent_signed 44 (pos d) (omega arith) (omega arith),
  absent_signed 10 (pos d) (omega arith) (omega arith),
  (absent_signed 44 x (omega arith) (omega arith), absent_signed 10 x (omega arith) (omega arith), tt),
)
clean_values two d x l s = (
  absent_signed 44 (pos d) (omega arith) (omega arith),
  absent_signed 10 (pos d) (omega arith) (omega arith),
  (
    absent_signed 44 x.0 (omega arith) (omega (arith, s.0)),
    absent_signed 10 x.0 (omega arith) (omega (arith, s.0)),
    (absent_signed 44 x.1 (omega arith) (omega (arith, s.1)), absent_signed 10 x.1 (omega arith) (omega (arith, s.1)), tt),
  ),
)

pub names_known : (a : Arity) (n : Each a Name) → twins a n ≡ false → (bad_name (names_of a n) (names_of a n) 0 (names_of a n) ≡ None) × (all_among (names_of a n) (names_of a n) ≡ true)
names_known one cents h = (refl, refl)
names_known one pieces h = (refl, refl)
names_known two n h = go n.0 n.1 h
  where
    go : (p q : Name) → eqb (code p) (code q) ≡ false → (bad_name (names_of two (p, q)) (names_of two (p, q)) 0 (names_of two (p, q)) ≡ None) × (all_among (names_of two (p, q)) (names_of two (p, q)) ≡ true)
    go cents cents h = absurd (true≢false h)
    go cents pieces h = (refl, refl)
    go pieces cents h = (refl, refl)
    go pieces pieces h = absurd (true≢false h)

-- the fields of the line of a day
abbrev pub texts_of : (a : Arity) → ℕ → Columns a → List (List ℕ)
texts_of a d x = map shown (day_values a d x)

pub as_many : (a : Arity) (n : Each a Name) (d : ℕ) (x : Columns a) → length (texts_of a d x) ≡ length (names_of a n)
as_many one n d x = refl
as_many two n d x = refl

pub all_figures : (a : Arity) (d : ℕ) (x : Columns a) (at : ℕ) → d < 10 ^ 18 → Small a x → malformed at (texts_of a d x) ≡ None
all_figures one d x at l s = rw (figure_signed (pos d) l, figure_signed x (omega arith)) refl
all_figures two d x at l s = rw (figure_signed (pos d) l, figure_signed x.0 (omega (arith, s.0)), figure_signed x.1 (omega (arith, s.1))) refl

pub day_back : (a : Arity) (n : Each a Name) (d : ℕ) (x : Columns a) → d < 10 ^ 18 → number_under (names_of a n) (texts_of a d x) (letters Day) ≡ pos d
day_back one n d x l = ap number_or_0 (figure_signed (pos d) l)
day_back two n d x l = ap number_or_0 (figure_signed (pos d) l)

pub columns_back : (a : Arity) (n : Each a Name) → twins a n ≡ false → (d : ℕ) (x : Columns a) → Small a x → columns_under a n (names_of a n) (texts_of a d x) ≡ x
columns_back one cents h d x s = ap number_or_0 (figure_signed x (omega arith))
columns_back one pieces h d x s = ap number_or_0 (figure_signed x (omega arith))
columns_back two n h d x s = go n.0 n.1 h
  where
    u : number_or_0 (figure (signed_decimal x.0)) ≡ x.0
    u = ap number_or_0 (figure_signed x.0 (omega (arith, s.0)))

    v : number_or_0 (figure (signed_decimal x.1)) ≡ x.1
    v = ap number_or_0 (figure_signed x.1 (omega (arith, s.1)))

    go : (p q : Name) → eqb (code p) (code q) ≡ false → columns_under two (p, q) (names_of two (p, q)) (texts_of two d x) ≡ x
    go cents cents h = absurd (true≢false h)
    go cents pieces h = λ i. (u i, v i)
    go pieces cents h = λ i. (u i, v i)
    go pieces pieces h = absurd (true≢false h)
