-- Trace texts: what reading one answers, for every text.
use Rattle.std.specs.Prelude.{◌≡◌, ℕ, ◌+◌, ◌≤◌, Bool, true, false, cond, not, ◌&&◌, ◌||◌, List, [], ◌∷◌, ◌++◌, map, length, take, drop, ℤ, pos, negsuc, is_some, Some, None, Ok, Err, Option, Result, ◌==◌, nat_lt}
use Rattle.std.specs.Str.{bytes_eq}
use Rattle.kinds.specs.Columns.{Arity, one, two, Each, Columns, within}
use Rattle.kinds.specs.declared.name.Name.{Name}
use Rattle.kinds.specs.Kinds.{Kind, Of}
use Rattle.figures.specs.declared.heading.Heading.{Heading}
use Rattle.figures.specs.declared.heading.Heading.TheVariants.{Day}
use Rattle.refusals.specs.declared.fault.FileFault.{FileFault}
use Rattle.refusals.specs.declared.fault.LineFault.{LineFault}
use Rattle.refusals.specs.Faults.{Finding, line_found, found, OnLine, InReading}
use Rattle.figures.specs.Figures.{figure}
use Rattle.figures.specs.Headings.{letters, first, second, heading, heading_if, twins, column_headings}
use Rattle.reading.specs.Parts.{lines, fields, under, start_under}

abbrev pub refuse : {X : Type 0} → ℕ → ℕ → ℕ → Result X Finding
refuse number line byte = Err (record { number = number; line = line; byte = byte })

-- the text is one of the list
abbrev pub among : List ℕ → List (List ℕ) → Bool
among n [] = false
among n (m ∷ ms) = bytes_eq n m || among n ms

-- every one of these is among those
abbrev pub all_among : List (List ℕ) → List (List ℕ) → Bool
all_among [] ms = true
all_among (n ∷ ns) ms = among n ms && all_among ns ms

-- the names of a trace text
abbrev pub trace_names : (K : Kind) → List (List ℕ)
trace_names K = letters Day ∷ map letters (column_headings K.arity K.names)

-- the byte of the leftmost of these names that is unknown, or not the first of its name in the line
abbrev pub bad_name : List (List ℕ) → List (List ℕ) → ℕ → List (List ℕ) → Option ℕ
bad_name known line at [] = None
bad_name known line at (n ∷ ns) =
    cond (among n known && start_under 0 line line n == at) (bad_name known line (at + length n + 1) ns) (Some at)

-- the byte of the leftmost value that is no figure
abbrev pub malformed : ℕ → List (List ℕ) → Option ℕ
malformed at [] = None
malformed at (v ∷ vs) = cond (is_some (figure v)) (malformed (at + length v + 1) vs) (Some at)

-- the number that stands under a name
abbrev pub number_or_0 : Option ℤ → ℤ
number_or_0 None = pos 0
number_or_0 (Some z) = z

abbrev pub number_of : Option (List ℕ) → ℤ
number_of None = pos 0
number_of (Some bs) = number_or_0 (figure bs)

abbrev pub number_under : List (List ℕ) → List (List ℕ) → List ℕ → ℤ
number_under names values name = number_of (under names values name)

-- the number of the day
abbrev pub is_day : ℕ → ℤ → Bool
is_day day (pos n) = n == day
is_day day (negsuc n) = false

abbrev pub number_if : List (List ℕ) → List (List ℕ) → Option Heading → ℤ
number_if names values None = pos 0
number_if names values (Some h) = number_under names values (letters h)

-- columns with these numbers, of which a kind of one column has only the first
abbrev pub filled : (a : Arity) → ℤ → ℤ → Columns a
filled one x y = x
filled two x y = (x, y)

abbrev pub columns_under : (a : Arity) → Each a Name → List (List ℕ) → List (List ℕ) → Columns a
columns_under a n names values =
    filled a (number_under names values (letters (heading (first a n)))) (number_if names values (heading_if (second a n)))

-- the total of these columns, or a refusal: it may not be entered, or the kind has no such value
abbrev pub entered : (K : Kind) → Of K → Result (Of K) Finding → Result (Of K) Finding
entered K x refusal = cond (K.has x && within K.arity K.bound x) (Ok x) refusal

-- a refusal at a byte, if there is one, before all else
abbrev pub unless_at : {X : Type 0} → ℕ → ℕ → Option ℕ → Result X Finding → Result X Finding
unless_at number line None r = r
unless_at number line (Some byte) r = refuse number line byte

-- the checks of the line of a day, which starts at byte `at`; the line's number is the day's and 1
abbrev pub check_line : List (List ℕ) → ℕ → ℕ → List (List ℕ) → Result (Unit {0}) Finding
check_line names day at values =
    cond (length values == length names)
    (unless_at 11 (day + 1) (malformed at values)
    (cond (is_day day (number_under names values (letters Day)))
    (cond (nat_lt 1000 day) (refuse 1 (day + 1) at) (Ok tt))
    (refuse 13 (day + 1) (start_under at names values (letters Day)))))
    (refuse 12 (day + 1) at)

-- one answer and then another, or the first refusal
abbrev pub then : {X Y E : Type 0} → Result X E → Result Y E → Result Y E
then (Ok x) r = r
then (Err e) r = Err e

-- the total on the line of a day
abbrev pub read_line : (K : Kind) → List (List ℕ) → ℕ → ℕ → List (List ℕ) → Result (Of K) Finding
read_line K names day at values =
    then (check_line names day at values)
    (entered K (columns_under K.arity K.names names values) (refuse 2 (day + 1) at))

abbrev pub told : {X Y E F : Type 0} → (X → Y) → (E → F) → Result X E → Result Y F
told f g (Ok x) = Ok (f x)
told f g (Err e) = Err (g e)

-- the fault of an answer, if there is one, is that of a line that was read
abbrev pub Placed : {X : Type 0} → Result X LineFault → Type 0
Placed (Ok x) = Unit {0}
Placed (Err fault) = OnLine fault

abbrev pub none : {X : Type 0} → List X → Bool
none [] = true
none (x ∷ xs) = false

abbrev pub push : {X E : Type 0} → Result X E → Result (List X) E → Result (List X) E
push (Ok x) (Ok xs) = Ok (x ∷ xs)
push (Ok x) (Err e) = Err e
push (Err e) r = Err e

-- the totals on the lines of the days from `day` on, of which the first starts at byte `at`; what
-- stands after the last line feed has to be nothing
abbrev pub read_lines : (K : Kind) → List (List ℕ) → ℕ → ℕ → List (List ℕ) → Result (List (Of K)) Finding
read_lines K names day at [] = Ok []
read_lines K names day at (line ∷ rest) =
    cond (none rest) (cond (none line) (Ok []) (refuse 12 (day + 1) at))
    (push (read_line K names day at (fields line)) (read_lines K names (day + 1) (at + (length line + 1)) rest))

-- the names line
abbrev pub check_names : (K : Kind) → List ℕ → Bool → Result (Unit {0}) Finding
check_names K names ended =
    unless_at 10 1 (bad_name (trace_names K) (fields names) 0 (fields names))
    (cond (ended && all_among (trace_names K) (fields names)) (Ok tt) (refuse 10 1 (length names)))

abbrev pub read_all : (K : Kind) → List (List ℕ) → Result (List (Of K)) Finding
read_all K [] = Ok []
read_all K (names ∷ rest) =
    then (check_names K names (not (none rest))) (read_lines K (fields names) 1 (length names + 1) rest)

abbrev pub within_room : {X : Type 0} → ℕ → Result (List X) Finding → Result (List X) Finding
within_room room (Ok xs) = cond (nat_lt room (length xs)) (refuse 8 0 0) (Ok xs)
within_room room (Err e) = Err e

-- what reading a text as totals of a kind answers, into a list with this room: the record, or a refusal
abbrev pub read_text : (K : Kind) → ℕ → List ℕ → Result (List (Of K)) Finding
read_text K room text =
    cond (twins K.arity K.names) (refuse 10 0 0)
    (cond (nat_lt 40000 (length text)) (refuse 9 0 0) (within_room room (read_all K (lines text))))

-- the fault of an answer, if there is one, is that of reading
abbrev pub OfReading : {X : Type 0} → Result X FileFault → Type 0
OfReading (Ok x) = Unit {0}
OfReading (Err fault) = InReading fault

-- what a reading leaves in the caller's list: the record's totals and what stood behind them, or all as it was
abbrev pub Reads : {V : Type 0} (K : Kind) → (V → Of K) → List V → List V → Result (List (Of K)) Finding → Result ℕ FileFault → Type 0
Reads K columns before after reading (Ok days) =
    (reading ≡ Ok (map columns (take days after))) × (days ≤ length after) × (drop days after ≡ drop days before)
Reads K columns before after reading (Err fault) = (reading ≡ Err (found fault)) × (after ≡ before)

-- the same of lines that are read into a list as far as it goes
abbrev pub onto : {X E : Type 0} → List X → Result (List X) E → Result (List X) E
onto done (Ok xs) = Ok (done ++ xs)
onto done (Err e) = Err e

pub record LinesRead {V : Type 0} (K : Kind) (columns : V → Of K) (before after : List V) (reading : Result (List (Of K)) Finding) (days : ℕ) : Type 0 where
  pub totals : List (Of K)
  pub are : reading ≡ Ok totals
  pub count : length totals ≡ days
  pub kept : days ≤ length after → map columns (take days after) ≡ totals
  pub rest : drop days after ≡ drop days before

abbrev pub ReadsLines : {V : Type 0} (K : Kind) → (V → Of K) → List V → List V → Result (List (Of K)) Finding → Result ℕ LineFault → Type 0
ReadsLines K columns before after reading (Ok days) = LinesRead K columns before after reading days
ReadsLines K columns before after reading (Err fault) = reading ≡ Err (line_found fault)

-- in the midst of the lines
pub record Midway {V : Type 0} (K : Kind) (columns : V → Of K) (before after : List V) (reading ahead : Result (List (Of K)) Finding) (days : ℕ) : Type 0 where
  pub totals : List (Of K)
  pub are : reading ≡ onto totals ahead
  pub count : length totals ≡ days
  pub kept : days ≤ length after → map columns (take days after) ≡ totals
  pub rest : drop days after ≡ drop days before

-- how many there are
abbrev pub counted : {X E : Type 0} → Result (List X) E → Result ℕ E
counted (Ok xs) = Ok (length xs)
counted (Err e) = Err e

-- a text split behind its names line, or the fault of that line
abbrev pub NamesSplit : (K : Kind) → List ℕ → Result (List ℕ × List ℕ) Finding → Type 0
NamesSplit K text (Ok p) =
    (read_all K (lines text) ≡ read_lines K (fields p.0) 1 (length p.0 + 1) (lines p.1))
    × (length text ≡ length p.0 + 1 + length p.1)
NamesSplit K text (Err e) = read_all K (lines text) ≡ Err e
