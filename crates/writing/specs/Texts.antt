-- What is written: trace texts, pulse texts and the text of a refusal.
use Rattle.std.specs.Prelude.{◌≡◌, ℕ, ◌+◌, ◌≤◌, cond, List, [], ◌∷◌, ◌++◌, map, length, take, drop, ℤ, Some, None, Ok, Err, Option, Result, nat_lt}
use Rattle.kinds.specs.Entries.{not_entered}
use Rattle.kinds.specs.Kinds.{Kind, Of}
use Rattle.refusals.specs.declared.refusal.Refusal.{Refusal as Refused}
use Rattle.refusals.specs.declared.refusal.Refusal.TheVariants.{WrongNames, TooManyDays, MayNotEnter, OutputTooShort}
use Rattle.refusals.specs.declared.refusal.Place.{Place}
use Rattle.figures.specs.declared.heading.Heading.{Heading}
use Rattle.figures.specs.declared.heading.Heading.TheVariants.{Day, Pulse, Width, First, State, Refusal, Line, Byte}
use Rattle.shelves.specs.declared.row.Mark.{Mark}
use Rattle.writer.specs.declared.value.Value.{Value}
use Rattle.writer.specs.declared.value.Value.TheVariants.{Count, Amount, Word as word}
use Rattle.figures.specs.Headings.{letters, first, second, if_any, twins, column_headings}
use Rattle.writer.specs.Values.{shown, line}

-- the names line
unfoldable pub pulse_names : (K : Kind) → List Heading
pulse_names K = Pulse ∷ (Width ∷ (First ∷ (column_headings K.arity K.names ++ State ∷ [])))

-- the columns of a total, in kind order
abbrev pub column_list : (K : Kind) → Of K → List ℤ
column_list K x = first K.arity x ∷ if_any (second K.arity x)

-- the line of a pulse: its number, width, first day, amount and state
unfoldable pub pulse_values : (K : Kind) → ℕ → ℕ → ℕ → Of K → Mark → List Value
pulse_values K pulse width day amount state =
    Count pulse ∷ (Count width ∷ (Count day ∷ (map Amount (column_list K amount) ++ word state ∷ [])))

-- the text of a refusal
unfoldable pub refusal_names : List Heading
refusal_names = Refusal ∷ (Line ∷ (Byte ∷ []))

unfoldable pub refusal_values : ℕ → Place → List Value
refusal_values number place = Count number ∷ (Count place.line ∷ (Count place.byte ∷ []))

abbrev pub refusal_text : ℕ → Place → List ℕ
refusal_text number place = line letters refusal_names ++ line shown (refusal_values number place)

-- a trace text: the names line, and the line of each day
unfoldable pub trace_headings : (K : Kind) → List Heading
trace_headings K = Day ∷ column_headings K.arity K.names

unfoldable pub trace_values : (K : Kind) → ℕ → Of K → List Value
trace_values K day total = Count day ∷ map Amount (column_list K total)

abbrev pub trace_lines : (K : Kind) → ℕ → List (Of K) → List ℕ
trace_lines K day [] = []
trace_lines K day (x ∷ xs) = line shown (trace_values K day x) ++ trace_lines K (day + 1) xs

abbrev pub trace_text : (K : Kind) → List (Of K) → List ℕ
trace_text K xs = line letters (trace_headings K) ++ trace_lines K 1 xs

abbrev pub unless_day : {X : Type 0} → Option ℕ → Result X Refused → Result X Refused
unless_day None r = r
unless_day (Some day) r = Err (MayNotEnter day)

abbrev pub in_room : ℕ → List ℕ → Result (List ℕ) Refused
in_room room text = cond (nat_lt room (length text)) (Err OutputTooShort) (Ok text)

-- what writing a record into so many bytes answers: the text, or a refusal
abbrev pub write_record : (K : Kind) → ℕ → List (Of K) → Result (List ℕ) Refused
write_record K room xs =
    cond (twins K.arity K.names) (Err WrongNames)
    (cond (nat_lt 1000 (length xs)) (Err TooManyDays)
    (unless_day (not_entered K 1 xs)
    (in_room room (trace_text K xs))))

-- what a writing leaves in the buffer: the text and what stood behind it, or all as it was
abbrev pub WritesRecord : List ℕ → List ℕ → Result (List ℕ) Refused → Result ℕ Refused → Type 0
WritesRecord before after writing (Ok bytes) =
    (writing ≡ Ok (take bytes after)) × (bytes ≤ length after) × (drop bytes after ≡ drop bytes before)
WritesRecord before after writing (Err refusal) = (writing ≡ Err refusal) × (after ≡ before)
