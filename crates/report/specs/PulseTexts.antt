-- The pulse text of a sheet.
use Rattle.std.specs.Prelude.{◌≡◌, ℕ, zero, suc, ◌+◌, ◌-◌, ◌<◌, Bool, cond, List, [], ◌∷◌, ◌++◌, length, Some, None, Ok, Err, Decides, Option, Result, slice_index_or}
use Rattle.std.specs.List.{ContainsAt as Has}
use Rattle.kinds.specs.Kinds.{Kind, Of}
use Rattle.refusals.specs.declared.refusal.Refusal.TheVariants.{OutputTooShort}
use Rattle.refusals.specs.Table.{number}
use Rattle.shelves.specs.Slots.{Entry}
use Rattle.transform.specs.Windows.{Record}
use Rattle.transform.specs.Pulses.{Pulse, pulses}
use Rattle.sheets.specs.declared.sheet.Stop.{Stop}
use Rattle.sheets.specs.declared.sheet.Stop.TheVariants.{Refused, Unreachable}
use Rattle.sheets.specs.Takes.{State}
use Rattle.sheets.specs.History.{Calls, Held, Out, Shows, Strays}
use Rattle.sheets.specs.Standing.{pulse_of}
use Rattle.sheets.specs.Questions.{Unled}
use Rattle.shelves.specs.declared.row.Mark.{Mark}
use Rattle.shelves.specs.declared.row.Mark.TheVariants.{In as marked_in, Out as marked_out}
use Rattle.figures.specs.Headings.{letters}
use Rattle.writing.specs.declared.pulse_text.PulseLine.{PulseLine}
use Rattle.writing.specs.Texts.{pulse_names, pulse_values}
use Rattle.writer.specs.Values.{line, shown}
use Rattle.writer.specs.Written.{pasted, Writes}

-- the state of a pulse: in, or out
abbrev pub state : Bool → Mark
state out = cond out marked_out marked_in

-- the line of pulse number n
abbrev pub pulse_line : (K : Kind) → ℕ → Pulse K → Bool → List ℕ
pulse_line K n p out = line shown (pulse_values K n p.width p.first p.amount (state out))

-- the lines of pulses in order, numbered from n on, of which these are out
unfoldable pub pulse_lines : (K : Kind) → (Pulse K → Bool) → ℕ → List (Pulse K) → List ℕ
pulse_lines K out n [] = []
pulse_lines K out n (p ∷ ps) = pulse_line K n p (out p) ++ pulse_lines K out (suc n) ps

-- the pulse text: the names line, and a line for each pulse
abbrev pub pulse_text : (K : Kind) → (Pulse K → Bool) → List (Pulse K) → List ℕ
pulse_text K out ps = line letters (pulse_names K) ++ pulse_lines K out 1 ps

-- the line of a row, as pulse number n
abbrev pub row_line : (K : Kind) → ℕ → Option Entry → List ℕ
row_line K n None = []
row_line K n (Some e) = pulse_line K n (pulse_of K e) e.out

-- the line of pulse number n, whose row is in slot n - 1
abbrev pub slot_line : (K : Kind) → List (Option Entry) → ℕ → List ℕ
slot_line K slots n = row_line K n (slice_index_or slots (n - 1) None)

-- the lines of the first n pulses
unfoldable pub row_lines : (K : Kind) → ℕ → List (Option Entry) → List ℕ
row_lines K zero slots = []
row_lines K (suc n) slots = row_lines K n slots ++ slot_line K slots (suc n)

-- the pulse text of what a sheet shows
abbrev pub sheet_text : (K : Kind) → State → List ℕ
sheet_text K s = line letters (pulse_names K) ++ row_lines K s.count s.slots

-- a beginning of the bytes due is written from place `at` on, and no more
pub record CutShort (at : ℕ) (bytes before after : List ℕ) : Type 0 where
  pub part : List ℕ
  pub rest : List ℕ
  pub whole : bytes ≡ part ++ rest
  pub written : after ≡ pasted at part before

-- What writing it into a buffer answers: the bytes written, and those past them stay; or 14, exactly
-- where the buffer is too short for them, and it stays as it was; or no list of calls leads here.
abbrev pub TextWritten : (K : Kind) → State → List ℕ → List ℕ → Result ℕ Stop → Type 0
TextWritten K s before after (Ok n) = Writes 0 (sheet_text K s) before after (Some n)
TextWritten K s before after (Err (Refused r)) = (number r ≡ 14) × Writes 0 (sheet_text K s) before after None
TextWritten K s before after (Err Unreachable) = Unled K s

-- what is known of a stop while bytes are written from place `at` on: the one refusal is that the
-- buffer is too short, and where no list of calls leads, the bytes are cut short
abbrev pub Stopped : ℕ → List ℕ → List ℕ → List ℕ → Result ℕ Stop → Type 0
Stopped at bytes before after (Ok n) = Unit {0}
Stopped at bytes before after (Err (Refused r)) = r ≡ OutputTooShort
Stopped at bytes before after (Err Unreachable) = CutShort at bytes before after

-- the text is that of the pulses of the record held after the calls h, on a shelf of so many slots,
-- with the state of each
pub record Tells (K : Kind) (h : Calls K) (capacity : ℕ) (text : List ℕ) : Type 0 where
  pub totals : Record K
  pub held : Held K capacity h totals
  pub out : Pulse K → Bool
  pub told : (p : Pulse K) → Has (pulses K totals) p → Decides (out p) (Out K capacity totals h p)
  pub is : text ≡ pulse_text K out (pulses K totals)

-- what the text is to the history of the sheet, and an answer that borrows no number never occurs
abbrev pub TextTold : (K : Kind) → State → Result ℕ Stop → Type 0
TextTold K s r = (h : Calls K) → Shows K h s → Tells K h (length s.slots) (sheet_text K s) × (Strays r → ⊥)

-- what is left of a room behind so many bytes of the text, or 14 where it is too small
abbrev pub RoomLeft : (K : Kind) → State → ℕ → ℕ → Result ℕ Stop → Type 0
RoomLeft K s bytes room (Ok left) = room ≡ bytes + left
RoomLeft K s bytes room (Err (Refused r)) = (number r ≡ 14) × (room < bytes)
RoomLeft K s bytes room (Err Unreachable) = Unled K s

-- a part of the text that has room, written from place `at` on; the answer is the place behind it
abbrev pub PartWritten : (K : Kind) → State → ℕ → List ℕ → List ℕ → List ℕ → Result ℕ Stop → Type 0
PartWritten K s at bytes before after (Ok end) = (after ≡ pasted at bytes before) × (end ≡ at + length bytes)
PartWritten K s at bytes before after (Err (Refused r)) = ⊥
PartWritten K s at bytes before after (Err Unreachable) = Unled K s

-- the line of a pulse as it is handed to the writer: it is the line of its row, or no list of calls
-- leads here
abbrev pub LineGiven : {V : Type 0} (K : Kind) (columns : V → Of K) → State → ℕ → Result (PulseLine V) Stop → Type 0
LineGiven K columns s n (Ok l) =
    slot_line K s.slots n ≡ line shown (pulse_values K l.number l.width l.first (columns l.amount) l.state)
LineGiven K columns s n (Err (Refused r)) = ⊥
LineGiven K columns s n (Err Unreachable) = Unled K s
