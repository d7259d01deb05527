-- The report on a text: the pulses of its record, or why it was refused.
use Rattle.std.specs.Prelude.{◌≡◌, ℕ, ◌≤◌, Bool, false, cond, ◌⊎◌, List, ◌∷◌, length, take, Some, None, Ok, Err, Result, ◌≢◌}
use Rattle.kinds.specs.Kinds.{Kind}
use Rattle.kinds.specs.Wholes.{paper, mobile}
use Rattle.refusals.specs.declared.refusal.Refusal.{Refusal}
use Rattle.refusals.specs.declared.refusal.Refusal.TheVariants.{OutputTooShort}
use Rattle.refusals.specs.Table.{number}
use Rattle.transform.specs.Windows.{Record}
use Rattle.transform.specs.Pulses.{pulses}
use Rattle.sheets.specs.declared.sheet.Stop.{Stop}
use Rattle.sheets.specs.declared.sheet.Stop.TheVariants.{Refused, Unreachable}
use Rattle.splitting.specs.Records.{Ground}
use Rattle.sheets.specs.Takes.{State, Taken}
use Rattle.sheets.specs.Calls.{taking}
use Rattle.sheets.specs.History.{Calls, Shows}
use Rattle.refusals.specs.declared.fault.FileFault.{FileFault}
use Rattle.refusals.specs.declared.fault.FileFault.TheVariants.{Reading, ReadingWhole, Taking, Writing}
use Rattle.figures.specs.declared.heading.Heading.TheVariants.{Pieces}
use Rattle.refusals.specs.Faults.{Finding, found, refusal_of, place_of, InReading}
use Rattle.figures.specs.Headings.{letters}
use Rattle.reading.specs.Parts.{reach, fields}
use Rattle.writing.specs.Texts.{refusal_text}
use Rattle.reading.specs.Traces.{among, read_text}
use Rattle.writer.specs.Written.{Writes}
use Rattle.report.specs.PulseTexts.{pulse_text}

-- the first line of a text, ended or not
abbrev pub first_line : List ℕ → List ℕ
first_line text = take (reach 10 text) text

-- a name in it is `pieces`
abbrev pub names_pieces : List ℕ → Bool
names_pieces text = among (letters Pieces) (fields (first_line text))

-- what a reading comes to: the pulse text of the record, with every pulse in, or the text of the refusal
abbrev pub told : (K : Kind) → Result (Record K) Finding → List ℕ
told K (Ok xs) = pulse_text K (λ p. false) (pulses K xs)
told K (Err f) = refusal_text f.number (record { line = f.line; byte = f.byte })

-- the report on a text of totals of a kind, of at most 1,000 days
unfoldable pub report_as : (K : Kind) → List ℕ → List ℕ
report_as K text = told K (read_text K 1000 text)

-- mobile totals where a name in the first line is `pieces`, else paper totals
unfoldable pub report_of : List ℕ → List ℕ
report_of text = cond (names_pieces text) (report_as mobile text) (report_as paper text)

-- What a report answers: the bytes written, and those past them stay; or 14, exactly where the
-- buffer is too short for the bytes due, and it stays as it was.
abbrev pub Reported : List ℕ → List ℕ → List ℕ → Result ℕ Refusal → Type 0
Reported bytes before after (Ok n) = Writes 0 bytes before after (Some n)
Reported bytes before after (Err r) = (number r ≡ 14) × Writes 0 bytes before after None

-- the one refusal of a report is that the buffer is too short
abbrev pub ShortAlone : Result ℕ Refusal → Type 0
ShortAlone (Ok n) = Unit {0}
ShortAlone (Err r) = r ≡ OutputTooShort

-- the bytes of the longest report
abbrev pub most_bytes : ℕ
most_bytes = 65536

-- no report is longer
abbrev pub ReportsFit : Type 0
ReportsFit = (text : List ℕ) → length (report_of text) ≤ most_bytes

-- the refusal by which a call of a sheet was stopped
abbrev pub refusal_in : Stop → Refusal
refusal_in (Refused r) = r
refusal_in Unreachable = OutputTooShort

-- What a take of a record that was read comes to, from one state of a sheet to the next: the pulses
-- are laid, and the history goes on; or it is refused on its ground.
abbrev pub RecordTaken : (K : Kind) → Record K → ℕ → State → State → Result ℕ Refusal → Type 0
RecordTaken K xs entries before after (Ok n) =
    Taken K xs before after × ((h : Calls K) → Shows K h before → Shows K (taking xs entries ∷ h) after)
RecordTaken K xs entries before after (Err r) = Ground K xs entries (length before.slots) r

-- What comes of a record that is split and written: the text of its pulses is written; or it is
-- refused in taking, on the refusal's ground; or in writing, where the buffer is too short for the text.
abbrev pub SplitWritten : (K : Kind) → Record K → ℕ → ℕ → List ℕ → List ℕ → Result ℕ FileFault → Type 0
SplitWritten K xs entries capacity before after (Ok n) = Writes 0 (pulse_text K (λ p. false) (pulses K xs)) before after (Some n)
SplitWritten K xs entries capacity before after (Err (Taking r)) = Ground K xs entries capacity r × (after ≡ before)
SplitWritten K xs entries capacity before after (Err (Writing r)) =
    (r ≡ OutputTooShort) × Writes 0 (pulse_text K (λ p. false) (pulses K xs)) before after None
SplitWritten K xs entries capacity before after (Err (Reading fault)) = ⊥
SplitWritten K xs entries capacity before after (Err (ReadingWhole r)) = ⊥

-- What comes of a text of totals of a kind before a refusal is told: its pulses are written, or the
-- buffer is too short for them, or the text was not read.
abbrev pub PulsesWritten : (K : Kind) → List ℕ → List ℕ → List ℕ → Result ℕ FileFault → Type 0
PulsesWritten K text before after (Ok n) = Writes 0 (report_as K text) before after (Some n)
PulsesWritten K text before after (Err fault) =
    ((number (refusal_of fault) ≡ 14) × Writes 0 (report_as K text) before after None) ⊎
    ((after ≡ before) × (read_text K 1000 text ≡ Err (found fault)))

-- a fault before a refusal is told is that of a buffer too short, or one of reading
abbrev pub OfReport : Result ℕ FileFault → Type 0
OfReport (Ok n) = Unit {0}
OfReport (Err fault) = (fault ≡ Writing OutputTooShort) ⊎ InReading fault

-- a fault told as a text, unless it is that of the buffer
abbrev pub FaultTold : FileFault → List ℕ → List ℕ → Result ℕ Refusal → Type 0
FaultTold fault before after r =
    (number (refusal_of fault) ≡ 14 → (after ≡ before) × (r ≡ Err (refusal_of fault))) ×
    ((number (refusal_of fault) ≢ 14) → Reported (refusal_text (number (refusal_of fault)) (place_of fault)) before after r)

abbrev pub Told : Result ℕ FileFault → List ℕ → List ℕ → Result ℕ Refusal → Type 0
Told (Ok n) before after r = (after ≡ before) × (r ≡ Ok n)
Told (Err fault) before after r = FaultTold fault before after r
