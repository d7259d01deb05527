-- A fault of reading, made again from what it reports.
use Rattle.std.proofs.Common.{◌≡◌, ℕ, ◌-◌, cond, eqb, sym, refl, ap, ◌∙◌, arith}
use Rattle.std.proofs.lemmas.Bool.{ne_eqb}
use Rattle.refusals.specs.declared.refusal.Refusal.{Refusal}
use Rattle.refusals.specs.declared.refusal.Refusal.TheVariants.{TooManyDays, MayNotEnter, WorkTooShort, ShelfTooSmall, WidthsOutOfRange, NoSuchPulse, NoSuchDay, ListTooShort, TextTooLong, WrongNames, MalformedFigure, WrongFields, DayOutOfTurn, OutputTooShort}
use Rattle.refusals.specs.declared.fault.FieldFault.TheVariants.{BadName, BadFigure, BadDay}
use Rattle.refusals.specs.declared.fault.LineFault.{LineFault}
use Rattle.refusals.specs.declared.fault.LineFault.TheVariants.{InField, BadCount, BeyondDays, BadTotal}
use Rattle.refusals.specs.declared.fault.FileFault.{FileFault}
use Rattle.refusals.specs.declared.fault.FileFault.TheVariants.{Reading, ReadingWhole, Taking, Writing}
use Rattle.refusals.specs.Faults.{Finding, found, InReading, ToldApart}

abbrev whole : ℕ → Refusal
whole n =
    cond (eqb n 1) TooManyDays
    (cond (eqb n 2) (MayNotEnter 0)
    (cond (eqb n 3) WorkTooShort
    (cond (eqb n 4) ShelfTooSmall
    (cond (eqb n 5) WidthsOutOfRange
    (cond (eqb n 6) NoSuchPulse
    (cond (eqb n 7) NoSuchDay
    (cond (eqb n 8) ListTooShort
    (cond (eqb n 9) TextTooLong
    (cond (eqb n 10) WrongNames
    (cond (eqb n 11) MalformedFigure
    (cond (eqb n 12) WrongFields
    (cond (eqb n 13) DayOutOfTurn
    OutputTooShort))))))))))))

abbrev of_line : ℕ → ℕ → ℕ → LineFault
of_line n line byte =
    cond (eqb n 10) (InField line (BadName byte))
    (cond (eqb n 11) (InField line (BadFigure byte))
    (cond (eqb n 13) (InField line (BadDay byte))
    (cond (eqb n 12) (BadCount line byte)
    (cond (eqb n 1) (BeyondDays line byte)
    (BadTotal line byte (line - 1))))))

abbrev again : Finding → FileFault
again f = cond (eqb f.line 0) (ReadingWhole (whole f.number)) (Reading (of_line f.number f.line f.byte))

undone : (f : FileFault) → InReading f → f ≡ again (found f)
undone (Reading (InField line (BadName byte))) h = rw (ne_eqb line 0 (omega arith)) refl
undone (Reading (InField line (BadFigure byte))) h = rw (ne_eqb line 0 (omega arith)) refl
undone (Reading (InField line (BadDay byte))) h = rw (ne_eqb line 0 (omega arith)) refl
undone (Reading (BadCount line byte)) h = rw (ne_eqb line 0 (omega arith)) refl
undone (Reading (BeyondDays line byte)) h = rw (ne_eqb line 0 (omega arith)) refl
undone (Reading (BadTotal line byte day)) h =
    let d : day ≡ line - 1 = omega arith in
    rw (ne_eqb line 0 (omega arith)) (ap (λ x. Reading (BadTotal line byte x)) d)
undone (ReadingWhole TooManyDays) h = refl
undone (ReadingWhole (MayNotEnter day)) h = ap (λ d. ReadingWhole (MayNotEnter d)) h
undone (ReadingWhole WorkTooShort) h = refl
undone (ReadingWhole ShelfTooSmall) h = refl
undone (ReadingWhole WidthsOutOfRange) h = refl
undone (ReadingWhole NoSuchPulse) h = refl
undone (ReadingWhole NoSuchDay) h = refl
undone (ReadingWhole ListTooShort) h = refl
undone (ReadingWhole TextTooLong) h = refl
undone (ReadingWhole WrongNames) h = refl
undone (ReadingWhole MalformedFigure) h = refl
undone (ReadingWhole WrongFields) h = refl
undone (ReadingWhole DayOutOfTurn) h = refl
undone (ReadingWhole OutputTooShort) h = refl
undone (Taking refusal) h = absurd h
undone (Writing refusal) h = absurd h

pub told_apart : ToldApart
told_apart f g h k e = undone f h ∙ (ap again e ∙ sym (undone g k))
