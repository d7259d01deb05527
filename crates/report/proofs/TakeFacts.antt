-- A record that was read is taken, and the text of its sheet is that of its pulses.
use Rattle.std.proofs.Common.{◌≡◌, ℕ, zero, suc, ◌+◌, ◌<◌, ◌≤◌, true, false, List, ◌++◌, map, length, get_or, drop, Some, None, Option, ap, ◌∙◌, arith}
use Rattle.std.specs.List.{AllByRecursion}
use Rattle.std.proofs.lemmas.List.{get_or_append_left, get_or-map, length-map}
use Rattle.std.proofs.ByRecursion.{All-get_or}
use Rattle.std.proofs.lemmas.Bool.{both_ways}
use Rattle.kinds.specs.Columns.{within, nought}
use Rattle.kinds.specs.Kinds.{Kind}
use Rattle.refusals.specs.declared.refusal.Refusal.TheVariants.{TooManyDays, MayNotEnter, WorkTooShort, ShelfTooSmall, WidthsOutOfRange, NoSuchPulse, NoSuchDay, ListTooShort, TextTooLong, WrongNames, MalformedFigure, WrongFields, DayOutOfTurn, OutputTooShort}
use Rattle.shelves.specs.Slots.{Entry}
use Rattle.transform.specs.Windows.{Record, trace}
use Rattle.transform.specs.Pulses.{Pulse, pulses}
use Rattle.splitting.specs.Records.{row_of, laid, Accepted}
use Rattle.sheets.specs.Takes.{State, Taken}
use Rattle.sheets.specs.History.{row}
use Rattle.figures.specs.Headings.{letters}
use Rattle.writing.specs.Texts.{pulse_names}
use Rattle.writer.specs.Values.{line}
use Rattle.report.specs.PulseTexts.{pulse_text, row_lines, sheet_text}
use Rattle.report.proofs.TextFacts.{all_lines}

may_enter : (K : Kind) (xs : Record K) → AllByRecursion (λ x. within K.arity K.bound x ≡ true) xs → (day : ℕ) → 1 ≤ day → day ≤ length xs → within K.arity K.bound (trace K xs day) ≡ true
unfolding trace
may_enter K xs w zero l h = absurd (omega arith)
may_enter K xs w (suc d) l h = All-get_or (λ x. within K.arity K.bound x ≡ true) xs d (nought K.arity) (omega arith) w

pub accepted : (K : Kind) (xs : Record K) (entries capacity : ℕ) → length xs ≤ 1000 → AllByRecursion (λ x. within K.arity K.bound x ≡ true) xs → length xs + 2 ≤ entries → length xs ≤ capacity → Accepted K xs entries capacity
accepted K xs entries capacity n w e c TooManyDays g = omega arith
accepted K xs entries capacity n w e c (MayNotEnter day) g = both_ways _ g.barred (may_enter K xs w day g.starts g.ends)
accepted K xs entries capacity n w e c WorkTooShort g = omega arith
accepted K xs entries capacity n w e c ShelfTooSmall g = omega arith
accepted K xs entries capacity n w e c WidthsOutOfRange g = g
accepted K xs entries capacity n w e c NoSuchPulse g = g
accepted K xs entries capacity n w e c NoSuchDay g = g
accepted K xs entries capacity n w e c ListTooShort g = g
accepted K xs entries capacity n w e c TextTooLong g = g
accepted K xs entries capacity n w e c WrongNames g = g
accepted K xs entries capacity n w e c MalformedFigure g = g
accepted K xs entries capacity n w e c WrongFields g = g
accepted K xs entries capacity n w e c DayOutOfTurn g = g
accepted K xs entries capacity n w e c OutputTooShort g = g

laid_rows : {K : Kind} (ps : List (Pulse K)) (slots : List (Option Entry)) (k : ℕ) (d : Pulse K) → k < length ps → get_or (laid ps slots) k None ≡ Some (row (get_or ps k d) false)
laid_rows {K} ps slots k d h =
    get_or_append_left (map row_of ps) (drop (length ps) slots) None k (let l = length-map ps (row_of {K = K}) in omega arith)
    ∙ get_or-map row_of ps k d None h

pub taken_text : (K : Kind) (xs : Record K) (before after : State) → Taken K xs before after → sheet_text K after ≡ pulse_text K (λ p. false) (pulses K xs)
taken_text K xs before after T =
    ap (λ bs. line letters (pulse_names K) ++ bs)
    (ap (λ n. row_lines K n after.slots) T.count
    ∙ ap (row_lines K (length (pulses K xs))) T.slots
    ∙ all_lines K (laid (pulses K xs) before.slots) (λ p. false) (pulses K xs) (laid_rows (pulses K xs) before.slots))
