-- The one refusal that has the number 14.
use Rattle.std.proofs.Common.{◌≡◌, refl, arith}
use Rattle.refusals.specs.declared.refusal.Refusal.{Refusal}
use Rattle.refusals.specs.declared.refusal.Refusal.TheVariants.{TooManyDays, MayNotEnter, WorkTooShort, ShelfTooSmall, WidthsOutOfRange, NoSuchPulse, NoSuchDay, ListTooShort, TextTooLong, WrongNames, MalformedFigure, WrongFields, DayOutOfTurn, OutputTooShort}
use Rattle.refusals.specs.Table.{number}

pub only_14 : (r : Refusal) → number r ≡ 14 → r ≡ OutputTooShort
only_14 TooManyDays e = absurd (omega arith)
only_14 (MayNotEnter day) e = absurd (omega arith)
only_14 WorkTooShort e = absurd (omega arith)
only_14 ShelfTooSmall e = absurd (omega arith)
only_14 WidthsOutOfRange e = absurd (omega arith)
only_14 NoSuchPulse e = absurd (omega arith)
only_14 NoSuchDay e = absurd (omega arith)
only_14 ListTooShort e = absurd (omega arith)
only_14 TextTooLong e = absurd (omega arith)
only_14 WrongNames e = absurd (omega arith)
only_14 MalformedFigure e = absurd (omega arith)
only_14 WrongFields e = absurd (omega arith)
only_14 DayOutOfTurn e = absurd (omega arith)
only_14 OutputTooShort e = refl
