-- The numbers of the refusals, and the day that one of them names.
use Rattle.std.specs.Prelude.{ℕ}
use Rattle.refusals.specs.declared.refusal.Refusal.{Refusal}
use Rattle.refusals.specs.declared.refusal.Refusal.TheVariants.{TooManyDays, MayNotEnter, WorkTooShort, ShelfTooSmall, WidthsOutOfRange, NoSuchPulse, NoSuchDay, ListTooShort, TextTooLong, WrongNames, MalformedFigure, WrongFields, DayOutOfTurn, OutputTooShort}

abbrev pub number : Refusal → ℕ
number TooManyDays = 1
number (MayNotEnter day) = 2
number WorkTooShort = 3
number ShelfTooSmall = 4
number WidthsOutOfRange = 5
number NoSuchPulse = 6
number NoSuchDay = 7
number ListTooShort = 8
number TextTooLong = 9
number WrongNames = 10
number MalformedFigure = 11
number WrongFields = 12
number DayOutOfTurn = 13
number OutputTooShort = 14

-- the day named, counted from 1; 0 where there is none
abbrev pub day : Refusal → ℕ
day TooManyDays = 0
day (MayNotEnter d) = d
day WorkTooShort = 0
day ShelfTooSmall = 0
day WidthsOutOfRange = 0
day NoSuchPulse = 0
day NoSuchDay = 0
day ListTooShort = 0
day TextTooLong = 0
day WrongNames = 0
day MalformedFigure = 0
day WrongFields = 0
day DayOutOfTurn = 0
day OutputTooShort = 0
