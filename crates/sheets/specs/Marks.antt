-- What remove, restore, remove one and restore one answer, and what they leave in every slot.
use Rattle.std.specs.Prelude.{◌≡◌, ℕ, zero, suc, ◌+◌, ◌<◌, ◌≤◌, Bool, true, false, cond, ◌&&◌, List, length, get_or, Some, None, Ok, Err, Option, Result, ◌==◌, ◌≢◌, nat_le, slice_index_or}
use Rattle.kinds.specs.Kinds.{Kind}
use Rattle.shelves.specs.Slots.{Entry, is_out}
use Rattle.sheets.specs.declared.sheet.Stop.{Stop}
use Rattle.sheets.specs.declared.sheet.Stop.TheVariants.{Refused, Unreachable}
use Rattle.sheets.specs.Takes.{State}
use Rattle.sheets.specs.Calls.{Call, taking, marking, marking_one, Grounds, Allowed}

-- the call looks at slot k
abbrev pub looks : {K : Kind} → Call K → ℕ → Bool
looks (taking xs entries) k = false
looks (marking m low high) k = true
looks (marking_one m n) k = n == suc k

-- the call names the row in slot k
abbrev pub named : {K : Kind} → Call K → ℕ → Entry → Bool
named (taking xs entries) k e = false
named (marking m low high) k e = nat_le low e.width && nat_le e.width high
named (marking_one m n) k e = n == suc k

-- the mark that the call sets is out
abbrev pub outward : {K : Kind} → Call K → Bool
outward (taking xs entries) = false
outward (marking m low high) = is_out m
outward (marking_one m n) = is_out m

-- the row with this mark
abbrev pub remarked : Bool → Entry → Entry
remarked out e = record { first = e.first; width = e.width; out = out; columns = e.columns }

-- what slot k holds once the call has marked it
abbrev pub marked : {K : Kind} → Call K → ℕ → Option Entry → Option Entry
marked c k None = None
marked c k (Some e) = Some (cond (named c k e) (remarked (outward c) e) e)

-- 1 where that changes the mark in slot k, else 0
abbrev pub change : {K : Kind} → Call K → ℕ → Option Entry → ℕ
change c k None = 0
change c k (Some e) = cond (named c k e) (cond e.out (cond (outward c) 0 1) (cond (outward c) 1 0)) 0

-- how many marks change in the first n slots
unfoldable pub marks_changed : {K : Kind} → Call K → ℕ → List (Option Entry) → ℕ
marks_changed c zero slots = 0
marks_changed c (suc n) slots = marks_changed c n slots + change c n (slice_index_or slots n None)

-- The call has marked what it names in the first n slots and left all else. No slot that it looked
-- at there was blank.
pub record Marked {K : Kind} (c : Call K) (n : ℕ) (before after : List (Option Entry)) : Type 0 where
  pub capacity : length after ≡ length before
  pub full : (k : ℕ) → k < n → looks c k ≡ true → slice_index_or before k None ≢ None
  pub done : (k : ℕ) → k < n → slice_index_or after k None ≡ marked c k (slice_index_or before k None)
  pub rest : (k : ℕ) → n ≤ k → slice_index_or after k None ≡ slice_index_or before k None

-- the call came to a blank slot below the count, and stopped there
pub record Blank {K : Kind} (c : Call K) (n : ℕ) (before after : List (Option Entry)) : Type 0 where
  pub slot : ℕ
  pub below : slot < n
  pub looked : looks c slot ≡ true
  pub blank : get_or before slot None ≡ None
  pub marked_before : Marked c slot before after

-- days, pulses and lent memory besides the slots stay
pub record Stays (before after : State) : Type 0 where
  pub days : after.days ≡ before.days
  pub count : after.count ≡ before.count
  pub outside : after.outside ≡ before.outside

-- What such a call answers, from the sheet s to the sheet t, which show before and after: the number
-- of marks changed; or a refusal, and the sheet is as it was; or it came to a blank slot.
abbrev pub Marking : {S : Type 0} (K : Kind) → Call K → State → State → S → S → Result ℕ Stop → Type 0
Marking K c before after s t (Ok n) =
    Allowed K (length before.slots) before.count c × Stays before after ×
    Marked c before.count before.slots after.slots × (n ≡ marks_changed c before.count before.slots)
Marking K c before after s t (Err (Refused r)) = Grounds K (length before.slots) before.count c r × (t ≡ s)
Marking K c before after s t (Err Unreachable) =
    Allowed K (length before.slots) before.count c × Stays before after ×
    Blank c before.count before.slots after.slots
