-- Lists of calls by plain numbers, and what a list of calls does to a sheet.
use Rattle.std.specs.Prelude.{◌≡◌, ℕ, min, ◌⊎◌, List, [], ◌∷◌, map, reverse, length, take, drop}
use Rattle.kinds.specs.Kinds.{Kind}
use Rattle.refusals.specs.declared.refusal.Refusal.{Refusal}
use Rattle.transform.specs.Windows.{Record}
use Rattle.histories.specs.declared.steps.Step.{Step}
use Rattle.histories.specs.declared.steps.Step.TheVariants.{Take, Remove, Restore, RemoveOne, RestoreOne}
use Rattle.sheets.specs.Takes.{State, Taken}
use Rattle.sheets.specs.Calls.{Call, taking, marking, marking_one, removing, restoring, removing_one, restoring_one, Grounds, Allowed}
use Rattle.sheets.specs.Marks.{Marked, Stays}
use Rattle.sheets.specs.History.{Calls, Shows}
use Rattle.sheets.specs.Promise.{Promise}

-- The call of a step. A take has so many of the totals beside, from the one after the first so many,
-- as far as there are any, and so many entries of a work list, as far as there are any.
abbrev pub call_of : (K : Kind) → Record K → ℕ → Step → Call K
call_of K xs room (Take skipped days entries) = taking (take days (drop skipped xs)) (min entries room)
call_of K xs room (Remove lowest highest) = removing lowest highest
call_of K xs room (Restore lowest highest) = restoring lowest highest
call_of K xs room (RemoveOne n) = removing_one n
call_of K xs room (RestoreOne n) = restoring_one n

-- the calls of a list of steps, the newest first
abbrev pub calls_of : (K : Kind) → Record K → ℕ → List Step → Calls K
calls_of K xs room steps = reverse (map (call_of K xs room) steps)

-- what an accepted call leaves
abbrev pub Done : (K : Kind) → Call K → State → State → Type 0
Done K (taking xs entries) s t = Taken K xs s t
Done K (marking m low high) s t = Stays s t × Marked {K = K} (marking m low high) s.count s.slots t.slots
Done K (marking_one m n) s t = Stays s t × Marked {K = K} (marking_one m n) s.count s.slots t.slots

-- what a call leaves; a refused one leaves all as it was
abbrev pub Leaves : (K : Kind) → Call K → State → State → Type 0
Leaves K c s t =
    (Allowed K (length s.slots) s.count c × Done K c s t) ⊎
    (((r : Refusal) × Grounds K (length s.slots) s.count c r) × (t ≡ s))

-- the calls, one after another, lead from the sheet s to the sheet t
abbrev pub Lead : (K : Kind) → Calls K → State → State → Type 0
Lead K [] s t = t ≡ s
Lead K (c ∷ h) s t = (m : State) × Lead K h s m × Leaves K c m t

-- the entries of a work list that a call is lent
abbrev pub lent : {K : Kind} → Call K → ℕ
lent (taking xs entries) = entries
lent (marking m low high) = 0
lent (marking_one m n) = 0

-- What a call leaves, from the sheet s and the work list w to the sheet t and the work list v: an
-- accepted one leaves the entries that it is not lent, a refused one leaves all as it was.
abbrev pub LeavesWork : {W : Type 0} (K : Kind) → Call K → State → State → List W → List W → Type 0
LeavesWork K c s t w v =
    (Allowed K (length s.slots) s.count c × Done K c s t × (drop (lent c) v ≡ drop (lent c) w)) ⊎
    (((r : Refusal) × Grounds K (length s.slots) s.count c r) × (t ≡ s) × (v ≡ w))

-- the calls, one after another, lead from the sheet s and the work list w to the sheet t and the work
-- list v
abbrev pub LeadWork : {W : Type 0} (K : Kind) → Calls K → State → State → List W → List W → Type 0
LeadWork K [] s t w v = (t ≡ s) × (v ≡ w)
LeadWork {W = W} K (c ∷ h) s t w v = (m : State) × (u : List W) × LeadWork K h s m w u × LeavesWork K c m t u v

-- what performing one more call does to a sheet and a work list after a list of calls
abbrev pub GoesOnWork : {W : Type 0} (K : Kind) → Call K → State → State → List W → List W → Type 0
GoesOnWork K c s t w v = (h : Calls K) → Shows K h s → Promise K (c ∷ h) t × LeavesWork K c s t w v
