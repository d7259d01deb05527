-- What a sheet promises after any list of calls.
use Rattle.std.specs.Prelude.{◌≡◌, ℕ, ◌≤◌, ◌↔◌, ◌∷◌, length}
use Rattle.std.specs.List.{ContainsAt as Has}
use Rattle.kinds.specs.Columns.{plus}
use Rattle.kinds.specs.Kinds.{Kind}
use Rattle.transform.specs.Windows.{Record, trace, smooth}
use Rattle.transform.specs.Pulses.{Pulse, pulses, chosen, standing, sizes, swing}
use Rattle.sheets.specs.Takes.{State}
use Rattle.sheets.specs.Calls.{Call}
use Rattle.sheets.specs.History.{Calls, Held, Out, Shows}
use Rattle.sheets.specs.Standing.{standing_total, standing_trace, standing_swing}

-- a pulse p of the record xs is out exactly when P p
abbrev pub OutExactly : (K : Kind) → ℕ → Record K → Calls K → (Pulse K → Type 0) → Type 0
OutExactly K capacity xs h P = (p : Pulse K) → Has (pulses K xs) p → Out K capacity xs h p ↔ P p

-- After the calls h the sheet shows the record held and the pulses out. Its standing total, standing
-- trace and swing are those that the questions answer.
pub record Promise (K : Kind) (h : Calls K) (s : State) : Type 0 where
  pub shows : Shows K h s
  -- no other record is the one held
  pub one_record : (xs : Record K) → Held K (length s.slots) h xs → xs ≡ shows.totals
  -- any other sheet that holds the same record, after its own calls and on any shelf, shows an equal
  -- standing trace exactly when the same pulses are out of both
  pub same_pulses_out : (g : Calls K) (t : State) (other : Shows K g t) → other.totals ≡ shows.totals →
      (standing_trace K s ≡ standing_trace K t) ↔
      OutExactly K (length s.slots) shows.totals h (Out K (length t.slots) shows.totals g)
  -- on each day the standing total and the pulses out that cover the day add up to the record
  pub totals_balance : (d : ℕ) →
      plus K.arity (standing_total K s d) (standing K (chosen shows.out (pulses K shows.totals)) d) ≡ trace K shows.totals d
  -- the swing of the record is that of the standing trace and twice the sizes of the pulses out
  pub swings_balance :
      swing K s.days (trace K shows.totals) ≡
      plus K.arity (standing_swing K s) (plus K.arity (sizes K (chosen shows.out (pulses K shows.totals))) (sizes K (chosen shows.out (pulses K shows.totals))))
  -- the standing trace is the record's smooth of width w exactly when the pulses out are all those no
  -- wider than w
  pub smooths : (w : ℕ) →
      (standing_trace K s ≡ smooth K w shows.totals) ↔ OutExactly K (length s.slots) shows.totals h (λ p. p.width ≤ w)

-- what a call does to the promise: the sheet after it keeps it for the history with the call added
abbrev pub Keeps : (K : Kind) → Call K → State → State → Type 0
Keeps K c before after = (h : Calls K) → Shows K h before → Promise K (c ∷ h) after
