-- Records worked through: one list, and what it is for all of it to be right.
use Rattle.std.specs.Prelude.{◌≡◌, ℕ, not, List, [], ◌∷◌, length, pos, negsuc, ◌==◌}
use Rattle.kinds.specs.Kinds.{Kind, Of}
use Rattle.kinds.specs.Wholes.{paper, mobile}
use Rattle.transform.specs.Windows.{Record, Trace, days}
use Rattle.transform.specs.Pulses.{Pulse, pulses, chosen, standing, swing}

pub record Example : Type 0 where
  pub kind : Kind
  pub totals : Record kind
  -- the record's pulses, as they are listed
  pub list : List (Pulse kind)
  -- the width of the pulses that are taken out, 0 for none
  pub out : ℕ
  -- what stands then, and its swing
  pub left : Record kind
  pub swings : Of kind

-- what stands of the listed pulses once those of the width are out
abbrev pub standing_without : (e : Example) → Trace e.kind
standing_without e = standing e.kind (chosen (λ p. not (p.width == e.out)) e.list)

-- the record has these pulses, and with those of the width out this stands, with this swing
abbrev pub Right : Example → Type 0
Right e =
    (pulses e.kind e.totals ≡ e.list) ×
    (days e.kind (length e.totals) (standing_without e) ≡ e.left) ×
    (swing e.kind (length e.totals) (standing_without e) ≡ e.swings)

abbrev pub AllRight : List Example → Type 0
AllRight [] = Unit {0}
AllRight (e ∷ es) = Right e × AllRight es

-- width@first day: amount
abbrev pub pulse : {K : Kind} → ℕ → ℕ → Of K → Pulse K
pulse width first amount = record { first = first; width = width; amount = amount }

abbrev no_days : Example
no_days = record { kind = paper; totals = []; list = []; out = 0; left = []; swings = pos 0 }

abbrev one_day : Example
one_day =
    record {
      kind = paper;
      totals = pos 7 ∷ [];
      list = pulse 1 1 (pos 7) ∷ [];
      out = 0;
      left = pos 7 ∷ [];
      swings = pos 14;
    }

abbrev three_bumps : Example
three_bumps =
    record {
      kind = paper;
      totals = pos 3 ∷ (pos 1 ∷ (pos 4 ∷ (pos 1 ∷ (pos 5 ∷ []))));
      list = pulse 1 1 (pos 2) ∷ (pulse 1 3 (pos 3) ∷ (pulse 1 5 (pos 4) ∷ (pulse 5 1 (pos 1) ∷ [])));
      out = 0;
      left = pos 3 ∷ (pos 1 ∷ (pos 4 ∷ (pos 1 ∷ (pos 5 ∷ []))));
      swings = pos 20;
    }

abbrev nested : Example
nested =
    record {
      kind = paper;
      totals = pos 1 ∷ (pos 3 ∷ (pos 2 ∷ []));
      list = pulse 1 2 (pos 1) ∷ (pulse 2 2 (pos 1) ∷ (pulse 3 1 (pos 1) ∷ []));
      out = 0;
      left = pos 1 ∷ (pos 3 ∷ (pos 2 ∷ []));
      swings = pos 6;
    }

abbrev alternating : Example
alternating =
    record {
      kind = paper;
      totals = pos 5 ∷ (negsuc 4 ∷ (pos 5 ∷ (negsuc 4 ∷ [])));
      list = pulse 1 1 (pos 5) ∷ (pulse 1 3 (pos 10) ∷ (pulse 3 2 (negsuc 4) ∷ []));
      out = 0;
      left = pos 5 ∷ (negsuc 4 ∷ (pos 5 ∷ (negsuc 4 ∷ [])));
      swings = pos 40;
    }

abbrev alternating_without_three : Example
alternating_without_three =
    record {
      kind = paper;
      totals = pos 5 ∷ (negsuc 4 ∷ (pos 5 ∷ (negsuc 4 ∷ [])));
      list = pulse 1 1 (pos 5) ∷ (pulse 1 3 (pos 10) ∷ (pulse 3 2 (negsuc 4) ∷ []));
      out = 3;
      left = pos 5 ∷ (pos 0 ∷ (pos 10 ∷ (pos 0 ∷ [])));
      swings = pos 30;
    }

abbrev tied_cents : Example
tied_cents =
    record {
      kind = mobile;
      totals = (pos 4, pos 1) ∷ ((pos 4, pos 3) ∷ ((pos 4, pos 2) ∷ []));
      list = pulse 1 2 (pos 0, pos 1) ∷ (pulse 2 2 (pos 0, pos 1) ∷ (pulse 3 1 (pos 4, pos 1) ∷ []));
      out = 0;
      left = (pos 4, pos 1) ∷ ((pos 4, pos 3) ∷ ((pos 4, pos 2) ∷ []));
      swings = (pos 8, pos 6);
    }

abbrev pub examples : List Example
examples =
    no_days ∷
    (one_day ∷ (three_bumps ∷ (nested ∷ (alternating ∷ (alternating_without_three ∷ (tied_cents ∷ []))))))
