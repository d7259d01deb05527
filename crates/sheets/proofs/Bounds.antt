-- The pulses of a record whose totals may be entered: their days are the record's, and their amounts
-- within twice the bound.
use Rattle.std.proofs.Common.{ℕ, ◌+◌, ◌≤◌, List, [], ◌∷◌, length}
use Rattle.std.specs.List.{AllByRecursion}
use Rattle.kinds.specs.Kinds.{Kind, Of, Lawful}
use Rattle.transform.specs.Windows.{Record, trace}
use Rattle.transform.specs.Pulses.{Pulse, pulses}
use Rattle.transform.proofs.Endings.{pulses_among, pulses_within}
use Rattle.transform.proofs.Ranges.{UpTo, up_to_minus}

-- within so many times the bound
abbrev pub Within : (K : Kind) → ℕ → Of K → Type 0
Within K n x = UpTo K.arity K.bound n x

pub record Fair (K : Kind) (days : ℕ) (p : Pulse K) : Type 0 where
  pub starts : 1 ≤ p.first
  pub wide : 1 ≤ p.width
  pub ends : p.first + p.width ≤ days + 1
  pub amount : Within K 2 p.amount

all_both : {X : Type 0} (P Q R : X → Type 0) → ((x : X) → P x → Q x → R x) → (xs : List X) → AllByRecursion P xs → AllByRecursion Q xs → AllByRecursion R xs
all_both P Q R f [] h k = tt
all_both P Q R f (x ∷ xs) h k = (f x h.0 k.0, all_both P Q R f xs h.1 k.1)

pub pulses_fair : (K : Kind) (O : Lawful K) (xs : Record K) → ((d : ℕ) → Within K 1 (trace K xs d)) → AllByRecursion (Fair K (length xs)) (pulses K xs)
pulses_fair K O xs h =
    all_both _ _ _
    (λ p (f, w, e) (a, b, i, j, m). record { starts = f; wide = w; ends = e; amount = rw m (up_to_minus K.arity K.bound 1 1 a b i j) })
    (pulses K xs)
    (pulses_within K O xs)
    (pulses_among K O (Within K 1) xs h)
