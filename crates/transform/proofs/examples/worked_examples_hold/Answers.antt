use Rattle.std.proofs.Common.{refl}
use Rattle.transform.specs.Windows.{trace, days, lower, higher, lowest, highest, L, U, lowered, raised, smooth}
use Rattle.transform.specs.Pulses.{in_turn, changed, begins, unbroken, change, changes, upward, downward, pulses, covers, chosen, standing, size, summed, swing}
use Rattle.transform.proofs.examples.worked_examples_hold.Goals as goal

-- each example is right by computing it
pub returns : goal.returns
unfolding trace days lower higher lowest highest L U lowered raised smooth in_turn changed begins unbroken change changes upward downward pulses covers chosen standing size summed swing
returns c = (
  (refl, refl, refl),
  (
    (refl, refl, refl),
    (
      (refl, refl, refl),
      (
        (refl, refl, refl),
        (
          (refl, refl, refl),
          (
            (refl, refl, refl),
            ((refl, refl, refl), tt),
          ),
        ),
      ),
    ),
  ),
)
