use Rattle.std.proofs.Common.{refl}
use Rattle.std.specs.Fmt.{digits}
use Rattle.transform.specs.Windows.{trace, days, lower, higher, lowest, highest, L, U, lowered, raised, smooth}
use Rattle.transform.specs.Pulses.{in_turn, changed, begins, unbroken, change, changes, upward, downward, pulses, covers, chosen, standing, size, summed, swing}
use Rattle.writing.specs.Texts.{pulse_names, pulse_values}
use Rattle.report.specs.PulseTexts.{pulse_lines}
use Rattle.report.specs.Reports.{report_as, report_of}
use Rattle.report.proofs.worked.worked_list_holds.Goals as goal

-- each is right by computing it
pub returns : goal.returns
unfolding digits trace days lower higher lowest highest L U lowered raised smooth in_turn changed begins unbroken change changes upward downward pulses covers chosen standing size summed swing pulse_names pulse_values pulse_lines report_as report_of
returns c = (
  (refl, refl, refl),
  (
    (refl, refl, refl),
    (
      (refl, refl, refl),
      (
        (refl, refl, refl),
        ((refl, refl, refl), ((refl, refl, refl), ((refl, refl, refl), (refl, tt)))),
      ),
    ),
  ),
)
