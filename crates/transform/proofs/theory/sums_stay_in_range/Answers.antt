use Rattle.transform.proofs.Ranges.{in_range}
use Rattle.transform.proofs.theory.sums_stay_in_range.Goals as goal

pub returns : goal.returns
returns c = in_range
