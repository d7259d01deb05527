use Rattle.transform.proofs.Counts.{pulses_few}
use Rattle.transform.proofs.theory.at_most_as_many_pulses_as_days.Goals as goal

pub returns : goal.returns
returns c = pulses_few
