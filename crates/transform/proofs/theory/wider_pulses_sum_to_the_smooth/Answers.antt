use Rattle.transform.proofs.Stages.{wider_sum}
use Rattle.transform.proofs.theory.wider_pulses_sum_to_the_smooth.Goals as goal

pub returns : goal.returns
returns c = wider_sum
