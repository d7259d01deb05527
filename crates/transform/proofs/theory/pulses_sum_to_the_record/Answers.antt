use Rattle.transform.proofs.Stages.{pulses_sum}
use Rattle.transform.proofs.theory.pulses_sum_to_the_record.Goals as goal

pub returns : goal.returns
returns c = pulses_sum
