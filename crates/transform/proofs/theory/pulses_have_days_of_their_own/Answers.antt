use Rattle.transform.proofs.Choosing.{pulses_apart}
use Rattle.transform.proofs.theory.pulses_have_days_of_their_own.Goals as goal

pub returns : goal.returns
returns c = pulses_apart
