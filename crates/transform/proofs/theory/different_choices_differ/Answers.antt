use Rattle.transform.proofs.Choosing.{pulses_differ}
use Rattle.transform.proofs.theory.different_choices_differ.Goals as goal

pub returns : goal.returns
returns c = pulses_differ
