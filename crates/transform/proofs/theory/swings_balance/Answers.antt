use Rattle.transform.proofs.Swings.{pulses_swing}
use Rattle.transform.proofs.theory.swings_balance.Goals as goal

pub returns : goal.returns
returns c = pulses_swing
