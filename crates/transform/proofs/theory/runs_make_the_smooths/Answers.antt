use Rattle.transform.proofs.Runs.{runs_smooth}
use Rattle.transform.proofs.theory.runs_make_the_smooths.Goals as goal

pub returns : goal.returns
returns c = runs_smooth
