use Rattle.transform.proofs.Runs.{smooth_smooth}
use Rattle.transform.proofs.theory.smooths_are_smooth.Goals as goal

pub returns : goal.returns
returns c = smooth_smooth
