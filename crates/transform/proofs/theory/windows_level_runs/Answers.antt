use Rattle.transform.proofs.Runs.{windows_level}
use Rattle.transform.proofs.theory.windows_level_runs.Goals as goal

pub returns : goal.returns
returns c = windows_level
