use Rattle.transform.proofs.Stages.{upward_regular, downward_regular}
use Rattle.transform.proofs.theory.widths_and_amounts.Goals as goal

pub returns : goal.returns
returns c = λ K O xs n. (upward_regular K O xs n, downward_regular K O xs n)
