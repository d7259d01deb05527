use Rattle.std.proofs.Common.{length}
use Rattle.script_tests.proofs.run_table.Given as goal

abbrev pub decreases-loop-left : goal.decreases-loop-left
decreases-loop-left l = length l.left
