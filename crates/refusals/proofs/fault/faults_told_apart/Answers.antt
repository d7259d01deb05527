use Rattle.refusals.proofs.FaultFacts as facts
use Rattle.refusals.proofs.fault.faults_told_apart.Goals as goal

pub returns : goal.returns
returns c = facts.told_apart
