use Rattle.reading.proofs.AcceptedFacts.{reading_accepted}
use Rattle.reading.proofs.RefusedFacts.{reading_judged}
use Rattle.reading.proofs.RefusedOnce.{refused_so}
use Rattle.reading.proofs.StandFacts.{part_stands}
use Rattle.reading.proofs.trace.reading_law.Goals as goal

pub returns : goal.returns
returns c = record { accepted = reading_accepted; judged = reading_judged; refused = refused_so; places = part_stands }
