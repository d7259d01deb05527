-- The order of a pass.
use Rattle.kinds.specs.Kinds.{Kind, Lawful}
use Rattle.transform.proofs.Order.{turned_lawful}
use Rattle.splitting.specs.declared.levelling.Aim.{Aim}
use Rattle.splitting.specs.declared.levelling.Aim.TheVariants.{Bumps, Pits}
use Rattle.splitting.specs.Passes.{aimed}

pub aimed_lawful : (K : Kind) → Lawful K → (aim : Aim) → Lawful (aimed K aim)
aimed_lawful K O Bumps = O
aimed_lawful K O Pits = turned_lawful K O
