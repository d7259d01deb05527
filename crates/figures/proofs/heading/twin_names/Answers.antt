use Rattle.std.proofs.Common.{refl}
use Rattle.figures.proofs.HeadingFacts.{twins_by_name}
use Rattle.figures.proofs.heading.twin_names.Goals as goal

pub returns : goal.returns
returns g c =
    rw (c.eq.ensures, c.name.ensures, c.name-2.ensures)
    (twins_by_name _ refl refl refl refl g.K.Total.kind.arity g.K.Total.kind.names)
