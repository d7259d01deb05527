use Rattle.std.proofs.Common.{rules}
use Rattle.figures.proofs.HeadingFacts.{column_first}
use Rattle.figures.proofs.heading.first_column.Goals as goal

pub returns : goal.returns
returns g c =
    let named = column_first g.K.Total.kind.arity g.K.Total.kind.names in
    search rules
