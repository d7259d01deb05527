use Rattle.std.proofs.Common.{sym, ap, ◌∙◌}
use Rattle.figures.specs.Headings.{heading_if}
use Rattle.figures.proofs.HeadingFacts.{column_second}
use Rattle.figures.proofs.heading.second_column.Goals as goal

pub returns : goal.returns
returns g c =
    rw c.from.ensures (ap heading_if (c.in_ok-name.ensures ∙ column_second g.K.Total.kind.arity g.K.Total.kind.names))
