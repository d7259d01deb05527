use Rattle.std.proofs.Common.{sym}
use Rattle.std.proofs.lemmas.List.{length-map}
use Rattle.shelves.specs.Slots.{shown}
use Rattle.shelves.proofs.row_shelf.row_count.Goals as goal

pub returns : goal.returns
returns g c = sym (length-map c.args.rows.now (shown g.K.Total.kind g.K.Total.columns))
