use Rattle.std.proofs.Common.{[]}
use Rattle.sheets.proofs.History.{new_shows}
use Rattle.sheets.proofs.Promised.{promised}
use Rattle.sheets.proofs.calls.begun.Goals as goal

pub returns-clause-history : goal.returns-clause-history
returns-clause-history g c = rw c.blank.ensures.answer (new_shows g.K.Total.kind (g.S.Shelf.slots c.args.shelf) (g.S.Shelf.outside c.args.shelf))

pub returns-clause-promise : goal.returns-clause-promise
returns-clause-promise g c = promised g.K.Total.kind g.met.K.Total.lawful [] _ (returns-clause-history g c)
