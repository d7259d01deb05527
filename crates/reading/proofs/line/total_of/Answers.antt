use Rattle.std.proofs.Common.{Some, None, ◌∙◌, arith, w64}
use Rattle.std.proofs.lemmas.Int.{to_z-of_z}
use Rattle.reading.proofs.TraceFacts.{first_put, second_put, none_put, filled_first}
use Rattle.reading.proofs.line.total_of.Goals as goal

pub returns-in_err-total : goal.returns-in_err-total
returns-in_err-total g c =
    let h = rw (to_z-of_z w64 c.args.first c.ranges.first) at c.in_err-total.ensures in
    rw c.from_residual.ensures
    (none_put g.K.Total.kind g.met.K.Total.lawful g.K.Total.columns c.args.first c.args.second
    (first_put g.K.Total.kind g.met.K.Total.lawful g.K.Total.columns c.zero.result c.args.first None c.zero.ensures h))

pub returns-in-None : goal.returns-in-None
returns-in-None g c =
    let h = rw (to_z-of_z w64 c.args.first c.ranges.first) at c.in_ok-total.ensures in
    first_put g.K.Total.kind g.met.K.Total.lawful g.K.Total.columns c.zero.result c.args.first (Some c.in_ok-total.total) c.zero.ensures h
    ∙ filled_first g.K.Total.kind.arity g.K.Total.kind.names (c.in-None.ensures) c.args.first c.args.second

pub returns-in-Some : goal.returns-in-Some
returns-in-Some g c =
    let h = rw (to_z-of_z w64 c.args.first c.ranges.first) at c.in_ok-total.ensures in
    let k = rw (to_z-of_z w64 c.args.second c.ranges.second) at c.replace-in-Some.ensures in
    second_put g.K.Total.kind g.met.K.Total.lawful g.K.Total.columns c.in_ok-total.total c.args.first c.args.second c.replace-in-Some.result
    _ (c.in-Some.ensures)
    (first_put g.K.Total.kind g.met.K.Total.lawful g.K.Total.columns c.zero.result c.args.first (Some c.in_ok-total.total) c.zero.ensures h)
    k
