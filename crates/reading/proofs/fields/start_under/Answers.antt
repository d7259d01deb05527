use Rattle.std.proofs.Common.{sym, ap, ◌∙◌, arith}
use Rattle.reading.specs.Parts.{fields}
use Rattle.reading.proofs.PlaceFacts.{start_in, start_found, start_within}
use Rattle.reading.proofs.fields.start_under.Goals as goal

pub overflow_add-result : goal.overflow_add-result
overflow_add-result c =
    let w = start_within (fields c.args.names.now) c.args.values.now c.args.name.now _ (sym c.in-Some.ensures) in
    omega arith

pub returns-in-Some : goal.returns-in-Some
returns-in-Some c = ap (start_in c.args.at) c.in-Some.ensures ∙ start_found c.args.at (fields c.args.names.now) (fields c.args.values.now) c.args.name.now

pub returns-in-None : goal.returns-in-None
returns-in-None c = ap (start_in c.args.at) c.in-None.ensures ∙ start_found c.args.at (fields c.args.names.now) (fields c.args.values.now) c.args.name.now
