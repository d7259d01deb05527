use Rattle.std.proofs.Common.{refl, arith, rules}
use Rattle.std.proofs.lemmas.List.{length-map, map-set, set_past}
use Rattle.shelves.specs.Slots.{shown}
use Rattle.shelves.proofs.row_shelf.put_row.Goals as goal

pub returns-then-slot-rows : goal.returns-then-slot-rows
returns-then-slot-rows g c =
    record {
      answer = simp length-map (omega arith);
      slots = map-set (shown g.K.Total.kind g.K.Total.columns) c.args.rows.now c.args.slot c.args.row;
      rows = refl;
    }

pub returns-else-slot-rows : goal.returns-else-slot-rows
returns-else-slot-rows g c =
    let past = set_past c.args.rows.now c.args.slot c.args.row (omega arith) in
    let shows = map-set (shown g.K.Total.kind g.K.Total.columns) c.args.rows.now c.args.slot c.args.row in
    record { answer = (simp length-map (omega arith), search rules); slots = search (rules, past, shows); rows = search (rules, past) }
