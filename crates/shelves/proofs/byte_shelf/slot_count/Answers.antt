use Rattle.std.proofs.Common.{◌/◌, length, sym, ap, ◌∙◌}
use Rattle.shelves.proofs.Shown.{length_shown}
use Rattle.shelves.proofs.byte_shelf.slot_count.Goals as goal

pub returns : goal.returns
returns g c =
    c.slots_in.ensures
    ∙ (ap (λ n. length c.args.bytes.now / n) c.slot_size.ensures
    ∙ sym (length_shown g.K.Total.kind c.args.bytes.now))
