use Rattle.std.proofs.Common.{◌≡◌, ◌-◌, ◌≤◌, ◌++◌, length, ap, ◌∙◌, arith}
use borrow.Rule.Slice.PartMut.{post_of}
use Rattle.std.proofs.lemmas.List.{length-append}
use Rattle.shelves.specs.Bytes.{packed, packed_head}
use Rattle.shelves.proofs.Fills.{rest_filled}
use Rattle.shelves.proofs.Packs.{unpacked_packed}
use Rattle.shelves.proofs.packing.pack.Goals as goal

pub returns : goal.returns
unfolding packed
returns g c =
    let row = c.args.row.now in
    let front = c.copy_from_slice.new.self in
    let head : front ≡ packed_head row.first row.width row.mark = c.copy_from_slice.ensures.after ∙ c.head.ensures.bytes in
    let eight : length front ≡ 8 = ap length head in
    let back = post_of 0 8 c.args.slot.now in
    let long : length back ≤ length (front ++ back) - 8 = simp length-append (omega arith) in
    record {
      bytes = rest_filled front back c.write_columns.new.bytes 8 _ eight long
          ∙ (ap (λ t. t ++ c.write_columns.new.bytes) head
          ∙ ap (λ t. packed_head row.first row.width row.mark ++ t) c.write_columns.ensures);
      shows = unpacked_packed g.K.Total.kind g.K.Total.columns row g.met.K.Total.lawful (g.met.K.Total.held row.amount) c.head.ensures.fits.0 c.head.ensures.fits.1;
    }
