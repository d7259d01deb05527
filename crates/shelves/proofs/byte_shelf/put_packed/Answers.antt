use Rattle.std.proofs.Common.{◌≡◌, ◌+◌, ◌-◌, ◌*◌, ◌/◌, ◌<◌, ◌≤◌, length, ap, ◌∙◌, arith, rules}
use borrow.Rule.Slice.PartMut.{put_mid}
use Rattle.std.proofs.lemmas.List.{set_past}
use Rattle.shelves.specs.Bytes.{overwritten, packed, past, shown_bytes, size, whole}
use Rattle.shelves.specs.Slots.{shown}
use Rattle.shelves.proofs.Overwrites.{put_is}
use Rattle.shelves.proofs.Packs.{length_packed}
use Rattle.shelves.proofs.Shown.{length_shown, no_slot, past_put, shown_put}
use Rattle.shelves.proofs.byte_shelf.put_packed.Goals as goal

pub returns-then-slot-slots_in : goal.returns-then-slot-slots_in
returns-then-slot-slots_in g c =
    let k = g.K.Total.kind in
    let columns = g.K.Total.columns in
    let row = c.args.row.now in
    let bytes = c.args.bytes.now in
    let n = c.slot_size-size.result in
    let at = c.start_of-at.result in
    let is : c.slots_in.result ≡ whole k.arity bytes = c.slots_in.ensures ∙ ap (λ n. length bytes / n) c.slot_size-size.ensures in
    let below : c.args.slot < whole k.arity bytes = omega arith in
    let from : at ≡ c.args.slot * size k.arity = c.start_of-at.ensures ∙ ap (λ n. c.args.slot * n) c.slot_size-size.ensures in
    let wide : (at + n) - at ≡ length (packed k columns row) = omega (arith, length_packed k columns row) in
    let left : put_mid at ((at + n) - at) bytes c.pack.new.slot ≡ overwritten bytes (c.args.slot * size k.arity) (packed k columns row) = put_is bytes c.pack.new.slot (packed k columns row) at _ _ from wide c.pack.ensures.bytes in
    record {
      answer = omega (arith, length_shown k bytes);
      slots = ap (shown_bytes k) left ∙ shown_put k columns row bytes c.args.slot below c.pack.ensures.shows;
      past = ap (past k) left ∙ past_put k columns row bytes c.args.slot below;
      bytes = λ _. left;
    }

pub returns-else-slot-slots_in : goal.returns-else-slot-slots_in
returns-else-slot-slots_in g c =
    let k = g.K.Total.kind in
    let bytes = c.args.bytes.now in
    let is : c.slots_in.result ≡ whole k.arity bytes = c.slots_in.ensures ∙ ap (λ n. length bytes / n) c.slot_size-size.ensures in
    let none : length (shown_bytes k bytes) ≤ c.args.slot = omega (arith, length_shown k bytes) in
    let same = set_past (shown_bytes k bytes) c.args.slot (shown k g.K.Total.columns c.args.row.now) none in
    record {
      answer = (none, search rules);
      slots = search (rules, same);
      past = search rules;
      bytes = no_slot c.args.slot (whole k.arity bytes) (omega (arith, length_shown k bytes));
    }
