use Rattle.std.proofs.Common.{◌≡◌, ◌+◌, ◌-◌, ◌*◌, ◌/◌, ◌<◌, length, take, drop, sym, ap, ◌∙◌, arith}
use Rattle.shelves.specs.Bytes.{size, slot_bytes, unpacked, whole}
use Rattle.shelves.proofs.Shown.{getD_shown, holds_at, length_shown}
use Rattle.shelves.proofs.byte_shelf.read_packed.Goals as goal

pub returns-then-slot-slots_in : goal.returns-then-slot-slots_in
returns-then-slot-slots_in g c =
    let k = g.K.Total.kind in
    let bytes = c.args.bytes.now in
    let n = c.slot_size-size.result in
    let at = c.start_of-at.result in
    let is : c.slots_in.result ≡ whole k.arity bytes = c.slots_in.ensures ∙ ap (λ n. length bytes / n) c.slot_size-size.ensures in
    let below : c.args.slot < whole k.arity bytes = omega arith in
    let from : at ≡ c.args.slot * size k.arity = c.start_of-at.ensures ∙ ap (λ n. c.args.slot * n) c.slot_size-size.ensures in
    let wide : (at + n) - at ≡ size k.arity = omega arith in
    let same : slot_bytes k.arity bytes c.args.slot ≡ take ((at + n) - at) (drop at bytes) = λ i. take (sym wide i) (drop (sym from i) bytes) in (
      omega (arith, length_shown k bytes),
      holds_at k g.K.Total.columns _ _ c.unpack.result (getD_shown k bytes c.args.slot below ∙ ap (unpacked k) same) c.unpack.ensures,
    )

pub returns-else-slot-slots_in : goal.returns-else-slot-slots_in
returns-else-slot-slots_in g c =
    let k = g.K.Total.kind in
    let bytes = c.args.bytes.now in
    let is : c.slots_in.result ≡ whole k.arity bytes = c.slots_in.ensures ∙ ap (λ n. length bytes / n) c.slot_size-size.ensures in
    omega (arith, length_shown k bytes)
