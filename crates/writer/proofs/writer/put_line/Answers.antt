use Rattle.std.proofs.Common.{◌≡◌, ◌+◌, [], ◌∷◌, ◌++◌, length, drop, ap, ◌∙◌, arith}
use Rattle.writer.specs.Values.{line, written}
use Rattle.writer.specs.Written.{pasted}
use Rattle.writer.proofs.LineFacts.{line_last, left_length, pasted_more}
use Rattle.writer.proofs.writer.put_line.Goals as goal

pub loop-item-preserved : goal.loop-item-preserved
loop-item-preserved g c =
    let whole = c.in-Some.ensures.cases.0 in
    let some : line g.S.Shown.bytes c.args.items.now ≡ written g.S.Shown.bytes c.args.items.now = rw whole (line_last g.S.Shown.bytes c.in-Some.rest.now c.in-Some.last.now) in
    let some_length = ap length some in
    let more = left_length g.S.Shown.bytes c.in-Some.rest.now c.in-Some.last.now c.loop-item.item-index c.item-item.result (omega arith) c.item-item.is in (
      ap (λ n. pasted n (written g.S.Shown.bytes (drop (c.loop-item.item-index + 1) c.in-Some.rest.now ++ (c.in-Some.last.now ∷ []))) c.put_field-end.new.out) c.put_field-end.ensures.end
          ∙ (pasted_more g.S.Shown.bytes c.in-Some.rest.now c.in-Some.last.now c.loop-item.item-index c.item-item.result c.loop-item.end c.loop-item.out c.put_field-end.new.out (omega arith) c.item-item.is (omega arith) c.put_field-end.ensures.bytes
          ∙ c.loop-item.invariant.0),
      omega arith,
    )
