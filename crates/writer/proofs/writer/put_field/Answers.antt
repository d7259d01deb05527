use Rattle.std.proofs.Common.{[], ◌∷◌, ◌∙◌, arith}
use Rattle.writer.proofs.WrittenFacts.{pasted_append}
use Rattle.writer.proofs.writer.put_field.Goals as goal

pub returns-clause-bytes : goal.returns-clause-bytes
returns-clause-bytes g c =
    c.put_byte.ensures
    ∙ rw (c.put-end.ensures.end, c.put-end.ensures.bytes)
    (pasted_append c.args.at (g.S.Shown.bytes c.args.item.now) (c.args.behind ∷ []) c.args.out.now (omega arith))
