use Rattle.std.proofs.Common.{[], ◌∷◌, nat_abs, decimal, ◌∙◌, arith, w64}
use Rattle.std.proofs.lemmas.Int.{to_z-of_z}
use Rattle.writer.proofs.DecimalFacts.{minus_first}
use Rattle.writer.proofs.WrittenFacts.{pasted_append}
use Rattle.writer.proofs.digits.put_signed.Goals as goal

pub returns-then-number-lt0-clause-bytes : goal.returns-then-number-lt0-clause-bytes
returns-then-number-lt0-clause-bytes c =
    let back = to_z-of_z w64 c.args.number c.ranges.number in
    let first = minus_first c.args.number (rw back at c.if-number-lt0.true) in
    c.put_digits.ensures.bytes
    ∙ rw (c.put_byte.ensures, c.unsigned_abs-size.ensures.value, back, first)
    (pasted_append c.args.at (45 ∷ []) (decimal (nat_abs c.args.number)) c.args.out.now (omega arith))
