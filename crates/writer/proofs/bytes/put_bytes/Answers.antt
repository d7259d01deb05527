use Rattle.std.proofs.Common.{refl, arith}
use Rattle.writer.proofs.WrittenFacts.{pasted_part}
use Rattle.writer.proofs.bytes.put_bytes.Goals as goal

pub returns : goal.returns
returns c =
    record {
      bytes = pasted_part c.args.at _ c.args.bytes.now c.copy_from_slice.new.self c.args.out.now c.copy_from_slice.ensures.after (omega arith);
      end = refl;
    }
