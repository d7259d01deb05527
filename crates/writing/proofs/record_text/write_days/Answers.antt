use Rattle.std.proofs.Common.{map, arith}
use Rattle.std.proofs.lemmas.List.{length-map}
use Rattle.writing.proofs.BackText.{written_back}
use Rattle.writing.proofs.record_text.write_days.Goals as goal

pub returns-in-None-clause-back : goal.returns-in-None-clause-back
returns-in-None-clause-back g c =
    rw c.ok_or.ensures.value
    (written_back g.K.Total.kind g.met.K.Total.lawful c.requires.1 (map g.K.Total.columns c.args.totals.now) c.args.out.now c.put_record.new.out c.put_record.result
    (omega (arith, length-map c.args.totals.now g.K.Total.columns))
    c.in-None.ensures
    c.put_record.ensures)
