use Rattle.std.proofs.Common.{sym, ◌∙◌, arith}
use Rattle.std.proofs.lemmas.List.{at_drop_more, at_drop_all}
use Rattle.figures.specs.Reader.{outcome}
use Rattle.figures.proofs.figure.read_figure.Goals as goal

pub loop-b-preserved : goal.loop-b-preserved
loop-b-preserved c =
    c.step.ensures _ ∙ (sym (at_drop_more (outcome c.loop-b.reader) c.args.bytes.now c.loop-b.b-index 0 (omega arith)) ∙ c.loop-b.invariant)

pub returns : goal.returns
returns c = c.end.ensures ∙ (sym (at_drop_all (outcome c.loop-b.reader) c.args.bytes.now c.loop-b.b-index (omega arith)) ∙ c.loop-b.invariant)
