use Rattle.std.proofs.Common.{is_some, sym, ap, ◌∙◌, arith}
use Rattle.refusals.specs.Faults.{at_figure}
use Rattle.reading.specs.Parts.{fields}
use Rattle.reading.proofs.PlaceFacts.{fields_within, malformed_start, malformed_later, malformed_here, malformed_none, within_first}
use Rattle.reading.proofs.line.DayLine.check_figures.Goals as goal

pub loop-start-init : goal.loop-start-init
loop-start-init c =
    rw (c.into_iter-start-iterator.ensures.into_iter_gives, c.of-start-items.ensures) (malformed_start c.args.self.now.start (fields c.args.self.now.values.now), fields_within c.args.self.now.values.now)

pub bad_figure-requires : goal.bad_figure-requires
bad_figure-requires c = let w = (within_first _ _ _ _ c.in-Some.ensures.steps c.loop-start.invariant.1).0 in omega arith

pub returns-then-is_none : goal.returns-then-is_none
returns-then-is_none c = c.bad_figure.ensures ∙ ap at_figure (malformed_here _ _ _ _ _ c.in-Some.ensures.steps c.loop-start.invariant.0 (ap is_some (sym c.read_figure.ensures) ∙ c.if-is_none.ensures))

pub loop-start-preserved : goal.loop-start-preserved
loop-start-preserved c = (malformed_later _ _ _ _ _ c.in-Some.ensures.steps c.loop-start.invariant.0 (ap is_some (sym c.read_figure.ensures) ∙ c.if-is_none.ensures), (within_first _ _ _ _ c.in-Some.ensures.steps c.loop-start.invariant.1).1)

pub returns : goal.returns
returns c = ap at_figure (malformed_none _ _ _ c.in-None.ensures.steps.0 c.loop-start.invariant.0)
