use Rattle.std.proofs.Common.{sym, inl, inr}
use Rattle.reading.specs.Parts.{fields}
use Rattle.reading.proofs.PlaceFacts.{pair_placed, pair_none, pair_step}
use Rattle.reading.proofs.fields.find_under.Goals as goal

pub loop-this-init : goal.loop-this-init
loop-this-init c =
    rw (c.into_iter-this-iterator.ensures.into_iter_gives, c.zip-this-items.ensures.first, c.zip-this-items.ensures.second, c.of.ensures, c.of-2.ensures)
    (pair_placed 0 0 (fields c.args.names.now) (fields c.args.values.now) c.args.name.now)

pub returns-then-eq : goal.returns-then-eq
returns-then-eq c =
    let s = pair_step _ _ _ _ _ _ _ _ c.in-Some.ensures.steps.0 c.in-Some.ensures.steps.1 c.loop-this.invariant in
    rw (sym c.if-eq.ensures) at s

pub loop-this-preserved : goal.loop-this-preserved
loop-this-preserved c =
    let s = pair_step _ _ _ _ _ _ _ _ c.in-Some.ensures.steps.0 c.in-Some.ensures.steps.1 c.loop-this.invariant in
    rw (sym c.if-eq.ensures) at s

pub returns : goal.returns
returns c = pair_none _ _ _ _ (elim c.in-None.ensures.steps [ inl p ↦ inl p.1.0 | inr p ↦ inr p.1.0 ]) c.loop-this.invariant
