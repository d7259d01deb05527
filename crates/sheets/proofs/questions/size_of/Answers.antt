use Rattle.std.proofs.Common.{true, false, sym, ap, ◌∙◌, subst}
use Rattle.kinds.specs.Columns.{minus}
use Rattle.kinds.specs.Kinds.{Gives}
use Rattle.kinds.specs.Orders.{lt_is_below}
use Rattle.sheets.proofs.Asked.{size_below, size_kept}
use Rattle.sheets.proofs.questions.size_of.Goals as goal

pub returns-then-lt : goal.returns-then-lt
returns-then-lt g c =
    let below = lt_is_below g.K.Total.kind g.met.K.Total.lawful _ _ _ _ true (g.met.K.Total.ordered c.args.amount c.zero.result) (g.met.K.Ord.matches_partial_cmp c.args.amount c.zero.result) c.if-lt.ensures in
    subst (λ y. Gives g.K.Total.kind g.K.Total.columns y c.difference.result)
    (ap (λ z. minus g.K.Total.kind.arity z (g.K.Total.columns c.args.amount)) (c.zero-then-lt.ensures ∙ sym c.zero.ensures) ∙
    size_below g.K.Total.kind g.met.K.Total.lawful (g.K.Total.columns c.args.amount) (g.K.Total.columns c.zero.result) c.zero.ensures below)
    c.difference.ensures

pub returns-else-lt : goal.returns-else-lt
returns-else-lt g c =
    let above = lt_is_below g.K.Total.kind g.met.K.Total.lawful _ _ _ _ false (g.met.K.Total.ordered c.args.amount c.zero.result) (g.met.K.Ord.matches_partial_cmp c.args.amount c.zero.result) c.if-lt.ensures in
    size_kept g.K.Total.kind g.met.K.Total.lawful _ _ c.zero.ensures above
