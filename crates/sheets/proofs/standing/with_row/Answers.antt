use Rattle.std.proofs.Common.{◌≡◌, ◌+◌, true, false, ◌&&◌, ltb, leb, ◌⊎◌, sym, ap, ◌∙◌, inl, inr, rules, subst}
use Rattle.kinds.specs.Columns.{plus}
use Rattle.kinds.specs.Kinds.{Gives}
use Rattle.shelves.specs.declared.row.Mark.TheVariants.{In}
use Rattle.transform.proofs.Group.{plus_nought}
use Rattle.sheets.proofs.Adding.{row_adds, row_adds_none}
use Rattle.sheets.proofs.standing.with_row.Goals as goal
use Rattle.sheets.proofs.standing.with_row.Goals.{else-eq-via-then-eq+else-covered, else-eq-via-else-eq}

-- the row adds its amount
pub returns-then-covered : goal.returns-then-covered
returns-then-covered g c =
    let m : c.args.row.mark ≡ In = search rules in
    subst (λ y. Gives g.K.Total.kind g.K.Total.columns y c.sum.result)
    (ap (plus g.K.Total.kind.arity (g.K.Total.columns c.args.sum))
    (sym (row_adds g.K.Total.kind c.args.row.first c.args.row.width (g.K.Total.columns c.args.row.amount) c.args.day c.args.row.mark m (sym c.if-covered.ensures))))
    c.sum.ensures

-- it adds nothing
pub returns-else-eq : goal.returns-else-eq
returns-else-eq g c =
    let w : (c.args.row.mark ≡ In → ⊥) ⊎ ((leb c.args.row.first c.args.day && ltb c.args.day (c.args.row.first + c.args.row.width)) ≡ false) =
    elim c.else-eq.branch [ else-eq-via-then-eq+else-covered w ↦ inr (sym w.covered.ensures ∙ w.if-covered.false) | else-eq-via-else-eq w ↦ inl (λ e. let f : false ≡ true = rw e at w.if-eq.ensures in cc) ] in
    sym (ap (plus g.K.Total.kind.arity (g.K.Total.columns c.args.sum))
    (row_adds_none g.K.Total.kind c.args.row.first c.args.row.width (g.K.Total.columns c.args.row.amount) c.args.day c.args.row.mark w) ∙
    plus_nought g.K.Total.kind.arity (g.K.Total.columns c.args.sum))
