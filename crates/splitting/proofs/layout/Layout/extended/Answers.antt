use Rattle.std.proofs.Common.{◌≡◌, suc, ◌+◌, true, false, sym, ap, ◌∙◌, arith, ◌≢◌}
use Rattle.kinds.specs.Orders.{equal_is_eq}
use Rattle.splitting.proofs.Layouts.{laid_same, laid_changed}
use Rattle.splitting.proofs.layout.Layout.extended.Goals as goal

pub returns-then-eq-clause-laid : goal.returns-then-eq-clause-laid
returns-then-eq-clause-laid g c =
    let equal : g.K.Total.columns c.args.self.total ≡ g.K.Total.columns c.args.total =
    equal_is_eq g.K.Total.kind g.met.K.Total.lawful _ _ _ true (g.met.K.Total.ordered c.args.self.total c.args.total)
    (c.if-eq.ensures ∙ g.met.K.Ord.matches_eq c.args.self.total c.args.total) in
    record { laid = λ m x A t u h. (laid_same m x _ _ _ _ A (sym t ∙ (equal ∙ u)), t) }

pub returns-clause-laid : goal.returns-clause-laid
returns-clause-laid g c =
    let unequal : g.K.Total.columns c.args.self.total ≢ g.K.Total.columns c.args.total =
    equal_is_eq g.K.Total.kind g.met.K.Total.lawful _ _ _ false (g.met.K.Total.ordered c.args.self.total c.args.total)
    (c.if-eq.ensures ∙ g.met.K.Ord.matches_eq c.args.self.total c.args.total) in
    let e : c.args.day + 1 ≡ suc c.args.day = omega arith in
    let f : c.args.self.marks + 1 ≡ suc c.args.self.marks = omega arith in
    record {
      laid = λ m x A t u h. (
        rw (c.set_mark.ensures, c.set_run.ensures, e, f, t) (laid_changed m x _ _ _ _ A h (λ q. unequal (t ∙ (q ∙ sym u)))),
        u ∙ ap x (sym e),
      );
    }
