use Rattle.std.proofs.Common.{◌≡◌, true}
use Rattle.std.proofs.lemmas.Bool.{cond_both}
use Rattle.kinds.specs.Columns.{within}
use Rattle.splitting.proofs.Amounts.{amount_given}
use Rattle.splitting.proofs.levelling.Pass.pulse.Goals as goal

pub unwrap-amount-requires : goal.unwrap-amount-requires
unwrap-amount-requires g c =
    let T = g.K.Total in
    amount_given T.kind g.met.K.Total.lawful T.columns _ _ c.difference.result
    (rw c.total_at.ensures c.requires.run_entered)
    (rw (c.nearer-level.ensures, c.total_at-left.ensures, c.total_at-right.ensures)
    (cond_both _ _ _ (λ a. within T.kind.arity T.kind.bound a ≡ true) (λ _. c.requires.right_entered) (λ _. c.requires.left_entered)))
    c.difference.ensures

pub returns : goal.returns
returns g c =
    let d = rw c.unwrap-amount.ensures at c.difference.ensures in
    let q = rw (c.total_at.ensures, c.nearer-level.ensures, c.total_at-left.ensures, c.total_at-right.ensures) at d in
    rw q at c.row_in.ensures
