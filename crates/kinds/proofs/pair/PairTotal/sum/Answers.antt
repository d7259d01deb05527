use Rattle.std.proofs.Common.{rules}
use Rattle.kinds.specs.PairsLemmas.{lacks_first, lacks_second}
use Rattle.kinds.specs.Singles.{only_plus}
use Rattle.kinds.proofs.pair.PairTotal.sum.Goals as goal

pub returns-in_err-sum : goal.returns-in_err-sum
returns-in_err-sum g c =
    rw c.from_residual.ensures
    (lacks_first g.A.Total.kind g.B.Total.kind g.met.A.OneColumn.single _ _ _ (only_plus g.A.Total.kind.arity (g.A.Total.columns c.args.self.first) (g.A.Total.columns c.args.other.first)) c.in_err-sum.ensures)

pub returns-in_err-sum-2 : goal.returns-in_err-sum-2
returns-in_err-sum-2 g c =
    rw c.from_residual-in_err-sum-2.ensures
    (lacks_second g.A.Total.kind g.B.Total.kind g.met.B.OneColumn.single _ _ _ (only_plus g.B.Total.kind.arity (g.B.Total.columns c.args.self.second) (g.B.Total.columns c.args.other.second)) c.in_err-sum-2.ensures)
