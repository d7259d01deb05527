use Rattle.std.proofs.Common.{◌≡◌, suc, ◌+◌, ◌∷◌, length, sym, arith}
use Rattle.reading.specs.Parts.{lines}
use Rattle.reading.proofs.LinesFacts.{names_good}
use Rattle.reading.proofs.trace.split_names.Goals as goal

pub returns-then-all_named-clause-answer : goal.returns-then-all_named-clause-answer
returns-then-all_named-clause-answer g c =
    let cut : lines c.args.text.now ≡ c.cut.result.0.now ∷ lines c.in-Some.values.now = rw c.in-Some.is at c.cut.ensures.in_parts in
    let all : length c.args.text.now ≡ length c.cut.result.0.now + suc (length c.in-Some.values.now) = rw c.in-Some.is at c.cut.ensures.in_all in
    (names_good g.K.Total.kind c.args.text.now c.cut.result.0.now c.in-Some.values.now c.check_names.result cut c.check_names.ensures c.in_ok-map_err.ensures.variant (sym c.if-all_named.ensures), omega arith)
