use Rattle.std.proofs.Common.{◌≡◌, ◌+◌, count_by, eqb, rules, ap, ◌∙◌}
use Rattle.reading.proofs.PartFacts.{parts_counted}
use Rattle.reading.proofs.fields.count_fields.Goals as goal

pub returns : goal.returns
returns c =
    let e : c.count.result ≡ count_by (λ b. eqb b 44) c.args.line.now = search rules in
    ap (λ n. n + 1) e ∙ parts_counted 44 c.args.line.now
