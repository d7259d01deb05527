use Rattle.std.proofs.Common.{is_some, ap, ◌∙◌}
use Rattle.reading.specs.Parts.{fields}
use Rattle.reading.proofs.PlaceFacts.{mapped_some, under_among}
use Rattle.reading.proofs.names.named.Goals as goal

pub returns : goal.returns
returns c =
    c.is_some.ensures ∙ (mapped_some (λ p. (p.0, p.1.now)) c.find_under.result ∙ (ap is_some c.find_under.ensures ∙ under_among 0 (fields c.args.names.now) c.args.name.now))
