use Rattle.std.proofs.Common.{◌≡◌, rules, ap, ◌∙◌}
use Rattle.std.specs.Option.{option_map}
use Rattle.reading.specs.Parts.{fields}
use Rattle.reading.proofs.PlaceFacts.{value_under}
use Rattle.reading.proofs.fields.field_of_line.Goals as goal

pub returns : goal.returns
returns c =
    let e : option_map (λ x. x.now) c.map.result ≡ option_map (λ p. p.1) (option_map (λ p. (p.0, p.1.now)) c.find_under.result) = search rules in
    e ∙ (ap (option_map (λ p. p.1)) c.find_under.ensures ∙ value_under 0 (fields c.args.names.now) (fields c.args.values.now) c.args.name.now)
