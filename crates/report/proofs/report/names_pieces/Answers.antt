use Rattle.std.proofs.Common.{codes, ◌∙◌}
use Rattle.reading.specs.Parts.{field_under}
use Rattle.report.proofs.TellFacts.{pieces_named, some_mapped}
use Rattle.report.proofs.report.names_pieces.Goals as goal

pub returns : goal.returns
returns c =
    let names = c.first_line-names.result.now in
    c.is_some.ensures
    ∙ (some_mapped (λ x. x.now) c.field.result (field_under names names (codes "pieces")) c.field.ensures
    ∙ pieces_named c.args.text.now (codes "pieces") names c.first_line-names.ensures)
