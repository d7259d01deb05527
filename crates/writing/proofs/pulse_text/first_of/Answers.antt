use Rattle.std.proofs.Common.{◌∙◌, refl, w64, SFits, rules}
use Rattle.std.proofs.lemmas.Int.{to_z-of_z}
use Rattle.figures.proofs.HeadingFacts.{column_first}
use Rattle.writing.proofs.pulse_text.first_of.Goals as goal

pub returns : goal.returns
returns g c =
    let fit : SFits w64 c.unwrap_or.result = search rules in
    to_z-of_z w64 c.unwrap_or.result fit ∙ (c.unwrap_or.ensures ∙ rw (c.column.ensures, column_first g.K.Total.kind.arity (g.K.Total.columns c.args.total)) refl)
