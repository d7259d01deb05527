use Rattle.std.proofs.Common.{sym, ◌∙◌}
use Rattle.std.proofs.lemmas.List.{take_rest}
use Rattle.reading.proofs.PartFacts.{cut_found, cut_whole}
use Rattle.reading.proofs.fields.cut.Goals as goal

pub returns-in-Some : goal.returns-in-Some
returns-in-Some c = simp take_rest (cut_found c.args.stop c.args.bytes.now c.in-Some.end (sym c.first_place.ensures ∙ c.in-Some.is))

pub returns-in-None : goal.returns-in-None
returns-in-None c = cut_whole c.args.stop c.args.bytes.now (sym c.first_place.ensures ∙ c.in-None.is)
