use Rattle.std.proofs.Common.{subst}
use Rattle.std.proofs.lemmas.Result.{err_from_is_err_and}
use Rattle.shelves.specs.Stretches.{StretchOf}
use Rattle.sheets.specs.Takes.{state_of}
use Rattle.sheets.proofs.Asked.{ok_or_stops, no_stretch, listed_stop}
use Rattle.sheets.proofs.questions.listed_pulse.Goals as goal

pub returns-in_err-row : goal.returns-in_err-row
returns-in_err-row g c =
    let p = err_from_is_err_and c.from_residual.result c.from_residual.ensures.1 in
    rw (p.1, p.2)
    (listed_stop g.K.Total.kind g.met.K.Total.lawful (state_of g.S.Shelf.slots g.S.Shelf.outside c.args.sheet.now) c.args.number c.requires.0 c.requires.1
    g.K.Total.columns c.in_err-row.field-0.0 c.in_err-row.ensures)

pub returns-in_err-stretch : goal.returns-in_err-stretch
returns-in_err-stretch g c =
    let p = err_from_is_err_and c.from_residual-in_err-stretch.result c.from_residual-in_err-stretch.ensures.1 in
    let u = ok_or_stops c.stretch.result c.in_err-stretch.field-0.0 c.in_err-stretch.ensures.value in
    rw (p.1, p.2, u)
    (no_stretch g.K.Total.kind g.met.K.Total.lawful (state_of g.S.Shelf.slots g.S.Shelf.outside c.args.sheet.now) c.args.number c.requires.0 c.requires.1 _ c.in_ok-row.ensures.1
    (rw (c.from.ensures.0, c.from.ensures.1) at (subst (StretchOf c.from.result.first c.from.result.width) c.in_err-stretch.ensures.ok_part c.stretch.ensures)))
