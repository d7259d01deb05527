use Rattle.std.proofs.Common.{◌≡◌, suc, ◌+◌, ◌-◌, ◌≤◌, length, refl, ◌∙◌, arith}
use Rattle.std.proofs.lemmas.List.{length-map}
use Rattle.splitting.proofs.Grounds.{accepted_enter, accepted_few, accepted_room, accepted_slots}
use Rattle.splitting.proofs.Splits.{so_far_none, split_done, split_flat, ready_up, rows_up, slots_up, ready_down, rows_down, slots_down, so_far_more}
use Rattle.splitting.proofs.widths.split_widths.Goals as goal

pub build-requires : goal.build-requires
build-requires g c = omega (arith, accepted_room _ _ _ _ c.requires, length-map c.args.totals.now g.K.Total.columns)

pub loop-width-init : goal.loop-width-init
loop-width-init g c =
    let B = c.build.ensures in
    let q = length-map c.args.totals.now g.K.Total.columns in
    (so_far_none _ _ q (accepted_enter _ _ _ _ c.requires) (accepted_slots _ _ _ _ c.requires) B.knows B.marks B.few, refl)

pub returns-then-at-eq0 : goal.returns-then-at-eq0
returns-then-at-eq0 g c =
    let I = c.loop-width.invariant in
    let D = split_flat g.met.K.Total.lawful I.0 c.if-at-eq0.true in
    record { count = D.0; rows = D.1; outside = I.1 }

pub bumps-bumps-requires : goal.bumps-bumps-requires
bumps-bumps-requires g c = omega (arith, accepted_few _ _ _ _ c.requires, length-map c.args.totals.now g.K.Total.columns)

pub level_width-lowered-requires : goal.level_width-lowered-requires
level_width-lowered-requires g c =
    let O = g.met.K.Total.lawful in
    let F = c.loop-width.invariant.0 in
    let more : c.loop-width.width ≤ length c.args.totals.now = omega arith in
    let wide : c.loop-width.width ≡ suc (c.loop-width.width - 1) = omega arith in
    let B = c.bumps-bumps.ensures in
    rw (B.0, B.1, B.2)
    (record {
      room = omega (arith, accepted_room _ _ _ _ c.requires, length-map c.args.totals.now g.K.Total.columns);
      rows = rows_up O F wide more;
      stands = (_, _, ready_up O F wide more, slots_up O F wide more);
    })

pub level_width-at-requires : goal.level_width-at-requires
level_width-at-requires g c =
    let O = g.met.K.Total.lawful in
    let F = c.loop-width.invariant.0 in
    let more : c.loop-width.width ≤ length c.args.totals.now = omega arith in
    let wide : c.loop-width.width ≡ suc (c.loop-width.width - 1) = omega arith in
    let B = c.bumps-bumps.ensures in
    let up = rw (B.0, B.1, B.2) at c.level_width-lowered.ensures.stands in
    let P = c.pits-pits.ensures in
    rw (P.0, P.1, P.2)
    (record {
      room = omega (arith, accepted_room _ _ _ _ c.requires, length-map c.args.totals.now g.K.Total.columns);
      rows = rows_down O F wide more up;
      stands = (_, _, ready_down O F wide more up, slots_down O F wide more up);
    })

pub loop-width-preserved : goal.loop-width-preserved
loop-width-preserved g c =
    let F = c.loop-width.invariant.0 in
    let more : c.loop-width.width ≤ length c.args.totals.now = omega arith in
    let wide : c.loop-width.width ≡ suc (c.loop-width.width - 1) = omega arith in
    let e : c.loop-width.width + 1 - 1 ≡ c.loop-width.width = omega arith in
    let B = c.bumps-bumps.ensures in
    let up = rw (B.0, B.1, B.2) at c.level_width-lowered.ensures.stands in
    let P = c.pits-pits.ensures in
    let down = rw (P.0, P.1, P.2) at c.level_width-at.ensures.stands in (
      rw e (so_far_more g.met.K.Total.lawful F wide more up down),
      c.level_width-at.ensures.outside ∙ (c.level_width-lowered.ensures.outside ∙ c.loop-width.invariant.1),
    )

pub returns : goal.returns
returns g c =
    let I = c.loop-width.invariant in
    let D = split_done g.met.K.Total.lawful I.0 (omega arith) in
    record { count = D.0; rows = D.1; outside = I.1 }

pub returns-else-at-eq0 : goal.returns-else-at-eq0
returns-else-at-eq0 g c =
    let O = g.met.K.Total.lawful in
    let more : c.loop-width.width ≤ length c.args.totals.now = omega arith in
    let wide : c.loop-width.width ≡ suc (c.loop-width.width - 1) = omega arith in
    let last : length c.args.totals.now ≤ c.loop-width.width = omega arith in
    let B = c.bumps-bumps.ensures in
    let up = rw (B.0, B.1, B.2) at c.level_width-lowered.ensures.stands in
    let P = c.pits-pits.ensures in
    let down = rw (P.0, P.1, P.2) at c.level_width-at.ensures.stands in
    let D = split_done O (so_far_more O c.loop-width.invariant.0 wide more up down) last in
    record { count = D.0; rows = D.1; outside = c.level_width-at.ensures.outside ∙ (c.level_width-lowered.ensures.outside ∙ c.loop-width.invariant.1) }
