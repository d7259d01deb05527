use Rattle.std.proofs.Common.{◌≡◌, suc, ◌+◌, [], ◌∷◌, set, refl, ap, ◌∙◌, arith}
use Rattle.std.proofs.lemmas.List.{append-nil}
use Rattle.splitting.specs.Work.{view}
use Rattle.splitting.specs.Passes.{bump_pulse}
use Rattle.splitting.proofs.Visits.{visit_starts, visit_order, visit_end, other_left, other_right, entered_here, entered_left, entered_right, slot_left, visit_dropped, dropped_none, visit_kept, kept_none, visit_levelled, levelled_one}
use Rattle.splitting.proofs.levelling.Pass.visit.Goals as goal

pub other_at-requires : goal.other_at-requires
other_at-requires g c =
    let V = c.requires.stands.4 in
    let O = g.met.K.Total.lawful in
    omega (arith, visit_order O V, visit_end O V)

pub invariant_of-run : goal.invariant_of-run
invariant_of-run g c =
    let V = c.requires.stands.4 in
    let O = g.met.K.Total.lawful in
    record { begins = visit_starts O V; ordered = rw c.other_at.ensures (visit_order O V) }

pub fate_of-requires-clause-last_bound : goal.fate_of-requires-clause-last_bound
fate_of-requires-clause-last_bound g c =
    let V = c.requires.stands.4 in
    let O = g.met.K.Total.lawful in
    rw c.other_at.ensures (visit_end O V)

pub pulse-requires : goal.pulse-requires
pulse-requires g c =
    let V = c.requires.stands.4 in
    let O = g.met.K.Total.lawful in
    let F = rw c.other_at.ensures at c.in-Levelled.ensures in
    let f = F.0 in
    let w = F.3 in
    let o = visit_order O V in
    let q = c.other_at.ensures in
    record {
      last_in_bounds = omega arith;
      first_bound = omega arith;
      width_bound = omega arith;
      run_entered = entered_here O V;
      left_entered = entered_left O V;
      right_entered = rw c.other_at.ensures (entered_right O V f);
    }

pub put_next-rows-requires-clause-slot : goal.put_next-rows-requires-clause-slot
put_next-rows-requires-clause-slot g c =
    let V = c.requires.stands.4 in
    slot_left g.met.K.Total.lawful V (rw c.other_at.ensures at c.in-Levelled.ensures) _ _ c.requires.stands.5

pub level-first-requires : goal.level-first-requires
level-first-requires g c =
    let V = c.requires.stands.4 in
    let O = g.met.K.Total.lawful in
    let F = rw c.other_at.ensures at c.in-Levelled.ensures in
    let f = F.0 in
    let o = visit_order O V in
    let q = c.other_at.ensures in
    let l = other_left O V in
    let r = other_right O V f in
    record {
      last_in_bounds = omega arith;
      left_in_bounds = omega arith;
      right_in_bounds = rw c.other_at.ensures (omega arith);
    }

pub marked-requires : goal.marked-requires
marked-requires g c =
    let V = c.requires.stands.4 in
    omega (arith, V.mid.behind, V.here, V.few)

pub set_mark-requires : goal.set_mark-requires
set_mark-requires g c =
    let V = c.requires.stands.4 in
    omega (arith, V.mid.behind, V.here, V.few)

pub returns-in-Levelled-clause-stands : goal.returns-in-Levelled-clause-stands
returns-in-Levelled-clause-stands g c =
    let O = g.met.K.Total.lawful in
    let q = c.other_at.ensures in
    let F = rw c.other_at.ensures at c.in-Levelled.ensures in
    let E = rw c.other_at.ensures at c.level-first.ensures in
    let v = view g.K.Total.kind g.K.Total.columns c.args.work.now in
    λ b a i hi V. (
      visit_levelled O V F E c.marked.ensures,
      record {
        list = bump_pulse g.K.Total.kind c.args.self.aim v c.args.self.width c.args.first (v.other c.args.first) ∷ [];
        more = levelled_one O V F E c.marked.ensures;
        put = c.put_next-rows.ensures.slots ∙ ap (λ e. set (g.S.Shelf.slots c.args.shelf.now) c.args.at.rows e) (rw c.other_at.ensures at c.pulse.ensures);
        count = c.put_next-rows.ensures.rows;
      },
    )

pub returns-in-Kept-clause-stands : goal.returns-in-Kept-clause-stands
returns-in-Kept-clause-stands g c =
    let O = g.met.K.Total.lawful in
    let F = rw c.other_at.ensures at c.in-Kept.ensures in
    let e : c.args.at.kept + 1 ≡ suc c.args.at.kept = omega arith in
    λ b a i hi V. (
      rw (c.set_mark.ensures, e, c.other_at.ensures) (visit_kept O V F),
      record {
        list = [];
        more = rw (c.other_at.ensures, append-nil) (kept_none O V F);
        put = refl;
        count = omega arith;
      },
    )

pub returns-in-Dropped-clause-stands : goal.returns-in-Dropped-clause-stands
returns-in-Dropped-clause-stands g c =
    let O = g.met.K.Total.lawful in
    let F = rw c.other_at.ensures at c.in-Dropped.ensures in
    λ b a i hi V. (
      rw c.other_at.ensures (visit_dropped O V F),
      record {
        list = [];
        more = rw (c.other_at.ensures, append-nil) (dropped_none O V F);
        put = refl;
        count = omega arith;
      },
    )
