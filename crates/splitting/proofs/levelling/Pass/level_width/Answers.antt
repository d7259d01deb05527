use Rattle.std.proofs.Common.{◌≡◌, suc, ◌+◌, refl, ◌∙◌, arith}
use Rattle.splitting.proofs.Aims.{aimed_lawful}
use Rattle.splitting.proofs.Passes.{skipped}
use Rattle.splitting.proofs.Visits.{stage_outside, to_visit}
use Rattle.splitting.proofs.Sweeps.{added_none, added_then, added_left, added_all, ready_midway, done_knows, done_marks, done_list}
use Rattle.splitting.proofs.levelling.Pass.level_width.Goals as goal
use Rattle.splitting.proofs.levelling.Pass.level_width.Goals.{then-first-at, else-first-at}

pub loop-number-init : goal.loop-number-init
loop-number-init g c =
    record {
      stands = λ b a R. (ready_midway g.met.K.Total.lawful R, added_none _ _ _ _ _);
      rows = omega arith;
      outside = refl;
    }

pub mark_at-first-requires : goal.mark_at-first-requires
mark_at-first-requires g c = omega (arith, c.requires.stands.2.few)

pub visit-at-requires : goal.visit-at-requires
visit-at-requires g c =
    let R = c.requires.stands.2 in
    let f = R.few in
    let I = c.loop-number.invariant.stands _ _ R in
    record {
      room = omega arith;
      rows = omega arith;
      stands = (_, _, _, _, to_visit R I.0 c.loop-number-test.true c.mark_at-first.ensures c.if-first-at.true, added_left c.args.self.days c.requires.stands.3 I.1);
    }

pub loop-number-preserved : goal.loop-number-preserved
loop-number-preserved g c =
    let e : c.loop-number.number + 1 ≡ suc c.loop-number.number = omega arith in
    elim c.if-first-at.branch [
      | then-first-at w ↦
          rw (w.work-is, w.shelf-is, w.at-is) (record {
            stands = λ b a R.
                let I = c.loop-number.invariant.stands b a R in
                let S = w.visit-at.ensures.stands b a _ _ (to_visit R I.0 c.loop-number-test.true c.mark_at-first.ensures w.if-first-at.true) in
                (rw e S.0, added_then I.1 S.1);
            rows = let n = c.loop-number.invariant.rows in let m = w.visit-at.ensures.rows in omega arith;
            outside = w.visit-at.ensures.outside ∙ c.loop-number.invariant.outside;
          })
      | else-first-at w ↦
          rw (w.work-is, w.shelf-is, w.at-is) (record {
            stands = λ b a R.
                let I = c.loop-number.invariant.stands b a R in
                let l = w.if-first-at.false in
                let q = c.mark_at-first.ensures in (
                  rw e (skipped (aimed_lawful _ g.met.K.Total.lawful c.args.self.aim) R.stage.some R.stage.apart (stage_outside _ c.args.self.aim _ b R.size) I.0 c.loop-number-test.true (omega arith)),
                  I.1,
                );
            rows = let n = c.loop-number.invariant.rows in omega arith;
            outside = c.loop-number.invariant.outside;
          })
    ]

pub returns : goal.returns
returns g c =
    let O = g.met.K.Total.lawful in
    record {
      stands = λ b a R.
          let I = c.loop-number.invariant.stands b a R in
          let l = c.loop-number-test.false in
          let f = R.few in
          let k = I.0.behind in
          let A = added_all _ (done_list O R I.0 l) I.1 in
          record {
            knows = done_knows O R I.0 l;
            marked = done_marks O R I.0 l;
            few = omega arith;
            put = A.0;
            count = A.1;
          };
      outside = c.loop-number.invariant.outside;
    }
