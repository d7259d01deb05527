use Rattle.std.proofs.Common.{◌≡◌, ℕ, suc, ◌+◌, map, length, sym, ◌∙◌, arith}
use Rattle.std.proofs.lemmas.List.{length-map}
use Rattle.transform.specs.Windows.{Trace, trace}
use Rattle.transform.proofs.Smooths.{trace_outside}
use Rattle.splitting.proofs.Days.{trace_at}
use Rattle.splitting.proofs.Layouts.{laid_none, laid_known, laid_marks}
use Rattle.splitting.proofs.layout.build.Goals as goal

pub loop-day-init : goal.loop-day-init
loop-day-init g c =
    let xs = map g.K.Total.columns c.args.totals.now in
    (laid_none _ _ _, c.zero.ensures ∙ sym (trace_outside g.K.Total.kind xs).0)

pub loop-day-preserved : goal.loop-day-preserved
loop-day-preserved g c =
    let xs = map g.K.Total.columns c.args.totals.now in
    let x : Trace g.K.Total.kind = trace g.K.Total.kind xs in
    let at = trace_at g.K.Total.kind g.K.Total.columns c.args.totals.now c.loop-day.day c.index-totals-day.result (omega arith) c.index-totals-day.is in
    let e : c.loop-day.day + 1 ≡ suc c.loop-day.day = omega arith in
    rw e (c.extended-at.ensures.laid.laid (suc (length c.args.totals.now)) x c.loop-day.invariant.0 c.loop-day.invariant.1 (sym at) (omega arith))

pub returns : goal.returns
returns g c =
    let xs = map g.K.Total.columns c.args.totals.now in
    let x : Trace g.K.Total.kind = trace g.K.Total.kind xs in
    let n : ℕ = length c.args.totals.now in
    let d : c.loop-day.day ≡ n = omega arith in
    let zero = (trace_outside g.K.Total.kind xs).1 (suc n) (simp length-map (omega arith)) in
    let f : n + 1 ≡ suc n = omega arith in
    let A = c.ended-at.ensures.laid.laid (suc n) x (rw d at c.loop-day.invariant.0) c.loop-day.invariant.1 (sym zero) (omega arith) in
    record {
      knows = rw (c.set_run.ensures, f, A.1) (laid_known (suc n) x _ _ _ A.0);
      marks = rw c.set_run.ensures (laid_marks g.K.Total.kind g.met.K.Total.lawful (suc n) x _ _ _ A.0);
      few = c.ended-at.ensures.marks;
    }
