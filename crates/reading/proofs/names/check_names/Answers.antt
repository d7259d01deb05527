use Rattle.std.proofs.Common.{sym, ap, ◌∙◌}
use Rattle.refusals.specs.Faults.{at_name}
use Rattle.reading.specs.Parts.{fields}
use Rattle.reading.specs.Traces.{trace_names}
use Rattle.reading.proofs.PlaceFacts.{bad_placed, bad_later, bad_unknown, bad_repeated, bad_none}
use Rattle.reading.proofs.names.check_names.Goals as goal
use Rattle.reading.proofs.names.check_names.Goals.{then-not-known-via-then-not-known, then-not-known-via-else-not-known+then-start_under-byte}

pub loop-byte-init : goal.loop-byte-init
loop-byte-init g c =
    rw (c.into_iter-byte-iterator.ensures.into_iter_gives, c.of-byte-items.ensures) (bad_placed (trace_names g.K.Total.kind) (fields c.args.names.now) 0 (fields c.args.names.now))

pub returns-then-not-known : goal.returns-then-not-known
returns-then-not-known g c =
    elim c.then-not-known.branch [
      | then-not-known-via-then-not-known w ↦ ap at_name (bad_unknown (trace_names g.K.Total.kind) (fields c.args.names.now) _ _ _ _ c.in-Some.ensures.steps c.loop-byte.invariant (sym w.if-not-known.ensures))
      | then-not-known-via-else-not-known+then-start_under-byte w ↦
          ap at_name (bad_repeated (trace_names g.K.Total.kind) (fields c.args.names.now) _ _ _ _ c.in-Some.ensures.steps c.loop-byte.invariant (λ e. w.if-start_under-byte.true (w.start_under.ensures ∙ e)))
    ]

pub loop-byte-preserved : goal.loop-byte-preserved
loop-byte-preserved g c =
    bad_later (trace_names g.K.Total.kind) (fields c.args.names.now) _ _ _ _ c.in-Some.ensures.steps c.loop-byte.invariant (sym c.if-not-known.ensures) (sym c.start_under.ensures ∙ c.if-start_under-byte.false)

pub returns : goal.returns
returns g c = ap at_name (bad_none (trace_names g.K.Total.kind) (fields c.args.names.now) _ _ c.in-None.ensures.steps.0 c.loop-byte.invariant)
