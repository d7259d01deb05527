use Rattle.std.proofs.Common.{sym, refl, ◌∙◌}
use Rattle.reading.proofs.PartFacts.{holds_any}
use Rattle.reading.proofs.fields.field.Goals as goal
use Rattle.reading.proofs.fields.field.Goals.{then-contains-via-then-contains, then-contains-via-else-contains+then-contains-2}

pub returns-then-contains : goal.returns-then-contains
returns-then-contains c =
    elim c.then-contains.branch [
      | then-contains-via-then-contains w ↦ rw (sym (holds_any 10 c.args.names.now) ∙ sym w.if-contains.ensures.value) refl
      | then-contains-via-else-contains+then-contains-2 w ↦ rw (sym (holds_any 10 c.args.names.now) ∙ sym w.if-contains.ensures.value, sym (holds_any 10 c.args.values.now) ∙ sym w.if-contains-2.ensures.value) refl
    ]

pub returns : goal.returns
returns c =
    rw (sym (holds_any 10 c.args.names.now) ∙ sym c.if-contains.ensures.value, sym (holds_any 10 c.args.values.now) ∙ sym c.if-contains-2.ensures.value) c.field_of_line.ensures
