use Rattle.std.proofs.Common.{◌≡◌, ◌∙◌, rules, w64}
use Rattle.std.proofs.lemmas.Int.{to_z-of_z}
use Rattle.shelves.proofs.Amounts.{none_first, some_alone, with_second}
use Rattle.shelves.proofs.packing.amount_in.Goals as goal

pub returns-in_err-amount : goal.returns-in_err-amount
returns-in_err-amount g c =
    let K = g.K.Total.kind in
    let lacks : K.has _ ≡ _ =
    none_first K g.K.Total.columns (g.K.Total.columns c.zero.result) c.args.slot.now _
    g.met.K.Total.lawful c.zero.ensures
    (to_z-of_z w64 c.column_in.result (record { sfits = c.column_in.type_inv }) ∙ c.column_in.ensures)
    c.in_err-amount.ensures in
    search rules

pub returns-then-slot-gt16 : goal.returns-then-slot-gt16
returns-then-slot-gt16 g c =
    with_second g.K.Total.kind g.K.Total.columns (g.K.Total.columns c.zero.result) c.args.slot.now _ _ c.in_ok-amount.amount c.replace-then-slot-gt16.result
    c.requires c.if-slot-gt16.true
    (to_z-of_z w64 c.column_in.result (record { sfits = c.column_in.type_inv }) ∙ c.column_in.ensures)
    (to_z-of_z w64 c.column_in-then-slot-gt16.result (record { sfits = c.column_in-then-slot-gt16.type_inv }) ∙ c.column_in-then-slot-gt16.ensures)
    c.in_ok-amount.ensures c.replace-then-slot-gt16.ensures

pub returns-else-slot-gt16 : goal.returns-else-slot-gt16
returns-else-slot-gt16 g c =
    some_alone g.K.Total.kind g.K.Total.columns (g.K.Total.columns c.zero.result) c.args.slot.now _ c.in_ok-amount.amount
    c.requires c.if-slot-gt16.false
    (to_z-of_z w64 c.column_in.result (record { sfits = c.column_in.type_inv }) ∙ c.column_in.ensures)
    c.in_ok-amount.ensures
