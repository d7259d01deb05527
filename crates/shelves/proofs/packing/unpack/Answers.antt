use Rattle.std.proofs.Common.{◌≤◌, length, sym, refl, arith, rules}
use Rattle.std.proofs.lemmas.Bool.{and_parts, leb-true}
use Rattle.shelves.proofs.Unpacks.{blank_columns, blank_head, row_held}
use Rattle.shelves.proofs.packing.unpack.Goals as goal

pub returns-then-not-is_row : goal.returns-then-not-is_row
returns-then-not-is_row g c = blank_head g.K.Total.kind c.args.slot.now (sym c.if-not-is_row.ensures)

pub returns-in_err-amount : goal.returns-in_err-amount
returns-in_err-amount g c = let blank = blank_columns g.K.Total.kind c.args.slot.now c.in_err-amount.ensures in search rules

pub returns : goal.returns
returns g c =
    let row = sym c.if-not-is_row.ensures in
    let long : 8 ≤ length c.args.slot.now = omega arith in (
      leb-true _ _ (and_parts _ _ row).0,
      row_held g.K.Total.kind g.K.Total.columns c.args.slot.now _ row long
          (g.met.K.Total.held c.in_ok-amount.amount) c.in_ok-amount.ensures c.number.ensures c.number-2.ensures refl,
    )
