use Rattle.std.proofs.Common.{ap, ◌∙◌, w64}
use Rattle.std.proofs.lemmas.Int.{to_z-of_z}
use Rattle.shelves.specs.Bytes.{bytes_of_signed}
use Rattle.shelves.proofs.Fills.{one_column, two_columns}
use Rattle.shelves.proofs.packing.write_columns.Goals as goal

pub returns-then-bytes-gt8 : goal.returns-then-bytes-gt8
returns-then-bytes-gt8 g c =
    two_columns g.K.Total.kind.arity (g.K.Total.columns c.args.amount) c.args.bytes.now c.write_column.new.bytes c.write_column-then-bytes-gt8.new.bytes c.column_of.result c.column_of-then-bytes-gt8.result
    c.requires c.if-bytes-gt8.true c.column_of.ensures c.column_of-then-bytes-gt8.ensures
    (c.write_column.ensures ∙ ap bytes_of_signed (to_z-of_z w64 c.column_of.result (record { sfits = c.column_of.type_inv })))
    (c.write_column-then-bytes-gt8.ensures ∙ ap bytes_of_signed (to_z-of_z w64 c.column_of-then-bytes-gt8.result (record { sfits = c.column_of-then-bytes-gt8.type_inv })))

pub returns-else-bytes-gt8 : goal.returns-else-bytes-gt8
returns-else-bytes-gt8 g c =
    one_column g.K.Total.kind.arity (g.K.Total.columns c.args.amount) c.args.bytes.now c.write_column.new.bytes c.column_of.result
    c.requires c.if-bytes-gt8.false c.column_of.ensures
    (c.write_column.ensures ∙ ap bytes_of_signed (to_z-of_z w64 c.column_of.result (record { sfits = c.column_of.type_inv })))
