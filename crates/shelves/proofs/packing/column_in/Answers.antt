use Rattle.std.proofs.Common.{ap, ◌∙◌, w64, to_z}
use Rattle.std.proofs.lemmas.Int.{to_z-of_z}
use Rattle.shelves.specs.Bytes.{signed}
use Rattle.shelves.proofs.Little.{little_eight}
use Rattle.shelves.proofs.packing.column_in.Goals as goal

pub returns : goal.returns
returns c =
    to_z-of_z w64 c.from_le_bytes.result (record { sfits = c.from_le_bytes.type_inv })
    ∙ (c.from_le_bytes.ensures
    ∙ (ap (to_z w64) (little_eight c.copy_from_slice.new.self c.copy_from_slice.ensures.len)
    ∙ ap signed c.copy_from_slice.ensures.after))
