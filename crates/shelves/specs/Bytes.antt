-- Rows in bytes: a slot is 8 bytes, and 8 more for each column.
use Rattle.std.specs.Prelude.{ℕ, zero, suc, ◌+◌, ◌*◌, ◌/◌, ◌%◌, Bool, cond, ◌&&◌, List, [], ◌∷◌, ◌++◌, map, length, take, drop, ℤ, None, Option, ◌==◌, slice_index}
use Rattle.std.specs.Int.{w64}
use Rattle.std.proofs.Common.{to_z, of_z}
use Rattle.std.specs.Borrow.{MutBor}
use Rattle.std.specs.List.{range_with_len}
use Rattle.kinds.specs.Columns.{Arity, one, two, Columns}
use Rattle.kinds.specs.Kinds.{Kind, Of}
use Rattle.shelves.specs.declared.row.Row.{Row}
use Rattle.shelves.specs.Slots.{Entry, Outside, listed, slot_of}

-- the number that bytes spell, lowest first
abbrev pub little : List ℕ → ℕ
little [] = 0
little (b ∷ bs) = b + 256 * little bs

-- a number in so many bytes, lowest first
abbrev pub bytes_of : ℕ → ℕ → List ℕ
bytes_of zero n = []
bytes_of (suc k) n = (n % 256) ∷ bytes_of k (n / 256)

-- the same of signed numbers of eight bytes, in two's complement
abbrev pub signed : List ℕ → ℤ
signed bytes = to_z w64 (little bytes)

abbrev pub bytes_of_signed : ℤ → List ℕ
bytes_of_signed x = bytes_of 8 (of_z w64 x)

-- so many bytes from a place on
abbrev pub part : ℕ → ℕ → List ℕ → List ℕ
part at n bytes = take n (drop at bytes)

-- the bytes of a slot
abbrev pub count : Arity → ℕ
count one = 1
count two = 2

abbrev pub size : Arity → ℕ
size a = 8 + 8 * count a

-- the columns in a slot's bytes
abbrev pub stored : (a : Arity) → List ℕ → Columns a
stored one slot = signed (part 8 8 slot)
stored two slot = (signed (part 8 8 slot), signed (part 16 8 slot))

-- the three filler bytes are zero
abbrev pub clear : List ℕ → Bool
clear slot = slice_index slot 5 == 0 && (slice_index slot 6 == 0 && slice_index slot 7 == 0)

-- what a slot's bytes hold: blank with a filler byte that is not zero, with columns of which the kind has no value, or with another mark
unfoldable pub unpacked : Kind → List ℕ → Option Entry
unpacked k slot =
    cond (clear slot && k.has (stored k.arity slot))
    (slot_of (little (part 0 2 slot)) (little (part 2 2 slot)) (slice_index slot 4) (listed k.arity (stored k.arity slot)))
    None

-- the bytes of columns, and of a row
abbrev pub packed_columns : (a : Arity) → Columns a → List ℕ
packed_columns one x = bytes_of_signed x
packed_columns two x = bytes_of_signed x.0 ++ bytes_of_signed x.1

abbrev pub packed_head : ℕ → ℕ → ℕ → List ℕ
packed_head first width mark = bytes_of 2 first ++ (bytes_of 2 width ++ (mark ∷ 0 ∷ 0 ∷ 0 ∷ []))

unfoldable pub packed : {V : Type 0} (k : Kind) → (V → Of k) → Row V → List ℕ
packed k columns row = packed_head row.first row.width row.mark ++ packed_columns k.arity (columns row.amount)

-- as many slots as whole slots fit
abbrev pub whole : Arity → List ℕ → ℕ
whole a bytes = length bytes / size a

-- the bytes of one slot
abbrev pub slot_bytes : Arity → List ℕ → ℕ → List ℕ
slot_bytes a bytes slot = part (slot * size a) (size a) bytes

-- what a shelf over lent bytes shows
abbrev pub shown_bytes : Kind → List ℕ → List (Option Entry)
shown_bytes k bytes = map (λ slot. unpacked k (slot_bytes k.arity bytes slot)) (range_with_len 0 (whole k.arity bytes))

-- the bytes past the slots
abbrev pub past : Kind → List ℕ → List ℕ
past k bytes = drop (whole k.arity bytes * size k.arity) bytes

-- the lent bytes besides the slots
abbrev pub over_bytes : Kind → MutBor (List ℕ) → Outside
over_bytes k bytes = record { place = bytes.ghost_name; slots = []; bytes = past k bytes.now }

-- bytes with other bytes over them from a place on
abbrev pub overwritten : List ℕ → ℕ → List ℕ → List ℕ
overwritten bytes at new = take at bytes ++ (new ++ drop (at + length new) bytes)
