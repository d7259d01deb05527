-- A row in bytes shows as the row.
use Rattle.std.proofs.Common.{◌≡◌, ℕ, ◌*◌, ◌^◌, ◌<◌, Bool, true, cond, [], ◌∷◌, length, ℤ, pos, negsuc, None, refl, ap, ◌∙◌, arith, w64, to_z, of_z}
use Rattle.std.proofs.lemmas.Int.{to_z-of_z}
use Rattle.std.proofs.lemmas.Bool.{ltb-true, cond-true}
use Rattle.kinds.specs.Columns.{Arity, one, two, Columns, Each, fits64}
use Rattle.kinds.specs.declared.name.Name.{Name}
use Rattle.kinds.specs.Kinds.{Kind, Of, Lawful}
use Rattle.shelves.specs.declared.row.Row.{Row}
use Rattle.shelves.specs.Bytes.{count, bytes_of_signed, packed, packed_columns, signed, size, unpacked}
use Rattle.shelves.specs.Slots.{shown, slot_of}
use Rattle.shelves.proofs.Amounts.{made}
use Rattle.shelves.proofs.Little.{little_bytes_of}

-- a signed number of 64 bits comes back from its bytes
signed_back : (x : ℤ) → fits64 x ≡ true → signed (bytes_of_signed x) ≡ x
signed_back (pos n) h =
    let small : n < 2 ^ 63 = ltb-true n (2 ^ 63) h in
    ap (to_z w64) (little_bytes_of 8 n (omega arith)) ∙ to_z-of_z w64 (pos n) (record { sfits = small })
signed_back (negsuc n) h =
    let small : n < 2 ^ 63 = ltb-true n (2 ^ 63) h in
    ap (to_z w64) (little_bytes_of 8 (of_z w64 (negsuc n)) (omega arith)) ∙ to_z-of_z w64 (negsuc n) (record { sfits = small })

columns_fill : (a : Arity) (x : Columns a) → length (packed_columns a x) ≡ 8 * count a
columns_fill one x = refl
columns_fill two x = refl

-- a row fills its slot
pub length_packed : (k : Kind) {X : Type 0} (columns : X → Of k) (row : Row X) → length (packed k columns row) ≡ size k.arity
unfolding packed
length_packed k columns row = omega (arith, columns_fill k.arity (columns row.amount))

back : (a : Arity) (below : Columns a → Columns a → Bool) (bound : Each a ℕ) (has : Columns a → Bool) (names : Each a Name) {X : Type 0} (columns : X → Columns a) (row : Row X) → Lawful (made a below bound has names) → has (columns row.amount) ≡ true → row.first < 2 ^ 16 → row.width < 2 ^ 16 → unpacked (made a below bound has names) (packed (made a below bound has names) columns row) ≡ shown (made a below bound has names) columns row
unfolding packed unpacked
back one below bound has names columns row law there f w =
    let x = columns row.amount in
    let first = little_bytes_of 2 row.first f in
    let width = little_bytes_of 2 row.width w in
    let e = signed_back x (law.fitting x there) in
    (λ i. cond (has (e i)) (slot_of (first i) (width i) row.mark (e i ∷ [])) None)
    ∙ cond-true (has x) (slot_of row.first row.width row.mark (x ∷ [])) None there
back two below bound has names columns row law there f w =
    let x = columns row.amount in
    let first = little_bytes_of 2 row.first f in
    let width = little_bytes_of 2 row.width w in
    let d = signed_back x.0 (law.fitting x there).0 in
    let e = signed_back x.1 (law.fitting x there).1 in
    (λ i. cond (has (d i, e i)) (slot_of (first i) (width i) row.mark (d i ∷ e i ∷ [])) None)
    ∙ cond-true (has x) (slot_of row.first row.width row.mark (x.0 ∷ x.1 ∷ [])) None there

-- the bytes of a row show the row
pub unpacked_packed : (k : Kind) {X : Type 0} (columns : X → Of k) (row : Row X) → Lawful k → k.has (columns row.amount) ≡ true → row.first < 2 ^ 16 → row.width < 2 ^ 16 → unpacked k (packed k columns row) ≡ shown k columns row
unpacked_packed k = back k.arity k.below k.bound k.has k.names
