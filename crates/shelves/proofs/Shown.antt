-- What a shelf over bytes shows, before and after a row is put.
use Rattle.std.proofs.Common.{◌≡◌, ℕ, ◌+◌, ◌*◌, ◌/◌, ◌<◌, ◌≤◌, List, map, length, get_or, drop, set, None, Option, ap, ◌∙◌, zero-add, arith}
use Rattle.std.proofs.lemmas.List.FromFn.{length-map-range_with_len, get_or-map-range_with_len}
use Rattle.std.specs.List.{range_with_len}
use Rattle.kinds.specs.Kinds.{Kind, Of}
use Rattle.shelves.specs.declared.row.Row.{Row}
use Rattle.shelves.specs.Bytes.{overwritten, packed, past, shown_bytes, size, slot_bytes, unpacked, whole}
use Rattle.shelves.specs.Slots.{Entry, Holds, shown}
use Rattle.shelves.proofs.Overwrites.{drop_above, length_overwritten, slot_before, slot_within, slots_set}
use Rattle.shelves.proofs.Packs.{length_packed}

pub length_shown : (k : Kind) (bytes : List ℕ) → length (shown_bytes k bytes) ≡ whole k.arity bytes
length_shown k bytes = length-map-range_with_len (λ slot. unpacked k (slot_bytes k.arity bytes slot)) 0 (whole k.arity bytes)

pub getD_shown : (k : Kind) (bytes : List ℕ) (slot : ℕ) → slot < whole k.arity bytes → get_or (shown_bytes k bytes) slot None ≡ unpacked k (slot_bytes k.arity bytes slot)
getD_shown k bytes slot h = get_or-map-range_with_len (λ i. unpacked k (slot_bytes k.arity bytes i)) 0 (whole k.arity bytes) slot slot None h (zero-add slot)

-- a row put into a slot that there is
module _ (k : Kind) {X : Type 0} (columns : X → Of k) (row : Row X) (bytes : List ℕ) (slot : ℕ) (below : slot < whole k.arity bytes) where
  abbrev new : List ℕ
  new = packed k columns row

  abbrev after : List ℕ
  after = overwritten bytes (slot * size k.arity) new

  within : slot * size k.arity + size k.arity ≤ length bytes
  within = slot_within (size k.arity) (length bytes) slot below

  long : slot * size k.arity + length new ≤ length bytes
  long = let e = length_packed k columns row in let w = within in omega arith

  same_whole : whole k.arity after ≡ whole k.arity bytes
  same_whole = ap (λ n. n / size k.arity) (length_overwritten bytes new (slot * size k.arity) long)

  pub shown_put : unpacked k new ≡ shown k columns row → shown_bytes k after ≡ set (shown_bytes k bytes) slot (shown k columns row)
  shown_put shows =
      ap (λ n. map (λ i. unpacked k (slot_bytes k.arity after i)) (range_with_len 0 n)) same_whole
      ∙ (slots_set (unpacked k) bytes new (size k.arity) (whole k.arity bytes) slot (length_packed k columns row) within below
      ∙ ap (set (shown_bytes k bytes) slot) shows)

  pub past_put : past k after ≡ past k bytes
  past_put =
      let e = length_packed k columns row in
      let end : slot * size k.arity + length new ≤ whole k.arity bytes * size k.arity = omega (arith, slot_before (size k.arity) slot (whole k.arity bytes) below) in
      ap (λ n. drop (n * size k.arity) after) same_whole ∙ drop_above bytes new (slot * size k.arity) long (whole k.arity bytes * size k.arity) end

-- what is answered of a slot that shows the same
pub holds_at : (k : Kind) {X : Type 0} (columns : X → Of k) (d e : Option Entry) (r : Option (Row X)) → d ≡ e → Holds k columns e r → Holds k columns d r
holds_at k columns d e r p h = rw p h

-- a slot that there is not
pub no_slot : {P : Type 0} (slot n : ℕ) → n ≤ slot → slot < n → P
no_slot slot n h l = absurd (omega arith)
