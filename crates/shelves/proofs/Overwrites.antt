-- Bytes in slots of one size, and one slot written over.
use Rattle.std.proofs.Common.{◌≡◌, ℕ, suc, ◌+◌, ◌-◌, ◌*◌, ◌/◌, ◌<◌, ◌≤◌, ◌≢◌, ◌⊎◌, List, ◌++◌, map, length, get_or, take, drop, set, sym, ap, ◌∙◌, inl, inr, append_assoc, mul-le-mul_right, suc-mul, zero-add, div-mul-le_self, arith}
use borrow.Rule.Slice.PartMut.{put_mid}
use Rattle.std.proofs.lemmas.List.FromFn.{length-map-range_with_len, get_or-map-range_with_len}
use Rattle.std.proofs.lemmas.List.{drop_at, drop-drop, drop-take, get_or-set_other, get_or-set_same, length-append, length-drop, length-set, length-take-le, same_lists, take-append-le, take_at, take-take}
use Rattle.std.proofs.lemmas.Bool.{cases_order}
use Rattle.std.specs.List.{range_with_len}
use Rattle.shelves.specs.Bytes.{overwritten, part}

-- a slot ends before the next one begins
pub slot_before : (n i j : ℕ) → i < j → i * n + n ≤ j * n
slot_before n i j h = omega (arith, suc-mul i n, mul-le-mul_right {m = suc i} {n = j} n h)

-- a whole slot lies within
pub slot_within : (n len i : ℕ) → i < len / n → i * n + n ≤ len
slot_within n len i h = omega (arith, slot_before n i (len / n) h, div-mul-le_self len n)

-- what the write to a part of the slice left
pub put_is : (bytes old new : List ℕ) (at k from : ℕ) → at ≡ from → k ≡ length new → old ≡ new → put_mid at k bytes old ≡ overwritten bytes from new
put_is bytes old new at k from e f h =
    (λ i. take (e i) bytes ++ (h i ++ drop (f i) (drop (e i) bytes)))
    ∙ ap (λ t. take from bytes ++ (new ++ t)) (drop-drop (length new) from bytes)

module _ (bytes new : List ℕ) (at : ℕ) (within : at + length new ≤ length bytes) where
  front : length (take at bytes) ≡ at
  front = length-take-le at bytes (omega arith)

  pub length_overwritten : length (overwritten bytes at new) ≡ length bytes
  length_overwritten = let e = front in simp (length-append, length-drop) (omega arith)

  -- the part written
  pub part_same : (n : ℕ) → length new ≡ n → part at n (overwritten bytes at new) ≡ new
  part_same n e = ap (take n) (drop_at (take at bytes) _ at front) ∙ take_at new _ n e

  -- the parts before
  pub part_below : (j n : ℕ) → j + n ≤ at → part j n (overwritten bytes at new) ≡ part j n bytes
  part_below j n h =
      let e = front in
      let short : take (j + n) (overwritten bytes at new) ≡ take (j + n) bytes = take-append-le (j + n) (take at bytes) _ (omega arith) ∙ take-take (j + n) at bytes h in
      sym (drop-take j n (overwritten bytes at new)) ∙ (ap (drop j) short ∙ drop-take j n bytes)

  -- what lies past it
  pub drop_above : (j : ℕ) → at + length new ≤ j → drop j (overwritten bytes at new) ≡ drop j bytes
  drop_above j h =
      let e = front in
      let to : ℕ = at + length new in
      let there : drop to (overwritten bytes at new) ≡ drop to bytes =
      ap (drop to) (sym (append_assoc (take at bytes) new (drop to bytes)))
      ∙ drop_at (take at bytes ++ new) (drop to bytes) to (simp length-append (omega arith)) in
      let on : to + (j - to) ≡ j = omega arith in
      ap (λ t. drop t (overwritten bytes at new)) (sym on)
      ∙ (sym (drop-drop (j - to) to (overwritten bytes at new))
      ∙ (ap (drop (j - to)) there
      ∙ (drop-drop (j - to) to bytes ∙ ap (λ t. drop t bytes) on)))

-- each slot of n bytes read by f: one written over, the others as they were
module _ {X : Type 0} (f : List ℕ → X) (bytes new : List ℕ) (n m slot : ℕ) (size : length new ≡ n) (within : slot * n + n ≤ length bytes) (below : slot < m) where
  abbrev was : ℕ → X
  was i = f (part (i * n) n bytes)

  abbrev is : ℕ → X
  is i = f (part (i * n) n (overwritten bytes (slot * n) new))

  long : slot * n + length new ≤ length bytes
  long = omega arith

  others : (k : ℕ) (d : X) → k < m → (k < slot) ⊎ (slot < k) → is k ≡ was k
  others k d h (inl l) = ap f (part_below bytes new (slot * n) long (k * n) n (slot_before n k slot l))
  others k d h (inr l) =
      let after : slot * n + length new ≤ k * n = omega (arith, slot_before n slot k l) in
      ap (λ t. f (take n t)) (drop_above bytes new (slot * n) long (k * n) after)

  each : (k : ℕ) (d : X) → k < m → get_or (map is (range_with_len 0 m)) k d ≡ get_or (set (map was (range_with_len 0 m)) slot (f new)) k d
  each k d h = get_or-map-range_with_len is 0 m k k d h (zero-add k) ∙ sym (at (cases_order k slot))
    where
      at : (k ≡ slot) ⊎ ((k < slot) ⊎ (slot < k)) → get_or (set (map was (range_with_len 0 m)) slot (f new)) k d ≡ is k
      at (inl e) =
          let lt : slot < length (map was (range_with_len 0 m)) = simp length-map-range_with_len below in
          ap (λ t. get_or (set (map was (range_with_len 0 m)) slot (f new)) t d) e
          ∙ (get_or-set_same (map was (range_with_len 0 m)) slot (f new) d lt
          ∙ (sym (ap f (part_same bytes new (slot * n) long n size)) ∙ ap is (sym e)))
      at (inr l) =
          let ne : k ≢ slot = λ e. elim l [ inl a ↦ omega arith | inr b ↦ omega arith ] in
          get_or-set_other (map was (range_with_len 0 m)) slot k (f new) d ne
          ∙ (get_or-map-range_with_len was 0 m k k d h (zero-add k) ∙ sym (others k d h l))

  pub slots_set : map is (range_with_len 0 m) ≡ set (map was (range_with_len 0 m)) slot (f new)
  slots_set =
      same_lists (map is (range_with_len 0 m)) (set (map was (range_with_len 0 m)) slot (f new))
      (simp (length-set, length-map-range_with_len))
      (λ k d h. each k d (simp length-map-range_with_len at h))
