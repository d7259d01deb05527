-- What the bytes of a slot show.
use Rattle.std.proofs.Common.{◌≡◌, ℕ, ◌+◌, ◌≤◌, Bool, true, false, cond, ◌&&◌, leb, List, [], ◌∷◌, length, get_or, take, None, Option, sym, refl, ap, ◌∙◌, inl, inr, arith}
use Rattle.std.proofs.lemmas.List.{drop_more}
use Rattle.std.proofs.lemmas.Bool.{and_cases, and_parts, and_from, and_left, and_right, leb-false, cond-true, cond-false}
use Rattle.kinds.specs.Kinds.{Kind, Of}
use Rattle.shelves.specs.declared.row.Row.{Row}
use Rattle.shelves.specs.Bytes.{clear, little, part, stored, unpacked}
use Rattle.shelves.specs.Slots.{Entry, listed, shown, slot_of}
use Rattle.shelves.proofs.Blanks.{blank_mark}

-- two bytes, one by one
pub two_at : (at : ℕ) (s : List ℕ) → at + 2 ≤ length s → part at 2 s ≡ get_or s at 0 ∷ get_or s (at + 1) 0 ∷ []
two_at at s h =
    let here = drop_more s at 0 (omega arith) in
    let next = drop_more s (at + 1) 0 (omega arith) in
    ap (take 2) (here ∙ ap (λ t. get_or s at 0 ∷ t) next)

-- the slot that the bytes would hold, with a clear filler and an amount of the kind
abbrev numbers : Kind → List ℕ → Option Entry
numbers k s = slot_of (little (part 0 2 s)) (little (part 2 2 s)) (get_or s 4 0) (listed k.arity (stored k.arity s))

either : (b : Bool) (x y : Option Entry) → x ≡ y → cond b x y ≡ y
either true x y e = e
either false x y e = refl

-- a filler byte that is not zero, or another mark
pub blank_head : (k : Kind) (s : List ℕ) → (leb (get_or s 4 0) 1 && clear s) ≡ false → unpacked k s ≡ None
unfolding unpacked
blank_head k s h =
    let t = clear s in
    let u = k.has (stored k.arity s) in
    elim (and_cases (leb (get_or s 4 0) 1) t h) [
      | inl m ↦ either (t && u) (numbers k s) None (blank_mark (little (part 0 2 s)) (little (part 2 2 s)) (get_or s 4 0) (listed k.arity (stored k.arity s)) (leb-false (get_or s 4 0) 1 m))
      | inr f ↦ cond-false (t && u) (numbers k s) None (and_left t u f)
    ]

-- columns of which the kind has no value
pub blank_columns : (k : Kind) (s : List ℕ) → k.has (stored k.arity s) ≡ false → unpacked k s ≡ None
unfolding unpacked
blank_columns k s h =
    let t = clear s in
    let u = k.has (stored k.arity s) in
    cond-false (t && u) (numbers k s) None (and_right t u h)

-- a row
pub row_held : (k : Kind) {X : Type 0} (columns : X → Of k) (s : List ℕ) (row : Row X) → (leb (get_or s 4 0) 1 && clear s) ≡ true → 8 ≤ length s → k.has (columns row.amount) ≡ true → columns row.amount ≡ stored k.arity s → row.first ≡ little (get_or s 0 0 ∷ get_or s 1 0 ∷ []) → row.width ≡ little (get_or s 2 0 ∷ get_or s 3 0 ∷ []) → row.mark ≡ get_or s 4 0 → unpacked k s ≡ shown k columns row
unfolding unpacked
row_held k columns s row h l has same first width mark =
    let t = clear s in
    let u = k.has (stored k.arity s) in
    let there : u ≡ true = ap k.has (sym same) ∙ has in
    cond-true (t && u) (numbers k s) None (and_from t u (and_parts (leb (get_or s 4 0) 1) t h).1 there)
    ∙ (λ i. slot_of ((ap little (two_at 0 s (omega arith)) ∙ sym first) i) ((ap little (two_at 2 s (omega arith)) ∙ sym width) i) (sym mark i) (listed k.arity (sym same i)))
