-- What the writes of parts of a slot leave.
use Rattle.std.proofs.Common.{◌≡◌, ℕ, ◌*◌, ◌<◌, ◌≤◌, List, [], ◌++◌, length, drop, ℤ, Some, ap, ◌∙◌, append-nil, arith}
use borrow.Rule.Slice.PartMut.{put_mid, post_of}
use Rattle.std.proofs.lemmas.List.{take_at, drop_all, length-drop, length-append}
use Rattle.kinds.specs.Columns.{Arity, one, two, Columns, column}
use Rattle.shelves.specs.Bytes.{count, bytes_of_signed, packed_columns}

-- a front, and then all that is left written over
pub rest_filled : (front back new : List ℕ) (n k : ℕ) → length front ≡ n → length back ≤ k → put_mid n k (front ++ back) new ≡ front ++ new
rest_filled front back new n k e h =
    let gone : drop k (drop n (front ++ back)) ≡ [] = drop_all k _ (simp (length-drop, length-append) (omega arith)) in
    simp (take_at front back n e, gone, append-nil)

-- all written over from the start
pub all_filled : (new old : List ℕ) (k : ℕ) → length old ≤ k → new ++ post_of 0 k old ≡ new
all_filled new old k h = let gone : drop k old ≡ [] = drop_all k old h in simp (gone, append-nil)

pub one_column : (a : Arity) (x : Columns a) (old new : List ℕ) (v : ℤ) → length old ≡ 8 * count a → length (new ++ post_of 0 8 old) ≤ 8 → column a x 1 ≡ Some v → new ≡ bytes_of_signed v → new ++ post_of 0 8 old ≡ packed_columns a x
one_column one x old new v l h c e =
    let same : v ≡ x = cc in
    all_filled new old 8 (omega arith) ∙ (e ∙ ap bytes_of_signed same)
one_column two x old new v l h c e =
    let eight : length new ≡ 8 = ap length e in
    absurd (omega (arith, simp (length-append, length-drop) at h))

pub two_columns : (a : Arity) (x : Columns a) (old new more : List ℕ) (v w : ℤ) → length old ≡ 8 * count a → 8 < length (new ++ post_of 0 8 old) → column a x 1 ≡ Some v → column a x 2 ≡ Some w → new ≡ bytes_of_signed v → more ≡ bytes_of_signed w → put_mid 8 8 (new ++ post_of 0 8 old) more ≡ packed_columns a x
two_columns one x old new more v w l h c d e f = let eight : length new ≡ 8 = ap length e in absurd (omega (arith, simp (length-append, length-drop) at h))
two_columns two x old new more v w l h c d e f =
    let left : v ≡ x.0 = cc in
    let right : w ≡ x.1 = cc in
    let eight : length new ≡ 8 = ap length e in
    rest_filled new (post_of 0 8 old) more 8 8 eight (simp length-drop (omega arith))
    ∙ (ap (λ t. t ++ more) (e ∙ ap bytes_of_signed left) ∙ ap (λ t. bytes_of_signed x.0 ++ t) (f ∙ ap bytes_of_signed right))
