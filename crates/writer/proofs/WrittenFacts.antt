-- Lemmas on what is written into a buffer.
use Rattle.std.proofs.Common.{◌≡◌, ℕ, ◌+◌, ◌≤◌, List, [], ◌++◌, length, take, drop, Some, None, Option, sym, refl, ap, ◌∙◌, add_assoc, arith}
use Rattle.std.proofs.lemmas.List.{append_assoc, length-append, length-take-le, take_at, drop_at, drop-drop, take-append-drop}
use borrow.Rule.Slice.PartMut.{put_mid}
use Rattle.writer.specs.Written.{pasted, Writes}

-- nothing written
pub pasted_none : (at : ℕ) (out : List ℕ) → pasted at [] out ≡ out
pasted_none at out = rw native.Mathlib.Nat.add-zero (take-append-drop at out)

-- some bytes, and then others behind them
pub pasted_append : (at : ℕ) (xs ys out : List ℕ) → at ≤ length out → pasted (at + length xs) ys (pasted at xs out) ≡ pasted at (xs ++ ys) out
pasted_append at xs ys out h =
    let front : length (take at out ++ xs) ≡ at + length xs = simp (length-append) (ap (λ n. n + length xs) (length-take-le at out h)) in
    let whole : pasted at xs out ≡ (take at out ++ xs) ++ drop (at + length xs) out = sym (append_assoc (take at out) xs (drop (at + length xs) out)) in
    let taken : take (at + length xs) (pasted at xs out) ≡ take at out ++ xs = ap (take (at + length xs)) whole ∙ take_at (take at out ++ xs) (drop (at + length xs) out) (at + length xs) front in
    let left : drop (at + length xs) (pasted at xs out) ≡ drop (at + length xs) out = ap (drop (at + length xs)) whole ∙ drop_at (take at out ++ xs) (drop (at + length xs) out) (at + length xs) front in
    let behind : drop (at + length xs + length ys) (pasted at xs out) ≡ drop (at + length (xs ++ ys)) out =
    sym (drop-drop (length ys) (at + length xs) (pasted at xs out)) ∙ (ap (drop (length ys)) left ∙ (drop-drop (length ys) (at + length xs) out ∙ ap (λ n. drop n out) (rw length-append (add_assoc at (length xs) (length ys))))) in
    rw (taken, behind)
    (append_assoc (take at out) xs (ys ++ drop (at + length (xs ++ ys)) out) ∙ ap (λ zs. take at out ++ zs) (sym (append_assoc xs ys (drop (at + length (xs ++ ys)) out))))

-- the names line at the start of a buffer, and then the others
pub whole_written : (names rows before now after : List ℕ) (a at end n : ℕ) → a ≡ 0 → now ≡ pasted a names before → at ≡ a + length names → after ≡ pasted at rows now → end ≡ at + length rows → n ≡ end →
    (after ≡ pasted 0 (names ++ rows) before) × (n ≡ 0 + length (names ++ rows))
whole_written names rows before now after a at end n z e f h k m = (
  h ∙ (ap (λ i. pasted i rows now) (f ∙ ap (λ i. i + length names) z)
      ∙ (ap (pasted (0 + length names) rows) (e ∙ ap (λ i. pasted i names before) z)
      ∙ pasted_append 0 names rows before (omega arith))),
  omega (arith, length-append names rows),
)

pub behind_names : (names rows before now after : List ℕ) (a at : ℕ) (r : Option ℕ) → a ≡ 0 → now ≡ pasted a names before → at ≡ a + length names → length names + length rows ≤ length before → length now ≡ length before → Writes at rows now after r → Writes 0 (names ++ rows) before after r
behind_names names rows before now after a at (Some end) z e f fits long (w, n, l) =
    let p = whole_written names rows before now after a at end end z e f w n refl in
    (p.0, p.1, omega arith)
behind_names names rows before now after a at None z e f fits long (w, l) = absurd (omega arith)

-- a write to a part of the buffer
pub pasted_part : (at k : ℕ) (bytes now out : List ℕ) → now ≡ bytes → k ≡ length bytes → put_mid at k out now ≡ pasted at bytes out
pasted_part at k bytes now out e l = rw (e, l) (ap (λ zs. take at out ++ (bytes ++ zs)) (drop-drop (length bytes) at out))
