-- Lemmas on lines that are written.
use Rattle.std.proofs.Common.{◌≡◌, ℕ, suc, ◌+◌, ◌<◌, ◌≤◌, List, [], ◌∷◌, ◌++◌, length, get_or, drop, sym, refl, ap, ◌∙◌, arith}
use Rattle.std.proofs.lemmas.List.{append_assoc, length-append, drop_more}
use Rattle.writer.specs.Values.{behind, written, line}
use Rattle.writer.specs.Written.{pasted}
use Rattle.writer.proofs.WrittenFacts.{pasted_append}

pub written_length : {X : Type 0} (bytes : X → List ℕ) (x : X) (xs : List X) → length (written bytes (x ∷ xs)) ≡ length (bytes x) + suc (length (written bytes xs))
written_length bytes x xs = length-append (bytes x) (behind xs ∷ written bytes xs)

-- a comma stands behind a field that others follow
pub behind_last : {X : Type 0} (xs : List X) (y : X) → behind (xs ++ (y ∷ [])) ≡ 44
behind_last [] y = refl
behind_last (x ∷ xs) y = refl

pub line_last : {X : Type 0} (bytes : X → List ℕ) (xs : List X) (y : X) → line bytes (xs ++ (y ∷ [])) ≡ written bytes (xs ++ (y ∷ []))
line_last bytes [] y = refl
line_last bytes (x ∷ xs) y = refl

-- one field on
pub pasted_field : {X : Type 0} (bytes : X → List ℕ) (x : X) (xs : List X) (end : ℕ) (out mid : List ℕ) → end ≤ length out → mid ≡ pasted end (bytes x ++ (behind xs ∷ [])) out → pasted (end + length (bytes x) + 1) (written bytes xs) mid ≡ pasted end (written bytes (x ∷ xs)) out
pasted_field bytes x xs end out mid l m =
    let rest : List ℕ = written bytes xs in
    let front : List ℕ = bytes x ++ (behind xs ∷ []) in
    let place : end + length (bytes x) + 1 ≡ end + length front = simp length-append (omega arith) in
    let all : front ++ rest ≡ written bytes (x ∷ xs) = append_assoc (bytes x) (behind xs ∷ []) rest in
    ap (λ n. pasted n rest mid) place ∙ (ap (pasted (end + length front) rest) m ∙ (pasted_append end front rest out l ∙ ap (λ bs. pasted end bs out) all))

-- the fields from place i on, with the last apart
pub left_is : {X : Type 0} (xs : List X) (y : X) (i : ℕ) (x : X) → i < length xs → x ≡ get_or xs i x → drop i xs ++ (y ∷ []) ≡ x ∷ (drop (i + 1) xs ++ (y ∷ []))
left_is xs y i x h e = ap (λ ys. ys ++ (y ∷ [])) (drop_more xs i x h ∙ ap (λ z. z ∷ drop (i + 1) xs) (sym e))

pub left_length : {X : Type 0} (bytes : X → List ℕ) (xs : List X) (y : X) (i : ℕ) (x : X) → i < length xs → x ≡ get_or xs i x → length (written bytes (drop i xs ++ (y ∷ []))) ≡ length (bytes x) + suc (length (written bytes (drop (i + 1) xs ++ (y ∷ []))))
left_length bytes xs y i x h e =
    ap (λ zs. length (written bytes zs)) (left_is xs y i x h e) ∙ written_length bytes x (drop (i + 1) xs ++ (y ∷ []))

pub pasted_more : {X : Type 0} (bytes : X → List ℕ) (xs : List X) (y : X) (i : ℕ) (x : X) (end : ℕ) (out mid : List ℕ) → i < length xs → x ≡ get_or xs i x → end ≤ length out → mid ≡ pasted end (bytes x ++ (44 ∷ [])) out → pasted (end + length (bytes x) + 1) (written bytes (drop (i + 1) xs ++ (y ∷ []))) mid ≡ pasted end (written bytes (drop i xs ++ (y ∷ []))) out
pasted_more bytes xs y i x end out mid h e l m =
    pasted_field bytes x (drop (i + 1) xs ++ (y ∷ [])) end out mid l (m ∙ ap (λ b. pasted end (bytes x ++ (b ∷ [])) out) (sym (behind_last (drop (i + 1) xs) y)))
    ∙ ap (λ zs. pasted end (written bytes zs) out) (sym (left_is xs y i x h e))
