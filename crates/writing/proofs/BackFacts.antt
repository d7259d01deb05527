-- A text that is written falls into the lines and fields that were written.
use Rattle.std.proofs.Common.{◌≡◌, ℕ, Bool, true, not, ◌&&◌, eqb, List, [], ◌∷◌, ◌++◌, map, sym, refl, ap, ◌∙◌, append_assoc}
use Rattle.std.proofs.lemmas.Bool.{and_parts, and_from, not-true}
use Rattle.reading.specs.Parts.{longer, parts, lines, fields}
use Rattle.writer.specs.Values.{written, line}

-- no byte c
abbrev pub absent : ℕ → List ℕ → Bool
absent c [] = true
absent c (b ∷ bs) = not (eqb b c) && absent c bs

pub absent_append : (c : ℕ) (xs ys : List ℕ) → absent c xs ≡ true → absent c ys ≡ true → absent c (xs ++ ys) ≡ true
absent_append c [] ys h k = k
absent_append c (x ∷ xs) ys h k = let p = and_parts (not (eqb x c)) (absent c xs) h in and_from _ _ p.0 (absent_append c xs ys p.1 k)

-- a part without c, and then a c
pub parts_stop : (c : ℕ) → eqb c c ≡ true → (bs rest : List ℕ) → absent c bs ≡ true → parts c (bs ++ (c ∷ rest)) ≡ bs ∷ parts c rest
parts_stop c e [] rest h = rw e refl
parts_stop c e (b ∷ bs) rest h =
    let p = and_parts (not (eqb b c)) (absent c bs) h in
    let t = not-true (eqb b c) p.0 in
    rw t (ap (longer b) (parts_stop c e bs rest p.1))

pub parts_end : (c : ℕ) (bs : List ℕ) → absent c bs ≡ true → parts c bs ≡ bs ∷ []
parts_end c [] h = refl
parts_end c (b ∷ bs) h =
    let p = and_parts (not (eqb b c)) (absent c bs) h in
    let t = not-true (eqb b c) p.0 in
    rw t (ap (longer b) (parts_end c bs p.1))

-- the fields of a line with commas between them
abbrev pub body : {X : Type 0} → (X → List ℕ) → X → List X → List ℕ
body bytes x [] = bytes x
body bytes x (y ∷ ys) = bytes x ++ (44 ∷ body bytes y ys)

pub written_body : {X : Type 0} (bytes : X → List ℕ) (x : X) (xs : List X) → written bytes (x ∷ xs) ≡ body bytes x xs ++ (10 ∷ [])
written_body bytes x [] = refl
written_body bytes x (y ∷ ys) = ap (λ bs. bytes x ++ (44 ∷ bs)) (written_body bytes y ys) ∙ sym (append_assoc (bytes x) (44 ∷ body bytes y ys) (10 ∷ []))

-- each item is without commas and line feeds
abbrev pub Clean : {X : Type 0} → (X → List ℕ) → List X → Type 0
Clean bytes [] = Unit {0}
Clean bytes (x ∷ xs) = (absent 44 (bytes x) ≡ true) × (absent 10 (bytes x) ≡ true) × Clean bytes xs

pub body_fields : {X : Type 0} (bytes : X → List ℕ) (x : X) (xs : List X) → Clean bytes (x ∷ xs) → fields (body bytes x xs) ≡ map bytes (x ∷ xs)
body_fields bytes x [] h = parts_end 44 (bytes x) h.0
body_fields bytes x (y ∷ ys) h = parts_stop 44 refl (bytes x) (body bytes y ys) h.0 ∙ ap (λ ps. bytes x ∷ ps) (body_fields bytes y ys h.2)

pub body_line : {X : Type 0} (bytes : X → List ℕ) (x : X) (xs : List X) → Clean bytes (x ∷ xs) → absent 10 (body bytes x xs) ≡ true
body_line bytes x [] h = h.1
body_line bytes x (y ∷ ys) h = absent_append 10 (bytes x) (44 ∷ body bytes y ys) h.1 (body_line bytes y ys h.2)

pub line_first : {X : Type 0} (bytes : X → List ℕ) (x : X) (xs : List X) (rest : List ℕ) → Clean bytes (x ∷ xs) → lines (line bytes (x ∷ xs) ++ rest) ≡ body bytes x xs ∷ lines rest
line_first bytes x xs rest h =
    ap (λ bs. lines (bs ++ rest)) (written_body bytes x xs)
    ∙ (ap lines (append_assoc (body bytes x xs) (10 ∷ []) rest) ∙ parts_stop 10 refl (body bytes x xs) rest (body_line bytes x xs h))
