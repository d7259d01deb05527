-- An amount made of the columns in a slot: zero, then column 1 replaced, then column 2.
use Rattle.std.proofs.Common.{◌≡◌, ℕ, ◌<◌, ◌≤◌, Bool, false, List, length, ℤ, pos, Some, None, Option, sym, refl, ap, ◌∙◌, ⊎_elim, arith}
use Rattle.std.proofs.lemmas.Bool.{cases_Bool, both_ways}
use Rattle.kinds.specs.Columns.{Arity, one, two, Each, Columns, nought, replaced}
use Rattle.kinds.specs.declared.name.Name.{Name}
use Rattle.kinds.specs.Kinds.{Kind, Of, Lawful, Gives, GivesIf}
use Rattle.shelves.specs.Bytes.{part, signed, size, stored}

-- a kind, by its parts
abbrev pub made : (a : Arity) → (Columns a → Columns a → Bool) → Each a ℕ → (Columns a → Bool) → Each a Name → Kind
made a below bound has names = record { arity = a; below = below; bound = bound; has = has; names = names }

-- with the first column there is no value, so there is none with both
none : (a : Arity) (below : Columns a → Columns a → Bool) (bound : Each a ℕ) (has : Columns a → Bool) (names : Each a Name) {X : Type 0} (columns : X → Columns a) (z : Columns a) (slot : List ℕ) (v : ℤ) → Lawful (made a below bound has names) → z ≡ nought a → v ≡ signed (part 8 8 slot) → GivesIf (made a below bound has names) columns (replaced a z 1 v) None → has (stored a slot) ≡ false
none one below bound has names columns z slot v law zero e h = ap has (sym e) ∙ h
none two below bound has names columns z slot v law zero e h =
    let both : Columns two = stored two slot in
    let alone : Columns two = (both.0, pos 0) in
    let same : (v, z.1) ≡ alone = λ i. (e i, (zero i).1) in
    let empty : has alone ≡ false = ap has (sym same) ∙ h in
    ⊎_elim (λ t. absurd (both_ways (has alone) empty (law.zeroed both alone 2 t refl))) (λ f. f) (cases_Bool (has both))

-- a kind of one column
alone : (a : Arity) (below : Columns a → Columns a → Bool) (bound : Each a ℕ) (has : Columns a → Bool) (names : Each a Name) {X : Type 0} (columns : X → Columns a) (z : Columns a) (slot : List ℕ) (v : ℤ) (x : X) → length slot ≡ size a → length slot ≤ 16 → v ≡ signed (part 8 8 slot) → GivesIf (made a below bound has names) columns (replaced a z 1 v) (Some x) → columns x ≡ stored a slot
alone one below bound has names columns z slot v x l s e h = h ∙ e
alone two below bound has names columns z slot v x l s e h = absurd (omega arith)

-- equal columns, the same answer
given_at : (k : Kind) {X : Type 0} (columns : X → Of k) (p q : Of k) (r : Option X) → p ≡ q → Gives k columns p r → Gives k columns q r
given_at k columns p q None e h = ap k.has (sym e) ∙ h
given_at k columns p q (Some y) e h = h ∙ e

-- a kind of two columns
beside : (a : Arity) (below : Columns a → Columns a → Bool) (bound : Each a ℕ) (has : Columns a → Bool) (names : Each a Name) {X : Type 0} (columns : X → Columns a) (z : Columns a) (slot : List ℕ) (v w : ℤ) (x : X) (r : Option X) → length slot ≡ size a → 16 < length slot → v ≡ signed (part 8 8 slot) → w ≡ signed (part 16 8 slot) → GivesIf (made a below bound has names) columns (replaced a z 1 v) (Some x) → GivesIf (made a below bound has names) columns (replaced a (columns x) 2 w) r → Gives (made a below bound has names) columns (stored a slot) r
beside one below bound has names columns z slot v w x r l s e f h k = absurd (omega arith)
beside two below bound has names columns z slot v w x r l s e f h k =
    let first : (columns x).0 ≡ signed (part 8 8 slot) = ap (λ p. p.0) h ∙ e in
    let same : ◌≡◌ {A = Columns two} ((columns x).0, w) (stored two slot) = λ i. (first i, f i) in
    given_at (made two below bound has names) columns ((columns x).0, w) (stored two slot) r same k

-- the same at any kind
module _ (k : Kind) {X : Type 0} (columns : X → Of k) where
  pub none_first : (z : Of k) (slot : List ℕ) (v : ℤ) → Lawful k → z ≡ nought k.arity → v ≡ signed (part 8 8 slot) → GivesIf k columns (replaced k.arity z 1 v) None → k.has (stored k.arity slot) ≡ false
  none_first = none k.arity k.below k.bound k.has k.names columns

  pub some_alone : (z : Of k) (slot : List ℕ) (v : ℤ) (x : X) → length slot ≡ size k.arity → length slot ≤ 16 → v ≡ signed (part 8 8 slot) → GivesIf k columns (replaced k.arity z 1 v) (Some x) → columns x ≡ stored k.arity slot
  some_alone = alone k.arity k.below k.bound k.has k.names columns

  pub with_second : (z : Of k) (slot : List ℕ) (v w : ℤ) (x : X) (r : Option X) → length slot ≡ size k.arity → 16 < length slot → v ≡ signed (part 8 8 slot) → w ≡ signed (part 16 8 slot) → GivesIf k columns (replaced k.arity z 1 v) (Some x) → GivesIf k columns (replaced k.arity (columns x) 2 w) r → Gives k columns (stored k.arity slot) r
  with_second = beside k.arity k.below k.bound k.has k.names columns
