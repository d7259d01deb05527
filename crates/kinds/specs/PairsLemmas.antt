-- The pair of two one-column kinds keeps the laws of a kind.
use Rattle.std.specs.Prelude.{◌≡◌, ℕ, Bool, true, false, not, ◌&&◌, ◌||◌, ℤ, pos, ◌+ℤ◌, Some, refl}
use Rattle.std.specs.declared.cmp.Ordering.TheVariants.{Less, Equal, Greater}
use Rattle.std.specs.declared.cmp.Ordering.{Ordering}
use Rattle.std.specs.Ordering.{ordering_then}
use Rattle.std.proofs.Common.{ap, ap₂, ◌∙◌, sym, arith}
use Rattle.kinds.specs.Columns.{Arity, one, two, Each, Columns, replaced}
use Rattle.kinds.specs.declared.name.Name.{Name}
use Rattle.kinds.specs.Kinds.{Kind, Of, Lawful, Compared}
use Rattle.kinds.specs.Pairs.{only, alone, below_in, has_in, pair}
use Rattle.kinds.specs.Singles.{two_is_not_one, alone_only, compared_number}

-- a one-column kind of such an order, bound, range and name
abbrev single : (ℤ → ℤ → Bool) → ℕ → (ℤ → Bool) → Name → Kind
single lt b h n = record { arity = one; below = lt; bound = b; has = h; names = n }

-- any one-column kind, as one of those
abbrev flat : Kind → Kind
flat K = single (below_in K) (only K.arity K.bound) (has_in K) (only K.arity K.names)

flat_lawful_by : (a : Arity) → a ≡ one → (lt : Columns a → Columns a → Bool) (b : Each a ℕ) (h : Columns a → Bool) (n : Each a Name) → Lawful (record { arity = a; below = lt; bound = b; has = h; names = n }) → Lawful (flat (record { arity = a; below = lt; bound = b; has = h; names = n }))
flat_lawful_by one e lt b h n law = law
flat_lawful_by two e lt b h n law = absurd (two_is_not_one e)

flat_lawful : (K : Kind) → K.arity ≡ one → Lawful K → Lawful (flat K)
flat_lawful K e law = flat_lawful_by K.arity e K.below K.bound K.has K.names law

module _ (lt lt' : ℤ → ℤ → Bool) (b b' : ℕ) (h h' : ℤ → Bool) (n n' : Name) where
  abbrev both : Kind
  both = pair (single lt b h n) (single lt' b' h' n')

  module _ (A : Lawful (single lt b h n)) (B : Lawful (single lt' b' h' n')) where
    irreflexive : (x : ℤ × ℤ) → both.below x x ≡ false
    irreflexive x = grind (arith, A.irreflexive, B.irreflexive)

    one_way : (x y : ℤ × ℤ) → both.below x y ≡ true → both.below y x ≡ false
    one_way x y = grind (arith, A.one_way, B.one_way)

    tight : (x y : ℤ × ℤ) → both.below x y ≡ false → both.below y x ≡ false → x ≡ y
    tight x y p q =
        let first : x.0 ≡ y.0 = A.tight x.0 y.0 (grind arith) (grind arith) in
        let same = ap₂ lt first first in
        let second : x.1 ≡ y.1 = B.tight x.1 y.1 (grind (arith, A.irreflexive x.0)) (grind (arith, A.irreflexive x.0)) in
        λ i. (first i, second i)

    transitive : (x y z : ℤ × ℤ) → both.below x y ≡ true → both.below y z ≡ true → both.below x z ≡ true
    transitive x y z =
        grind (arith, A.transitive x.0 y.0 z.0, A.transitive z.0 x.0 y.0, A.transitive y.0 z.0 x.0, A.tight, B.transitive x.1 y.1 z.1)

    shifted : (x y z : ℤ × ℤ) → both.below x y ≡ true → both.below (x.0 +ℤ z.0, x.1 +ℤ z.1) (y.0 +ℤ z.0, y.1 +ℤ z.1) ≡ true
    shifted x y z =
        grind (arith, A.shifted x.0 y.0 z.0, A.tight x.0 y.0, A.irreflexive (y.0 +ℤ z.0), B.shifted x.1 y.1 z.1)

    zeroed : (x y : ℤ × ℤ) (c : ℕ) → both.has x ≡ true → replaced two x c (pos 0) ≡ Some y → both.has y ≡ true
    zeroed x y c w e =
        let first : h (pos 0) ≡ true = A.zeroed x.0 (pos 0) 1 (grind arith) refl in
        let second : h' (pos 0) ≡ true = B.zeroed x.1 (pos 0) 1 (grind arith) refl in
        grind arith

    both_lawful : Lawful both
    both_lawful =
        record {
          irreflexive = irreflexive;
          one_way = one_way;
          tight = tight;
          transitive = transitive;
          shifted = shifted;
          bounded = (A.bounded, B.bounded);
          roomy = λ x w. grind (arith, A.roomy x.0, B.roomy x.1);
          fitting = λ x w. (A.fitting x.0 (grind arith), B.fitting x.1 (grind arith));
          zeroed = zeroed;
        }

pub pair_lawful : (A B : Kind) → A.arity ≡ one → B.arity ≡ one → Lawful A → Lawful B → Lawful (pair A B)
pair_lawful A B e f a b =
    both_lawful (below_in A) (below_in B) (only A.arity A.bound) (only B.arity B.bound) (has_in A) (has_in B) (only A.arity A.names) (only B.arity B.names) (flat_lawful A e a) (flat_lawful B f b)

both_compared : (lt lt' : ℤ → ℤ → Bool) → ((x : ℤ) → lt x x ≡ false) → (a b u v : ℤ) (r s : Ordering) → Compared lt a b r → Compared lt' u v s → Compared (λ (x y : ℤ × ℤ). lt x.0 y.0 || (not (lt y.0 x.0) && lt' x.1 y.1)) (a, u) (b, v) (ordering_then r s)
both_compared lt lt' irr a b u v Less s p q = grind arith
both_compared lt lt' irr a b u v Greater s p q = grind arith
both_compared lt lt' irr a b u v Equal Less p q =
    let same = ap₂ lt p p in
    grind (arith, irr a)
both_compared lt lt' irr a b u v Equal Equal p q = λ i. (p i, q i)
both_compared lt lt' irr a b u v Equal Greater p q =
    let same = ap₂ lt p p in
    grind (arith, irr a)

-- two totals of a pair compare by their first parts, then by their second
pub pair_compared : (A B : Kind) → A.arity ≡ one → B.arity ≡ one → Lawful A → (x y : Of A) (u v : Of B) (r s : Ordering) → Compared A.below x y r → Compared B.below u v s → Compared (pair A B).below (only A.arity x, only B.arity u) (only A.arity y, only B.arity v) (ordering_then r s)
pair_compared A B e f law x y u v r s p q =
    both_compared (below_in A) (below_in B) (λ z. law.irreflexive (alone A.arity z)) _ _ _ _ r s (compared_number A e x y r p) (compared_number B f u v s q)

-- where one part has no value, the pair has none
pub lacks_first : (A B : Kind) → A.arity ≡ one → (x : Of A) (v w : ℤ) → only A.arity x ≡ v → A.has x ≡ false → (has_in A v && has_in B w) ≡ false
lacks_first A B e x v w h n =
    let lacks : has_in A v ≡ false = ap (λ u. A.has (alone A.arity u)) (sym h) ∙ ap A.has (alone_only A.arity e x) ∙ n in
    grind arith

pub lacks_second : (A B : Kind) → B.arity ≡ one → (y : Of B) (v w : ℤ) → only B.arity y ≡ w → B.has y ≡ false → (has_in A v && has_in B w) ≡ false
lacks_second A B e y v w h n =
    let lacks : has_in B w ≡ false = ap (λ u. B.has (alone B.arity u)) (sym h) ∙ ap B.has (alone_only B.arity e y) ∙ n in
    grind arith
