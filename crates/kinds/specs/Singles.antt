-- At one column: what is said of columns, said of the one number.
use Rattle.std.specs.Prelude.{◌≡◌, ℕ, ℤ, pos, ◌+ℤ◌, ◌-ℤ◌, Some, None, Option, nat_le, unsigned_abs, refl}
use Rattle.std.specs.declared.cmp.Ordering.TheVariants.{Less, Equal, Greater}
use Rattle.std.specs.declared.cmp.Ordering.{Ordering}
use Rattle.std.proofs.Common.{ap, ap₂, ◌∙◌, sym, subst, arith}
use Rattle.kinds.specs.Columns.{Arity, one, two, Each, Columns, nought, plus, minus, within, column, replaced}
use Rattle.kinds.specs.Kinds.{Kind, Of, Gives, GivesIf, Compared}
use Rattle.kinds.specs.Pairs.{only, alone, below_in, GivesNumber}

pub two_is_not_one : two ≡ one → ⊥
two_is_not_one e = let z : ◌≡◌ {A = ℕ} 0 1 = cc in omega arith

pub alone_only : (a : Arity) → a ≡ one → (x : Columns a) → alone a (only a x) ≡ x
alone_only one e x = refl
alone_only two e x = absurd (two_is_not_one e)

pub only_nought : (a : Arity) → only a (nought a) ≡ pos 0
only_nought one = refl
only_nought two = refl

pub only_plus : (a : Arity) (x y : Columns a) → only a (plus a x y) ≡ only a x +ℤ only a y
only_plus one x y = refl
only_plus two x y = refl

pub only_minus : (a : Arity) (x y : Columns a) → only a (minus a x y) ≡ only a x -ℤ only a y
only_minus one x y = refl
only_minus two x y = refl

pub only_within : (a : Arity) → a ≡ one → (b : Each a ℕ) (x : Columns a) → within a b x ≡ nat_le (unsigned_abs (only a x)) (only a b)
only_within one e b x = refl
only_within two e b x = absurd (two_is_not_one e)

pub only_column : (X : Type 0) (a : Arity) (x : Each a X) → column a x 1 ≡ Some (only a x)
only_column X one x = refl
only_column X two x = refl

pub only_replaced : (a : Arity) → a ≡ one → (x : Columns a) (v : ℤ) → replaced a x 1 v ≡ Some (alone a v)
only_replaced one e x v = refl
only_replaced two e x v = absurd (two_is_not_one e)

pub only_alone : (a : Arity) (v : ℤ) → only a (alone a v) ≡ v
only_alone one v = refl
only_alone two v = refl

pub gives_number : {V : Type 0} (K : Kind) → K.arity ≡ one → (columns : V → Of K) (x : Of K) (v : ℤ) (r : Option V) → only K.arity x ≡ v → Gives K columns x r → GivesNumber K columns v r
gives_number K e columns x v None h g = ap (λ u. K.has (alone K.arity u)) (sym h) ∙ ap K.has (alone_only K.arity e x) ∙ g
gives_number K e columns x v (Some w) h g = ap (only K.arity) g ∙ h

pub gives_number_if : {V : Type 0} (K : Kind) → K.arity ≡ one → (columns : V → Of K) (x : Of K) (v : ℤ) (r : Option V) → GivesIf K columns (replaced K.arity x 1 v) r → GivesNumber K columns v r
gives_number_if {V} K e columns x v r g =
    let P : Option (Of K) → Type 0 = λ o. GivesIf K columns o r in
    gives_number K e columns (alone K.arity v) v r (only_alone K.arity v) (subst P (only_replaced K.arity e x v) g)

pub compared_number : (K : Kind) → K.arity ≡ one → (x y : Of K) (r : Ordering) → Compared K.below x y r → Compared (below_in K) (only K.arity x) (only K.arity y) r
compared_number K e x y Less h = ap₂ K.below (alone_only K.arity e x) (alone_only K.arity e y) ∙ h
compared_number K e x y Equal h = ap (only K.arity) h
compared_number K e x y Greater h = ap₂ K.below (alone_only K.arity e y) (alone_only K.arity e x) ∙ h
