-- A kind of total: what it fixes for all its values, the laws of that, and what its calls answer.
use Rattle.std.specs.Prelude.{◌≡◌, ℕ, ◌≤◌, Bool, true, false, pos, Some, None, Option}
use Rattle.std.specs.declared.cmp.Ordering.TheVariants.{Less, Equal, Greater}
use Rattle.std.specs.declared.cmp.Ordering.{Ordering}
use Rattle.kinds.specs.declared.name.Name.{Name}
use Rattle.kinds.specs.declared.name.Name.TheVariants.{Cents, Pieces}
use Rattle.kinds.specs.Columns.{Arity, Each, All, Columns, plus, times, within, fits64, replaced}

-- the code of a column's name
abbrev pub code : Name → ℕ
code Cents = 1
code Pieces = 2

-- the code of a column that may not exist
abbrev pub code_of : Option Name → ℕ
code_of None = 0
code_of (Some n) = code n

-- what a kind of total fixes
pub record Kind : Type 0 where
  -- how many columns a value has
  pub arity : Arity
  -- the order, on all lists of that many whole numbers
  pub below : Columns arity → Columns arity → Bool
  -- the entry bound of each column
  pub bound : Each arity ℕ
  -- which columns the kind has a value of
  pub has : Columns arity → Bool
  -- the name of each column
  pub names : Each arity Name

-- the columns that the kind orders
abbrev pub Of : Kind → Type 0
Of K = Columns K.arity

-- the laws of a kind
pub record Lawful (K : Kind) : Type 0 where
  -- nothing is below itself, and of two different lists exactly one is below the other
  pub irreflexive : (x : Of K) → K.below x x ≡ false
  pub one_way : (x y : Of K) → K.below x y ≡ true → K.below y x ≡ false
  pub tight : (x y : Of K) → K.below x y ≡ false → K.below y x ≡ false → x ≡ y
  pub transitive : (x y z : Of K) → K.below x y ≡ true → K.below y z ≡ true → K.below x z ≡ true
  -- adding the same to both sides keeps the order
  pub shifted : (x y z : Of K) → K.below x y ≡ true → K.below (plus K.arity x z) (plus K.arity y z) ≡ true
  -- each bound is at least 1, and there is a value of all columns up to 5,000,000 times the bound
  pub bounded : All K.arity (λ b. 1 ≤ b) K.bound
  pub roomy : (x : Of K) → within K.arity (times K.arity 5000000 K.bound) x ≡ true → K.has x ≡ true
  -- each column of a value fits 64 bits, and there is still a value once a column is made 0
  pub fitting : (x : Of K) → K.has x ≡ true → All K.arity (λ v. fits64 v ≡ true) x
  pub zeroed : (x y : Of K) (c : ℕ) → K.has x ≡ true → replaced K.arity x c (pos 0) ≡ Some y → K.has y ≡ true

-- the answer is the value with the columns x, or nothing, exactly where the kind has no such value
abbrev pub Gives : {V : Type 0} (K : Kind) → (V → Of K) → Of K → Option V → Type 0
Gives K columns x None = K.has x ≡ false
Gives K columns x (Some v) = columns v ≡ x

-- the same, where there may be no such columns
abbrev pub GivesIf : {V : Type 0} (K : Kind) → (V → Of K) → Option (Of K) → Option V → Type 0
GivesIf K columns None r = r ≡ None
GivesIf K columns (Some x) r = Gives K columns x r

-- how x stands to y
abbrev pub Compared : {X : Type 0} → (X → X → Bool) → X → X → Ordering → Type 0
Compared below x y Less = below x y ≡ true
Compared below x y Equal = x ≡ y
Compared below x y Greater = below y x ≡ true
