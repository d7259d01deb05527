-- One-column kinds by their one number, and the pair of two of them.
use Rattle.std.specs.Prelude.{◌≡◌, Bool, false, not, ◌&&◌, ◌||◌, ℤ, Some, None, Option}
use Rattle.kinds.specs.Columns.{Arity, one, two, Each}
use Rattle.kinds.specs.Kinds.{Kind, Of}

-- what stands in the one column of a one-column kind
abbrev pub only : {X : Type 0} (a : Arity) → Each a X → X
only one x = x
only two x = x.0

-- the columns of a one-column kind that hold v
abbrev pub alone : {X : Type 0} (a : Arity) → X → Each a X
alone one v = v
alone two v = (v, v)

-- the order and the values of a one-column kind, as those of whole numbers
abbrev pub below_in : Kind → ℤ → ℤ → Bool
below_in K u v = K.below (alone K.arity u) (alone K.arity v)

abbrev pub has_in : Kind → ℤ → Bool
has_in K v = K.has (alone K.arity v)

-- the answer is the value that holds v, or nothing, exactly where the kind has no such value
abbrev pub GivesNumber : {V : Type 0} (K : Kind) → (V → Of K) → ℤ → Option V → Type 0
GivesNumber K columns v None = has_in K v ≡ false
GivesNumber K columns v (Some w) = only K.arity (columns w) ≡ v

-- the pair of two one-column kinds, ordered by the first part, then by the second
abbrev pub pair : Kind → Kind → Kind
pair A B =
    record {
      arity = two;
      below =
          λ x y. below_in A x.0 y.0 || (not (below_in A y.0 x.0) && below_in B x.1 y.1);
      bound = (only A.arity A.bound, only B.arity B.bound);
      has = λ x. has_in A x.0 && has_in B x.1;
      names = (only A.arity A.names, only B.arity B.names);
    }
