-- A difference of two totals that may be entered has a value.
use Rattle.std.proofs.Common.{◌≡◌, ◌+◌, true, is_some, Some, None, Option, refl, arith}
use Rattle.std.proofs.lemmas.Bool.{both_ways}
use Rattle.kinds.specs.Columns.{minus, within}
use Rattle.kinds.specs.Kinds.{Kind, Of, Lawful, Gives}
use Rattle.transform.proofs.Ranges.{up_to_bound, up_to_minus, up_to_more}

pub amount_given : {V : Type 0} (K : Kind) → Lawful K → (columns : V → Of K) (x y : Of K) (r : Option V) →
    within K.arity K.bound x ≡ true → within K.arity K.bound y ≡ true → Gives K columns (minus K.arity x y) r → is_some r ≡ true
amount_given K O columns x y (Some v) h l g = refl
amount_given K O columns x y None h l g =
    let u = up_to_minus K.arity K.bound 1 1 x y (up_to_bound _ _ x h) (up_to_bound _ _ y l) in
    absurd (both_ways _ g (O.roomy _ (up_to_more K.arity K.bound (1 + 1) 5000000 _ (omega arith) u)))
