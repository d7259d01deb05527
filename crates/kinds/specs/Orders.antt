-- What the comparisons of totals say of the kind's order.
use Rattle.std.specs.Prelude.{◌≡◌, Bool, true, false, MatchBool, Option, Some, ◌≢◌}
use Rattle.std.specs.declared.cmp.Ordering.TheVariants.{Less, Equal, Greater}
use Rattle.std.specs.declared.cmp.Ordering.{Ordering}
use Rattle.std.specs.Ordering.{is_lt, is_eq, is_some_and}
use Rattle.std.proofs.Common.{ap, ◌∙◌, sym}
use Rattle.kinds.specs.Kinds.{Kind, Of, Lawful, Compared}

-- less is below
pub lt_is_below : (K : Kind) → Lawful K → (x y : Of K) (r : Ordering) (p : Option Ordering) (b : Bool) → Compared K.below x y r → p ≡ Some r → b ≡ is_some_and is_lt p → K.below x y ≡ b
lt_is_below K law x y Less p b h m e = h ∙ sym (e ∙ ap (is_some_and is_lt) m)
lt_is_below K law x y Equal p b h m e = ap (K.below x) (sym h) ∙ law.irreflexive x ∙ sym (e ∙ ap (is_some_and is_lt) m)
lt_is_below K law x y Greater p b h m e = law.one_way y x h ∙ sym (e ∙ ap (is_some_and is_lt) m)

-- equal are totals of the same columns, and they alone
pub equal_is_eq : (K : Kind) → Lawful K → (x y : Of K) (r : Ordering) (b : Bool) → Compared K.below x y r → b ≡ is_eq r → MatchBool b (x ≡ y) (x ≢ y)
equal_is_eq K law x y Less true h e = absurd (cc)
equal_is_eq K law x y Less false h e = λ q. let z = ap (K.below x) (sym q) in let n = law.irreflexive x in absurd (cc)
equal_is_eq K law x y Equal true h e = h
equal_is_eq K law x y Equal false h e = absurd (cc)
equal_is_eq K law x y Greater true h e = absurd (cc)
equal_is_eq K law x y Greater false h e = λ q. let z = ap (K.below y) q in let n = law.irreflexive y in absurd (cc)
