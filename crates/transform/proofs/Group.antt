-- The laws of adding and taking away column by column, and of the order and of sizes with them.
use Rattle.std.proofs.Common.{◌≡◌, ◌⊎◌, sym, ap, ◌∙◌, inl, inr, arith}
use Rattle.std.proofs.lemmas.Bool.{cases_Bool, cond-true, cond-false, both_ways}
use Rattle.std.proofs.lemmas.Int.{ints}
use Rattle.kinds.specs.Columns.{Arity, one, two, Columns, nought, plus, minus}
use Rattle.kinds.specs.Kinds.{Kind, Of, Lawful}
use Rattle.transform.specs.Pulses.{size}
use Rattle.transform.specs.Theory.{turned}
use Rattle.transform.proofs.Order.{AtMost, at_most_trans}

both : {A B : Type 0} {p q : A × B} → p.0 ≡ q.0 → p.1 ≡ q.1 → p ≡ q
both e f = λ i. (e i, f i)

pub plus_assoc : (a : Arity) (x y z : Columns a) → plus a (plus a x y) z ≡ plus a x (plus a y z)
plus_assoc one x y z = omega (arith, ints)
plus_assoc two x y z = both (omega (arith, ints)) (omega (arith, ints))

pub plus_comm : (a : Arity) (x y : Columns a) → plus a x y ≡ plus a y x
plus_comm one x y = omega (arith, ints)
plus_comm two x y = both (omega (arith, ints)) (omega (arith, ints))

pub plus_nought : (a : Arity) (x : Columns a) → plus a x (nought a) ≡ x
plus_nought one x = omega (arith, ints)
plus_nought two x = both (omega (arith, ints)) (omega (arith, ints))

pub nought_plus : (a : Arity) (x : Columns a) → plus a (nought a) x ≡ x
nought_plus a x = plus_comm a (nought a) x ∙ plus_nought a x

pub plus_left_comm : (a : Arity) (x y z : Columns a) → plus a x (plus a y z) ≡ plus a y (plus a x z)
plus_left_comm a x y z = sym (plus_assoc a x y z) ∙ ap (λ s. plus a s z) (plus_comm a x y) ∙ plus_assoc a y x z

pub plus_minus : (a : Arity) (x y : Columns a) → plus a x (minus a y x) ≡ y
plus_minus one x y = omega (arith, ints)
plus_minus two x y = both (omega (arith, ints)) (omega (arith, ints))

pub minus_plus : (a : Arity) (x y : Columns a) → minus a (plus a x y) x ≡ y
minus_plus one x y = omega (arith, ints)
minus_plus two x y = both (omega (arith, ints)) (omega (arith, ints))

pub minus_nought : (a : Arity) (x : Columns a) → minus a x (nought a) ≡ x
minus_nought one x = omega (arith, ints)
minus_nought two x = both (omega (arith, ints)) (omega (arith, ints))

pub minus_self : (a : Arity) (x : Columns a) → minus a x x ≡ nought a
minus_self one x = omega (arith, ints)
minus_self two x = both (omega (arith, ints)) (omega (arith, ints))

pub minus_minus : (a : Arity) (x y : Columns a) → minus a x (minus a x y) ≡ y
minus_minus one x y = omega (arith, ints)
minus_minus two x y = both (omega (arith, ints)) (omega (arith, ints))

-- the difference of two sums, and the negation of a sum
pub minus_sums : (a : Arity) (x y u v : Columns a) → minus a (plus a x y) (plus a u v) ≡ plus a (minus a x u) (minus a y v)
minus_sums one x y u v = omega (arith, ints)
minus_sums two x y u v = both (omega (arith, ints)) (omega (arith, ints))

pub negated_sum : (a : Arity) (x y : Columns a) → minus a (nought a) (plus a x y) ≡ plus a (minus a (nought a) x) (minus a (nought a) y)
negated_sum one x y = omega (arith, ints)
negated_sum two x y = both (omega (arith, ints)) (omega (arith, ints))

pub negated_twice : (a : Arity) (x : Columns a) → minus a (nought a) (minus a (nought a) x) ≡ x
negated_twice a x = minus_minus a (nought a) x

pub minus_is : (a : Arity) (x y : Columns a) → plus a x (minus a (nought a) y) ≡ minus a x y
minus_is one x y = omega (arith, ints)
minus_is two x y = both (omega (arith, ints)) (omega (arith, ints))

pub plus_cancel : (a : Arity) (x y z : Columns a) → plus a x y ≡ plus a x z → y ≡ z
plus_cancel a x y z e = sym (minus_plus a x y) ∙ ap (λ s. minus a s x) e ∙ minus_plus a x z

pub minus_then_plus : (a : Arity) (x y : Columns a) → plus a (minus a y x) x ≡ y
minus_then_plus a x y = plus_comm a (minus a y x) x ∙ plus_minus a x y

pub plus_undone : (a : Arity) (x y : Columns a) → plus a (plus a x y) (minus a (nought a) y) ≡ x
plus_undone a x y = minus_is a (plus a x y) y ∙ ap (λ s. minus a s y) (plus_comm a x y) ∙ minus_plus a y x

module _ (K : Kind) (O : Lawful K) where
  -- adding the same to both sides changes nothing of the order
  pub below_shifted : (x y z : Of K) → K.below (plus K.arity x z) (plus K.arity y z) ≡ K.below x y
  below_shifted x y z = elim (cases_Bool (K.below x y)) [
    | inl e ↦ O.shifted x y z e ∙ sym e
    | inr e ↦ elim (cases_Bool (K.below (plus K.arity x z) (plus K.arity y z))) [
      | inl f ↦ absurd (both_ways _ e (rw (plus_undone K.arity x z, plus_undone K.arity y z) at (O.shifted _ _ (minus K.arity (nought K.arity) z) f)))
      | inr f ↦ f ∙ sym e
    ]
  ]

  pub above_zero : (x y : Of K) → K.below (nought K.arity) (minus K.arity y x) ≡ K.below x y
  above_zero x y = sym (below_shifted _ _ x) ∙ rw (nought_plus, minus_then_plus)

  pub below_zero : (x y : Of K) → K.below (minus K.arity y x) (nought K.arity) ≡ K.below y x
  below_zero x y = sym (below_shifted _ _ x) ∙ rw (nought_plus, minus_then_plus)

  pub plus_at_most : (x y u v : Of K) → AtMost K x y → AtMost K u v → AtMost K (plus K.arity x u) (plus K.arity y v)
  plus_at_most x y u v h k =
      at_most_trans K O _ (plus K.arity y u) _ (below_shifted y x u ∙ h)
      (rw (plus_comm K.arity y u, plus_comm K.arity y v) (below_shifted v u y ∙ k))

  pub size_up : (x : Of K) → AtMost K (nought K.arity) x → size K x ≡ x
  unfolding size
  size_up x h = cond-false _ _ _ h

  pub size_down : (x : Of K) → AtMost K x (nought K.arity) → size K x ≡ minus K.arity (nought K.arity) x
  unfolding size
  size_down x h = elim (cases_Bool (K.below x (nought K.arity))) [
    | inl e ↦ cond-true _ _ _ e
    | inr e ↦ cond-false _ _ _ e ∙ O.tight _ _ e h ∙ sym (minus_self K.arity _) ∙ ap (minus K.arity (nought K.arity)) (sym (O.tight _ _ e h))
  ]

-- two steps that go the same way, if they go at all
abbrev pub Agree : (K : Kind) → Of K → Of K → Type 0
Agree K x y = (AtMost K (nought K.arity) x × AtMost K (nought K.arity) y) ⊎ (AtMost K x (nought K.arity) × AtMost K y (nought K.arity))

pub agree_turned : (K : Kind) (x y : Of K) → Agree (turned K) x y → Agree K x y
agree_turned K x y (inl h) = inr h
agree_turned K x y (inr h) = inl h

module _ (K : Kind) (O : Lawful K) where
  pub size_sum : (x y : Of K) → Agree K x y → size K (plus K.arity x y) ≡ plus K.arity (size K x) (size K y)
  size_sum x y (inl (h, k)) =
      size_up K O _ (rw (plus_nought K.arity (nought K.arity)) at (plus_at_most K O _ _ _ _ h k)) ∙ rw (size_up K O x h, size_up K O y k)
  size_sum x y (inr (h, k)) =
      size_down K O _ (rw (plus_nought K.arity (nought K.arity)) at (plus_at_most K O _ _ _ _ h k)) ∙ rw (size_down K O x h, size_down K O y k) (negated_sum K.arity x y)
