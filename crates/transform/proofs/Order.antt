-- The order of a lawful kind; the lowest and the highest of several totals.
use Rattle.std.proofs.Common.{◌≡◌, ℕ, zero, suc, ◌≤◌, true, false, refl, ap, inl, inr, arith}
use Rattle.std.proofs.lemmas.Bool.{cases_lt, both_ways, cond_both}
use Rattle.kinds.specs.Kinds.{Kind, Of, Lawful}
use Rattle.transform.specs.Windows.{lower, higher, lowest, highest}
use Rattle.transform.specs.Theory.{turned}

abbrev pub Below : (K : Kind) → Of K → Of K → Type 0
Below K a b = K.below a b ≡ true

abbrev pub AtMost : (K : Kind) → Of K → Of K → Type 0
AtMost K a b = K.below b a ≡ false

pub turned_lawful : (K : Kind) → Lawful K → Lawful (turned K)
turned_lawful K O = record {
  irreflexive = O.irreflexive;
  one_way = λ x y. O.one_way y x;
  tight = λ x y h k. O.tight x y k h;
  transitive = λ x y z h k. O.transitive z y x k h;
  shifted = λ x y. O.shifted y x;
  bounded = O.bounded;
  roomy = O.roomy;
  fitting = O.fitting;
  zeroed = O.zeroed;
}

-- the lower of two is the higher by the turned order, and so for lowest and highest
pub turned_lower : (K : Kind) (a b : Of K) → lower K a b ≡ higher (turned K) a b
unfolding lower higher
turned_lower K a b = refl

pub turned_lowest : (K : Kind) (f : ℕ → Of K) (n : ℕ) → lowest K f n ≡ highest (turned K) f n
unfolding lowest highest lower higher
turned_lowest K f zero = refl
turned_lowest K f (suc n) = ap (λ a. lower K a (f (suc n))) (turned_lowest K f n)

module _ (K : Kind) (O : Lawful K) where
  pub at_most_trans : (a b c : Of K) → AtMost K a b → AtMost K b c → AtMost K a c
  at_most_trans a b c h k = grind (arith, O.irreflexive, O.transitive, O.tight, O.one_way)

  pub below_then : (a b c : Of K) → Below K a b → AtMost K b c → Below K a c
  below_then a b c h k = grind (arith, O.irreflexive, O.transitive, O.tight, O.one_way)

  pub then_below : (a b c : Of K) → AtMost K a b → Below K b c → Below K a c
  then_below a b c h k = grind (arith, O.irreflexive, O.transitive, O.tight, O.one_way)

  pub not_itself : (a b : Of K) → a ≡ b → Below K a b → ⊥
  not_itself a b e h = both_ways _ (rw e (O.irreflexive b)) h

  pub not_below : (a b : Of K) → AtMost K b a → Below K a b → ⊥
  not_below a b h k = both_ways _ h k

  pub at_most_same : (a b : Of K) → a ≡ b → AtMost K a b
  at_most_same a b e = rw e (O.irreflexive b)

  pub higher_left : (a b : Of K) → AtMost K a (higher K a b)
  unfolding higher
  higher_left a b = cond_both (K.below a b) b a (λ c. AtMost K a c) (λ h. O.one_way a b h) (λ h. O.irreflexive a)

  pub higher_right : (a b : Of K) → AtMost K b (higher K a b)
  unfolding higher
  higher_right a b = cond_both (K.below a b) b a (λ c. AtMost K b c) (λ h. O.irreflexive b) (λ h. h)

  -- the higher of two is one of them: what holds of both holds of it
  pub higher_both : (a b : Of K) (P : Of K → Type 0) → P a → P b → P (higher K a b)
  unfolding higher
  higher_both a b P h k = cond_both (K.below a b) b a P (λ _. k) (λ _. h)

  pub highest_over : (f : ℕ → Of K) (n i : ℕ) → i ≤ n → AtMost K (f i) (highest K f n)
  unfolding highest
  highest_over f zero i h = at_most_same (f i) (f 0) (ap f (omega arith))
  highest_over f (suc n) i h =
      elim (cases_lt i (suc n)) [
        | inl l ↦ at_most_trans (f i) (highest K f n) _ (highest_over f n i (omega arith)) (higher_left _ _)
        | inr l ↦ at_most_trans (f i) (f (suc n)) _ (at_most_same _ _ (ap f (omega arith))) (higher_right _ _)
      ]

  pub highest_all : (f : ℕ → Of K) (n : ℕ) (P : Of K → Type 0) → ((i : ℕ) → i ≤ n → P (f i)) → P (highest K f n)
  unfolding highest
  highest_all f zero P h = h 0 (omega arith)
  highest_all f (suc n) P h = higher_both _ _ P (highest_all f n P (λ i l. h i (omega arith))) (h (suc n) (omega arith))

module _ (K : Kind) (O : Lawful K) where
  pub lowest_under : (f : ℕ → Of K) (n i : ℕ) → i ≤ n → AtMost K (lowest K f n) (f i)
  lowest_under f n i h = rw turned_lowest (highest_over (turned K) (turned_lawful K O) f n i h)

  pub lowest_all : (f : ℕ → Of K) (n : ℕ) (P : Of K → Type 0) → ((i : ℕ) → i ≤ n → P (f i)) → P (lowest K f n)
  lowest_all f n P h = rw turned_lowest (highest_all (turned K) (turned_lawful K O) f n P h)
