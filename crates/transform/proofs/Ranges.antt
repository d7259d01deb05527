-- How large amounts, sums of pulses and swings can be: so many times the entry bounds.
use Rattle.std.proofs.Common.{◌≡◌, ℕ, zero, suc, ◌+◌, ◌-◌, ◌*◌, ◌≤◌, Bool, true, cond, leb, List, [], ◌∷◌, length, get_or, ℤ, ◌+ℤ◌, ◌-ℤ◌, nat_abs, inl, inr, mul-le-mul_right, arith}
use lib.Dec.{leb-zero}
use Rattle.std.specs.List.{AllByRecursion}
use Rattle.std.proofs.lemmas.List.{get_or_past}
use Rattle.std.proofs.ByRecursion.{All-get_or, All-weaker}
use Rattle.std.proofs.lemmas.Int.{ints}
use Rattle.std.proofs.lemmas.Bool.{cases_lt, cases_Bool, cond_both, and_from, and_parts, le-leb, leb-true}
use Rattle.kinds.specs.Columns.{Arity, one, two, Each, Columns, nought, plus, minus, times, within}
use Rattle.kinds.specs.Kinds.{Kind, Of, Lawful}
use Rattle.transform.specs.Windows.{Record, Trace, trace}
use Rattle.transform.specs.Pulses.{Pulse, pulses, covers, chosen, standing, size, summed, swing}
use Rattle.transform.proofs.Sums.{numbered, flags, chosen_numbered}
use Rattle.transform.proofs.Counts.{pulses_few}
use Rattle.transform.proofs.Endings.{pulses_among}

length_numbered : {A : Type 0} (xs : List A) (m : ℕ → Bool) → length (numbered m xs) ≤ length xs
unfolding numbered
length_numbered [] m = omega arith
length_numbered (a ∷ rest) m = let h = length_numbered rest (λ k. m (suc k)) in elim (cases_Bool (m 0)) [ inl e ↦ rw e (omega arith) | inr e ↦ rw e (omega arith) ]

all_numbered : {A : Type 0} (P : A → Type 0) (xs : List A) (m : ℕ → Bool) → AllByRecursion P xs → AllByRecursion P (numbered m xs)
unfolding numbered
all_numbered P [] m h = tt
all_numbered P (a ∷ rest) m h =
    let k = all_numbered P rest (λ k. m (suc k)) h.1 in
    elim (cases_Bool (m 0)) [ inl e ↦ rw e (h.0, k) | inr e ↦ rw e k ]

-- one column
bound_once : (b : ℕ) (x : ℤ) → leb (nat_abs x) b ≡ true → leb (nat_abs x) (1 * b) ≡ true
bound_once b x h = le-leb (nat_abs x) (1 * b) (omega (arith, leb-true (nat_abs x) b h))

bound_more : (b c e : ℕ) (x : ℤ) → c ≤ e → leb (nat_abs x) (c * b) ≡ true → leb (nat_abs x) (e * b) ≡ true
bound_more b c e x l h = le-leb (nat_abs x) (e * b) (omega (arith, mul-le-mul_right b l, leb-true (nat_abs x) (c * b) h))

bound_plus : (b c e : ℕ) (x y : ℤ) → leb (nat_abs x) (c * b) ≡ true → leb (nat_abs y) (e * b) ≡ true → leb (nat_abs (x +ℤ y)) ((c + e) * b) ≡ true
bound_plus b c e x y h k = le-leb (nat_abs (x +ℤ y)) ((c + e) * b) (omega (arith, ints, leb-true (nat_abs x) (c * b) h, leb-true (nat_abs y) (e * b) k))

bound_minus : (b c e : ℕ) (x y : ℤ) → leb (nat_abs x) (c * b) ≡ true → leb (nat_abs y) (e * b) ≡ true → leb (nat_abs (x -ℤ y)) ((c + e) * b) ≡ true
bound_minus b c e x y h k = le-leb (nat_abs (x -ℤ y)) ((c + e) * b) (omega (arith, ints, leb-true (nat_abs x) (c * b) h, leb-true (nat_abs y) (e * b) k))

-- each column is at most c times its bound
abbrev pub UpTo : (a : Arity) → Each a ℕ → ℕ → Columns a → Type 0
UpTo a b c x = within a (times a c b) x ≡ true

pub up_to_bound : (a : Arity) (b : Each a ℕ) (x : Columns a) → within a b x ≡ true → UpTo a b 1 x
up_to_bound one b x h = bound_once b x h
up_to_bound two b x h = and_from _ _ (bound_once b.0 x.0 (and_parts _ _ h).0) (bound_once b.1 x.1 (and_parts _ _ h).1)

pub up_to_nought : (a : Arity) (b : Each a ℕ) (c : ℕ) → UpTo a b c (nought a)
up_to_nought one b c = leb-zero (c * b)
up_to_nought two b c = and_from _ _ (leb-zero (c * b.0)) (leb-zero (c * b.1))

pub up_to_more : (a : Arity) (b : Each a ℕ) (c e : ℕ) (x : Columns a) → c ≤ e → UpTo a b c x → UpTo a b e x
up_to_more one b c e x l h = bound_more b c e x l h
up_to_more two b c e x l h = and_from _ _ (bound_more b.0 c e x.0 l (and_parts _ _ h).0) (bound_more b.1 c e x.1 l (and_parts _ _ h).1)

pub up_to_plus : (a : Arity) (b : Each a ℕ) (c e : ℕ) (x y : Columns a) → UpTo a b c x → UpTo a b e y → UpTo a b (c + e) (plus a x y)
up_to_plus one b c e x y h k = bound_plus b c e x y h k
up_to_plus two b c e x y h k = and_from _ _ (bound_plus b.0 c e x.0 y.0 (and_parts _ _ h).0 (and_parts _ _ k).0) (bound_plus b.1 c e x.1 y.1 (and_parts _ _ h).1 (and_parts _ _ k).1)

pub up_to_minus : (a : Arity) (b : Each a ℕ) (c e : ℕ) (x y : Columns a) → UpTo a b c x → UpTo a b e y → UpTo a b (c + e) (minus a x y)
up_to_minus one b c e x y h k = bound_minus b c e x y h k
up_to_minus two b c e x y h k = and_from _ _ (bound_minus b.0 c e x.0 y.0 (and_parts _ _ h).0 (and_parts _ _ k).0) (bound_minus b.1 c e x.1 y.1 (and_parts _ _ h).1 (and_parts _ _ k).1)

module _ (K : Kind) (O : Lawful K) where
  zero_up_to : (c : ℕ) → UpTo K.arity K.bound c (nought K.arity)
  zero_up_to c = up_to_nought K.arity K.bound c

  pub size_up_to : (c : ℕ) (x : Of K) → UpTo K.arity K.bound c x → UpTo K.arity K.bound c (size K x)
  unfolding size
  size_up_to c x h =
      cond_both (K.below x (nought K.arity)) (minus K.arity (nought K.arity) x) x (λ v. UpTo K.arity K.bound c v)
      (λ _. up_to_more K.arity K.bound (0 + c) c (minus K.arity (nought K.arity) x) (omega arith) (up_to_minus K.arity K.bound 0 c (nought K.arity) x (zero_up_to 0) h)) (λ _. h)

  -- the sum of pulses whose amounts are up to c times the bound, and a sum over days
  pub standing_up_to : (c : ℕ) (ps : List (Pulse K)) (d : ℕ) → AllByRecursion (λ p. UpTo K.arity K.bound c p.amount) ps → UpTo K.arity K.bound (length ps * c) (standing K ps d)
  unfolding standing
  standing_up_to c [] d h = zero_up_to (0 * c)
  standing_up_to c (p ∷ ps) d h =
      up_to_more K.arity K.bound (c + length ps * c) (suc (length ps) * c) (standing K (p ∷ ps) d) (omega arith)
      (up_to_plus K.arity K.bound c (length ps * c) (cond (covers p d) p.amount (nought K.arity)) (standing K ps d)
      (cond_both (covers p d) p.amount (nought K.arity) (λ v. UpTo K.arity K.bound c v) (λ _. h.0) (λ _. zero_up_to c))
      (standing_up_to c ps d h.1))

  pub summed_up_to : (c n : ℕ) (f : ℕ → Of K) → ((d : ℕ) → UpTo K.arity K.bound c (f d)) → UpTo K.arity K.bound (n * c) (summed K n f)
  unfolding summed
  summed_up_to c zero f h = zero_up_to (0 * c)
  summed_up_to c (suc n) f h =
      up_to_more K.arity K.bound (n * c + c) (suc n * c) (summed K (suc n) f) (omega arith) (up_to_plus K.arity K.bound (n * c) c (summed K n f) (f (suc n)) (summed_up_to c n f h) (h (suc n)))

  -- the swing of a trace whose totals are up to c times the bound
  pub swing_up_to : (c n : ℕ) (x : Trace K) → ((d : ℕ) → UpTo K.arity K.bound c (x d)) → UpTo K.arity K.bound ((n + 1) * (c + c)) (swing K n x)
  unfolding swing
  swing_up_to c n x h = summed_up_to (c + c) (n + 1) _ (λ d. size_up_to (c + c) (minus K.arity (x d) (x (d - 1))) (up_to_minus K.arity K.bound c c (x d) (x (d - 1)) (h d) (h (d - 1))))

  pub trace_up_to : (xs : Record K) → AllByRecursion (λ x. within K.arity K.bound x ≡ true) xs → (d : ℕ) → UpTo K.arity K.bound 1 (trace K xs d)
  unfolding trace
  trace_up_to xs h zero = zero_up_to 1
  trace_up_to xs h (suc d) = elim (cases_lt d (length xs)) [
    | inl l ↦ up_to_bound K.arity K.bound (get_or xs d (nought K.arity)) (All-get_or (λ x. within K.arity K.bound x ≡ true) xs d (nought K.arity) l h)
    | inr l ↦ rw (get_or_past xs d (nought K.arity) l) (zero_up_to 1)
  ]

  module _ (xs : Record K) (entered : AllByRecursion (λ x. within K.arity K.bound x ≡ true) xs) where
    -- amounts are up to twice the bounds,
    pub amounts_up_to : AllByRecursion (λ p. UpTo K.arity K.bound 2 p.amount) (pulses K xs)
    amounts_up_to =
        All-weaker _ _ (λ p (a, b, i, j, e). rw e (up_to_minus K.arity K.bound 1 1 a b i j)) _
        (pulses_among K O (λ v. UpTo K.arity K.bound 1 v) xs (trace_up_to xs entered))

    -- sums of some of the pulses up to twice the bounds for each day of the record
    pub numbered_up_to : (m : ℕ → Bool) (d : ℕ) → UpTo K.arity K.bound (length xs * 2) (standing K (numbered m (pulses K xs)) d)
    numbered_up_to m d =
        up_to_more K.arity K.bound (length (numbered m (pulses K xs)) * 2) (length xs * 2) (standing K (numbered m (pulses K xs)) d)
        (let h = length_numbered (pulses K xs) m in let k = pulses_few K O xs in omega arith)
        (standing_up_to 2 (numbered m (pulses K xs)) d (all_numbered _ (pulses K xs) m amounts_up_to))

    module _ (short : length xs ≤ 1000) where
      room : (c : ℕ) (x : Of K) → c ≤ 5000000 → UpTo K.arity K.bound c x → K.has x ≡ true
      room c x i k = O.roomy x (up_to_more K.arity K.bound c 5000000 x i k)

      -- so in a record of up to 1,000 days that may be entered every amount, every sum of some of the pulses and its swing is a value
      pub amounts_in_range : AllByRecursion (λ p. K.has p.amount ≡ true) (pulses K xs)
      amounts_in_range = All-weaker _ _ (λ p h. room 2 p.amount (omega arith) h) _ amounts_up_to

      pub sums_in_range : (m : ℕ → Bool) (d : ℕ) → K.has (standing K (numbered m (pulses K xs)) d) ≡ true
      sums_in_range m d = room (length xs * 2) _ (omega arith) (numbered_up_to m d)

      pub swings_in_range : (m : ℕ → Bool) → K.has (swing K (length xs) (standing K (numbered m (pulses K xs)))) ≡ true
      swings_in_range m =
          room ((length xs + 1) * (2000 + 2000)) _ (omega arith)
          (swing_up_to 2000 (length xs) _ (λ d. up_to_more K.arity K.bound (length xs * 2) 2000 _ (omega arith) (numbered_up_to m d)))

  pub in_range : (xs : Record K) → length xs ≤ 1000 → AllByRecursion (λ x. within K.arity K.bound x ≡ true) xs →
      AllByRecursion (λ p. K.has p.amount ≡ true) (pulses K xs) ×
      ((keep : Pulse K → Bool) → ((d : ℕ) → K.has (standing K (chosen keep (pulses K xs)) d) ≡ true) × (K.has (swing K (length xs) (standing K (chosen keep (pulses K xs)))) ≡ true))
  in_range xs l h = (
    amounts_in_range xs h l,
    λ keep. rw (chosen_numbered keep (pulses K xs)) (sums_in_range xs h l (flags keep (pulses K xs)), swings_in_range xs h l (flags keep (pulses K xs))),
  )
