-- Records and their traces: L, U and the smooths of a record, day by day.
use Rattle.std.proofs.Common.{◌≡◌, ℕ, zero, suc, ◌+◌, ◌-◌, ◌<◌, ◌≤◌, ◌∷◌, map, length, sym, refl, ap, ◌∙◌, subst, inl, inr, arith}
use mathlib.Core.Path.{fun_ext}
use Rattle.std.specs.List.{range_with_len}
use Rattle.std.proofs.lemmas.List.{get_or_past}
use Rattle.std.proofs.lemmas.List.FromFn.{length-map-range_with_len, get_or-map-range_with_len}
use Rattle.std.proofs.lemmas.Bool.{cases_lt, cases_Bool}
use Rattle.kinds.specs.Columns.{nought}
use Rattle.kinds.specs.Kinds.{Kind, Lawful}
use Rattle.transform.specs.Windows.{Record, Trace, trace, days, L, U, lowered, raised, smooth}
use Rattle.transform.specs.Theory.{turned}
use Rattle.transform.proofs.Order.{Below, AtMost, turned_lawful, at_most_same, then_below, below_then, not_itself}
use Rattle.transform.proofs.Windows.{Rise, Fall, Apart, turned_U, L_kept, L_apart, L_apart_turned}

-- day 0 and each day after day n hold zero
abbrev pub Outside : (K : Kind) → ℕ → Trace K → Type 0
Outside K n x = (x 0 ≡ nought K.arity) × ((d : ℕ) → n < d → x d ≡ nought K.arity)

pub trace_outside : (K : Kind) (xs : Record K) → Outside K (length xs) (trace K xs)
unfolding trace
trace_outside K xs = (refl, λ d h. get_or_past (nought K.arity ∷ xs) d _ h)

-- the record of a trace's days has that trace
pub trace_days : (K : Kind) (n : ℕ) (x : Trace K) → Outside K n x → trace K (days K n x) ≡ x
unfolding trace days
trace_days K n x o = fun_ext day
  where
    day : (d : ℕ) → trace K (days K n x) d ≡ x d
    day zero = sym o.0
    day (suc d) = elim (cases_lt d n) [
      | inl h ↦ get_or-map-range_with_len x 1 n d (suc d) _ h (omega arith)
      | inr h ↦ get_or_past (map x (range_with_len 1 n)) d _ (omega (arith, length-map-range_with_len x 1 n)) ∙ sym (o.1 (suc d) (omega arith))
    ]

pub L_outside : (K : Kind) → Lawful K → (n m : ℕ) (x : Trace K) → Outside K m x → Outside K m (L K n x)
L_outside K O n m x o = (
  L_kept K O n x 0 n (omega arith) (λ k h. at_most_same K O _ _ (ap x (omega arith))) ∙ o.0,
  λ d h. L_kept K O n x d 0 (omega arith) (λ k l. at_most_same K O _ _ (o.1 d h ∙ sym (o.1 ((d + k) - 0) (omega arith)))) ∙ o.1 d h,
)

pub turned_U_all : (K : Kind) (n : ℕ) (x : Trace K) → U K n x ≡ L (turned K) n x
turned_U_all K n x = fun_ext (turned_U K n x)

module _ (K : Kind) (O : Lawful K) where
  pub trace_lowered : (n : ℕ) (xs : Record K) → trace K (lowered K n xs) ≡ L K n (trace K xs)
  unfolding lowered
  trace_lowered n xs = trace_days K (length xs) _ (L_outside K O n (length xs) _ (trace_outside K xs))

  pub trace_raised : (n : ℕ) (xs : Record K) → trace K (raised K n xs) ≡ L (turned K) n (trace K xs)
  unfolding raised
  trace_raised n xs =
      trace_days K (length xs) _ (rw (turned_U_all K n (trace K xs)) (L_outside (turned K) (turned_lawful K O) n (length xs) _ (trace_outside K xs))) ∙ turned_U_all K n (trace K xs)

  pub length_lowered : (n : ℕ) (xs : Record K) → length (lowered K n xs) ≡ length xs
  unfolding lowered days
  length_lowered n xs = length-map-range_with_len _ 1 (length xs)

  pub length_raised : (n : ℕ) (xs : Record K) → length (raised K n xs) ≡ length xs
  unfolding raised days
  length_raised n xs = length-map-range_with_len _ 1 (length xs)

  pub length_smooth : (n : ℕ) (xs : Record K) → length (smooth K n xs) ≡ length xs
  unfolding smooth
  length_smooth zero xs = refl
  length_smooth (suc n) xs = length_raised _ _ ∙ length_lowered _ _ ∙ length_smooth n xs

  -- the smooth of width n has no bump and no pit of width n or less
  pub smooth_apart : (n : ℕ) (xs : Record K) → Apart K (suc n) (trace K (smooth K n xs)) × Apart (turned K) (suc n) (trace K (smooth K n xs))
  unfolding smooth
  smooth_apart zero xs = (λ p q h r f. omega arith, λ p q h r f. omega arith)
  smooth_apart (suc n) xs = next (smooth_apart n xs)
    where
      x : Trace K
      x = trace K (smooth K n xs)

      y : Trace K
      y = L K (suc n) x

      next : Apart K (suc n) x × Apart (turned K) (suc n) x → Apart K (suc (suc n)) (trace K (smooth K (suc n) xs)) × Apart (turned K) (suc (suc n)) (trace K (smooth K (suc n) xs))
      next (bumps, pits) =
          let Y = L_apart K O (suc n) x bumps (omega arith) in
          let T = L_apart_turned K O (suc n) x bumps (suc n) pits in
          rw (trace_raised (suc n) (lowered K (suc n) (smooth K n xs)), trace_lowered (suc n) (smooth K n xs))
          (L_apart_turned (turned K) (turned_lawful K O) (suc n) y T (suc (suc n)) Y, L_apart (turned K) (turned_lawful K O) (suc n) y T (omega arith))

-- where x falls from a day to a later one, it falls from a day to the next in between
fall_between : (K : Kind) → Lawful K → (x : Trace K) (a n : ℕ) → Below K (x (a + n)) (x a) → (q : ℕ) × (a ≤ q) × (q < a + n) × Fall K x q
fall_between K O x a zero h = absurd (not_itself K O _ _ (ap x (omega arith)) h)
fall_between K O x a (suc n) h = elim (cases_Bool (K.below (x (suc (a + n))) (x (a + n)))) [
  | inl f ↦ (a + n, omega arith, omega arith, f)
  | inr f ↦ further (fall_between K O x a n (then_below K O _ _ _ f (rw (let z : a + suc n ≡ suc (a + n) = omega arith in z) at h)))
]
  where
    further : ((q : ℕ) × (a ≤ q) × (q < a + n) × Fall K x q) → (q : ℕ) × (a ≤ q) × (q < a + suc n) × Fall K x q
    further (q, g, l, f) = (q, g, omega arith, f)

-- a trace of n days that has no bump and no pit of width n or less never rises,
no_rise : (K : Kind) → Lawful K → (n : ℕ) (x : Trace K) → Outside K n x → Apart K (suc n) x → Apart (turned K) (suc n) x → (b : ℕ) → AtMost K (x (suc b)) (x b)
no_rise K O n x o bumps pits b = elim (cases_Bool (K.below (x b) (x (suc b)))) [
  | inr e ↦ e
  | inl e ↦ absurd (elim (cases_lt n b) [
    | inl h ↦ not_itself K O _ _ (o.1 b h ∙ sym (o.1 (suc b) (omega arith))) e
    | inr h ↦ elim (cases_Bool (K.below (nought K.arity) (x (suc b)))) [
      | inl l ↦ down e h (fall_between K O x (suc b) (n - b) (rw (o.1 (suc b + (n - b)) (omega arith)) l))
      | inr l ↦ up e h (fall_between K O x 0 b (rw (let z : 0 + b ≡ b = omega arith in z, o.0) (below_then K O _ _ _ e l)))
    ]
  ])
]
  where
    down : Rise K x b → b ≤ n → ((q : ℕ) × (suc b ≤ q) × (q < suc b + (n - b)) × Fall K x q) → ⊥
    down r h (q, g, l, f) = let z = bumps b q g r f in omega arith

    up : Rise K x b → b ≤ n → ((q : ℕ) × (0 ≤ q) × (q < 0 + b) × Fall K x q) → ⊥
    up r h (q, g, l, f) = let z = pits q b (omega arith) f r in omega arith

-- and so is zero
pub apart_flat : (K : Kind) → Lawful K → (n : ℕ) (x : Trace K) → Outside K n x → Apart K (suc n) x → Apart (turned K) (suc n) x → (d : ℕ) → x d ≡ nought K.arity
apart_flat K O n x o bumps pits zero = o.0
apart_flat K O n x o bumps pits (suc d) =
    O.tight _ _ (no_rise (turned K) (turned_lawful K O) n x o pits bumps d) (no_rise K O n x o bumps pits d) ∙ apart_flat K O n x o bumps pits d

pub apart_less : (K : Kind) (m n : ℕ) (x : Trace K) → m ≤ n → Apart K n x → Apart K m x
apart_less K m n x h A p q l r f = let z = A p q l r f in omega arith

module _ (K : Kind) (O : Lawful K) where
  pub smooth_outside : (n : ℕ) (xs : Record K) → Outside K (length xs) (trace K (smooth K n xs))
  smooth_outside n xs = subst (λ m. Outside K m (trace K (smooth K n xs))) (length_smooth K O n xs) (trace_outside K (smooth K n xs))

  -- past the record's length the smooth is zero
  pub smooth_flat : (n : ℕ) (xs : Record K) → length xs ≤ n → (d : ℕ) → trace K (smooth K n xs) d ≡ nought K.arity
  smooth_flat n xs h d =
      apart_flat K O (length xs) _ (smooth_outside n xs) (apart_less K _ _ _ (omega arith) (smooth_apart K O n xs).0) (apart_less (turned K) _ _ _ (omega arith) (smooth_apart K O n xs).1) d
