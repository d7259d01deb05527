-- The pulses of a record and their list; what a choice of them sums to; sizes and swings.
use Rattle.std.specs.Prelude.{ℕ, zero, suc, ◌+◌, ◌-◌, Bool, cond, not, ◌&&◌, ◌||◌, List, [], ◌∷◌, ◌++◌, length, nat_le, nat_lt}
use Rattle.kinds.specs.Columns.{nought, plus, minus}
use Rattle.kinds.specs.Kinds.{Kind, Of}
use Rattle.transform.specs.Windows.{Record, Trace, trace, lowered, smooth}

-- A pulse: one amount on each of so many days from the first.
pub record Pulse (K : Kind) : Type 0 where
  pub first : ℕ
  pub width : ℕ
  pub amount : Of K

-- f 1, then f 2, and so on to f n
unfoldable pub in_turn : {A : Type 0} → ℕ → (ℕ → List A) → List A
in_turn zero f = []
in_turn (suc n) f = in_turn n f ++ f (suc n)

-- the day holds another total after than before
unfoldable pub changed : (K : Kind) → Trace K → Trace K → ℕ → Bool
changed K before after d = K.below (before d) (after d) || K.below (after d) (before d)

-- a longest unbroken stretch of days that meet the test begins on day d
unfoldable pub begins : (ℕ → Bool) → ℕ → Bool
begins test d = test d && not (test (d - 1))

-- how many days from day d on meet the test without a break, among the next n
unfoldable pub unbroken : (ℕ → Bool) → ℕ → ℕ → ℕ
unbroken test zero d = 0
unbroken test (suc n) d = cond (test d) (suc (unbroken test n (suc d))) 0

-- the pulse that begins on day d, if one does: a longest unbroken stretch of changed days, with
-- what its day held before less what it holds after
unfoldable pub change : (K : Kind) → Record K → Record K → ℕ → List (Pulse K)
change K before after d =
    let test : ℕ → Bool = changed K (trace K before) (trace K after) in
    cond (begins test d)
    (record {
      first = d;
      width = unbroken test (length before) d;
      amount = minus K.arity (trace K before d) (trace K after d);
    } ∷ [])
    []

-- all of them, by rising first day
unfoldable pub changes : (K : Kind) → Record K → Record K → List (Pulse K)
changes K before after = in_turn (length before) (change K before after)

-- the upward pulses of width n are where L changes the smooth of width n - 1, and the downward
-- pulses of width n are where U changes the result of that
unfoldable pub upward : (K : Kind) → Record K → ℕ → List (Pulse K)
upward K xs zero = []
upward K xs (suc n) = changes K (smooth K n xs) (lowered K (suc n) (smooth K n xs))

unfoldable pub downward : (K : Kind) → Record K → ℕ → List (Pulse K)
downward K xs zero = []
downward K xs (suc n) = changes K (lowered K (suc n) (smooth K n xs)) (smooth K (suc n) xs)

-- the list of a record's pulses, numbered from 1: by rising width, at one width upward before
-- downward, then by rising first day
unfoldable pub pulses : (K : Kind) → Record K → List (Pulse K)
pulses K xs = in_turn (length xs) (λ n. upward K xs n ++ downward K xs n)

-- the pulse covers the day
unfoldable pub covers : {K : Kind} → Pulse K → ℕ → Bool
covers p d = nat_le p.first d && nat_lt d (p.first + p.width)

-- those of a list that meet the test, in order
unfoldable pub chosen : {A : Type 0} → (A → Bool) → List A → List A
chosen test [] = []
chosen test (a ∷ rest) = cond (test a) (a ∷ chosen test rest) (chosen test rest)

-- the sum of the amounts of the pulses that cover the day
unfoldable pub standing : (K : Kind) → List (Pulse K) → Trace K
standing K [] d = nought K.arity
standing K (p ∷ ps) d = plus K.arity (cond (covers p d) p.amount (nought K.arity)) (standing K ps d)

-- an amount, or its negation if it is below zero
unfoldable pub size : (K : Kind) → Of K → Of K
size K a = cond (K.below a (nought K.arity)) (minus K.arity (nought K.arity) a) a

-- the sum of the sizes of the pulses' amounts
unfoldable pub sizes : (K : Kind) → List (Pulse K) → Of K
sizes K [] = nought K.arity
sizes K (p ∷ ps) = plus K.arity (size K p.amount) (sizes K ps)

-- f 1 + .. + f n
unfoldable pub summed : (K : Kind) → ℕ → (ℕ → Of K) → Of K
summed K zero f = nought K.arity
summed K (suc n) f = plus K.arity (summed K n f) (f (suc n))

-- the swing of a trace of n days: the sum of the sizes of its n + 1 steps, from each day to the
-- next, day 0 and day n + 1 included
unfoldable pub swing : (K : Kind) → ℕ → Trace K → Of K
swing K n x = summed K (n + 1) (λ d. size K (minus K.arity (x d) (x (d - 1))))
