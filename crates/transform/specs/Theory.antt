-- What is true of the pulses of every record of every lawful kind.
use Rattle.std.specs.Prelude.{◌≡◌, ℕ, suc, ◌+◌, ◌<◌, ◌≤◌, Bool, true, not, ◌↔◌, List, [], ◌∷◌, length, ◌≢◌, nat_lt}
use Rattle.std.specs.List.{ContainsAt as Has, AllByRecursion}
use Rattle.kinds.specs.Columns.{nought, plus, minus, within}
use Rattle.kinds.specs.Kinds.{Kind, Of, Lawful}
use Rattle.transform.specs.Windows.{Record, Trace, trace, higher, L, U, lowered, smooth}
use Rattle.transform.specs.Pulses.{Pulse, upward, downward, pulses, covers, chosen, standing, sizes, swing}

-- the kind with its order turned round: what is low for the one is high for the other
abbrev pub turned : Kind → Kind
turned K = record { arity = K.arity; below = λ x y. K.below y x; bound = K.bound; has = K.has; names = K.names }

-- The w days after day p are a bump of the trace: they hold one total, and the day before and the
-- day after hold lower ones.
pub record Bump (K : Kind) (x : Trace K) (p w : ℕ) : Type 0 where
  pub some : 0 < w
  pub level : (d : ℕ) → p < d → d ≤ p + w → x d ≡ x (suc p)
  pub rises : K.below (x p) (x (suc p)) ≡ true
  pub falls : K.below (x (suc (p + w))) (x (suc p)) ≡ true

-- a pit is a bump of the turned kind: the day before and the day after hold higher totals
abbrev pub Pit : (K : Kind) → Trace K → ℕ → ℕ → Type 0
Pit K x p w = Bump (turned K) x p w

-- The pulse covers n days, all within the record, and on each of them what the day held before
-- less what it holds after is its amount.
pub record Regular (K : Kind) (days n : ℕ) (before after : Trace K) (p : Pulse K) : Type 0 where
  pub wide : p.width ≡ n
  pub starts : 1 ≤ p.first
  pub ends : p.first + p.width ≤ days + 1
  pub even : (d : ℕ) → covers p d ≡ true → minus K.arity (before d) (after d) ≡ p.amount

-- each upward pulse of a width has that many days and one amount, above zero; each downward one
-- too, with an amount below zero
abbrev pub WidthsAndAmounts : Type 0
WidthsAndAmounts =
    (K : Kind) → Lawful K → (xs : Record K) (n : ℕ) →
    AllByRecursion
    (λ p. Regular K (length xs) (suc n) (trace K (smooth K n xs)) (trace K (lowered K (suc n) (smooth K n xs))) p × (K.below (nought K.arity) p.amount ≡ true))
    (upward K xs (suc n)) ×
    AllByRecursion
    (λ p. Regular K (length xs) (suc n) (trace K (lowered K (suc n) (smooth K n xs))) (trace K (smooth K (suc n) xs)) p × (K.below p.amount (nought K.arity) ≡ true))
    (downward K xs (suc n))

-- all the pulses add up to the record
abbrev pub PulsesSumToTheRecord : Type 0
PulsesSumToTheRecord = (K : Kind) → Lawful K → (xs : Record K) (d : ℕ) → standing K (pulses K xs) d ≡ trace K xs d

-- the pulses wider than w add up to the smooth of width w
abbrev pub WiderPulsesSumToTheSmooth : Type 0
WiderPulsesSumToTheSmooth =
    (K : Kind) → Lawful K → (xs : Record K) (w d : ℕ) → standing K (chosen (λ p. nat_lt w p.width) (pulses K xs)) d ≡ trace K (smooth K w xs) d

-- a record has at most as many pulses as days
abbrev pub AtMostAsManyPulsesAsDays : Type 0
AtMostAsManyPulsesAsDays = (K : Kind) → Lawful K → (xs : Record K) → length (pulses K xs) ≤ length xs

-- two choices of pulses that add up to the same on every day are the same choice
abbrev pub DifferentChoicesDiffer : Type 0
DifferentChoicesDiffer =
    (K : Kind) → Lawful K → (xs : Record K) (keep keep' : Pulse K → Bool) →
    ((d : ℕ) → standing K (chosen keep (pulses K xs)) d ≡ standing K (chosen keep' (pulses K xs)) d) →
    (p : Pulse K) → Has (pulses K xs) p → keep p ≡ keep' p

-- each element of the list is in the relation to every later one
abbrev pub EachLater : {A : Type 0} → (A → A → Type 0) → List A → Type 0
EachLater R [] = Unit {0}
EachLater R (a ∷ rest) = AllByRecursion (R a) rest × EachLater R rest

-- no two pulses of the list cover the same days
abbrev pub PulsesHaveDaysOfTheirOwn : Type 0
PulsesHaveDaysOfTheirOwn =
    (K : Kind) → Lawful K → (xs : Record K) → EachLater (λ p q. p.first ≡ q.first → p.width ≢ q.width) (pulses K xs)

-- the swing of what stands, and twice the sizes of the pulses that are out, make the record's swing
abbrev pub SwingsBalance : Type 0
SwingsBalance =
    (K : Kind) → Lawful K → (xs : Record K) (keep : Pulse K → Bool) →
    let out : Of K = sizes K (chosen (λ p. not (keep p)) (pulses K xs)) in
    swing K (length xs) (trace K xs) ≡ plus K.arity (swing K (length xs) (standing K (chosen keep (pulses K xs)))) (plus K.arity out out)

-- in a record of up to 1,000 days each within the entry bounds, every amount, every sum of some of
-- the pulses and the swing of such a sum is a value of the kind
abbrev pub SumsStayInRange : Type 0
SumsStayInRange =
    (K : Kind) → Lawful K → (xs : Record K) → length xs ≤ 1000 → AllByRecursion (λ x. within K.arity K.bound x ≡ true) xs →
    AllByRecursion (λ p. K.has p.amount ≡ true) (pulses K xs) ×
    ((keep : Pulse K → Bool) →
    ((d : ℕ) → K.has (standing K (chosen keep (pulses K xs)) d) ≡ true) × (K.has (swing K (length xs) (standing K (chosen keep (pulses K xs)))) ≡ true))

-- Levelling by runs: y is x with each bump of width n taken down to the higher of its neighbours.
-- Over the turned kind it is x with each pit of width n taken up to the lower of its neighbours.
pub record Levelled (K : Kind) (n : ℕ) (x y : Trace K) : Type 0 where
  pub inside : (p d : ℕ) → Bump K x p n → p < d → d ≤ p + n → y d ≡ higher K (x p) (x (suc (p + n)))
  pub outside : (d : ℕ) → ((p : ℕ) → Bump K x p n → p < d → d ≤ p + n → ⊥) → y d ≡ x d

-- where no bump is narrower than n, L levels the bumps of width n; where no pit is, U levels the pits
abbrev pub WindowsLevelRuns : Type 0
WindowsLevelRuns =
    (K : Kind) → Lawful K → (n : ℕ) (x : Trace K) →
    (((p w : ℕ) → w < n → Bump K x p w → ⊥) → Levelled K n x (L K n x)) × (((p w : ℕ) → w < n → Pit K x p w → ⊥) → Levelled (turned K) n x (U K n x))

-- the smooth of width n has no bump and no pit of width n or less
abbrev pub SmoothsAreSmooth : Type 0
SmoothsAreSmooth =
    (K : Kind) → Lawful K → (xs : Record K) (n p w : ℕ) → w ≤ n →
    (Bump K (trace K (smooth K n xs)) p w → ⊥) × (Pit K (trace K (smooth K n xs)) p w → ⊥)

-- levelling each bump of width n + 1 of the smooth of width n, and then each pit of that width of
-- the result, gives the smooth of width n + 1, and nothing else
abbrev pub RunsMakeTheSmooths : Type 0
RunsMakeTheSmooths =
    (K : Kind) → Lawful K → (xs : Record K) (n : ℕ) (z : Trace K) →
    ((y : Trace K) × Levelled K (suc n) (trace K (smooth K n xs)) y × Levelled (turned K) (suc n) y z) ↔ ((d : ℕ) → z d ≡ trace K (smooth K (suc n) xs) d)
