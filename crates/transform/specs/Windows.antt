-- Traces, windows and the smooths of a record.
use Rattle.std.specs.Prelude.{ℕ, zero, suc, ◌+◌, ◌-◌, cond, List, ◌∷◌, map, length, slice_index_or}
use Rattle.std.specs.List.{range_with_len}
use Rattle.kinds.specs.Columns.{nought}
use Rattle.kinds.specs.Kinds.{Kind, Of}

-- A record: the totals of day 1, day 2 and so on.
abbrev pub Record : Kind → Type 0
Record K = List (Of K)

-- A trace: a total for each day. Days count from 1, and day 0 stands for every day before day 1.
abbrev pub Trace : Kind → Type 0
Trace K = ℕ → Of K

-- the record's trace: each day outside the record counts as zero
unfoldable pub trace : (K : Kind) → Record K → Trace K
trace K xs d = slice_index_or (nought K.arity ∷ xs) d (nought K.arity)

-- the record that holds days 1 to n of a trace
unfoldable pub days : (K : Kind) → ℕ → Trace K → Record K
days K n x = map x (range_with_len 1 n)

-- the lower and the higher of two totals
unfoldable pub lower : (K : Kind) → Of K → Of K → Of K
lower K a b = cond (K.below b a) b a

unfoldable pub higher : (K : Kind) → Of K → Of K → Of K
higher K a b = cond (K.below a b) b a

-- the lowest and the highest of f 0, .., f n
unfoldable pub lowest : (K : Kind) → (ℕ → Of K) → ℕ → Of K
lowest K f zero = f 0
lowest K f (suc n) = lower K (lowest K f n) (f (suc n))

unfoldable pub highest : (K : Kind) → (ℕ → Of K) → ℕ → Of K
highest K f zero = f 0
highest K f (suc n) = higher K (highest K f n) (f (suc n))

-- A window of width n is n + 1 consecutive days. The windows that hold day d are those that begin
-- j days before it, for j from 0 to n; the days of such a window are d + k - j, for k from 0 to n.

-- L gives each day the highest, over all windows that hold the day, of the lowest total in it
unfoldable pub L : (K : Kind) → ℕ → Trace K → Trace K
L K n x d = highest K (λ j. lowest K (λ k. x ((d + k) - j)) n) n

-- U gives each day the lowest, over the same windows, of the highest total in it
unfoldable pub U : (K : Kind) → ℕ → Trace K → Trace K
U K n x d = lowest K (λ j. highest K (λ k. x ((d + k) - j)) n) n

-- L and U of a record, on the record's days
unfoldable pub lowered : (K : Kind) → ℕ → Record K → Record K
lowered K n xs = days K (length xs) (L K n (trace K xs))

unfoldable pub raised : (K : Kind) → ℕ → Record K → Record K
raised K n xs = days K (length xs) (U K n (trace K xs))

-- the smooth of width 0 is the record, that of width n is U of L of the smooth of width n - 1
unfoldable pub smooth : (K : Kind) → ℕ → Record K → Record K
smooth K zero xs = xs
smooth K (suc n) xs = raised K (suc n) (lowered K (suc n) (smooth K n xs))
