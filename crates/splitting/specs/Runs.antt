-- Runs of a trace, and what a work list knows of them.
use Rattle.std.specs.Prelude.{◌≡◌, ℕ, suc, ◌-◌, ◌<◌, ◌≤◌, ◌⊎◌, ◌≢◌}
use Rattle.kinds.specs.Kinds.{Kind}
use Rattle.transform.specs.Windows.{Trace}
use Rattle.transform.specs.Theory.{turned, Bump}
use Rattle.splitting.specs.Work.{View}

-- Among days 0 to m: the days from s to e hold one total, and the day before them and the day after
-- hold others, if there are such days.
pub record Run {X : Type 0} (m : ℕ) (x : ℕ → X) (s e : ℕ) : Type 0 where
  pub order : s ≤ e
  pub end : e ≤ m
  pub level : (d : ℕ) → s ≤ d → d ≤ e → x d ≡ x s
  pub begins : 0 < s → x (s - 1) ≢ x s
  pub ends : e < m → x (suc e) ≢ x e

-- the entry of a day holds this total and this other end
pub record Shows {X : Type 0} (totals : ℕ → X) (others : ℕ → ℕ) (day other : ℕ) (total : X) : Type 0 where
  pub holds : totals day ≡ total
  pub joins : others day ≡ other

-- each run that ends before day u is known at both its ends
abbrev pub Knows : {X : Type 0} → ℕ → ℕ → View X → (ℕ → X) → Type 0
Knows m u v x = (s e : ℕ) → Run m x s e → e < u → Shows v.total v.other s e (x s) × Shows v.total v.other e s (x s)

-- a bump or a pit, of w days after day p
abbrev pub Turn : (K : Kind) → Trace K → ℕ → ℕ → Type 0
Turn K x p w = Bump K x p w ⊎ Bump (turned K) x p w

-- Of the marks number lo to hi - 1, which rise: each that lies after day a is the first day of a run
-- and lies no later than day b, and every bump or pit that begins after day a and no later than
-- day b has one.
pub record Marks (K : Kind) (x : Trace K) (mark : ℕ → ℕ) (lo hi a b : ℕ) : Type 0 where
  pub rising : (i j : ℕ) → lo ≤ i → i < j → j < hi → mark i < mark j
  pub within : (i : ℕ) → lo ≤ i → i < hi → a < mark i → mark i ≤ b
  pub begins : (i : ℕ) → lo ≤ i → i < hi → a < mark i → x (mark i - 1) ≢ x (mark i)
  pub turns : (p w : ℕ) → Turn K x p w → a ≤ p → p < b → (i : ℕ) × (lo ≤ i) × (i < hi) × (mark i ≡ suc p)

-- A record's trace is laid out up to a day: the run that holds the day begins on the first day, the
-- runs before it are known, and every run up to the day is marked, but for the one before day 1.
pub record Laid {X : Type 0} (m : ℕ) (x : ℕ → X) (v : View X) (first marks day : ℕ) : Type 0 where
  pub order : first ≤ day
  pub level : (d : ℕ) → first ≤ d → d ≤ day → x d ≡ x first
  pub opens : 0 < first → x (first - 1) ≢ x first
  pub knows : Knows m first v x
  pub few : marks ≤ day
  pub rising : (i j : ℕ) → i < j → j < marks → v.mark i < v.mark j
  pub within : (i : ℕ) → i < marks → v.mark i ≤ day
  pub begins : (i : ℕ) → i < marks → 0 < v.mark i → x (v.mark i - 1) ≢ x (v.mark i)
  pub all : (s : ℕ) → 0 < s → s ≤ day → (x (s - 1) ≢ x s) → (i : ℕ) × (i < marks) × (v.mark i ≡ s)

-- A record's trace that is laid out up to a day is laid out one day further, if the day after holds this
-- total: the work list before and after, then the first day, the marks and the total of the open run.
pub record Extends {X : Type 0} (v w : View X) (day : ℕ) (added : X) (first marks : ℕ) (total : X) (first' marks' : ℕ) (total' : X) : Type 0 where
  pub laid : (m : ℕ) (x : ℕ → X) → Laid m x v first marks day → total ≡ x first → added ≡ x (suc day) → suc day ≤ m → Laid m x w first' marks' (suc day) × (total' ≡ x first')
