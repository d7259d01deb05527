-- A pass: what levels the bumps of one width, or by the turned order the pits.
use Rattle.std.specs.Prelude.{◌≡◌, ℕ, suc, ◌+◌, ◌-◌, ◌<◌, ◌≤◌, Bool, true, cond, ◌⊎◌, List, [], ◌∷◌, ◌++◌, length, Option, ◌≢◌, nat_le, slice_set}
use Rattle.kinds.specs.Columns.{within, minus}
use Rattle.kinds.specs.Kinds.{Kind, Of}
use Rattle.shelves.specs.Slots.{Entry}
use Rattle.transform.specs.Windows.{Record, Trace, trace, L}
use Rattle.transform.specs.Pulses.{Pulse, in_turn, changes}
use Rattle.transform.specs.Theory.{Bump}
use Rattle.splitting.specs.declared.levelling.Aim.{Aim}
use Rattle.splitting.specs.declared.levelling.Aim.TheVariants.{Bumps, Pits}
use Rattle.splitting.specs.declared.levelling.Fate.{Fate}
use Rattle.splitting.specs.declared.levelling.Fate.TheVariants.{Levelled, Kept, Dropped}
use Rattle.splitting.specs.Records.{row_of}
use Rattle.splitting.specs.Work.{View, with_mark, with_run}
use Rattle.splitting.specs.Runs.{Knows, Marks}

-- the order by which a pass levels bumps: turned in a pass that levels pits
abbrev pub order_of : {X : Type 0} → Aim → (X → X → Bool) → X → X → Bool
order_of Bumps below a b = below a b
order_of Pits below a b = below b a

-- the kind by whose order a pass levels bumps
abbrev pub aimed : Kind → Aim → Kind
aimed K aim =
    record {
      arity = K.arity;
      below = λ a b. order_of aim K.below a b;
      bound = K.bound;
      has = K.has;
      names = K.names;
    }

-- A pass of width n makes the record after of the record before: no bump before is narrower than n
-- (between a rise and a later fall lie at least n days), and each total before may be entered.
pub record Stage (K : Kind) (aim : Aim) (n : ℕ) (before after : Record K) : Type 0 where
  pub some : 0 < n
  pub apart :
      (p q : ℕ) → p < q → (aimed K aim).below (trace K before p) (trace K before (suc p)) ≡ true →
      (aimed K aim).below (trace K before (suc q)) (trace K before q) ≡ true → p + n ≤ q
  pub levels : trace K after ≡ L (aimed K aim) n (trace K before)
  pub entered : (d : ℕ) → within K.arity K.bound (trace K before d) ≡ true

-- the trace in mid-pass: levelled up to day r
unfoldable pub spliced : (K : Kind) → ℕ → Trace K → ℕ → Trace K
spliced K n x r d = cond (nat_le d r) (L K n x d) (x d)

-- In mid-pass, at mark number i of hi, with so many marks kept and the days up to r dealt with: no
-- bump of width n reaches over day r, the work list knows the trace, and the marks kept serve for
-- the days up to r, those from number i on for the days after it.
pub record Midway (K : Kind) (n m : ℕ) (x : Trace K) (v : View (Of K)) (i hi kept r : ℕ) : Type 0 where
  pub reach : r ≤ m
  pub clear : (p : ℕ) → Bump K x p n → p < r → p + n ≤ r
  pub knows : Knows m (suc m) v (spliced K n x r)
  pub behind : kept ≤ i
  pub early : Marks K (spliced K n x r) v.mark 0 kept 0 r
  pub ahead : Marks K (spliced K n x r) v.mark i hi r m

-- what a pass of a record of so many days starts from
pub record Ready (K : Kind) (aim : Aim) (n days : ℕ) (v : View (Of K)) (marks : ℕ) (before after : Record K) : Type 0 where
  pub size : length before ≡ days
  pub stage : Stage K aim n before after
  pub knows : Knows (suc days) (suc (suc days)) v (trace K before)
  pub marked : Marks (aimed K aim) (trace K before) v.mark 0 marks 0 (suc days)
  pub few : marks ≤ suc days

-- what a visit of the mark on day s starts from, which is number i
pub record Visiting (K : Kind) (aim : Aim) (n days : ℕ) (v : View (Of K)) (kept r s : ℕ) (before after : Record K) (i hi : ℕ) : Type 0 where
  pub size : length before ≡ days
  pub stage : Stage K aim n before after
  pub mid : Midway (aimed K aim) n (suc days) (trace K before) v i hi kept r
  pub here : i < hi
  pub few : hi ≤ suc days
  pub marked : v.mark i ≡ s
  pub past : r < s

-- the slots once the rows of pulses are put one after another, from slot n on
abbrev pub put_rows : {K : Kind} → ℕ → List (Pulse K) → List (Option Entry) → List (Option Entry)
put_rows n [] slots = slots
put_rows n (p ∷ ps) slots = put_rows (suc n) ps (slice_set slots n (row_of p))

-- after so many rows, of so many slots enough are left for the pulses that f lists for the days after
-- r and up to m
abbrev pub SlotsLeft : {K : Kind} → (ℕ → List (Pulse K)) → (m r rows slots : ℕ) → Type 0
SlotsLeft f m r rows slots = rows + length (in_turn m f) ≤ slots + length (in_turn r f)

-- the pulses that f lists for the days after r and up to r' are put, from the number of rows on
pub record Added (K : Kind) (f : ℕ → List (Pulse K)) (r r' rows rows' : ℕ) (slots slots' : List (Option Entry)) : Type 0 where
  pub list : List (Pulse K)
  pub more : in_turn r' f ≡ in_turn r f ++ list
  pub put : slots' ≡ put_rows rows list slots
  pub count : rows' ≡ rows + length list

-- what a pass leaves: the work list knows the record after it, its marks serve for that, and the
-- pulses that the windows list for the pass are put
pub record Swept (K : Kind) (aim : Aim) (days : ℕ) (v : View (Of K)) (kept : ℕ) (before after : Record K) (rows rows' : ℕ) (slots slots' : List (Option Entry)) : Type 0 where
  pub knows : Knows (suc days) (suc (suc days)) v (trace K after)
  pub marked : Marks (aimed K aim) (trace K after) v.mark 0 kept 0 (suc days)
  pub few : kept ≤ suc days
  pub put : slots' ≡ put_rows rows (changes K before after) slots
  pub count : rows' ≡ rows + length (changes K before after)

-- What a pass does with a run from s to e, which holds h, with l before it and g after it: it levels
-- a bump of width n, may keep the mark of any other run, and drops the mark only of one that is
-- neither bump nor pit.
abbrev pub FateOf : (K : Kind) → (days n s e : ℕ) → Of K → Of K → Of K → Fate → Type 0
FateOf K days n s e l h g Levelled = (e ≤ days) × (K.below l h ≡ true) × (K.below g h ≡ true) × (suc e ≡ s + n)
FateOf K days n s e l h g Kept = K.below l h ≡ true → K.below g h ≡ true → suc e ≢ s + n
FateOf K days n s e l h g Dropped =
    e ≤ days → (K.below l h ≡ true → K.below g h ≢ true) × (K.below h l ≡ true → K.below h g ≢ true)

-- the total that a bump from s to e is levelled to: the higher of its neighbours
abbrev pub nearest : (K : Kind) → View (Of K) → ℕ → ℕ → Of K
nearest K v s e =
    cond (K.below (v.total (s - 1)) (v.total (e + 1))) (v.total (e + 1)) (v.total (s - 1))

-- a day is the other end of the run at the neighbour day where that holds the same total, else it is as given
abbrev pub Joins : {X : Type 0} → View X → X → X → ℕ → ℕ → ℕ → Type 0
Joins v a b neighbour day r = (a ≡ b → r ≡ v.other neighbour) × ((a ≢ b) → r ≡ day)

-- a run from s to e levelled, so that it is now the run from s' to e'
pub record Relaid (K : Kind) (v v' : View (Of K)) (s e s' e' : ℕ) : Type 0 where
  pub left : Joins v (v.total (s - 1)) (nearest K v s e) (s - 1) s s'
  pub right : Joins v (v.total (e + 1)) (nearest K v s e) (e + 1) e e'
  pub written : v' ≡ with_run v s' e' (nearest K v s e)

-- the pulse of a bump of width n from s to e
abbrev pub bump_pulse : (K : Kind) → Aim → View (Of K) → (n s e : ℕ) → Pulse K
bump_pulse K aim v n s e =
    record { first = s; width = n; amount = minus K.arity (v.total s) (nearest (aimed K aim) v s e) }

-- a mark for day s beside those kept: day 0 needs none, and neither does a day that has the last one
abbrev pub Marked : {X : Type 0} → View X → View X → ℕ → ℕ → ℕ → Type 0
Marked v v' kept s r =
    ((r ≡ kept) × (v' ≡ v) × ((s ≡ 0) ⊎ ((0 < kept) × (v.mark (kept - 1) ≡ s)))) ⊎
    ((r ≡ suc kept) × (v' ≡ with_mark v kept s) × (0 < s) × (0 < kept → v.mark (kept - 1) ≢ s))
