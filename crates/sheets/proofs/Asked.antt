-- What the questions of a sheet come to.
use Rattle.std.proofs.Common.{◌≡◌, ℕ, suc, ◌+◌, ◌-◌, ◌*◌, ◌<◌, ◌≤◌, true, false, List, [], ◌∷◌, ◌++◌, map, length, get_or, take, drop, set, Some, None, Err, Option, Result, sym, refl, ap, ◌∙◌, subst, inl, inr, add-one, arith}
use Rattle.std.specs.Option.{ok_or}
use Rattle.std.proofs.lemmas.Bool.{cases_eq, cases_lt, both_ways, cond-true, cond-false}
use Rattle.std.proofs.lemmas.List.{take_more_set, map_push, set-get_or, take-append-le, drop-append-le, take-append-drop, drop-set-lt, drop-drop}
use Rattle.std.proofs.ByRecursion.{All-get_or}
use Rattle.std.proofs.lemmas.List.FromFn.{length-map-range_with_len, get_or-map-range_with_len, map-range_with_len_more, take-map-range_with_len}
use Rattle.kinds.specs.Columns.{nought, plus, minus}
use Rattle.kinds.specs.Kinds.{Kind, Of, Lawful}
use Rattle.shelves.specs.Slots.{Entry}
use Rattle.shelves.specs.Stretches as stretches
use Rattle.transform.specs.Windows.{Trace, trace, days}
use Rattle.transform.specs.Pulses.{Pulse, pulses, standing, size, summed, swing}
use Rattle.transform.proofs.Smooths.{trace_outside}
use Rattle.sheets.specs.declared.sheet.Stop.{Stop}
use Rattle.sheets.specs.declared.sheet.Stop.TheVariants.{Refused, Unreachable}
use Rattle.sheets.specs.Takes.{State}
use Rattle.sheets.specs.History.{Calls, Shows}
use Rattle.sheets.specs.Standing.{stands_in, stand_in, standing_total, standing_trace, standing_swing}
use Rattle.sheets.specs.Questions.{Unled, ComesOut, Listed, FilledAtLeast}
use Rattle.sheets.specs.Inside.{RowHeld, Steps, step}
use Rattle.sheets.proofs.Adding.{stand_more}
use Rattle.sheets.proofs.History.{shows_full}
use Rattle.sheets.proofs.Bounds.{Within, Fair}
use Rattle.transform.proofs.Ranges.{up_to_plus, up_to_minus, up_to_more, up_to_nought, size_up_to, summed_up_to}
use Rattle.sheets.proofs.Shown.{shown_fair, shown_days, standing_small, standing_has}

-- sizes
module _ (K : Kind) (O : Lawful K) (x z : Of K) (e : z ≡ nought K.arity) where
  pub size_below : K.below x z ≡ true → minus K.arity z x ≡ size K x
  unfolding size
  size_below h = rw (e) (sym (cond-true _ _ _ (rw e at h)))

  pub size_kept : K.below x z ≡ false → x ≡ size K x
  unfolding size
  size_kept h = sym (cond-false _ _ _ (rw e at h))

-- a standing total that comes to a blank slot, or to a sum that the kind has no value of, in a sheet
-- that no list of calls leads to
pub row_stops : {V W : Type 0} (K : Kind) (held : V → Of K) (columns : W → Of K) (s : State) (k : ℕ) (y : Of K) (stop : Stop) → k < s.count → RowHeld K held s.slots k (Err stop) → ComesOut K columns s y (Err stop)
row_stops K held columns s k y (Refused r) l e = e
row_stops K held columns s k y Unreachable l e = λ h S. shows_full K h s S k l e

pub sum_stops : (K : Kind) (O : Lawful K) (s : State) (k d : ℕ) (x : Of K) (o : Option Entry) → k < s.count → x ≡ standing K (stand_in K k s.slots) d → get_or s.slots k None ≡ o →
    K.has (plus K.arity x (standing K (stands_in K o) d)) ≡ false → Unled K s
sum_stops K O s k d x o l a b f h S = both_ways _ (rw (stand_more K k s.slots d, ← a, b) f) (standing_has K h s S O (k + 1) d (omega arith))

-- what an option that lacks its value stops with
pub ok_or_stops : {V : Type 0} (o : Option V) (stop : Stop) → ◌≡◌ {A = Result V Stop} (Err stop) (ok_or o Unreachable) → stop ≡ Unreachable
ok_or_stops None stop e = cc
ok_or_stops (Some v) stop e = cc

-- a trace, day by day
pub days_none : (K : Kind) (x : Trace K) → days K 0 x ≡ []
unfolding days
days_none K x = refl

pub days_more : (K : Kind) (n : ℕ) (x : Trace K) → days K (n + 1) x ≡ days K n x ++ x (n + 1) ∷ []
unfolding days
days_more K n x = map-range_with_len_more x 1 n (n + 1) (omega arith)

pub days_inside : (K : Kind) (n : ℕ) (x : Trace K) (i : ℕ) → i < n → trace K (days K n x) (i + 1) ≡ x (i + 1)
unfolding days trace
days_inside K n x i h = rw add-one (get_or-map-range_with_len x 1 n i (suc i) _ h (omega arith))

pub days_past : (K : Kind) (n : ℕ) (x : Trace K) (i : ℕ) → n < i → trace K (days K n x) i ≡ nought K.arity
unfolding days
days_past K n x i h = (trace_outside K (days K n x)).1 i (rw (length-map-range_with_len x 1 n) h)

pub days_before : (K : Kind) (n : ℕ) (x : Trace K) → trace K (days K n x) 0 ≡ nought K.arity
days_before K n x = (trace_outside K (days K n x)).0

module _ {V : Type 0} (K : Kind) (columns : V → Of K) (x : Trace K) (i : ℕ) (before now : List V) (v : V) where
  pub write_more : i < length now → columns v ≡ x (i + 1) → map columns (take i now) ≡ days K i x → map columns (take (i + 1) (set now i v)) ≡ days K (i + 1) x
  write_more h e m = ap (map columns) (take_more_set now i v h) ∙ map_push columns (take i now) v ∙ rw (m, e) (sym (days_more K i x))

  pub rest_more : drop i now ≡ drop i before → drop (i + 1) (set now i v) ≡ drop (i + 1) before
  rest_more e = drop-set-lt (i + 1) now i v (omega arith) ∙ sym (drop-drop 1 i now) ∙ ap (drop 1) e ∙ drop-drop 1 i before

days_front : (K : Kind) (n i : ℕ) (x : Trace K) → i ≤ n → days K i x ≡ take i (days K n x)
unfolding days
days_front K n i x h = sym (take-map-range_with_len x 1 n i h)

-- a trace that stops before its last day, in a sheet that no list of calls leads to: the days of the
-- list are items, and what is behind them stays
pub trace_stops : {V : Type 0} (K : Kind) (columns : V → Of K) (s : State) (i : ℕ) (before items : List V) (v : V) (stop : Stop) → i ≤ length items → i ≤ s.days → length items ≤ length (take s.days before) →
    map columns (take i items) ≡ days K i (standing_total K s) → drop i items ≡ drop i (take s.days before) → FilledAtLeast K columns s before (set items i (get_or items i v) ++ drop s.days before) (Err stop)
trace_stops K columns s i before items v (Refused r) l h n m e = tt
trace_stops K columns s i before items v Unreachable l h n m e =
    let o : i ≤ length (take s.days before) = omega arith in
    let f : take i (items ++ drop s.days before) ≡ take i items = take-append-le i items (drop s.days before) l in
    let g : drop i (items ++ drop s.days before) ≡ drop i before =
    drop-append-le i items (drop s.days before) l ∙ ap (λ t. t ++ drop s.days before) e ∙
    sym (drop-append-le i (take s.days before) (drop s.days before) o) ∙ ap (drop i) (take-append-drop s.days before) in
    rw (set-get_or items i v) (i, record { within = h; totals = rw f (m ∙ days_front K s.days i (standing_total K s) h); rest = g })

-- the steps of the standing trace
pub swing_none : (K : Kind) (s : State) → summed K 0 (step K s) ≡ nought K.arity
unfolding summed
swing_none K s = refl

pub swing_more : (K : Kind) (s : State) (i : ℕ) → summed K (i + 1) (step K s) ≡ plus K.arity (summed K i (step K s)) (size K (minus K.arity (trace K (standing_trace K s) (i + 1)) (trace K (standing_trace K s) i)))
unfolding summed
swing_more K s i =
    rw add-one (ap (λ j. plus K.arity (summed K i (step K s)) (size K (minus K.arity (trace K (standing_trace K s) (suc i)) (trace K (standing_trace K s) j)))) (omega arith))

pub swing_all : (K : Kind) (s : State) → summed K (s.days + 1) (step K s) ≡ standing_swing K s
unfolding swing
swing_all K s = refl

module _ (K : Kind) (O : Lawful K) (h : Calls K) (s : State) (S : Shows K h s) where
  trace_small : (d : ℕ) → Within K 2000 (trace K (standing_trace K s) d)
  trace_small d = elim (cases_lt s.days d) [
    | inl l ↦ rw (days_past K s.days (standing_total K s) d l) (up_to_nought K.arity K.bound 2000)
    | inr l ↦ elim (cases_eq d 0) [
      | inl e ↦ rw (e, days_before K s.days (standing_total K s)) (up_to_nought K.arity K.bound 2000)
      | inr e ↦
          let z : d ≡ (d - 1) + 1 = omega arith in
          subst (λ i. Within K 2000 (trace K (standing_trace K s) i)) (sym z)
          (rw (days_inside K s.days (standing_total K s) (d - 1) (omega arith)) (standing_small K h s S O s.count ((d - 1) + 1) (omega arith)))
    ]
  ]

  has_small : (n : ℕ) (x : Of K) → n ≤ 5000000 → Within K n x → K.has x ≡ true
  has_small n x l w = O.roomy x (up_to_more K.arity K.bound n 5000000 x l w)

  steps_small : (i : ℕ) → i ≤ s.days → {V : Type 0} (columns : V → Of K) →
      Steps K columns (summed K i (step K s)) (trace K (standing_trace K s) i) (trace K (standing_trace K s) (i + 1)) None → ⊥
  steps_small i l columns e =
      let D : Within K 4000 (minus K.arity (trace K (standing_trace K s) (i + 1)) (trace K (standing_trace K s) i)) = up_to_minus K.arity K.bound 2000 2000 _ _ (trace_small (i + 1)) (trace_small i) in
      let Z = size_up_to K O 4000 _ D in
      let W = summed_up_to K O 4000 i (step K s) (λ d. size_up_to K O 4000 _ (up_to_minus K.arity K.bound 2000 2000 _ _ (trace_small d) (trace_small (d - 1)))) in
      let n = shown_days K h s S O in
      elim e [
        | inl f ↦ both_ways _ f (has_small 4000 _ (omega arith) D)
        | inr (inl f) ↦ both_ways _ f (has_small 4000 _ (omega arith) Z)
        | inr (inr f) ↦ both_ways _ f (has_small (i * 4000 + 4000) _ (omega arith) (up_to_plus K.arity K.bound (i * 4000) 4000 _ _ W Z))
      ]

-- a pulse by its number
some_same : {A : Type 0} {a b : A} → Some a ≡ Some b → a ≡ b
some_same e = cc

module _ (K : Kind) (O : Lawful K) (s : State) (n : ℕ) (l : 1 ≤ n) (g : n ≤ s.count) where
  pub no_stretch : (e : Entry) → get_or s.slots (n - 1) None ≡ Some e → (stretches.Within e.first e.width → ⊥) → Unled K s
  no_stretch e i f h S =
      let d : Pulse K = record { first = 0; width = 0; amount = nought K.arity } in
      let j : n - 1 < length (pulses K S.totals) = omega (arith, S.count) in
      let F = All-get_or (Fair K (length S.totals)) (pulses K S.totals) (n - 1) d j (shown_fair K h s S O) in
      let q = some_same (sym i ∙ S.rows (n - 1) d j) in
      let a : e.first ≡ (get_or (pulses K S.totals) (n - 1) d).first = ap (λ r. r.first) q in
      let w : e.width ≡ (get_or (pulses K S.totals) (n - 1) d).width = ap (λ r. r.width) q in
      let t = shown_days K h s S O in
      let u = S.days in
      f (record { begins = omega (arith, F.starts); wide = omega (arith, F.wide); ends = omega (arith, F.ends) })

  pub listed_stop : {V : Type 0} (columns : V → Of K) (stop : Stop) → RowHeld K columns s.slots (n - 1) (Err stop) → Listed K columns s n (Err stop)
  listed_stop columns (Refused r) e = absurd e
  listed_stop columns Unreachable e = λ h S. shows_full K h s S (n - 1) (omega arith) e

-- the steps up to a day, and what stands on that day
abbrev pub SoFar : (K : Kind) → State → ℕ → Of K → Of K → Type 0
SoFar K s i sum before = (sum ≡ summed K i (step K s)) × (before ≡ trace K (standing_trace K s) i)

pub swing_first : (K : Kind) (s : State) (i : ℕ) (x : Of K) → i ≡ 0 → x ≡ nought K.arity → SoFar K s i x x
swing_first K s i x z e = rw z (e ∙ sym (swing_none K s), e ∙ sym (days_before K s.days (standing_total K s)))

day_stands : (K : Kind) (s : State) (d : ℕ) (total : Of K) → 1 ≤ d → d ≤ s.days → total ≡ standing_total K s d → total ≡ trace K (standing_trace K s) ((d - 1) + 1)
day_stands K s d total f l t =
    let z : d ≡ (d - 1) + 1 = omega arith in
    t ∙ ap (standing_total K s) z ∙ sym (days_inside K s.days (standing_total K s) (d - 1) (omega arith))

pub swing_day : (K : Kind) (s : State) (i d : ℕ) (sum before total next : Of K) → 1 ≤ d → d ≤ s.days → i ≡ d → SoFar K s (d - 1) sum before → total ≡ standing_total K s d →
    next ≡ plus K.arity sum (size K (minus K.arity total before)) → SoFar K s i next total
swing_day K s i d sum before total next f l e m t n =
    let z : i ≡ (d - 1) + 1 = omega arith in
    let on = day_stands K s d total f l t in
    subst (λ j. SoFar K s j next total) (sym z) (n ∙ rw (m.0, m.1, on) (sym (swing_more K s (d - 1))), on)

-- the zero after the last day
after_last : (K : Kind) (s : State) (z : Of K) → z ≡ nought K.arity → z ≡ trace K (standing_trace K s) (s.days + 1)
after_last K s z e = e ∙ sym (days_past K s.days (standing_total K s) (s.days + 1) (omega arith))

-- a step that has no sum, in a sheet that no list of calls leads to
pub swing_stops : {V : Type 0} (K : Kind) (O : Lawful K) (columns : V → Of K) (s : State) (d : ℕ) (sum before total : Of K) → 1 ≤ d → d ≤ s.days → SoFar K s (d - 1) sum before →
    total ≡ standing_total K s d → Steps K columns sum before total None → Unled K s
swing_stops K O columns s d sum before total f l m t e h S = steps_small K O h s S (d - 1) (omega arith) columns (rw (m.0, m.1, day_stands K s d total f l t) at e)

-- the whole swing, with the step to the zero after the last day
pub swing_comes : {V : Type 0} (K : Kind) (O : Lawful K) (columns : V → Of K) (s : State) (sum before z : Of K) (o : Option V) → SoFar K s s.days sum before → z ≡ nought K.arity →
    Steps K columns sum before z o → ComesOut K columns s (standing_swing K s) (ok_or o Unreachable)
swing_comes K O columns s sum before z (Some v) m n e = e ∙ rw (m.0, m.1, after_last K s z n) (sym (swing_more K s s.days)) ∙ swing_all K s
swing_comes K O columns s sum before z None m n e = λ h S. steps_small K O h s S s.days (omega arith) columns (rw (m.0, m.1, after_last K s z n) at e)
