-- What is true of a sheet that shows a history.
use Rattle.std.proofs.Common.{◌≡◌, ℕ, zero, suc, ◌*◌, ◌<◌, ◌≤◌, Bool, true, false, not, List, [], ◌∷◌, ◌++◌, length, get_or, take, None, sym, refl, ap, ◌∙◌, subst, inl, inr, add-one, arith}
use Rattle.std.specs.List.{AllByRecursion}
use Rattle.std.proofs.lemmas.Bool.{cases_Bool, cases_eq, cases_lt}
use Rattle.std.proofs.lemmas.List.{take_more, take_all, length-take-le}
use Rattle.std.proofs.ByRecursion.{All-weaker, All-take}
use Rattle.kinds.specs.Columns.{nought, within}
use Rattle.kinds.specs.Kinds.{Kind, Lawful}
use Rattle.refusals.specs.declared.refusal.Refusal.TheVariants.{TooManyDays, MayNotEnter}
use Rattle.transform.specs.Windows.{Record, trace}
use Rattle.transform.specs.Pulses.{Pulse, pulses, chosen, standing}
use Rattle.transform.proofs.Smooths.{trace_outside}
use Rattle.transform.proofs.Stages.{chosen_append}
use Rattle.transform.proofs.Counts.{pulses_few}
use Rattle.splitting.specs.Records.{Accepted}
use Rattle.sheets.specs.Takes.{State}
use Rattle.sheets.specs.History.{Calls, Held, row, Shows}
use Rattle.sheets.specs.Standing.{pulse_of, stands_in, stand_in, left}
use Rattle.sheets.proofs.Adding.{unlisted_listed}
use Rattle.sheets.proofs.Bounds.{Within, Fair, pulses_fair}
use Rattle.transform.proofs.Ranges.{up_to_bound, up_to_nought, up_to_more, standing_up_to}

module _ (K : Kind) (xs : Record K) (entries capacity : ℕ) (a : Accepted K xs entries capacity) where
  accepted_days : length xs ≤ 1000
  accepted_days = elim (cases_lt 1000 (length xs)) [ inl h ↦ absurd (a TooManyDays h) | inr h ↦ h ]

  entered : (n : ℕ) → n ≤ length xs → (d : ℕ) → 1 ≤ d → d ≤ n → within K.arity K.bound (trace K xs d) ≡ true
  entered zero h d g l = absurd (omega arith)
  entered (suc n) h d g l = elim (cases_eq d (suc n)) [
    | inr e ↦ entered n (omega arith) d g (omega arith)
    | inl e ↦ elim (cases_Bool (within K.arity K.bound (trace K xs d))) [
      | inl w ↦ w
      | inr w ↦ absurd (a (MayNotEnter d) (record { starts = g; ends = omega arith; barred = w; first = λ i i1 i2. entered n (omega arith) i i1 (omega arith) }))
    ]
  ]

-- the totals of the record held may all be entered, and there are at most 1,000
pub held_within : (K : Kind) (capacity : ℕ) (h : Calls K) (xs : Record K) → Held K capacity h xs → (length xs ≤ 1000) × ((d : ℕ) → Within K 1 (trace K xs d))
held_within K capacity h xs (inl l) = (
  accepted_days K xs l.entries capacity l.accepted,
  λ d. elim (cases_lt (length xs) d) [
    | inl g ↦ rw ((trace_outside K xs).1 d g) (up_to_nought K.arity K.bound 1)
    | inr g ↦ elim (cases_eq d 0) [
      | inl e ↦ rw (e, (trace_outside K xs).0) (up_to_nought K.arity K.bound 1)
      | inr e ↦ up_to_bound K.arity K.bound _ (entered K xs l.entries capacity l.accepted (length xs) (omega arith) d (omega arith) g)
    ]
  ],
)
held_within K capacity h xs (inr (e, l)) = subst (λ ys. (length ys ≤ 1000) × ((d : ℕ) → Within K 1 (trace K ys d))) (sym e) (omega arith, λ d. rw (outside d) (up_to_nought K.arity K.bound 1))
  where
    outside : (d : ℕ) → trace K [] d ≡ nought K.arity
    outside zero = (trace_outside K []).0
    outside (suc d) = (trace_outside K []).1 (suc d) (omega arith)

pulse_row : (K : Kind) (p : Pulse K) (b : Bool) → pulse_of K (row p b) ≡ p
pulse_row K p b = λ i. record { first = p.first; width = p.width; amount = unlisted_listed K.arity p.amount i }

pub chosen_length : {A : Type 0} (test : A → Bool) (xs : List A) → length (chosen test xs) ≤ length xs
unfolding chosen
chosen_length test [] = omega arith
chosen_length test (x ∷ xs) = let h = chosen_length test xs in elim (cases_Bool (test x)) [ inl e ↦ rw e (omega arith) | inr e ↦ rw e (omega arith) ]

pub all_chosen : {A : Type 0} (P : A → Type 0) (test : A → Bool) (xs : List A) → AllByRecursion P xs → AllByRecursion P (chosen test xs)
unfolding chosen
all_chosen P test [] h = tt
all_chosen P test (x ∷ xs) (h, hs) = elim (cases_Bool (test x)) [ inl e ↦ rw e (h, all_chosen P test xs hs) | inr e ↦ rw e (all_chosen P test xs hs) ]

module _ (K : Kind) (h : Calls K) (s : State) (S : Shows K h s) where
  -- what is marked in is what is not out
  slot_left : (k : ℕ) (d : Pulse K) → k < length (pulses K S.totals) → stands_in K (get_or s.slots k None) ≡ chosen (λ p. not (S.out p)) (get_or (pulses K S.totals) k d ∷ [])
  unfolding chosen
  slot_left k d l = rw (S.rows k d l) (elim (cases_Bool (S.out (get_or (pulses K S.totals) k d))) [
    | inl e ↦ rw e refl
    | inr e ↦ rw e (ap (λ p. p ∷ []) (pulse_row K (get_or (pulses K S.totals) k d) false))
  ])

  pub slots_left : (j : ℕ) → j ≤ length (pulses K S.totals) → stand_in K j s.slots ≡ chosen (λ p. not (S.out p)) (take j (pulses K S.totals))
  unfolding stand_in chosen
  slots_left zero l = refl
  slots_left (suc j) l =
      let d : Pulse K = record { first = 0; width = 0; amount = nought K.arity } in
      let t : take (suc j) (pulses K S.totals) ≡ take j (pulses K S.totals) ++ get_or (pulses K S.totals) j d ∷ [] = rw add-one at (take_more (pulses K S.totals) j d (omega arith)) in
      rw (t, chosen_append (λ p. not (S.out p)) (take j (pulses K S.totals)) (get_or (pulses K S.totals) j d ∷ []), ← (slots_left j (omega arith)), ← (slot_left j d (omega arith))) refl

  pub left_is : left K s ≡ chosen (λ p. not (S.out p)) (pulses K S.totals)
  left_is = slots_left s.count (omega (arith, S.count)) ∙ ap (chosen (λ p. not (S.out p))) (take_all s.count (pulses K S.totals) (omega (arith, S.count)))

  module _ (O : Lawful K) where
    pub shown_fair : AllByRecursion (Fair K (length S.totals)) (pulses K S.totals)
    shown_fair = pulses_fair K O S.totals (held_within K (length s.slots) h S.totals S.held).1

    pub shown_days : s.days ≤ 1000
    shown_days = omega (arith, S.days, (held_within K (length s.slots) h S.totals S.held).0)

    -- a standing total is within 2,000 times the bound
    pub standing_small : (j d : ℕ) → j ≤ s.count → Within K 2000 (standing K (stand_in K j s.slots) d)
    standing_small j d l =
        let f = pulses_few K O S.totals in
        let m = (held_within K (length s.slots) h S.totals S.held).0 in
        let c = S.count in
        let k = chosen_length (λ p. not (S.out p)) (take j (pulses K S.totals)) in
        let t = length-take-le j (pulses K S.totals) (omega arith) in
        rw (slots_left j (omega arith))
        (up_to_more K.arity K.bound (length (chosen (λ p. not (S.out p)) (take j (pulses K S.totals))) * 2) 2000 _ (omega arith)
        (standing_up_to K O 2 (chosen (λ p. not (S.out p)) (take j (pulses K S.totals))) d
        (all_chosen _ _ (take j (pulses K S.totals)) (All-take _ j (pulses K S.totals) (All-weaker _ _ (λ p q. q.amount) (pulses K S.totals) shown_fair)))))

    -- so the kind has it
    pub standing_has : (j d : ℕ) → j ≤ s.count → K.has (standing K (stand_in K j s.slots) d) ≡ true
    standing_has j d l = O.roomy _ (up_to_more K.arity K.bound 2000 5000000 _ (omega arith) (standing_small j d l))
