-- A sheet that shows a history keeps the promise.
use Rattle.std.proofs.Common.{◌≡◌, ℕ, suc, ◌<◌, ◌≤◌, Bool, true, false, cond, not, ltb, ◌⊎◌, ◌↔◌, List, [], ◌∷◌, length, Decides, Result, sym, refl, ap, ◌∙◌, subst, inl, inr, arith}
use mathlib.Core.Path.{fun_ext}
use Rattle.std.specs.List.{ContainsAt as Has, AllByRecursion}
use Rattle.std.proofs.lemmas.Bool.{cases_Bool, cases_lt, both_ways, ltb-false, lt-ltb, le-ltb}
use Rattle.std.proofs.lemmas.List.{ext_get_or}
use Rattle.std.proofs.lemmas.List.FromFn.{length-map-range_with_len}
use Rattle.kinds.specs.Columns.{nought, plus}
use Rattle.kinds.specs.Kinds.{Kind, Lawful}
use Rattle.transform.specs.Windows.{Record, Trace, trace, days, smooth}
use Rattle.transform.specs.Pulses.{Pulse, pulses, chosen, covers, standing, sizes, swing}
use Rattle.transform.proofs.Smooths.{trace_days, length_smooth}
use Rattle.transform.proofs.Group.{plus_assoc, plus_left_comm, plus_nought}
use Rattle.transform.proofs.Stages.{pulses_sum, wider_sum}
use Rattle.transform.proofs.Listing.{covers_first, covers_last}
use Rattle.transform.proofs.Choosing.{pulses_differ}
use Rattle.transform.proofs.Swings.{pulses_swing}
use Rattle.sheets.specs.declared.sheet.Stop.{Stop}
use Rattle.sheets.specs.Takes.{State}
use Rattle.sheets.specs.Calls.{Call}
use Rattle.sheets.specs.History.{Calls, Out, Shows}
use Rattle.sheets.specs.Standing.{standing_total, standing_trace, standing_swing}
use Rattle.sheets.specs.Promise.{OutExactly, Promise, Keeps}
use Rattle.sheets.proofs.Bounds.{Fair}
use Rattle.sheets.proofs.History.{held_one, ShowsOn}
use Rattle.sheets.proofs.Shown.{left_is, shown_fair, all_chosen}

-- choices that agree on the list are the same
chosen_same : {A : Type 0} (test other : A → Bool) (xs : List A) → AllByRecursion (λ x. test x ≡ other x) xs → chosen test xs ≡ chosen other xs
unfolding chosen
chosen_same test other [] h = refl
chosen_same test other (x ∷ xs) (h, hs) = rw (h, chosen_same test other xs hs) refl

all_of_has : {A : Type 0} (P : A → Type 0) (xs : List A) → ((x : A) → Has xs x → P x) → AllByRecursion P xs
all_of_has P [] f = tt
all_of_has P (x ∷ xs) f = (f x (0, omega arith, λ d. refl), all_of_has P xs (λ y (k, l, e). f y (suc k, omega arith, e)))

not_not : (b : Bool) → not (not b) ≡ b
not_not true = refl
not_not false = refl

not_same : (a b : Bool) → not a ≡ not b → a ≡ b
not_same a b e = sym (not_not a) ∙ ap not e ∙ not_not b

-- what is chosen and the rest add up to all
standing_parted : (K : Kind) (keep : Pulse K → Bool) (ps : List (Pulse K)) (d : ℕ) →
    plus K.arity (standing K (chosen (λ p. not (keep p)) ps) d) (standing K (chosen keep ps) d) ≡ standing K ps d
unfolding chosen standing
standing_parted K keep [] d = plus_nought _ _
standing_parted K keep (p ∷ ps) d = elim (cases_Bool (keep p)) [
  | inl e ↦ rw e (plus_left_comm K.arity _ _ _ ∙ ap (plus K.arity (cond (covers p d) p.amount (nought K.arity))) (standing_parted K keep ps d))
  | inr e ↦ rw e (plus_assoc K.arity _ _ _ ∙ ap (plus K.arity (cond (covers p d) p.amount (nought K.arity))) (standing_parted K keep ps d))
]

-- outside the record nothing stands
not_covering : (K : Kind) (n : ℕ) (p : Pulse K) (d : ℕ) → Fair K n p → (d ≡ 0) ⊎ (n < d) → covers p d ≡ false
not_covering K n p d f o = elim (cases_Bool (covers p d)) [
  | inr e ↦ e
  | inl e ↦ absurd (let a = covers_first p d e in let b = covers_last p d e in elim o [ inl z ↦ omega (arith, f.starts) | inr z ↦ omega (arith, f.ends) ])
]

standing_outside : (K : Kind) (n : ℕ) (ps : List (Pulse K)) (d : ℕ) → AllByRecursion (Fair K n) ps → (d ≡ 0) ⊎ (n < d) → standing K ps d ≡ nought K.arity
unfolding standing
standing_outside K n [] d h o = refl
standing_outside K n (p ∷ ps) d (h, hs) o = rw (not_covering K n p d h o, standing_outside K n ps d hs o) (plus_nought _ _)

-- records of one length with one trace are the same
same_record : (K : Kind) (xs ys : Record K) → length xs ≡ length ys → ((d : ℕ) → trace K xs d ≡ trace K ys d) → xs ≡ ys
unfolding trace
same_record K xs ys e f = ext_get_or (nought K.arity) xs ys e (λ i h. f (suc i))

length_days : (K : Kind) (n : ℕ) (x : Trace K) → length (days K n x) ≡ n
unfolding days
length_days K n x = length-map-range_with_len x 1 n

module _ (K : Kind) (O : Lawful K) (h : Calls K) (s : State) (S : Shows K h s) where
  kept : (d : ℕ) → standing_total K s d ≡ standing K (chosen (λ p. not (S.out p)) (pulses K S.totals)) d
  kept d = ap (λ ps. standing K ps d) (left_is K h s S)

  trace_is : trace K (standing_trace K s) ≡ standing_total K s
  trace_is = trace_days K s.days (standing_total K s) (
    kept 0 ∙ standing_outside K (length S.totals) _ 0 (all_chosen _ _ _ (shown_fair K h s S O)) (inl refl),
    λ d l. kept d ∙ standing_outside K (length S.totals) _ d (all_chosen _ _ _ (shown_fair K h s S O)) (inr (omega (arith, S.days))),
  )

  -- the standing trace, day by day
  pub trace_same : (ys : Record K) → length ys ≡ s.days → ((d : ℕ) → standing_total K s d ≡ trace K ys d) → standing_trace K s ≡ ys
  trace_same ys l e = same_record K (standing_trace K s) ys (length_days K s.days _ ∙ sym l) (λ d. ap (λ t. t d) trace_is ∙ e d)

  pub same_trace : (ys : Record K) → standing_trace K s ≡ ys → (d : ℕ) → standing_total K s d ≡ trace K ys d
  same_trace ys e d = ap (λ t. t d) (sym trace_is) ∙ ap (λ z. trace K z d) e

  smooth_days : (w : ℕ) → length (smooth K w S.totals) ≡ s.days
  smooth_days w = length_smooth K O w S.totals ∙ sym S.days

  promised_smooths : (w : ℕ) → (standing_trace K s ≡ smooth K w S.totals) ↔ OutExactly K (length s.slots) S.totals h (λ p. p.width ≤ w)
  promised_smooths w = (
    λ e p i.
        let q : not (S.out p) ≡ ltb w p.width = pulses_differ K O S.totals (λ p. not (S.out p)) (λ p. ltb w p.width) (λ d. sym (kept d) ∙ same_trace (smooth K w S.totals) e d ∙ sym (wider_sum K O S.totals w d)) p i in
        (λ o. ltb-false w p.width (sym q ∙ ap not ((S.told p i).1 o)), λ l. (S.told p i).0 (not_same (S.out p) true (q ∙ le-ltb w p.width l))),
    λ f. trace_same (smooth K w S.totals) (smooth_days w) (λ d.
        kept d ∙ ap (λ ps. standing K ps d) (chosen_same (λ p. not (S.out p)) (λ p. ltb w p.width) (pulses K S.totals) (all_of_has _ (pulses K S.totals) (λ p i. elim (cases_Bool (S.out p)) [
          | inl o ↦ rw o (sym (le-ltb w p.width ((f p i).0 ((S.told p i).0 o))))
          | inr o ↦ elim (cases_lt w p.width) [ inl l ↦ rw o (sym (lt-ltb w p.width l)) | inr l ↦ absurd (both_ways _ o ((S.told p i).1 ((f p i).1 l))) ]
        ]))) ∙ wider_sum K O S.totals w d),
  )

  promised_totals : (d : ℕ) → plus K.arity (standing_total K s d) (standing K (chosen S.out (pulses K S.totals)) d) ≡ trace K S.totals d
  promised_totals d = rw (kept d) (standing_parted K S.out (pulses K S.totals) d ∙ pulses_sum K O S.totals d)

  promised_swings : swing K s.days (trace K S.totals) ≡ plus K.arity (standing_swing K s) (plus K.arity (sizes K (chosen S.out (pulses K S.totals))) (sizes K (chosen S.out (pulses K S.totals))))
  promised_swings =
      let out : chosen (λ p. not (not (S.out p))) (pulses K S.totals) ≡ chosen S.out (pulses K S.totals) = chosen_same _ _ (pulses K S.totals) (all_of_has _ (pulses K S.totals) (λ p i. not_not (S.out p))) in
      let stands : trace K (standing_trace K s) ≡ standing K (chosen (λ p. not (S.out p)) (pulses K S.totals)) = trace_is ∙ fun_ext kept in
      rw (stands, S.days, ← out) (pulses_swing K O S.totals (λ p. not (S.out p)))

module _ (K : Kind) (O : Lawful K) (h : Calls K) (s : State) (S : Shows K h s) (g : Calls K) (t : State) (T : Shows K g t) (E : T.totals ≡ S.totals) where
  other_told : (p : Pulse K) → Has (pulses K S.totals) p → Decides (T.out p) (Out K (length t.slots) S.totals g p)
  other_told = subst (λ ys. (p : Pulse K) → Has (pulses K ys) p → Decides (T.out p) (Out K (length t.slots) ys g p)) E T.told

  other_kept : (d : ℕ) → standing_total K t d ≡ standing K (chosen (λ p. not (T.out p)) (pulses K S.totals)) d
  other_kept d = kept K O g t T d ∙ ap (λ ys. standing K (chosen (λ p. not (T.out p)) (pulses K ys)) d) E

  promised_same : (standing_trace K s ≡ standing_trace K t) ↔ OutExactly K (length s.slots) S.totals h (Out K (length t.slots) S.totals g)
  promised_same = (
    λ e p i.
        let q : S.out p ≡ T.out p = not_same _ _ (pulses_differ K O S.totals (λ p. not (S.out p)) (λ p. not (T.out p)) (λ d. sym (kept K O h s S d) ∙ same_trace K O h s S (standing_trace K t) e d ∙ sym (same_trace K O g t T (standing_trace K t) refl d) ∙ other_kept d) p i) in
        (λ o. (other_told p i).0 (sym q ∙ (S.told p i).1 o), λ o. (S.told p i).0 (q ∙ (other_told p i).1 o)),
    λ f. trace_same K O h s S (standing_trace K t) (length_days K t.days _ ∙ T.days ∙ ap length E ∙ sym S.days) (λ d.
        kept K O h s S d ∙ ap (λ ps. standing K ps d) (chosen_same (λ p. not (S.out p)) (λ p. not (T.out p)) (pulses K S.totals) (all_of_has _ (pulses K S.totals) (λ p i. ap not (elim (cases_Bool (S.out p)) [
          | inl o ↦ o ∙ sym ((other_told p i).1 ((f p i).0 ((S.told p i).0 o)))
          | inr o ↦ elim (cases_Bool (T.out p)) [ inl u ↦ absurd (both_ways _ o ((S.told p i).1 ((f p i).1 ((other_told p i).0 u)))) | inr u ↦ o ∙ sym u ]
        ])))) ∙ sym (other_kept d) ∙ same_trace K O g t T (standing_trace K t) refl d),
  )

pub promised : (K : Kind) (O : Lawful K) (h : Calls K) (s : State) → Shows K h s → Promise K h s
promised K O h s S = record {
  shows = S;
  one_record = λ xs H. held_one K (length s.slots) h xs S.totals H S.held;
  same_pulses_out = λ g t T E. promised_same K O h s S g t T E;
  totals_balance = promised_totals K O h s S;
  swings_balance = promised_swings K O h s S;
  smooths = promised_smooths K O h s S;
}

-- a call that shows the history with itself added keeps the promise
pub keeps : (K : Kind) (O : Lawful K) (c : Call K) (s t : State) (r : Result ℕ Stop) → ShowsOn K c s t r → Keeps K c s t
keeps K O c s t r f h S = promised K O (c ∷ h) t (f h S).0
