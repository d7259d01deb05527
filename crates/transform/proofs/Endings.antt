-- Where the listing ends, what its fronts are, and what totals and days its pulses can have.
use Rattle.std.proofs.Common.{◌≡◌, ℕ, zero, suc, ◌+◌, ◌-◌, ◌<◌, ◌≤◌, Bool, true, List, [], ◌++◌, length, sym, refl, ap, ◌∙◌, arith}
use Rattle.std.specs.List.{AllByRecursion}
use Rattle.std.proofs.lemmas.List.{append-nil, append_assoc}
use Rattle.std.proofs.ByRecursion.{All-append, All-weaker}
use Rattle.kinds.specs.Columns.{nought, minus}
use Rattle.kinds.specs.Kinds.{Kind, Of, Lawful}
use Rattle.transform.specs.Windows.{Record, Trace, trace, L, lowered, smooth}
use Rattle.transform.specs.Pulses.{Pulse, in_turn, changes, upward, downward, pulses, covers}
use Rattle.transform.specs.Theory.{turned}
use Rattle.transform.proofs.Order.{turned_lawful, at_most_same, not_itself, highest_all, lowest_all}
use Rattle.transform.proofs.Windows.{L_kept}
use Rattle.transform.proofs.Smooths.{trace_lowered, trace_raised, smooth_flat}
use Rattle.transform.proofs.Listing.{Pass, sided, listed_on, all_in_turn, covers_on}
use Rattle.transform.proofs.Stages.{stage, upward_pass, downward_pass, upward_regular, downward_regular}

-- a longer listing begins with a shorter one
pub in_turn_front : {A : Type 0} (f : ℕ → List A) (c k : ℕ) → (rest : List A) × (in_turn (c + k) f ≡ in_turn c f ++ rest)
unfolding in_turn
in_turn_front f c zero = ([], rw (let z : c + 0 ≡ c = omega arith in z, append-nil))
in_turn_front f c (suc k) =
    let (rest, e) = in_turn_front f c k in
    (rest ++ f (suc (c + k)), rw (let z : c + suc k ≡ suc (c + k) = omega arith in z, e, append_assoc))

-- L and the smooths hold no total that the record does not: what is true of each total before is true of each after
pub L_among : (K : Kind) → Lawful K → (P : Of K → Type 0) (n : ℕ) (x : Trace K) → ((d : ℕ) → P (x d)) → (d : ℕ) → P (L K n x d)
unfolding L
L_among K O P n x h d = highest_all K O _ n P (λ j l. lowest_all K O _ n P (λ k m. h _))

module _ (K : Kind) (O : Lawful K) (P : Of K → Type 0) (xs : Record K) (h : (d : ℕ) → P (trace K xs d)) where
  pub smooth_among : (n d : ℕ) → P (trace K (smooth K n xs) d)
  unfolding smooth
  smooth_among zero d = h d
  smooth_among (suc n) d =
      rw (trace_raised K O (suc n) (lowered K (suc n) (smooth K n xs)), trace_lowered K O (suc n) (smooth K n xs))
      (L_among (turned K) (turned_lawful K O) P (suc n) _ (L_among K O P (suc n) _ (smooth_among n)) d)

  pub lowered_among : (n d : ℕ) → P (trace K (lowered K (suc n) (smooth K n xs)) d)
  lowered_among n d = rw (trace_lowered K O (suc n) (smooth K n xs)) (L_among K O P (suc n) _ (smooth_among n) d)

  -- each amount is the difference of two such totals
  pub pulses_among : AllByRecursion (λ p. (a b : Of K) × P a × P b × (p.amount ≡ minus K.arity a b)) (pulses K xs)
  unfolding pulses
  pulses_among = all_in_turn _ (length xs) (stage K xs) (λ n. All-append _ (upward K xs (suc n)) (downward K xs (suc n))
      (All-weaker _ _ (λ p r. (_, _, smooth_among n p.first, lowered_among n p.first, sym (r.0.even p.first (starts p r.0.wide)))) _ (upward_regular K O xs n))
      (All-weaker _ _ (λ p r. (_, _, lowered_among n p.first, smooth_among (suc n) p.first, sym (r.0.even p.first (starts p r.0.wide)))) _ (downward_regular K O xs n)))
    where
      starts : {n : ℕ} (p : Pulse K) → p.width ≡ suc n → covers p p.first ≡ true
      starts p e = covers_on p p.first (omega arith) (omega arith)

-- a pass over a trace of zeros lists nothing and changes nothing
module _ (K : Kind) (O : Lawful K) (lt : Of K → Of K → Bool) (n : ℕ) (b a : Record K) (V : Pass K lt n b a) (Z : (d : ℕ) → trace K b d ≡ nought K.arity) where
  flat_lists : changes K b a ≡ []
  unfolding changes in_turn
  flat_lists =
      rw (let z : length b ≡ 0 + length b = omega arith in z)
      (listed_on K O lt n b a V 0 (length b) (λ p h l B. not_itself (sided K lt) V.lawful _ _ (Z p ∙ sym (Z (suc p))) B.rises))

  flat_stays : (d : ℕ) → trace K a d ≡ nought K.arity
  flat_stays d =
      ap (λ t. t d) V.levels ∙ L_kept (sided K lt) V.lawful n (trace K b) d 0 (omega arith) (λ k h. at_most_same (sided K lt) V.lawful _ _ (Z d ∙ sym (Z ((d + k) - 0)))) ∙ Z d

module _ (K : Kind) (O : Lawful K) (xs : Record K) where
  -- once the smooth is zero, no more pulses come
  flat_stage : (n : ℕ) → ((d : ℕ) → trace K (smooth K n xs) d ≡ nought K.arity) →
      (upward K xs (suc n) ≡ []) × (downward K xs (suc n) ≡ []) × ((d : ℕ) → trace K (smooth K (suc n) xs) d ≡ nought K.arity)
  unfolding upward downward
  flat_stage n Z =
      let up = upward_pass K O xs n in
      let down = downward_pass K O xs n in
      let Y = flat_stays K O K.below (suc n) _ _ up Z in
      (flat_lists K O K.below (suc n) _ _ up Z, flat_lists K O (turned K).below (suc n) _ _ down Y, flat_stays K O (turned K).below (suc n) _ _ down Y)

  flat_on : (w k : ℕ) → ((d : ℕ) → trace K (smooth K w xs) d ≡ nought K.arity) → (in_turn (w + k) (stage K xs) ≡ in_turn w (stage K xs)) × ((d : ℕ) → trace K (smooth K (w + k) xs) d ≡ nought K.arity)
  unfolding in_turn
  flat_on w zero Z = rw (let z : w + 0 ≡ w = omega arith in z) (refl, Z)
  flat_on w (suc k) Z =
      let (e, Y) = flat_on w k Z in
      let (u, v, X) = flat_stage (w + k) Y in
      rw (let z : w + suc k ≡ suc (w + k) = omega arith in z) (rw (u, v, append-nil) e, X)

  pub pulses_upto : (w : ℕ) → w ≤ length xs → ((d : ℕ) → trace K (smooth K w xs) d ≡ nought K.arity) → pulses K xs ≡ in_turn w (stage K xs)
  unfolding pulses
  pulses_upto w h Z = rw (let z : w + (length xs - w) ≡ length xs = omega arith in z) at (flat_on w (length xs - w) Z).0

  -- and so it is past the record's length
  pub past_none : (n : ℕ) → length xs < n → (upward K xs n ≡ []) × (downward K xs n ≡ [])
  past_none zero h = absurd (omega arith)
  past_none (suc n) h = let (u, v, X) = flat_stage n (smooth_flat K O n xs (omega arith)) in (u, v)

  -- each pulse lies within the record
  pub pulses_within : AllByRecursion (λ p. (1 ≤ p.first) × (1 ≤ p.width) × (p.first + p.width ≤ length xs + 1)) (pulses K xs)
  unfolding pulses
  pulses_within = all_in_turn _ (length xs) (stage K xs) (λ n. All-append _ (upward K xs (suc n)) (downward K xs (suc n))
      (All-weaker _ _ (λ p r. (r.0.starts, let e = r.0.wide in omega arith, r.0.ends)) _ (upward_regular K O xs n))
      (All-weaker _ _ (λ p r. (r.0.starts, let e = r.0.wide in omega arith, r.0.ends)) _ (downward_regular K O xs n)))
