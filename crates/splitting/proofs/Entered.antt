-- The first day whose total may not be entered, in the record's trace.
use Rattle.std.proofs.Common.{◌≡◌, ℕ, zero, suc, ◌+◌, ◌<◌, ◌≤◌, Bool, true, false, cond, [], ◌∷◌, length, get_or, Some, None, Option, sym, refl, subst, arith}
use Rattle.kinds.specs.Columns.{nought, within}
use Rattle.kinds.specs.Entries.{not_entered}
use Rattle.kinds.specs.Kinds.{Kind, Of}
use Rattle.transform.specs.Windows.{Record, trace}
use Rattle.splitting.specs.Records.{BarredDay}

-- whether the total at an index of the record may be entered
abbrev enters : (K : Kind) → Record K → ℕ → Bool
enters K xs i = within K.arity K.bound (get_or xs i (nought K.arity))

-- the index, in a record whose first day is `day`, of the first total that may not be entered on day d
record Found (K : Kind) (day : ℕ) (xs : Record K) (d : ℕ) : Type 0 where
  index : ℕ
  here : d ≡ day + index
  inside : index < length xs
  barred : enters K xs index ≡ false
  before : (i : ℕ) → i < index → enters K xs i ≡ true

abbrev FoundIf : (K : Kind) → ℕ → Record K → Option ℕ → Type 0
FoundIf K day xs None = (i : ℕ) → i < length xs → enters K xs i ≡ true
FoundIf K day xs (Some d) = Found K day xs d

module _ (K : Kind) where
  before : (x : Of K) (xs : Record K) → within K.arity K.bound x ≡ true → (n : ℕ) → ((i : ℕ) → i < n → enters K xs i ≡ true) → (i : ℕ) → i < suc n → enters K (x ∷ xs) i ≡ true
  before x xs w n f zero l = w
  before x xs w n f (suc i) l = f i (omega arith)

  one_more : (day : ℕ) (x : Of K) (xs : Record K) → within K.arity K.bound x ≡ true → (r : Option ℕ) → FoundIf K (day + 1) xs r → FoundIf K day (x ∷ xs) r
  one_more day x xs w None f = before x xs w (length xs) f
  one_more day x xs w (Some d) f =
      record {
        index = suc f.index;
        here = omega arith;
        inside = omega arith;
        barred = f.barred;
        before = before x xs w f.index f.before;
      }

  found : (day : ℕ) (xs : Record K) → FoundIf K day xs (not_entered K day xs)
  found day [] = λ i l. absurd (omega arith)
  found day (x ∷ xs) = go (within K.arity K.bound x) refl (found (day + 1) xs)
    where
      go : (t : Bool) → within K.arity K.bound x ≡ t → FoundIf K (day + 1) xs (not_entered K (day + 1) xs) → FoundIf K day (x ∷ xs) (cond t (not_entered K (day + 1) xs) (Some day))
      go true e more = one_more day x xs e (not_entered K (day + 1) xs) more
      go false e more = record { index = 0; here = omega arith; inside = omega arith; barred = e; before = λ i l. absurd (omega arith) }

  in_days : (xs : Record K) (n : ℕ) → ((i : ℕ) → i < n → enters K xs i ≡ true) → (d : ℕ) → 1 ≤ d → d ≤ n → within K.arity K.bound (trace K xs d) ≡ true
  unfolding trace
  in_days xs n f zero s l = absurd (omega arith)
  in_days xs n f (suc i) s l = f i (omega arith)

  in_trace : (xs : Record K) (r : Option ℕ) → FoundIf K 1 xs r → BarredDay K xs r
  unfolding trace
  in_trace xs None f = in_days xs (length xs) f
  in_trace xs (Some d) f =
      let day : d ≡ suc f.index = omega arith in
      record {
        starts = omega arith;
        ends = omega arith;
        barred = rw day f.barred;
        first = λ i s l. in_days xs f.index f.before i s (omega arith);
      }

  -- that day is the one which the law of refusals names
  pub barred_day : (xs : Record K) (r : Option ℕ) → r ≡ not_entered K 1 xs → BarredDay K xs r
  barred_day xs r e = subst (BarredDay K xs) (sym e) (in_trace xs _ (found 1 xs))
