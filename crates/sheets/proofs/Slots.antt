-- What marking does to one slot, and to the first slots one after another.
use Rattle.std.proofs.Common.{◌≡◌, ℕ, zero, suc, ◌+◌, ◌-◌, ◌<◌, ◌≤◌, List, length, get_or, Some, None, Ok, Err, Option, Result, sym, refl, ap, ◌∙◌, subst, inl, inr, add-zero, zero-add, add-one, arith}
use Rattle.sheets.specs.declared.sheet.Stop.{Stop}
use Rattle.std.proofs.lemmas.List.{length-set, get_or-set_same, get_or-set_other, get_or_past}
use Rattle.std.proofs.lemmas.Bool.{cases_lt, cases_eq, cases_Bool, ne_eqb, eqb-true, eq-eqb}
use Rattle.kinds.specs.Kinds.{Kind}
use Rattle.shelves.specs.declared.row.Mark.{Mark}
use Rattle.shelves.specs.Slots.{Entry}
use Rattle.sheets.specs.declared.sheet.Stop.TheVariants.{Refused, Unreachable}
use Rattle.sheets.specs.Calls.{Call, marking_one}
use Rattle.sheets.specs.Marks.{named, outward, marked, change, marks_changed, Marked}
use Rattle.sheets.specs.Inside.{SlotMarked, SlotsMarked}

pub some_not_none : {A : Type 0} (o : Option A) (a : A) → o ≡ Some a → o ≡ None → ⊥
some_not_none o a e f = let z : ◌≡◌ {A = ℕ} 0 1 = cc in omega arith

-- a call changes at most one mark in a slot
change_small : {K : Kind} (c : Call K) (k : ℕ) (o : Option Entry) → change c k o ≤ 1
change_small c k None = omega arith
change_small c k (Some e) = elim (cases_Bool (named c k e)) [
  | inl n ↦ elim (cases_Bool e.out) [
    | inl o ↦ elim (cases_Bool (outward c)) [ inl w ↦ rw (n, o, w) (omega arith) | inr w ↦ rw (n, o, w) (omega arith) ]
    | inr o ↦ elim (cases_Bool (outward c)) [ inl w ↦ rw (n, o, w) (omega arith) | inr w ↦ rw (n, o, w) (omega arith) ]
  ]
  | inr n ↦ rw n (omega arith)
]

-- a slot that is not blank is one of the shelf's
pub held_within : (slots : List (Option Entry)) (k : ℕ) → (get_or slots k None ≡ None → ⊥) → k < length slots
held_within slots k f = elim (cases_lt k (length slots)) [ inl h ↦ h | inr h ↦ absurd (f (get_or_past slots k None h)) ]

module _ (K : Kind) (c : Call K) (before : List (Option Entry)) where
  pub marked_none : Marked c 0 before before
  marked_none = record { capacity = refl; full = λ k h. absurd (omega arith); done = λ k h. absurd (omega arith); rest = λ k h. refl }

  -- one slot more
  pub marked_more : (k : ℕ) (here after : List (Option Entry)) (n changed : ℕ) → Marked c k before here → changed ≡ marks_changed c k before → SlotMarked K c k here after (Ok n) →
      Marked c (k + 1) before after × (changed + n ≡ marks_changed c (k + 1) before) × (n ≤ 1)
  unfolding marks_changed
  marked_more k here after n changed m e (f, g, s) = (
    record {
      capacity = ap length s ∙ length-set _ _ _ ∙ m.capacity;
      full = λ i h l b. elim (cases_lt i k) [ inl j ↦ m.full i j l b | inr j ↦ f (m.rest k (omega arith) ∙ ap (λ a. get_or before a None) (omega arith) ∙ b) ];
      done = λ i h. elim (cases_eq i k) [
        | inl j ↦ rw (s, j) (get_or-set_same here k _ None (held_within here k f) ∙ ap (marked c k) (m.rest k (omega arith)))
        | inr j ↦ rw s (get_or-set_other here k i _ None j ∙ m.done i (omega arith))
      ];
      rest = λ i h. rw s (get_or-set_other here k i _ None (λ j. omega arith) ∙ m.rest i (omega arith));
    },
    rw add-one (rw (e, g, m.rest k (omega arith)) refl),
    rw g (change_small c k (get_or here k None)),
  )

-- a call that names one slot alone
module _ (K : Kind) (m : Mark) (k : ℕ) where
  other_change : (i : ℕ) (o : Option Entry) → (i ≡ k → ⊥) → change {K = K} (marking_one m (suc k)) i o ≡ 0
  other_change i None f = refl
  other_change i (Some e) f = rw (ne_eqb (suc k) (suc i) (λ z. f (omega arith))) refl

  other_marked : (i : ℕ) (o : Option Entry) → (i ≡ k → ⊥) → marked {K = K} (marking_one m (suc k)) i o ≡ o
  other_marked i None f = refl
  other_marked i (Some e) f = rw (ne_eqb (suc k) (suc i) (λ z. f (omega arith))) refl

  none_changed : (n : ℕ) (slots : List (Option Entry)) → n ≤ k → marks_changed {K = K} (marking_one m (suc k)) n slots ≡ 0
  unfolding marks_changed
  none_changed zero slots h = refl
  none_changed (suc n) slots h = rw (none_changed n slots (omega arith), other_change n (get_or slots n None) (λ z. omega arith)) refl

  one_changed : (n : ℕ) (slots : List (Option Entry)) → k < n → marks_changed {K = K} (marking_one m (suc k)) n slots ≡ change {K = K} (marking_one m (suc k)) k (get_or slots k None)
  unfolding marks_changed
  one_changed zero slots h = absurd (omega arith)
  one_changed (suc n) slots h = elim (cases_eq k n) [
    | inl e ↦ rw (none_changed n slots (omega arith), e) (zero-add _)
    | inr e ↦ rw (one_changed n slots (omega arith), other_change n (get_or slots n None) (λ z. e (sym z))) (add-zero _)
  ]

  pub one_marked : (n : ℕ) (before after : List (Option Entry)) (r : Result ℕ Stop) → k < n → SlotMarked K (marking_one m (suc k)) k before after r → SlotsMarked K (marking_one m (suc k)) n before after r
  one_marked n before after (Ok changed) h (f, e, s) = (
    record {
      capacity = ap length s ∙ length-set _ _ _;
      full = λ i l o b. f (ap (λ a. get_or before a None) (let z = eqb-true (suc k) (suc i) o in omega arith) ∙ b);
      done = λ i l. elim (cases_eq i k) [
        | inl j ↦ rw (s, j) (get_or-set_same before k _ None (held_within before k f))
        | inr j ↦ rw s (get_or-set_other before k i _ None j ∙ sym (other_marked i (get_or before i None) j))
      ];
      rest = λ i l. rw s (get_or-set_other before k i _ None (λ j. omega arith));
    },
    e ∙ sym (one_changed n before h),
  )
  one_marked n before after (Err (Refused r)) h s = s
  one_marked n before after (Err Unreachable) h (b, s) = record {
    slot = k;
    below = h;
    looked = eq-eqb (suc k) (suc k) refl;
    blank = b;
    marked_before = record {
      capacity = ap length s;
      full = λ i l o. absurd (let z = eqb-true (suc k) (suc i) o in omega arith);
      done = λ i l. rw s (sym (other_marked i (get_or before i None) (λ z. omega arith)));
      rest = λ i l. rw s refl;
    };
  }
