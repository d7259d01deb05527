-- What each call does to the history.
use Rattle.std.proofs.Common.{◌≡◌, ℕ, zero, suc, ◌-◌, ◌<◌, ◌≤◌, Bool, true, false, cond, ◌&&◌, eqb, leb, ◌⊎◌, List, [], ◌∷◌, ◌++◌, map, length, get_or, drop, Some, None, Ok, Err, Decides, Option, Result, sym, refl, ap, ◌∙◌, subst, inl, inr, arith}
use Rattle.std.specs.List.{ContainsAt as Has, AllByRecursion}
use Rattle.std.proofs.lemmas.Bool.{cases_Bool, cases_eq, cases_lt, cases_order, both_ways, and_parts, and_from, leb-true, le-leb, eqb-true, eq-eqb, ne_eqb}
use Rattle.std.proofs.ByRecursion.{All-get_or}
use Rattle.std.proofs.lemmas.List.{get_or_default, get_or_append_left, get_or-map, length-append, length-map, length-drop}
use Rattle.kinds.specs.Columns.{nought}
use Rattle.kinds.specs.Kinds.{Kind, Lawful}
use Rattle.refusals.specs.declared.refusal.Refusal.{Refusal}
use Rattle.refusals.specs.declared.refusal.Refusal.TheVariants.{NoSuchPulse, ShelfTooSmall}
use Rattle.shelves.specs.declared.row.Mark.{Mark}
use Rattle.shelves.specs.declared.row.Mark.TheVariants.{In, Out as TakenOut}
use Rattle.shelves.specs.Slots.{Entry, Outside, is_out}
use Rattle.transform.specs.Windows.{Record}
use Rattle.transform.specs.Pulses.{Pulse, pulses, in_turn}
use Rattle.transform.specs.Theory.{EachLater}
use Rattle.transform.proofs.Choosing.{pulses_apart}
use Rattle.transform.proofs.Counts.{pulses_few}
use Rattle.sheets.specs.declared.sheet.Stop.{Stop}
use Rattle.sheets.specs.declared.sheet.Stop.TheVariants.{Refused, Unreachable}
use Rattle.splitting.specs.Records.{Accepted, row_of, laid}
use Rattle.sheets.specs.Takes.{State, Taken, Take, opened}
use Rattle.sheets.specs.Calls.{Call, taking, marking, marking_one, Grounds, Allowed, Names, Removes}
use Rattle.sheets.specs.Marks.{named, outward, marked, Marked, Stays, Marking}
use Rattle.sheets.specs.History.{Calls, Takes, Held, Concerns, Out, row, Shows, Strays}
use Rattle.sheets.proofs.Slots.{some_not_none}

-- a list split behind its first element
cons_head : {A : Type 0} {a b : A} {s t : List A} → a ∷ s ≡ b ∷ t → a ≡ b
cons_head e = cc

cons_tail : {A : Type 0} {a b : A} {s t : List A} → a ∷ s ≡ b ∷ t → s ≡ t
cons_tail e = cc

nil_split : {A : Type 0} (a : A) (t s : List A) → [] ≡ s ++ (a ∷ t) → ⊥
nil_split a t [] e = let z : ◌≡◌ {A = ℕ} 0 1 = cc in omega arith
nil_split a t (b ∷ s) e = let z : ◌≡◌ {A = ℕ} 0 1 = cc in omega arith

taking_same : {K : Kind} {xs ys : Record K} {m n : ℕ} → ◌≡◌ {A = Call K} (taking xs m) (taking ys n) → xs ≡ ys
taking_same e = cc

module _ (K : Kind) (capacity : ℕ) where
  -- a call that is no accepted take leaves the record held
  pub held_still : (c : Call K) (h : Calls K) (xs : Record K) → (Takes K capacity c → ⊥) → Held K capacity h xs → Held K capacity (c ∷ h) xs
  held_still c h xs f (inl l) =
      inl (record { later = c ∷ l.later; entries = l.entries; earlier = l.earlier; split = ap (λ t. c ∷ t) l.split; accepted = l.accepted; since = (f, l.since) })
  held_still c h xs f (inr (e, l)) = inr (e, (f, l))

  pub held_now : (h : Calls K) (xs : Record K) (entries : ℕ) → Accepted K xs entries capacity → Held K capacity (taking xs entries ∷ h) xs
  held_now h xs entries a = inl (record { later = []; entries = entries; earlier = h; split = refl; accepted = a; since = tt })

  -- the newest call set the record, or it did not and the calls before tell which it is
  held_cases : (c : Call K) (h : Calls K) (xs : Record K) → Held K capacity (c ∷ h) xs → ((entries : ℕ) × (c ≡ taking xs entries) × Accepted K xs entries capacity) ⊎ ((Takes K capacity c → ⊥) × Held K capacity h xs)
  held_cases c h xs (inr (e, (f, l))) = inr (f, inr (e, l))
  held_cases c h xs (inl t) = go t.later t.split t.since
    where
      go : (later : Calls K) → c ∷ h ≡ later ++ (taking xs t.entries ∷ t.earlier) → AllByRecursion (λ c. Takes K capacity c → ⊥) later → ((entries : ℕ) × (c ≡ taking xs entries) × Accepted K xs entries capacity) ⊎ ((Takes K capacity c → ⊥) × Held K capacity h xs)
      go [] e s = inl (t.entries, cons_head e, t.accepted)
      go (b ∷ later) e (f, s) = inr (
        subst (λ a. Takes K capacity a → ⊥) (sym (cons_head e)) f,
        inl (record { later = later; entries = t.entries; earlier = t.earlier; split = cons_tail e; accepted = t.accepted; since = s }),
      )

  -- so one record is held
  pub held_one : (h : Calls K) (xs ys : Record K) → Held K capacity h xs → Held K capacity h ys → xs ≡ ys
  held_one [] xs ys (inr (e, l)) (inr (f, m)) = e ∙ sym f
  held_one [] xs ys (inl t) H = absurd (nil_split _ t.earlier t.later t.split)
  held_one [] xs ys (inr (e, l)) (inl t) = absurd (nil_split _ t.earlier t.later t.split)
  held_one (c ∷ h) xs ys H G = elim (held_cases c h xs H) [
    | inl (m, e, a) ↦ elim (held_cases c h ys G) [
      | inl (n, f, b) ↦ taking_same (sym e ∙ f)
      | inr (f, g) ↦ absurd (f (subst (Takes K capacity) (sym e) a))
    ]
    | inr (e, a) ↦ elim (held_cases c h ys G) [
      | inl (n, f, b) ↦ absurd (e (subst (Takes K capacity) (sym f) b))
      | inr (f, g) ↦ held_one h xs ys a g
    ]
  ]

  module _ (xs : Record K) (p : Pulse K) where
    -- the call puts the pulse out
    abbrev pub Puts : Call K → Type 0
    Puts c = Removes c × Allowed K capacity (length (pulses K xs)) c × Names K xs c p

    pub out_now : (c : Call K) (h : Calls K) → Puts c → Out K capacity xs (c ∷ h) p
    out_now c h (r, a, n) = record { later = []; call = c; earlier = h; split = refl; removal = r; accepted = a; names = n; since = tt }

    pub out_still : (c : Call K) (h : Calls K) → (Concerns K capacity xs c p → ⊥) → Out K capacity xs h p → Out K capacity xs (c ∷ h) p
    out_still c h f o = record {
      later = c ∷ o.later;
      call = o.call;
      earlier = o.earlier;
      split = ap (λ t. c ∷ t) o.split;
      removal = o.removal;
      accepted = o.accepted;
      names = o.names;
      since = (f, o.since);
    }

    pub out_cases : (c : Call K) (h : Calls K) → Out K capacity xs (c ∷ h) p → Puts c ⊎ ((Concerns K capacity xs c p → ⊥) × Out K capacity xs h p)
    out_cases c h o = go o.later o.split o.since
      where
        go : (later : Calls K) → c ∷ h ≡ later ++ (o.call ∷ o.earlier) → AllByRecursion (λ c. Concerns K capacity xs c p → ⊥) later → Puts c ⊎ ((Concerns K capacity xs c p → ⊥) × Out K capacity xs h p)
        go [] e s = let z : o.call ≡ c = sym (cons_head e) in inl (subst (λ a. Puts a) z (o.removal, o.accepted, o.names))
        go (b ∷ later) e (f, s) = inr (
          subst (λ a. Concerns K capacity xs a p → ⊥) (sym (cons_head e)) f,
          record { later = later; call = o.call; earlier = o.earlier; split = cons_tail e; removal = o.removal; accepted = o.accepted; names = o.names; since = s },
        )

-- the first of two is in the relation to the second
later_at : {A : Type 0} (R : A → A → Type 0) (xs : List A) (i j : ℕ) (d : A) → EachLater R xs → i < j → j < length xs → R (get_or xs i d) (get_or xs j d)
later_at R [] i j d e h l = absurd (omega arith)
later_at R (x ∷ xs) zero zero d e h l = absurd (omega arith)
later_at R (x ∷ xs) zero (suc j) d e h l = All-get_or (R x) xs j d (omega arith) e.0
later_at R (x ∷ xs) (suc i) zero d e h l = absurd (omega arith)
later_at R (x ∷ xs) (suc i) (suc j) d e h l = later_at R xs i j d e.1 (omega arith) (omega arith)

-- two pulses of a list cover the same days
abbrev same_days : {K : Kind} → Pulse K → Pulse K → Bool
same_days p q = eqb p.first q.first && eqb p.width q.width

same_days_self : {K : Kind} (p q : Pulse K) → p ≡ q → same_days p q ≡ true
same_days_self p q e = and_from _ _ (eq-eqb _ _ (ap (λ r. r.first) e)) (eq-eqb _ _ (ap (λ r. r.width) e))

module _ (K : Kind) (O : Lawful K) (xs : Record K) where
  -- so they have one number
  same_number : (i j : ℕ) (d : Pulse K) → i < length (pulses K xs) → j < length (pulses K xs) → same_days (get_or (pulses K xs) i d) (get_or (pulses K xs) j d) ≡ true → i ≡ j
  same_number i j d h l e =
      let f = eqb-true _ _ (and_parts _ _ e).0 in
      let w = eqb-true _ _ (and_parts _ _ e).1 in
      elim (cases_order i j) [
        | inl s ↦ s
        | inr (inl s) ↦ absurd (later_at _ (pulses K xs) i j d (pulses_apart K O xs) s l f w)
        | inr (inr s) ↦ absurd (later_at _ (pulses K xs) j i d (pulses_apart K O xs) s h (sym f) (sym w))
      ]

  -- a test that tells which pulses a call names, as the calls tell it of rows
  pub record Tells (c : Call K) : Type 0 where
    pub test : Pulse K → Bool
    pub decides : (p : Pulse K) → Has (pulses K xs) p → Decides (test p) (Names K xs c p)
    pub agrees : (k : ℕ) (d : Pulse K) (b : Bool) → k < length (pulses K xs) → named c k (row (get_or (pulses K xs) k d) b) ≡ test (get_or (pulses K xs) k d)

  tells_widths : (m : Mark) (low high : ℕ) → Tells (marking m low high)
  tells_widths m low high = record {
    test = λ p. leb low p.width && leb p.width high;
    decides = λ p h. (λ e. (leb-true _ _ (and_parts _ _ e).0, leb-true _ _ (and_parts _ _ e).1), λ n. and_from _ _ (le-leb _ _ n.0) (le-leb _ _ n.1));
    agrees = λ k d b h. refl;
  }

  nothing : Pulse K
  nothing = record { first = 0; width = 0; amount = nought K.arity }

  tells_number : (m : Mark) (n : ℕ) → 1 ≤ n → n ≤ length (pulses K xs) → Tells (marking_one m n)
  tells_number m n s l = record {
    test = λ p. same_days p (get_or (pulses K xs) (n - 1) nothing);
    decides = λ p (k, h, at). (
      λ e.
          let e' : same_days (get_or (pulses K xs) k nothing) (get_or (pulses K xs) (n - 1) nothing) ≡ true = rw (at nothing) e in
          let i : k ≡ n - 1 = same_number k (n - 1) nothing h (omega arith) e' in
          record { starts = s; ends = l; is = rw (← i) (at p) },
      λ u. same_days_self p _ (sym u.is ∙ get_or_default (pulses K xs) (n - 1) p nothing (omega arith)),
    );
    agrees = λ k d b h. elim (cases_eq n (suc k)) [
      | inl e ↦
          eq-eqb n (suc k) e ∙
          sym (same_days_self (get_or (pulses K xs) k d) (get_or (pulses K xs) (n - 1) nothing) (get_or_default (pulses K xs) k d nothing h ∙ ap (λ i. get_or (pulses K xs) i nothing) (omega arith)))
      | inr e ↦ ne_eqb n (suc k) e ∙ sym (elim (cases_Bool (same_days (get_or (pulses K xs) k d) (get_or (pulses K xs) (n - 1) nothing))) [
        | inr f ↦ f
        | inl f ↦
            let f' : same_days (get_or (pulses K xs) k nothing) (get_or (pulses K xs) (n - 1) nothing) ≡ true = rw (get_or_default (pulses K xs) k d nothing h) at f in
            absurd (let i = same_number k (n - 1) nothing h (omega arith) f' in e (omega arith))
      ])
    ];
  }

-- the answer tells that a history went on: what is out then
abbrev Told : (K : Kind) → ℕ → Record K → Calls K → (Pulse K → Bool) → Type 0
Told K capacity xs h out = (p : Pulse K) → Has (pulses K xs) p → Decides (out p) (Out K capacity xs h p)

module _ (K : Kind) (capacity : ℕ) (xs : Record K) (c : Call K) (h : Calls K) (out : Pulse K → Bool) (T : Told K capacity xs h out) where
  -- a call that concerns no pulse
  told_still : ((p : Pulse K) → Concerns K capacity xs c p → ⊥) → Told K capacity xs (c ∷ h) out
  told_still f p i = (
    λ e. out_still K capacity xs p c h (f p) ((T p i).0 e),
    λ o. elim (out_cases K capacity xs p c h o) [ inl (r, a, n) ↦ absurd (f p (inr (a, n))) | inr (g, o') ↦ (T p i).1 o' ],
  )

  -- a call that marks the pulses of a test
  told_marked : (Takes K capacity c → ⊥) → Allowed K capacity (length (pulses K xs)) c → (test : Pulse K → Bool) → ((p : Pulse K) → Has (pulses K xs) p → Decides (test p) (Names K xs c p)) →
      (outward c ≡ true → Removes c) → (Removes c → outward c ≡ true) → Told K capacity xs (c ∷ h) (λ p. cond (test p) (outward c) (out p))
  told_marked t a test D f g p i = elim (cases_Bool (test p)) [
    | inl e ↦ rw e (
      λ w. out_now K capacity xs p c h (f w, a, (D p i).0 e),
      λ o. elim (out_cases K capacity xs p c h o) [ inl (r, b, n) ↦ g r | inr (q, o') ↦ absurd (q (inr (a, (D p i).0 e))) ],
    )
    | inr e ↦ rw e (
      λ w. out_still K capacity xs p c h (λ u. elim u [ inl s ↦ t s | inr (b, n) ↦ both_ways _ e ((D p i).1 n) ]) ((T p i).0 w),
      λ o. elim (out_cases K capacity xs p c h o) [ inl (r, b, n) ↦ absurd (both_ways _ e ((D p i).1 n)) | inr (q, o') ↦ (T p i).1 o' ],
    )
  ]

-- a call with ground for a refusal concerns nothing
refused_takes : (K : Kind) (capacity count : ℕ) (c : Call K) (r : Refusal) → Grounds K capacity count c r → Takes K capacity c → ⊥
refused_takes K capacity count (taking xs entries) r g a = a r g
refused_takes K capacity count (marking m low high) r g a = a
refused_takes K capacity count (marking_one m n) r g a = a

pub refused_shows : (K : Kind) (c : Call K) (h : Calls K) (s : State) (r : Refusal) → Grounds K (length s.slots) s.count c r → Shows K h s → Shows K (c ∷ h) s
refused_shows K c h s r g S = record {
  totals = S.totals;
  held = held_still K (length s.slots) c h S.totals (refused_takes K _ _ c r g) S.held;
  out = S.out;
  told = told_still K (length s.slots) S.totals c h S.out S.told (λ p u. elim u [
    | inl t ↦ refused_takes K _ _ c r g t
    | inr (a, n) ↦ a r (subst (λ i. Grounds K (length s.slots) i c r) S.count g)
  ]);
  days = S.days;
  count = S.count;
  rows = S.rows;
}

-- the sheet after a call shows the history with the call added
abbrev pub ShowsOn : {A : Type 0} (K : Kind) → Call K → State → State → Result A Stop → Type 0
ShowsOn K c before after r = (h : Calls K) → Shows K h before → Shows K (c ∷ h) after × (Strays r → ⊥)

-- the row that a marking leaves
marked_row : (K : Kind) (c : Call K) (k : ℕ) (p : Pulse K) (b t : Bool) → named c k (row p b) ≡ t → marked c k (Some (row p b)) ≡ Some (row p (cond t (outward c) b))
marked_row K c k p b true e = rw e refl
marked_row K c k p b false e = rw e refl

module _ (K : Kind) (O : Lawful K) (c : Call K) (h : Calls K) (s t : State) (S : Shows K h s) (T : Tells K O S.totals c) where
  marked_shows : (Takes K (length s.slots) c → ⊥) → (outward c ≡ true → Removes c) → (Removes c → outward c ≡ true) → Allowed K (length s.slots) s.count c → Stays s t →
      Marked c s.count s.slots t.slots → Shows K (c ∷ h) t
  marked_shows n f g a y m = record {
    totals = S.totals;
    held = subst (λ n. Held K n (c ∷ h) S.totals) (sym m.capacity) (held_still K (length s.slots) c h S.totals n S.held);
    out = λ p. cond (T.test p) (outward c) (S.out p);
    told =
        subst (λ n. Told K n S.totals (c ∷ h) (λ p. cond (T.test p) (outward c) (S.out p))) (sym m.capacity) (told_marked K (length s.slots) S.totals c h S.out S.told n (subst (λ i. Allowed K (length s.slots) i c) S.count a) T.test T.decides f g);
    days = y.days ∙ S.days;
    count = y.count ∙ S.count;
    rows = λ k d l.
        m.done k (omega (arith, S.count)) ∙ ap (marked c k) (S.rows k d l) ∙
        marked_row K c k (get_or (pulses K S.totals) k d) (S.out (get_or (pulses K S.totals) k d)) (T.test (get_or (pulses K S.totals) k d)) (T.agrees k d (S.out (get_or (pulses K S.totals) k d)) l);
  }

-- a sheet that shows a history has no blank slot below its count
pub shows_full : (K : Kind) (h : Calls K) (s : State) → Shows K h s → (k : ℕ) → k < s.count → get_or s.slots k None ≡ None → ⊥
shows_full K h s S k l = some_not_none _ _ (S.rows k (record { first = 0; width = 0; amount = nought K.arity }) (omega (arith, S.count)))

module _ (K : Kind) (O : Lawful K) where
  number_within : (capacity count n : ℕ) (m : Mark) → Allowed K capacity count (marking_one m n) → (1 ≤ n) × (n ≤ count)
  number_within capacity count n m a = (
    elim (cases_eq n 0) [ inl e ↦ absurd (a NoSuchPulse (refl, inl e)) | inr e ↦ omega arith ],
    elim (cases_lt count n) [ inl l ↦ absurd (a NoSuchPulse (refl, inr l)) | inr l ↦ l ],
  )

  out_mark : (m : Mark) → is_out m ≡ true → m ≡ TakenOut
  out_mark In e = absurd (both_ways _ refl e)
  out_mark TakenOut e = refl

  -- a call that marks
  marking_shows : (c : Call K) (s t : State) (r : Result ℕ Stop) → (Takes K (length s.slots) c → ⊥) → (outward c ≡ true → Removes c) → (Removes c → outward c ≡ true) →
      ((h : Calls K) (S : Shows K h s) → Allowed K (length s.slots) s.count c → Tells K O S.totals c) → Marking K c s t s t r → ShowsOn K c s t r
  marking_shows c s t (Ok n) i f g T (a, y, d, e) h S = (marked_shows K O c h s t S (T h S a) i f g a y d, λ z. z)
  marking_shows c s t (Err (Refused r)) i f g T (k, e) h S = (subst (λ x. Shows K (c ∷ h) x) (sym e) (refused_shows K c h s r k S), λ z. z)
  marking_shows c s t (Err Unreachable) i f g T (a, y, b) h S = absurd (shows_full K h s S b.slot b.below b.blank)

  pub range_shows : (m : Mark) (low high : ℕ) (s t : State) (r : Result ℕ Stop) → Marking K (marking m low high) s t s t r → ShowsOn K (marking m low high) s t r
  range_shows m low high s t r = marking_shows (marking m low high) s t r (λ z. z) (out_mark m) (λ z. ap is_out z) (λ h S a. tells_widths K O S.totals m low high)

  pub one_shows : (m : Mark) (n : ℕ) (s t : State) (r : Result ℕ Stop) → Marking K (marking_one m n) s t s t r → ShowsOn K (marking_one m n) s t r
  one_shows m n s t r =
      marking_shows (marking_one m n) s t r (λ z. z) (out_mark m) (λ z. ap is_out z)
      (λ h S a. let i = number_within (length s.slots) s.count n m a in tells_number K O S.totals m n i.0 (omega (arith, S.count, i.1)))

-- a take
module _ (K : Kind) (O : Lawful K) (xs : Record K) (entries : ℕ) where
  laid_length : (slots : List (Option Entry)) → Accepted K xs entries (length slots) → length (laid (pulses K xs) slots) ≡ length slots
  laid_length slots a =
      let f = pulses_few K O xs in
      let c : length xs ≤ length slots = elim (cases_lt (length slots) (length xs)) [ inl l ↦ absurd (a ShelfTooSmall l) | inr l ↦ l ] in
      length-append (map row_of (pulses K xs)) (drop (length (pulses K xs)) slots) ∙ rw (length-map, length-drop) (omega arith)

  taken_shows : (h : Calls K) (s t : State) → Accepted K xs entries (length s.slots) → Taken K xs s t → Shows K (taking xs entries ∷ h) t
  taken_shows h s t a T =
      let e : length t.slots ≡ length s.slots = ap length T.slots ∙ laid_length s.slots a in
      record {
        totals = xs;
        held = subst (λ n. Held K n (taking xs entries ∷ h) xs) (sym e) (held_now K (length s.slots) h xs entries a);
        out = λ p. false;
        told = subst (λ n. Told K n xs (taking xs entries ∷ h) (λ p. false)) (sym e) (λ p i. (
          λ e. absurd (both_ways _ refl e),
          λ o. absurd (elim (out_cases K (length s.slots) xs p (taking xs entries) h o) [ inl (r, b, n) ↦ r | inr (f, o') ↦ f (inl a) ]),
        ));
        days = T.days;
        count = T.count;
        rows = λ k d l.
            ap (λ z. get_or z k None) T.slots ∙ get_or_append_left (map row_of (pulses K xs)) (drop (length (pulses K xs)) s.slots) None k (rw length-map l) ∙ get_or-map row_of (pulses K xs) k d None l;
      }

  pub take_shows : {W : Type 0} (s t : State) (w x : W) (r : Result ℕ Stop) → Take K xs entries s t s t w x r → ShowsOn K (taking xs entries) s t r
  take_shows s t w x (Ok n) (a, e, f) h S = (taken_shows h s t a f, λ z. z)
  take_shows s t w x (Err (Refused r)) (l, e, f) h S = (subst (λ z. Shows K (taking xs entries ∷ h) z) (sym e) (refused_shows K (taking xs entries) h s r l.ground S), λ z. z)
  take_shows s t w x (Err Unreachable) e h S = absurd e

-- a new sheet
pub new_shows : (K : Kind) (slots : List (Option Entry)) (outside : Outside) → Shows K [] (opened slots outside)
unfolding pulses in_turn
new_shows K slots outside = record {
  totals = [];
  held = inr (refl, tt);
  out = λ p. false;
  told = λ p (k, l, e). absurd (let z : k < 0 = l in omega arith);
  days = refl;
  count = refl;
  rows = λ k d l. absurd (let z : k < 0 = l in omega arith);
}
