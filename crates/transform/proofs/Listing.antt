-- The listing of what L changes: its pulses are the bumps of width n, one after another.
use Rattle.std.proofs.Common.{◌≡◌, ℕ, zero, suc, ◌+◌, ◌-◌, ◌<◌, ◌≤◌, Bool, true, false, ◌⊎◌, List, [], ◌∷◌, ◌++◌, length, sym, refl, ap, ◌∙◌, inl, inr, arith}
use mathlib.Core.Path.{fun_ext}
use Rattle.std.specs.List.{AllByRecursion}
use Rattle.std.proofs.lemmas.List.{append-nil}
use Rattle.std.proofs.ByRecursion.{All-append}
use Rattle.std.proofs.lemmas.Bool.{cases_lt, cases_Bool, both_ways, cond-true, cond-false, and_from, and_parts, not-true, not_from_false, or_from, or_parts, le-leb, lt-ltb, leb-true, ltb-true}
use Rattle.kinds.specs.Columns.{nought, minus}
use Rattle.kinds.specs.Kinds.{Kind, Of, Lawful}
use Rattle.transform.specs.Windows.{Record, Trace, trace, L, higher}
use Rattle.transform.specs.Pulses.{Pulse, in_turn, changed, begins, unbroken, change, changes, covers}
use Rattle.transform.specs.Theory.{turned, Bump, Regular}
use Rattle.transform.proofs.Order.{not_itself, higher_both}
use Rattle.transform.proofs.Windows.{Apart, L_levels, kept_or_bump, kept_before_rise, kept_after_fall}
use Rattle.transform.proofs.Smooths.{trace_outside}
use Rattle.transform.proofs.Passes.{pass, Clear, None, bump_same, bump_falls, bumps_part, none_inside, pass_start, pass_end, pass_on, pass_near, pass_level, pass_before, pass_after}
use Rattle.transform.proofs.Levels.{cut, Levels, Lowers, cut_before, cut_on, cut_after, amount_above}
use Rattle.transform.proofs.Sums.{levels_append}

-- the kind with another order
abbrev pub sided : (K : Kind) → (Of K → Of K → Bool) → Kind
sided K below = record { arity = K.arity; below = below; bound = K.bound; has = K.has; names = K.names }

-- the pulse that lowers the bump of width n after day c
abbrev pub lowering : (K : Kind) → (Of K → Of K → Bool) → ℕ → Trace K → ℕ → Pulse K
lowering K lt n x c = record { first = suc c; width = n; amount = minus K.arity (x (suc c)) (higher (sided K lt) (x c) (x (suc (c + n)))) }

changed_not : (K : Kind) → Lawful K → (x y : Trace K) (d : ℕ) → y d ≡ x d → changed K x y d ≡ false
unfolding changed
changed_not K O x y d e = rw e (or_from _ _ (O.irreflexive (x d)) (O.irreflexive (x d)))

changed_so : (K : Kind) → Lawful K → (x y : Trace K) (d : ℕ) → (y d ≡ x d → ⊥) → changed K x y d ≡ true
unfolding changed
changed_so K O x y d h = elim (cases_Bool (changed K x y d)) [
  | inl e ↦ e
  | inr e ↦ absurd (h (sym (O.tight _ _ (or_parts _ _ e).0 (or_parts _ _ e).1)))
]

-- n days that meet the test, and then one that does not, among the next m
unbroken_is : (test : ℕ → Bool) (m n d : ℕ) → n ≤ m → ((i : ℕ) → d ≤ i → i < d + n → test i ≡ true) → test (d + n) ≡ false → unbroken test m d ≡ n
unfolding unbroken
unbroken_is test zero n d h on off = omega arith
unbroken_is test (suc m) zero d h on off = cond-false _ _ _ (rw (let z : d + 0 ≡ d = omega arith in z) at off)
unbroken_is test (suc m) (suc n) d h on off =
    cond-true _ _ _ (on d (omega arith) (omega arith)) ∙
    ap suc (unbroken_is test m n (suc d) (omega arith) (λ i g l. on i (omega arith) (omega arith)) (rw (let z : d + suc n ≡ suc d + n = omega arith in z) at off))

pub covers_first : {K : Kind} (p : Pulse K) (d : ℕ) → covers p d ≡ true → p.first ≤ d
unfolding covers
covers_first p d e = leb-true _ _ (and_parts _ _ e).0

pub covers_last : {K : Kind} (p : Pulse K) (d : ℕ) → covers p d ≡ true → d < p.first + p.width
unfolding covers
covers_last p d e = ltb-true _ _ (and_parts _ _ e).1

pub covers_on : {K : Kind} (p : Pulse K) (d : ℕ) → p.first ≤ d → d < p.first + p.width → covers p d ≡ true
unfolding covers
covers_on p d h l = and_from _ _ (le-leb _ _ h) (lt-ltb _ _ l)

pub all_in_turn : {A : Type 0} (Q : A → Type 0) (n : ℕ) (f : ℕ → List A) → ((c : ℕ) → AllByRecursion Q (f (suc c))) → AllByRecursion Q (in_turn n f)
unfolding in_turn
all_in_turn Q zero f h = tt
all_in_turn Q (suc n) f h = All-append Q (in_turn n f) (f (suc n)) (all_in_turn Q n f h) (h n)

-- from one record to the next one pass leads, which levels the bumps of width n by the order lt
pub record Pass (K : Kind) (lt : Of K → Of K → Bool) (n : ℕ) (b a : Record K) : Type 0 where
  pub lawful : Lawful (sided K lt)
  pub some : 0 < n
  pub apart : Apart (sided K lt) n (trace K b)
  pub levels : trace K a ≡ L (sided K lt) n (trace K b)

module _ (K : Kind) (O : Lawful K) (lt : Of K → Of K → Bool) (n : ℕ) (b a : Record K) (V : Pass K lt n b a) where
  kept : (d : ℕ) → L (sided K lt) n (trace K b) d ≡ trace K b d → trace K a d ≡ trace K b d
  kept d e = ap (λ t. t d) V.levels ∙ e

  level : (p d : ℕ) → Bump (sided K lt) (trace K b) p n → p < d → d ≤ p + n → trace K a d ≡ higher (sided K lt) (trace K b p) (trace K b (suc (p + n)))
  level p d B h l = ap (λ t. t d) V.levels ∙ L_levels (sided K lt) V.lawful n (trace K b) p d B h l

  bump_changed : (p d : ℕ) → Bump (sided K lt) (trace K b) p n → p < d → d ≤ p + n → changed K (trace K b) (trace K a) d ≡ true
  bump_changed p d B h l = changed_so K O _ _ d (λ e. not_itself (sided K lt) V.lawful _ _
      (sym (level p d B h l) ∙ e ∙ B.level d h l)
      (higher_both (sided K lt) V.lawful _ _ (λ v. lt v (trace K b (suc p)) ≡ true) B.rises B.falls))

  pub bump_within : (p : ℕ) → Bump (sided K lt) (trace K b) p n → p + n ≤ length b
  bump_within p B = elim (cases_lt (length b) (p + n)) [
    | inl h ↦ absurd (not_itself (sided K lt) V.lawful _ _ ((trace_outside K b).1 (suc (p + n)) (omega arith) ∙ sym ((trace_outside K b).1 (p + n) h)) (bump_falls (sided K lt) _ p n B))
    | inr h ↦ h
  ]

  begins_bump : (c : ℕ) → begins (changed K (trace K b) (trace K a)) (suc c) ≡ true → Bump (sided K lt) (trace K b) c n
  unfolding begins
  begins_bump c e = elim (kept_or_bump (sided K lt) V.lawful n (trace K b) V.apart (suc c)) [
    | inl k ↦ absurd (both_ways _ (changed_not K O _ _ (suc c) (kept (suc c) k)) (and_parts _ _ e).0)
    | inr (p, h, l, B) ↦ elim (cases_lt p c) [
      | inl m ↦ absurd (both_ways _ (not-true _ (and_parts _ _ e).1) (bump_changed p (suc c - 1) B (omega arith) (omega arith)))
      | inr m ↦ rw (let z : c ≡ p = omega arith in z) B
    ]
  ]

  bump_begins : (c : ℕ) → Bump (sided K lt) (trace K b) c n → begins (changed K (trace K b) (trace K a)) (suc c) ≡ true
  unfolding begins
  bump_begins c B =
      let s = V.some in
      and_from _ _ (bump_changed c (suc c) B (omega arith) (omega arith))
      (not_from_false _ (rw (let z : suc c - 1 ≡ c = omega arith in z) (changed_not K O _ _ c (kept c (kept_before_rise (sided K lt) V.lawful n (trace K b) V.apart c B.rises)))))

  change_bump : (c : ℕ) → Bump (sided K lt) (trace K b) c n → change K b a (suc c) ≡ lowering K lt n (trace K b) c ∷ []
  unfolding change
  change_bump c B =
      let s = V.some in
      cond-true _ _ _ (bump_begins c B) ∙
      (λ i. record {
        first = suc c;
        width = unbroken_is (changed K (trace K b) (trace K a)) (length b) n (suc c) (let z = bump_within c B in omega arith)
            (λ d h l. bump_changed c d B h (omega arith))
            (rw (let z : suc c + n ≡ suc (c + n) = omega arith in z)
            (changed_not K O _ _ _ (kept _ (kept_after_fall (sided K lt) V.lawful n (trace K b) V.apart (c + n) (bump_falls (sided K lt) _ c n B))))) i;
        amount = minus K.arity (trace K b (suc c)) (level c (suc c) B (omega arith) (omega arith) i);
      } ∷ [])

  -- what the listing has for each day: the pulse of the bump that begins on it, if one does
  pub change_is : (c : ℕ) →
      (Bump (sided K lt) (trace K b) c n × (change K b a (suc c) ≡ lowering K lt n (trace K b) c ∷ [])) ⊎ ((Bump (sided K lt) (trace K b) c n → ⊥) × (change K b a (suc c) ≡ []))
  unfolding change
  change_is c = elim (cases_Bool (begins (changed K (trace K b) (trace K a)) (suc c))) [
    | inl e ↦ inl (begins_bump c e, change_bump c (begins_bump c e))
    | inr e ↦ inr (λ B. both_ways _ e (bump_begins c B), cond-false _ _ _ e)
  ]

  -- each pulse of the listing covers n days, within the record, with one amount
  pub changes_regular : AllByRecursion (λ p. Regular K (length b) n (trace K b) (trace K a) p × (lt (nought K.arity) p.amount ≡ true)) (changes K b a)
  unfolding changes
  changes_regular = all_in_turn _ (length b) (change K b a) (λ c. elim (change_is c) [
    | inl (B, e) ↦ rw e (
      (
        record {
          wide = refl;
          starts = omega arith;
          ends = let z = bump_within c B in omega arith;
          even = λ d h. even c B d (covers_first _ d h) (covers_last _ d h);
        },
        amount_above (sided K lt) V.lawful (trace K b) c n _ (record { bump = B; amount = refl }),
      ),
      tt,
    )
    | inr (N, e) ↦ rw e tt
  ])
    where
      even : (c : ℕ) → Bump (sided K lt) (trace K b) c n → (d : ℕ) → suc c ≤ d → d < suc c + n →
          minus K.arity (trace K b d) (trace K a d) ≡ minus K.arity (trace K b (suc c)) (higher (sided K lt) (trace K b c) (trace K b (suc (c + n))))
      even c B d h l = rw (B.level d h (omega arith), level c d B h (omega arith))

  -- the list so far, over days on which no bump begins,
  pub listed_on : (c k : ℕ) → None (sided K lt) n (trace K b) c (c + k) → in_turn (c + k) (change K b a) ≡ in_turn c (change K b a)
  unfolding in_turn
  listed_on c zero N = rw (let z : c + 0 ≡ c = omega arith in z)
  listed_on c (suc k) N = rw (let z : c + suc k ≡ suc (c + k) = omega arith in z) (elim (change_is (c + k)) [
    | inl (B, e) ↦ absurd (N (c + k) (omega arith) (omega arith) B)
    | inr (M, e) ↦ rw (e, append-nil) (listed_on c k (λ p h l. N p h (omega arith)))
  ])

  -- and over a bump
  pub listed_bump : (c : ℕ) → Bump (sided K lt) (trace K b) c n → in_turn (c + n) (change K b a) ≡ in_turn c (change K b a) ++ lowering K lt n (trace K b) c ∷ []
  unfolding in_turn
  listed_bump c B =
      let s = V.some in
      let e : c + n ≡ suc c + (n - 1) = omega arith in
      rw e (listed_on (suc c) (n - 1) (rw e at (none_inside (sided K lt) V.lawful n _ c B))) ∙ ap (λ l. in_turn c (change K b a) ++ l) (change_bump c B)

  -- the list so far takes the trace to where the pass has come: to day r, past day c if a bump lies over that
  Come : ℕ → Type 0
  Come c =
      (r : ℕ) × (c ≤ r) × ((p : ℕ) → Bump (sided K lt) (trace K b) p n → p < c → p + n ≤ r) × ((p : ℕ) → Bump (sided K lt) (trace K b) p n → c ≤ p → r ≤ p) ×
      Levels K (trace K b) (in_turn c (change K b a)) (pass (sided K lt) n (trace K b) r)

  module _ (way : (x : Trace K) (q w : ℕ) (v : Of K) → Lowers (sided K lt) x q w v → Lowers K x q w v ⊎ Lowers (turned K) x q w v) where
    one_more : (c : ℕ) → Bump (sided K lt) (trace K b) c n →
        Levels K (pass (sided K lt) n (trace K b) c) (lowering K lt n (trace K b) c ∷ []) (pass (sided K lt) n (trace K b) (c + n))
    one_more c B = (c, refl, way _ c n _ S, fun_ext day)
      where
        near : (d : ℕ) → c ≤ d → pass (sided K lt) n (trace K b) c d ≡ trace K b d
        near = pass_near (sided K lt) V.lawful n (trace K b) V.apart c c (omega arith) B

        S : Lowers (sided K lt) (pass (sided K lt) n (trace K b) c) c n (lowering K lt n (trace K b) c).amount
        S = record {
          bump = bump_same (sided K lt) (trace K b) _ c n near B;
          amount = rw (near c (omega arith), near (suc c) (omega arith), near (suc (c + n)) (omega arith));
        }

        day : (d : ℕ) → cut K.arity (pass (sided K lt) n (trace K b) c) (suc c) n (lowering K lt n (trace K b) c).amount d ≡ pass (sided K lt) n (trace K b) (c + n) d
        day d = elim (cases_lt c d) [
          | inr h ↦ cut_before (sided K lt) V.lawful _ c n _ S d h ∙ sym (pass_before (sided K lt) V.lawful n _ c d h)
          | inl h ↦ elim (cases_lt (c + n) d) [
            | inl l ↦ cut_after (sided K lt) V.lawful _ c n _ S d l ∙ sym (pass_after (sided K lt) V.lawful n _ c d l)
            | inr l ↦ cut_on (sided K lt) V.lawful _ c n _ S d h l ∙ sym (pass_level (sided K lt) V.lawful n _ V.apart c B d h l)
          ]
        ]

    come : (c : ℕ) → Come c
    unfolding in_turn Come
    come zero = (0, omega arith, λ p B h. absurd (omega arith), λ p B h. h, sym (pass_start (sided K lt) V.lawful n _))
    come (suc c) = onward (come c)
      where
        onward : Come c → Come (suc c)
        onward (r, h, over, under, l) = elim (change_is c) [
          | inl (B, e) ↦
              let z : r ≡ c = let g = under c B (omega arith) in omega arith in
              let s = V.some in
              (c + n, omega arith, λ p C g. omega arith, λ p C g. bumps_part (sided K lt) V.lawful n _ c p B C g, rw e (levels_append K _ _ _ (pass (sided K lt) n (trace K b) c) _ (rw z at l) (one_more c B)))
          | inr (N, e) ↦
              let before : (p : ℕ) → Bump (sided K lt) (trace K b) p n → p < suc c → p < c = λ p C g. elim (cases_lt p c) [ inl m ↦ m | inr m ↦ absurd (N (rw (let z : c ≡ p = omega arith in z) C)) ] in
              elim (cases_lt c r) [
                | inl g ↦ (r, g, λ p C k. over p C (before p C k), λ p C k. under p C (omega arith), rw (e, append-nil) l)
                | inr g ↦
                    let z : r ≡ c = omega arith in
                    let clear : Clear (sided K lt) n (trace K b) c = λ p C k. let m = over p C k in omega arith in
                    let none : None (sided K lt) n (trace K b) c (suc c) = λ p f k C. let m = before p C k in omega arith in (
                      suc c,
                      omega arith,
                      λ p C k. let m = clear p C (before p C k) in omega arith,
                      λ p C k. k,
                      rw (e, append-nil, ← (pass_on (sided K lt) V.lawful n _ V.apart c (suc c) (omega arith) clear none)) (rw z at l),
                    )
              ]
        ]

    -- the pulses of the listing take the trace from before to after, one by one
    pub changes_level : Levels K (trace K b) (changes K b a) (trace K a)
    unfolding changes Come
    changes_level = ending (come (length b))
      where
        ending : Come (length b) → Levels K (trace K b) (in_turn (length b) (change K b a)) (trace K a)
        ending (r, h, over, under, l) = rw V.levels (rw (pass_end (sided K lt) V.lawful n _ (length b) r (trace_outside K b) h) at l)
