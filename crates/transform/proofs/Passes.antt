-- One pass over a trace, from the first day on, that levels each bump of width n as it comes to it:
-- up to day c the days hold what L makes of them, after it what they held before.
use Rattle.std.proofs.Common.{◌≡◌, ℕ, zero, suc, ◌+◌, ◌<◌, ◌≤◌, cond, leb, sym, ap, ◌∙◌, inl, inr, arith}
use mathlib.Core.Path.{fun_ext}
use Rattle.std.proofs.lemmas.Bool.{cases_lt, cond-true, cond-false, le-leb, lt-leb}
use Rattle.kinds.specs.Kinds.{Kind, Lawful}
use Rattle.transform.specs.Windows.{Trace, L, higher}
use Rattle.transform.specs.Theory.{Bump}
use Rattle.transform.proofs.Order.{at_most_same, not_itself, not_below, higher_right}
use Rattle.transform.proofs.Windows.{Fall, Apart, L_kept, L_levels, kept_or_bump, kept_before_rise}
use Rattle.transform.proofs.Smooths.{Outside, L_outside}

-- the trace once the pass has come to day c
unfoldable pub pass : (K : Kind) → ℕ → Trace K → ℕ → Trace K
pass K n x c d = cond (leb d c) (L K n x d) (x d)

-- no bump of width n has days both up to day c and after it
abbrev pub Clear : (K : Kind) → ℕ → Trace K → ℕ → Type 0
Clear K n x c = (p : ℕ) → Bump K x p n → p < c → p + n ≤ c

-- no bump of width n lies after a day from c on and before e
abbrev pub None : (K : Kind) → ℕ → Trace K → ℕ → ℕ → Type 0
None K n x c e = (p : ℕ) → c ≤ p → p < e → Bump K x p n → ⊥

pub pass_upto : (K : Kind) (n : ℕ) (x : Trace K) (c d : ℕ) → d ≤ c → pass K n x c d ≡ L K n x d
unfolding pass
pass_upto K n x c d h = cond-true _ _ _ (le-leb d c h)

pub pass_past : (K : Kind) (n : ℕ) (x : Trace K) (c d : ℕ) → c < d → pass K n x c d ≡ x d
unfolding pass
pass_past K n x c d h = cond-false _ _ _ (lt-leb d c h)

pub bump_same : (K : Kind) (x s : Trace K) (p w : ℕ) → ((d : ℕ) → p ≤ d → s d ≡ x d) → Bump K x p w → Bump K s p w
bump_same K x s p w E B = record {
  some = B.some;
  level = λ d h l. E d (omega arith) ∙ B.level d h l ∙ sym (E (suc p) (omega arith));
  rises = rw (E p (omega arith), E (suc p) (omega arith)) B.rises;
  falls = rw (E (suc (p + w)) (omega arith), E (suc p) (omega arith)) B.falls;
}

pub bump_falls : (K : Kind) (x : Trace K) (p w : ℕ) → Bump K x p w → Fall K x (p + w)
bump_falls K x p w B = let s = B.some in rw (B.level (p + w) (omega arith) (omega arith)) B.falls

module _ (K : Kind) (O : Lawful K) (n : ℕ) (x : Trace K) where
  -- of two bumps of width n the earlier ends before the later begins
  pub bumps_part : (c p : ℕ) → Bump K x c n → Bump K x p n → c < p → c + n ≤ p
  bumps_part c p B C h = elim (cases_lt p (c + n)) [
    | inl l ↦ absurd (not_itself K O _ _ (B.level p h (omega arith) ∙ sym (B.level (suc p) (omega arith) l)) C.rises)
    | inr l ↦ l
  ]

  pub clear_start : Clear K n x 0
  clear_start p B h = absurd (omega arith)

  pub clear_after : (c : ℕ) → Bump K x c n → Clear K n x (c + n)
  clear_after c B p C h = elim (cases_lt c p) [ inl l ↦ absurd (let z = bumps_part c p B C l in omega arith) | inr l ↦ omega arith ]

  pub none_inside : (c : ℕ) → Bump K x c n → None K n x (suc c) (c + n)
  none_inside c B p h l C = let z = bumps_part c p B C h in omega arith

  pub clear_on : (c e : ℕ) → c ≤ e → Clear K n x c → None K n x c e → Clear K n x e
  clear_on c e h V N p B l = elim (cases_lt p c) [ inl m ↦ let z = V p B m in omega arith | inr m ↦ absurd (N p m l B) ]

  pub pass_start : pass K n x 0 ≡ x
  pass_start = fun_ext day
    where
      day : (d : ℕ) → pass K n x 0 d ≡ x d
      day zero = pass_upto K n x 0 0 (omega arith) ∙ L_kept K O n x 0 n (omega arith) (λ k h. at_most_same K O _ _ (ap x (omega arith)))
      day (suc d) = pass_past K n x 0 (suc d) (omega arith)

  pub pass_end : (m c : ℕ) → Outside K m x → m ≤ c → pass K n x c ≡ L K n x
  pass_end m c o h = fun_ext (λ d. elim (cases_lt c d) [
    | inl l ↦ pass_past K n x c d l ∙ o.1 d (omega arith) ∙ sym ((L_outside K O n m x o).1 d (omega arith))
    | inr l ↦ pass_upto K n x c d l
  ])

  module _ (A : Apart K n x) where
    -- the pass goes on over days on which no bump begins
    pub pass_on : (c e : ℕ) → c ≤ e → Clear K n x c → None K n x c e → pass K n x c ≡ pass K n x e
    pass_on c e h V N = fun_ext (λ d. elim (cases_lt c d) [
      | inr l ↦ pass_upto K n x c d l ∙ sym (pass_upto K n x e d (omega arith))
      | inl l ↦ pass_past K n x c d l ∙ elim (cases_lt e d) [
        | inl m ↦ sym (pass_past K n x e d m)
        | inr m ↦ sym (elim (kept_or_bump K O n x A d) [
          | inl k ↦ k
          | inr (p, f, g, B) ↦ absurd (elim (cases_lt p c) [ inl u ↦ let z = V p B u in omega arith | inr u ↦ N p u (omega arith) B ])
        ]) ∙ sym (pass_upto K n x e d m)
      ]
    ])

    -- and comes to a bump as it was
    pub pass_near : (c p : ℕ) → c ≤ p → Bump K x p n → (d : ℕ) → p ≤ d → pass K n x c d ≡ x d
    pass_near c p h B d l = elim (cases_lt c d) [
      | inl m ↦ pass_past K n x c d m
      | inr m ↦ pass_upto K n x c d m ∙ ap (L K n x) (let z : d ≡ p = omega arith in z) ∙ kept_before_rise K O n x A p B.rises ∙ ap x (let z : p ≡ d = omega arith in z)
    ]

    pub pass_bump : (c p : ℕ) → c ≤ p → Bump K x p n → Bump K (pass K n x c) p n
    pass_bump c p h B = bump_same K x _ p n (pass_near c p h B) B

    -- what is a bump on the way was one at the start
    pub bump_pass : (c p : ℕ) → Clear K n x c → c ≤ p → Bump K (pass K n x c) p n → Bump K x p n
    bump_pass c p V h B = bump_same K _ x p n same B
      where
        at : x p ≡ pass K n x c p
        at = elim (cases_lt c p) [
          | inl l ↦ sym (pass_past K n x c p l)
          | inr l ↦ elim (kept_or_bump K O n x A p) [
            | inl k ↦ sym k ∙ sym (pass_upto K n x c p l)
            | inr (q, f, g, C) ↦ absurd (
                let z = V q C (omega arith) in
                let e : p ≡ q + n = omega arith in
                let r = rw (pass_upto K n x c p l, L_levels K O n x q p C f g, pass_past K n x c (suc p) (omega arith), e) at B.rises in
                not_below K O _ _ (higher_right K O _ _) r
                )
          ]
        ]

        same : (d : ℕ) → p ≤ d → x d ≡ pass K n x c d
        same d l = elim (cases_lt p d) [
          | inl m ↦ sym (pass_past K n x c d (omega arith))
          | inr m ↦ ap x (let z : d ≡ p = omega arith in z) ∙ at ∙ ap (pass K n x c) (let z : p ≡ d = omega arith in z)
        ]

    -- the bump after day p levelled, the pass has come to its last day
    pub pass_level : (p : ℕ) → Bump K x p n → (d : ℕ) → p < d → d ≤ p + n → pass K n x (p + n) d ≡ higher K (pass K n x p p) (pass K n x p (suc (p + n)))
    pass_level p B d h l = pass_upto K n x (p + n) d l ∙ L_levels K O n x p d B h l ∙ rw (pass_near p p (omega arith) B p (omega arith), pass_near p p (omega arith) B (suc (p + n)) (omega arith))

  pub pass_before : (p : ℕ) (d : ℕ) → d ≤ p → pass K n x (p + n) d ≡ pass K n x p d
  pass_before p d h = pass_upto K n x (p + n) d (omega arith) ∙ sym (pass_upto K n x p d h)

  pub pass_after : (p : ℕ) (d : ℕ) → p + n < d → pass K n x (p + n) d ≡ pass K n x p d
  pass_after p d h = pass_past K n x (p + n) d h ∙ sym (pass_past K n x p d (omega arith))
