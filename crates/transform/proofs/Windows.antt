-- What L does to a trace whose bumps are none narrower than n: it levels the bumps of width n to
-- the higher of their neighbours, and keeps every other day.
use Rattle.std.proofs.Common.{◌≡◌, ℕ, zero, suc, ◌+◌, ◌-◌, ◌<◌, ◌≤◌, ◌⊎◌, sym, refl, ap, ◌∙◌, inl, inr, arith}
use Rattle.std.proofs.lemmas.Bool.{cases_lt, cases_Bool}
use Rattle.kinds.specs.Kinds.{Kind, Of, Lawful}
use Rattle.transform.specs.Windows.{Trace, higher, lowest, highest, L, U}
use Rattle.transform.specs.Theory.{turned, Bump}
use Rattle.transform.proofs.Order.{Below, AtMost, turned_lowest, at_most_trans, below_then, not_itself, at_most_same, not_below, higher_left, higher_right, higher_both, highest_over, highest_all, lowest_under, lowest_all}

-- the trace rises, or falls, from day b to the day after; it falls where the turned order has it rise
abbrev pub Rise : (K : Kind) → Trace K → ℕ → Type 0
Rise K x b = Below K (x b) (x (suc b))

abbrev pub Fall : (K : Kind) → Trace K → ℕ → Type 0
Fall K x b = Below K (x (suc b)) (x b)

-- between a rise and a later fall lie at least n days
abbrev pub Apart : (K : Kind) → ℕ → Trace K → Type 0
Apart K n x = (p q : ℕ) → p < q → Rise K x p → Fall K x q → p + n ≤ q

-- U is L of the turned kind
pub turned_highest : (K : Kind) (f : ℕ → Of K) (n : ℕ) → highest K f n ≡ lowest (turned K) f n
turned_highest K f n = sym (turned_lowest (turned K) f n)

pub turned_U : (K : Kind) (n : ℕ) (x : Trace K) (d : ℕ) → U K n x d ≡ L (turned K) n x d
unfolding L U
turned_U K n x d = simp (turned_lowest, turned_highest K)

module _ (K : Kind) (O : Lawful K) (n : ℕ) (x : Trace K) where
  -- a window all of whose totals are at least v
  pub L_over : (d j : ℕ) (v : Of K) → j ≤ n → ((k : ℕ) → k ≤ n → AtMost K v (x ((d + k) - j))) → AtMost K v (L K n x d)
  unfolding L
  L_over d j v h w =
      at_most_trans K O _ (lowest K (λ k. x ((d + k) - j)) n) _ (lowest_all K O _ n (λ a. AtMost K v a) w)
      (highest_over K O (λ j. lowest K (λ k. x ((d + k) - j)) n) n j h)

  -- a day in each window whose total is at most v
  pub L_under : (d : ℕ) (v : Of K) → ((j : ℕ) → j ≤ n → (k : ℕ) × (k ≤ n) × AtMost K (x ((d + k) - j)) v) → AtMost K (L K n x d) v
  unfolding L
  L_under d v w =
      highest_all K O _ n (λ a. AtMost K a v)
      (λ j h. at_most_trans K O _ _ _ (lowest_under K O (λ k. x ((d + k) - j)) n (w j h).0 (w j h).1) (w j h).2)

  pub L_lowers : (d : ℕ) → AtMost K (L K n x d) (x d)
  L_lowers d = L_under d (x d) (λ j h. (j, h, at_most_same K O _ _ (ap x (omega arith))))

  pub L_kept : (d j : ℕ) → j ≤ n → ((k : ℕ) → k ≤ n → AtMost K (x d) (x ((d + k) - j))) → L K n x d ≡ x d
  L_kept d j h w = O.tight _ _ (L_over d j (x d) h w) (L_lowers d)

  -- a bump of width n is levelled to the higher of its neighbours
  pub L_levels : (p d : ℕ) → Bump K x p n → p < d → d ≤ p + n → L K n x d ≡ higher K (x p) (x (suc (p + n)))
  L_levels p d B h l =
      O.tight _ _
      (higher_both K O (x p) (x (suc (p + n))) (λ v. AtMost K v (L K n x d))
      (L_over d (d - p) (x p) (omega arith) (λ k m. from_left _ (omega arith) (omega arith)))
      (L_over d (d - suc p) (x (suc (p + n))) (omega arith) (λ k m. from_right _ (omega arith) (omega arith))))
      (L_under d _ within)
    where
      from_left : (e : ℕ) → p ≤ e → e ≤ p + n → AtMost K (x p) (x e)
      from_left e f g = elim (cases_lt p e) [
        | inl m ↦ rw (B.level e m g) (O.one_way _ _ B.rises)
        | inr m ↦ at_most_same K O _ _ (ap x (omega arith))
      ]

      from_right : (e : ℕ) → p < e → e ≤ suc (p + n) → AtMost K (x (suc (p + n))) (x e)
      from_right e f g = elim (cases_lt e (suc (p + n))) [
        | inl m ↦ rw (B.level e f (omega arith)) (O.one_way _ _ B.falls)
        | inr m ↦ at_most_same K O _ _ (ap x (omega arith))
      ]

      within : (j : ℕ) → j ≤ n → (k : ℕ) × (k ≤ n) × AtMost K (x ((d + k) - j)) (higher K (x p) (x (suc (p + n))))
      within j m = elim (cases_lt (j + p) d) [
        | inl f ↦ (suc (p + n + j) - d, omega arith, at_most_trans K O _ (x (suc (p + n))) _ (at_most_same K O _ _ (ap x (omega arith))) (higher_right K O _ _))
        | inr f ↦ ((j + p) - d, omega arith, at_most_trans K O _ (x p) _ (at_most_same K O _ _ (ap x (omega arith))) (higher_left K O _ _))
      ]

-- how far from f 0 on, n places at the most, the totals stay at least v
reach : (K : Kind) (f : ℕ → Of K) (v : Of K) → AtMost K v (f 0) → (n : ℕ) →
    (l : ℕ) × (l ≤ n) × ((i : ℕ) → i ≤ l → AtMost K v (f i)) × ((l ≡ n) ⊎ Below K (f (suc l)) v)
reach K f v h zero = (0, omega arith, λ i l. rw (let e : i ≡ 0 = omega arith in e) h, inl refl)
reach K f v h (suc n) = onward (reach K f v h n)
  where
    onward : (l : ℕ) × (l ≤ n) × ((i : ℕ) → i ≤ l → AtMost K v (f i)) × ((l ≡ n) ⊎ Below K (f (suc l)) v) →
        (l : ℕ) × (l ≤ suc n) × ((i : ℕ) → i ≤ l → AtMost K v (f i)) × ((l ≡ suc n) ⊎ Below K (f (suc l)) v)
    onward (l, m, a, inr b) = (l, omega arith, a, inr b)
    onward (l, m, a, inl e) = elim (cases_Bool (K.below (f (suc l)) v)) [
      | inl b ↦ (l, omega arith, a, inr b)
      | inr b ↦ (suc l, omega arith, λ i g. elim (cases_lt i (suc l)) [ inl c ↦ a i (omega arith) | inr c ↦ rw (let z : i ≡ suc l = omega arith in z) b ], inl (omega arith))
    ]

module _ (K : Kind) (O : Lawful K) (n : ℕ) (x : Trace K) (A : Apart K n x) where
  -- a rise and a fall n days later are the ends of a bump
  pub bump_between : (p : ℕ) → 0 < n → Rise K x p → Fall K x (p + n) → Bump K x p n
  bump_between p s r f = record { some = s; level = λ d h l. level_upto d h l; rises = r; falls = rw (level_upto (p + n) (omega arith) (omega arith)) at f }
    where
      flat : (d : ℕ) → p < d → d < p + n → x (suc d) ≡ x d
      flat d h l = O.tight _ _
          (elim (cases_Bool (K.below (x (suc d)) (x d))) [ inl e ↦ absurd (let z = A p d h r e in omega arith) | inr e ↦ e ])
          (elim (cases_Bool (K.below (x d) (x (suc d)))) [ inl e ↦ absurd (let z = A d (p + n) l e f in omega arith) | inr e ↦ e ])

      along : (i : ℕ) → i < n → x (suc (p + i)) ≡ x (suc p)
      along zero h = ap x (omega arith)
      along (suc i) h = ap x (omega arith) ∙ flat (suc (p + i)) (omega arith) (omega arith) ∙ along i (omega arith)

      level_upto : (d : ℕ) → p < d → d ≤ p + n → x d ≡ x (suc p)
      level_upto d h l = ap x (omega arith) ∙ along (d - suc p) (omega arith)

  -- each day is kept, or lies in a bump of width n
  pub kept_or_bump : (d : ℕ) → (L K n x d ≡ x d) ⊎ ((p : ℕ) × (p < d) × (d ≤ p + n) × Bump K x p n)
  kept_or_bump d =
      stretch (reach K (λ i. x (d - i)) (x d) (at_most_same K O _ _ (ap x (omega arith))) n) (reach K (λ i. x (d + i)) (x d) (at_most_same K O _ _ (ap x (omega arith))) n)
    where
      window : (l r : ℕ) → ((i : ℕ) → i ≤ l → AtMost K (x d) (x (d - i))) → ((i : ℕ) → i ≤ r → AtMost K (x d) (x (d + i))) → n ≤ l + r →
          (k : ℕ) → k ≤ n → AtMost K (x d) (x ((d + k) - l))
      window l r al ar h k m = elim (cases_lt k l) [
        | inl g ↦ rw (let z : (d + k) - l ≡ d - (l - k) = omega arith in z) (al (l - k) (omega arith))
        | inr g ↦ rw (let z : (d + k) - l ≡ d + (k - l) = omega arith in z) (ar (k - l) (omega arith))
      ]

      stretch : ((l : ℕ) × (l ≤ n) × ((i : ℕ) → i ≤ l → AtMost K (x d) (x (d - i))) × ((l ≡ n) ⊎ Below K (x (d - suc l)) (x d))) →
          ((r : ℕ) × (r ≤ n) × ((i : ℕ) → i ≤ r → AtMost K (x d) (x (d + i))) × ((r ≡ n) ⊎ Below K (x (d + suc r)) (x d))) →
          (L K n x d ≡ x d) ⊎ ((p : ℕ) × (p < d) × (d ≤ p + n) × Bump K x p n)
      stretch (l, hl, al, inl el) (r, hr, ar, er) = inl (L_kept K O n x d l hl (window l r al ar (omega arith)))
      stretch (l, hl, al, inr el) (r, hr, ar, inl er) = inl (L_kept K O n x d l hl (window l r al ar (omega arith)))
      stretch (l, hl, al, inr el) (r, hr, ar, inr er) = elim (cases_lt (l + r) n) [
        | inr h ↦ inl (L_kept K O n x d l hl (window l r al ar h))
        | inl h ↦
            let in-front : l < d = elim (cases_lt l d) [ inl g ↦ g | inr g ↦ absurd (not_below K O _ _ (rw (let z : d - l ≡ d - suc l = omega arith in z) at (al l (omega arith))) el) ] in
            let p : ℕ = d - suc l in
            let before : Rise K x p = below_then K O _ _ _ el (rw (let z : d - l ≡ suc p = omega arith in z) at (al l (omega arith))) in
            let after : Fall K x (d + r) = below_then K O _ _ _ (rw (let z : d + suc r ≡ suc (d + r) = omega arith in z) at er) (ar r (omega arith)) in
            let far : p + n ≤ d + r = A p (d + r) (omega arith) before after in
            inr (p, omega arith, omega arith, bump_between p (omega arith) before (rw (let z : p + n ≡ d + r = omega arith in z) after))
      ]

  -- the neighbours of a bump are kept
  pub kept_before_rise : (b : ℕ) → Rise K x b → L K n x b ≡ x b
  kept_before_rise b r = elim (kept_or_bump b) [
    | inl e ↦ e
    | inr (p, h, l, B) ↦ absurd (elim (cases_lt b (p + n)) [
      | inl m ↦ not_itself K O _ _ (B.level b h l ∙ sym (B.level (suc b) (omega arith) m)) r
      | inr m ↦ not_below K O _ _ (O.one_way _ _ (rw (let z : suc (p + n) ≡ suc b = omega arith in z, ← (B.level b h l)) at B.falls)) r
    ])
  ]

  pub kept_after_fall : (b : ℕ) → Fall K x b → L K n x (suc b) ≡ x (suc b)
  kept_after_fall b f = elim (kept_or_bump (suc b)) [
    | inl e ↦ e
    | inr (p, h, l, B) ↦ absurd (elim (cases_lt p b) [
      | inl m ↦ not_itself K O _ _ (B.level (suc b) h l ∙ sym (B.level b m (omega arith))) f
      | inr m ↦ not_below K O _ _ (O.one_way _ _ (rw (let z : p ≡ b = omega arith in z) at B.rises)) f
    ])
  ]

  -- L makes no new rise and no new fall
  pub L_rise : (b : ℕ) → Rise K (L K n x) b → Rise K x b
  L_rise b r = elim (kept_or_bump b) [
    | inl e ↦ below_then K O _ _ _ (rw e at r) (L_lowers K O n x (suc b))
    | inr (p, h, l, B) ↦ absurd (elim (cases_lt b (p + n)) [
      | inl m ↦ not_itself K O _ _ (L_levels K O n x p b B h l ∙ sym (L_levels K O n x p (suc b) B (omega arith) m)) r
      | inr m ↦ not_below K O _ _ (at_most_trans K O _ _ _ (L_lowers K O n x (suc b)) (rw (L_levels K O n x p b B h l, let z : suc b ≡ suc (p + n) = omega arith in z) (higher_right K O _ _))) r
    ])
  ]

  pub L_fall : (b : ℕ) → Fall K (L K n x) b → Fall K x b
  L_fall b f = elim (kept_or_bump (suc b)) [
    | inl e ↦ below_then K O _ _ _ (rw e at f) (L_lowers K O n x b)
    | inr (p, h, l, B) ↦ absurd (elim (cases_lt p b) [
      | inl m ↦ not_itself K O _ _ (L_levels K O n x p (suc b) B h l ∙ sym (L_levels K O n x p b B m (omega arith))) f
      | inr m ↦ not_below K O _ _ (at_most_trans K O _ _ _ (L_lowers K O n x b) (rw (L_levels K O n x p (suc b) B h l, let z : b ≡ p = omega arith in z) (higher_left K O _ _))) f
    ])
  ]

  -- so L leaves no bump of width n, and brings no pit narrower than there was
  pub L_apart : 0 < n → Apart K (suc n) (L K n x)
  L_apart s p q h r f =
      let far : p + n ≤ q = A p q h (L_rise p r) (L_fall q f) in
      elim (cases_lt (p + n) q) [
        | inl m ↦ omega arith
        | inr m ↦
            let e : q ≡ p + n = omega arith in
            let B : Bump K x p n = bump_between p s (L_rise p r) (rw e at (L_fall q f)) in
            absurd (higher_both K O (x p) (x (suc (p + n))) (λ v. Below K (x p) v → Below K (x (suc (p + n))) v → ⊥)
            (λ a b. not_itself K O _ _ refl a)
            (λ a b. not_itself K O _ _ refl b)
            (rw (kept_before_rise p (L_rise p r), L_levels K O n x p (suc p) B (omega arith) (omega arith)) at r)
            (rw (kept_after_fall q (L_fall q f), L_levels K O n x p q B h (omega arith), e) at f))
      ]

  pub L_apart_turned : (m : ℕ) → Apart (turned K) m x → Apart (turned K) m (L K n x)
  L_apart_turned m T p q h f r = T p q h (L_fall p f) (L_rise q r)
