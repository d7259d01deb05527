-- Levelling by runs is what the windows do.
use Rattle.std.proofs.Common.{◌≡◌, ℕ, zero, suc, ◌+◌, ◌-◌, ◌<◌, ◌≤◌, ◌↔◌, sym, ap, ◌∙◌, subst, inl, inr, arith}
use mathlib.Core.Path.{fun_ext}
use Rattle.std.proofs.lemmas.Bool.{cases_lt, cases_Bool}
use Rattle.kinds.specs.Kinds.{Kind, Lawful}
use Rattle.transform.specs.Windows.{Record, Trace, trace, L, U, smooth}
use Rattle.transform.specs.Theory.{turned, Bump, Levelled}
use Rattle.transform.proofs.Order.{Below, turned_lawful, not_itself, higher_both}
use Rattle.transform.proofs.Windows.{Rise, Fall, Apart, L_levels, L_apart_turned, kept_or_bump}
use Rattle.transform.proofs.Smooths.{turned_U_all, trace_lowered, trace_raised, smooth_apart}

module _ (K : Kind) (O : Lawful K) (x : Trace K) where
  closing : (s i : ℕ) → s < i → ((d : ℕ) → s < d → d ≤ i → x d ≡ x (suc s)) → Rise K x s → Fall K x i → Bump K x s (i - s)
  closing s i h level r f = record {
    some = omega arith;
    level = λ d g l. level d g (omega arith);
    rises = r;
    falls = rw (let z : s + (i - s) ≡ i = omega arith in z) (rw (level i h (omega arith)) at f);
  }

  -- the bump between a rise and a later fall, found from the left: x is level from day s + 1 to day i
  find : (q k s i : ℕ) → i + k ≡ q → s < i → ((d : ℕ) → s < d → d ≤ i → x d ≡ x (suc s)) → Rise K x s → Fall K x q →
      (p w : ℕ) × (s ≤ p) × (p + w ≤ q) × Bump K x p w
  find q zero s i e h level r f = (s, i - s, omega arith, omega arith, closing s i h level r (rw (let z : i ≡ q = omega arith in z) f))
  find q (suc k) s i e h level r f = elim (cases_Bool (K.below (x (suc i)) (x i))) [
    | inl g ↦ (s, i - s, omega arith, omega arith, closing s i h level r g)
    | inr g ↦ elim (cases_Bool (K.below (x i) (x (suc i)))) [
      | inl u ↦ further (find q k i (suc i) (omega arith) (omega arith) (λ d a b. ap x (omega arith)) u f)
      | inr u ↦ find q k s (suc i) (omega arith) (omega arith)
          (λ d a b. elim (cases_lt d (suc i)) [ inl c ↦ level d a (omega arith) | inr c ↦ ap x (let z : d ≡ suc i = omega arith in z) ∙ O.tight _ _ g u ∙ level i h (omega arith) ]) r f
    ]
  ]
    where
      further : ((p w : ℕ) × (i ≤ p) × (p + w ≤ q) × Bump K x p w) → (p w : ℕ) × (s ≤ p) × (p + w ≤ q) × Bump K x p w
      further (p, w, g, l, B) = (p, w, omega arith, l, B)

  -- no bump is narrower than n just where a rise and a later fall are n days apart
  pub apart_bumps : (n : ℕ) → ((p w : ℕ) → w < n → Bump K x p w → ⊥) → Apart K n x
  apart_bumps n N p q h r f = far (find q (q - suc p) p (suc p) (omega arith) (omega arith) (λ d a b. ap x (omega arith)) r f)
    where
      far : ((p' w : ℕ) × (p ≤ p') × (p' + w ≤ q) × Bump K x p' w) → p + n ≤ q
      far (p', w, g, l, B) = elim (cases_lt w n) [ inl m ↦ absurd (N p' w m B) | inr m ↦ omega arith ]

  pub bumps_apart : (n : ℕ) → Apart K n x → (p w : ℕ) → w < n → Bump K x p w → ⊥
  bumps_apart n A p w h B =
      let s = B.some in
      let z = A p (p + w) (omega arith) B.rises (rw (B.level (p + w) (omega arith) (omega arith)) B.falls) in
      omega arith

  -- L levels the bumps of width n,
  pub L_levelled : (n : ℕ) → Apart K n x → Levelled K n x (L K n x)
  L_levelled n A = record {
    inside = λ p d B h l. L_levels K O n x p d B h l;
    outside = λ d N. elim (kept_or_bump K O n x A d) [ inl e ↦ e | inr (p, h, l, B) ↦ absurd (N p B h l) ];
  }

  -- and whatever levels them is L
  pub levelled_L : (n : ℕ) → Apart K n x → (y : Trace K) → Levelled K n x y → y ≡ L K n x
  levelled_L n A y V = fun_ext (λ d. elim (kept_or_bump K O n x A d) [
    | inl e ↦ V.outside d (λ p B h l. lower p d B h l e) ∙ sym e
    | inr (p, h, l, B) ↦ V.inside p d B h l ∙ sym (L_levels K O n x p d B h l)
  ])
    where
      lower : (p d : ℕ) → Bump K x p n → p < d → d ≤ p + n → L K n x d ≡ x d → ⊥
      lower p d B h l e =
          not_itself K O _ _ (sym (L_levels K O n x p d B h l) ∙ e ∙ B.level d h l) (higher_both K O _ _ (λ v. Below K v (x (suc p))) B.rises B.falls)

pub windows_level : (K : Kind) → Lawful K → (n : ℕ) (x : Trace K) →
    (((p w : ℕ) → w < n → Bump K x p w → ⊥) → Levelled K n x (L K n x)) × (((p w : ℕ) → w < n → Bump (turned K) x p w → ⊥) → Levelled (turned K) n x (U K n x))
windows_level K O n x = (
  λ N. L_levelled K O x n (apart_bumps K O x n N),
  λ N. rw (turned_U_all K n x) (L_levelled (turned K) (turned_lawful K O) x n (apart_bumps (turned K) (turned_lawful K O) x n N)),
)

module _ (K : Kind) (O : Lawful K) (xs : Record K) (n : ℕ) where
  pub smooth_smooth : (p w : ℕ) → w ≤ n → (Bump K (trace K (smooth K n xs)) p w → ⊥) × (Bump (turned K) (trace K (smooth K n xs)) p w → ⊥)
  smooth_smooth p w h = (
    bumps_apart K O _ (suc n) (smooth_apart K O n xs).0 p w (omega arith),
    bumps_apart (turned K) (turned_lawful K O) _ (suc n) (smooth_apart K O n xs).1 p w (omega arith),
  )

  smooth_next : trace K (smooth K (suc n) xs) ≡ L (turned K) (suc n) (L K (suc n) (trace K (smooth K n xs)))
  unfolding smooth
  smooth_next = trace_raised K O (suc n) _ ∙ ap (L (turned K) (suc n)) (trace_lowered K O (suc n) _)

  pub runs_smooth : (z : Trace K) →
      ((y : Trace K) × Levelled K (suc n) (trace K (smooth K n xs)) y × Levelled (turned K) (suc n) y z) ↔ ((d : ℕ) → z d ≡ trace K (smooth K (suc n) xs) d)
  runs_smooth z = (
    λ (y, B, P) d.
        let P' = subst (λ t. Levelled (turned K) (suc n) t z) (levelled_L K O _ (suc n) (smooth_apart K O n xs).0 y B) P in
        ap (λ t. t d) (levelled_L (turned K) (turned_lawful K O) _ (suc n) pits z P' ∙ sym smooth_next),
    λ e. (
      L K (suc n) (trace K (smooth K n xs)),
      L_levelled K O _ (suc n) (smooth_apart K O n xs).0,
      subst (λ t. Levelled (turned K) (suc n) (L K (suc n) (trace K (smooth K n xs))) t) (sym (fun_ext e ∙ smooth_next)) (L_levelled (turned K) (turned_lawful K O) _ (suc n) pits),
    ),
  )
    where
      pits : Apart (turned K) (suc n) (L K (suc n) (trace K (smooth K n xs)))
      pits = L_apart_turned K O (suc n) _ (smooth_apart K O n xs).0 (suc n) (smooth_apart K O n xs).1
