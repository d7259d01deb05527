-- Runs of a trace, and what a work list knows of them.
use Rattle.std.proofs.Common.{◌≡◌, ℕ, zero, suc, ◌+◌, ◌-◌, ◌<◌, ◌≤◌, ◌⊎◌, sym, refl, ap, ◌∙◌, inl, inr, arith}
use Rattle.std.proofs.lemmas.Bool.{cases_lt, cases_eq, cases_order, cases_Bool}
use Rattle.kinds.specs.Kinds.{Kind, Of, Lawful}
use Rattle.transform.specs.Windows.{Trace}
use Rattle.transform.proofs.Order.{not_itself}
use Rattle.splitting.specs.Work.{View, with_run}
use Rattle.splitting.specs.Runs.{Run, Shows, Knows}
use Rattle.splitting.proofs.Views.{put_same, put_other}

module _ {X : Type 0} (m : ℕ) (x : ℕ → X) where
  -- of two runs that meet, neither begins within the other
  not_within : (s e s' e' : ℕ) → Run m x s e → Run m x s' e' → s < s' → s' ≤ e → ⊥
  not_within s e s' e' R R' h l = R'.begins (omega arith) (R.level (s' - 1) (omega arith) (omega arith) ∙ sym (R.level s' (omega arith) l))

  not_beyond : (s e s' e' : ℕ) → Run m x s e → Run m x s' e' → e < e' → s' ≤ e → ⊥
  not_beyond s e s' e' R R' h l = R.ends (let z = R'.end in omega arith) (R'.level (suc e) (omega arith) (omega arith) ∙ sym (R'.level e l (omega arith)))

  -- so they are the same run
  pub run_same : (s e s' e' : ℕ) → Run m x s e → Run m x s' e' → s ≤ e' → s' ≤ e → (s ≡ s') × (e ≡ e')
  run_same s e s' e' R R' h l = (
    elim (cases_order s s') [
      | inl q ↦ q
      | inr (inl q) ↦ absurd (not_within s e s' e' R R' q l)
      | inr (inr q) ↦ absurd (not_within s' e' s e R' R q h)
    ],
    elim (cases_order e e') [
      | inl q ↦ q
      | inr (inl q) ↦ absurd (not_beyond s e s' e' R R' q l)
      | inr (inr q) ↦ absurd (not_beyond s' e' s e R' R q h)
    ],
  )

module _ (K : Kind) (O : Lawful K) (m : ℕ) (x : Trace K) where
  -- two totals are equal or not
  pub same_or_not : (a b : Of K) → (a ≡ b) ⊎ (a ≡ b → ⊥)
  same_or_not a b = elim (cases_Bool (K.below a b)) [
    | inl h ↦ inr (λ e. not_itself K O a b e h)
    | inr h ↦ elim (cases_Bool (K.below b a)) [
      | inl l ↦ inr (λ e. not_itself K O b a (sym e) l)
      | inr l ↦ inl (O.tight a b h l)
    ]
  ]

  -- a run begins on each day that differs from the day before, and ends on each that differs from the day after
  pub run_from : (s : ℕ) → s ≤ m → (0 < s → x (s - 1) ≡ x s → ⊥) → (e : ℕ) × Run m x s e
  run_from s h b = grow (m - s) s (omega arith) (omega arith) (λ d f l. ap x (omega arith))
    where
      grow : (n e : ℕ) → e + n ≡ m → s ≤ e → ((d : ℕ) → s ≤ d → d ≤ e → x d ≡ x s) → (e : ℕ) × Run m x s e
      grow zero e q l f = (e, record { order = l; end = omega arith; level = f; begins = b; ends = λ g. absurd (omega arith) })
      grow (suc n) e q l f = elim (same_or_not (x (suc e)) (x e)) [
        | inl a ↦ grow n (suc e) (omega arith) (omega arith) (λ d g k. elim (cases_lt d (suc e)) [
          | inl j ↦ f d g (omega arith)
          | inr j ↦ ap x (omega arith) ∙ (a ∙ f e l (omega arith))
        ])
        | inr a ↦ (e, record { order = l; end = omega arith; level = f; begins = b; ends = λ g. a })
      ]

  pub run_to : (e : ℕ) → e ≤ m → (e < m → x (suc e) ≡ x e → ⊥) → (s : ℕ) × Run m x s e
  run_to e h b = grow e (omega arith) (λ d f l. ap x (omega arith))
    where
      made : (s : ℕ) → s ≤ e → ((d : ℕ) → s ≤ d → d ≤ e → x d ≡ x e) → (0 < s → x (s - 1) ≡ x s → ⊥) → (s : ℕ) × Run m x s e
      made s l f g = (s, record { order = l; end = h; level = λ d j k. f d j k ∙ sym (f s (omega arith) l); begins = g; ends = b })

      grow : (s : ℕ) → s ≤ e → ((d : ℕ) → s ≤ d → d ≤ e → x d ≡ x e) → (s : ℕ) × Run m x s e
      grow zero l f = made zero l f (λ g. absurd (omega arith))
      grow (suc s) l f = elim (same_or_not (x s) (x (suc s))) [
        | inl a ↦ grow s (omega arith) (λ d g k. elim (cases_lt s d) [
          | inl j ↦ f d j k
          | inr j ↦ ap x (omega arith) ∙ (a ∙ f (suc s) (omega arith) l)
        ])
        | inr a ↦ made (suc s) l f (λ g q. a (ap x (omega arith) ∙ q))
      ]

-- what is known once a run is written
module _ {X : Type 0} (v : View X) (s e : ℕ) (t : X) where
  pub run_written : Shows (with_run v s e t).total (with_run v s e t).other s e t × Shows (with_run v s e t).total (with_run v s e t).other e s t
  run_written = (
    record {
      holds = elim (cases_eq s e) [ inl q ↦ put_same _ e t s q | inr q ↦ put_other _ e t s q ∙ put_same _ s t s refl ];
      joins = elim (cases_eq s e) [ inl q ↦ put_same _ e s s q ∙ q | inr q ↦ put_other _ e s s q ∙ put_same _ s e s refl ];
    },
    record { holds = put_same _ e t e refl; joins = put_same _ e s e refl },
  )

  pub still_shown : (d o : ℕ) (u : X) → (d ≡ s → ⊥) → (d ≡ e → ⊥) → Shows v.total v.other d o u → Shows (with_run v s e t).total (with_run v s e t).other d o u
  still_shown d o u h l S =
      record {
        holds = put_other _ e t d l ∙ (put_other _ s t d h ∙ S.holds);
        joins = put_other _ e s d l ∙ (put_other _ s e d h ∙ S.joins);
      }

-- one run more, after those that are known
pub knows_more : {X : Type 0} (m : ℕ) (v : View X) (x : ℕ → X) (s e : ℕ) → Knows m s v x → Run m x s e → Knows m (suc e) (with_run v s e (x s)) x
knows_more m v x s e k R a b R' l = elim (cases_lt b s) [
  | inl h ↦
      let q = R'.order in
      let p = R.order in (
        still_shown v s e (x s) a b (x a) (λ z. omega arith) (λ z. omega arith) (k a b R' h).0,
        still_shown v s e (x s) b a (x a) (λ z. omega arith) (λ z. omega arith) (k a b R' h).1,
      )
  | inr h ↦
      let w = run_same m x a b s e R' R (let q = R'.order in omega arith) h in
      rw (w.0, w.1) (run_written v s e (x s))
]

-- The trace y is x with one total on the days from s to e, where runs of x begin and end: what was
-- known of x is known of y once the run is written.
module _ {X : Type 0} (m : ℕ) (v : View X) (x y : ℕ → X) (s e : ℕ) (R : Run m y s e) (xb : 0 < s → x (s - 1) ≡ x s → ⊥) (xe : e < m → x (suc e) ≡ x e → ⊥)
    (before : (d : ℕ) → d < s → y d ≡ x d) (after : (d : ℕ) → e < d → y d ≡ x d) (k : Knows m (suc m) v x) where
  run_before : (a b : ℕ) → Run m y a b → b < s → Run m x a b
  run_before a b Q h =
      record {
        order = Q.order;
        end = Q.end;
        level = λ d f l. sym (before d (omega arith)) ∙ (Q.level d f l ∙ before a (let q = Q.order in omega arith));
        begins = λ f q. Q.begins f (before (a - 1) (let q = Q.order in omega arith) ∙ (q ∙ sym (before a (let q = Q.order in omega arith))));
        ends = λ f q. elim (cases_lt (suc b) s) [
          | inl g ↦ Q.ends f (before (suc b) g ∙ (q ∙ sym (before b h)))
          | inr g ↦ xb (omega arith) (ap x (omega arith) ∙ (sym q ∙ ap x (omega arith)))
        ];
      }

  run_after : (a b : ℕ) → Run m y a b → e < a → Run m x a b
  run_after a b Q h =
      let o = Q.order in
      record {
        order = Q.order;
        end = Q.end;
        level = λ d f l. sym (after d (omega arith)) ∙ (Q.level d f l ∙ after a h);
        begins = λ f q. elim (cases_lt e (a - 1)) [
          | inl g ↦ Q.begins f (after (a - 1) g ∙ (q ∙ sym (after a h)))
          | inr g ↦ xe (let z = Q.end in omega arith) (ap x (omega arith) ∙ (sym q ∙ ap x (omega arith)))
        ];
        ends = λ f q. Q.ends f (after (suc b) (omega arith) ∙ (q ∙ sym (after b (omega arith))));
      }

  pub knows_again : Knows m (suc m) (with_run v s e (y s)) y
  knows_again a b Q l =
      let o = Q.order in
      let w = R.order in
      elim (cases_lt b s) [
        | inl h ↦
            let K = k a b (run_before a b Q h) l in (
              still_shown v s e (y s) a b (y a) (λ z. omega arith) (λ z. omega arith) (rw (before a (omega arith)) K.0),
              still_shown v s e (y s) b a (y a) (λ z. omega arith) (λ z. omega arith) (rw (before a (omega arith)) K.1),
            )
        | inr h ↦ elim (cases_lt e a) [
          | inl g ↦
              let K = k a b (run_after a b Q g) l in (
                still_shown v s e (y s) a b (y a) (λ z. omega arith) (λ z. omega arith) (rw (after a g) K.0),
                still_shown v s e (y s) b a (y a) (λ z. omega arith) (λ z. omega arith) (rw (after a g) K.1),
              )
          | inr g ↦
              let z = run_same m y a b s e Q R g h in
              rw (z.0, z.1) (run_written v s e (y s))
        ]
      ]
