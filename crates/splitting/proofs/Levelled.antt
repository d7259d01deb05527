-- A bump levelled to the higher of its neighbours: the new run, and which bumps and pits are left.
use Rattle.std.proofs.Common.{◌≡◌, ℕ, suc, ◌+◌, ◌-◌, ◌<◌, ◌≤◌, ◌⊎◌, sym, ap, ◌∙◌, inl, inr, arith}
use Rattle.std.proofs.lemmas.Bool.{cases_lt}
use Rattle.kinds.specs.Kinds.{Kind, Of, Lawful}
use Rattle.transform.specs.Windows.{Trace, higher}
use Rattle.transform.proofs.Order.{Below, AtMost, not_below, higher_left, higher_right}
use Rattle.splitting.specs.Runs.{Run, Turn}

-- z has a bump from s to e, y has the total t there, which joins it to the runs of t beside it
module _ {K : Kind} (O : Lawful K) {m : ℕ} {z : Trace K} (y : Trace K) {s e s' e' : ℕ} {t : Of K}
    (R : Run m z s e) (first : 0 < s) (last : e < m)
    (up : Below K (z (s - 1)) (z s)) (down : Below K (z (suc e)) (z s)) (is : t ≡ higher K (z (s - 1)) (z (suc e)))
    (before : (d : ℕ) → d < s → y d ≡ z d) (on : (d : ℕ) → s ≤ d → d ≤ e → y d ≡ t) (after : (d : ℕ) → e < d → y d ≡ z d)
    (left : ((z (s - 1) ≡ t) × Run m z s' (s - 1)) ⊎ ((z (s - 1) ≡ t → ⊥) × (s' ≡ s)))
    (right : ((z (suc e) ≡ t) × Run m z (suc e) e') ⊎ ((z (suc e) ≡ t → ⊥) × (e' ≡ e))) where
  pub left_order : s' ≤ s
  left_order = elim left [ inl l ↦ let o = l.1.order in omega arith | inr l ↦ let o = l.1 in omega arith ]

  pub right_order : e ≤ e'
  right_order = elim right [ inl r ↦ let o = r.1.order in omega arith | inr r ↦ let o = r.1 in omega arith ]

  level_left : (d : ℕ) → s' ≤ d → d < s → y d ≡ t
  level_left d h l = before d l ∙ elim left [
    | inl (q, Q) ↦ Q.level d h (omega arith) ∙ (sym (Q.level (s - 1) Q.order (omega arith)) ∙ q)
    | inr (q, o) ↦ absurd (omega arith)
  ]

  level_right : (d : ℕ) → e < d → d ≤ e' → y d ≡ t
  level_right d h l = after d h ∙ elim right [
    | inl (q, Q) ↦ Q.level d h l ∙ q
    | inr (q, o) ↦ absurd (omega arith)
  ]

  pub one_total : (d : ℕ) → s' ≤ d → d ≤ e' → y d ≡ t
  one_total d h l = elim (cases_lt d s) [
    | inl g ↦ level_left d h g
    | inr g ↦ elim (cases_lt e d) [ inl f ↦ level_right d f l | inr f ↦ on d g f ]
  ]

  -- where the new run begins and ends, a run of z did
  pub begun : 0 < s' → z (s' - 1) ≡ z s' → ⊥
  begun h q = elim left [
    | inl (p, Q) ↦ Q.begins h q
    | inr (p, o) ↦ R.begins first (ap z (omega arith) ∙ (q ∙ ap z o))
  ]

  pub ended : e' < m → z (suc e') ≡ z e' → ⊥
  ended h q = elim right [
    | inl (p, Q) ↦ Q.ends h q
    | inr (p, o) ↦ R.ends last (ap z (omega arith) ∙ (q ∙ ap z o))
  ]

  pub new_run : Run m y s' e'
  new_run =
      let a = left_order in
      let b = right_order in
      let c = R.order in
      record {
        order = omega arith;
        end = elim right [ inl (p, Q) ↦ Q.end | inr (p, o) ↦ omega arith ];
        level = λ d h l. one_total d h l ∙ sym (one_total s' (omega arith) (omega arith));
        begins = λ h q. elim left [
          | inl (p, Q) ↦ let o = Q.order in Q.begins h (sym (before (s' - 1) (omega arith)) ∙ (q ∙ before s' (omega arith)))
          | inr (p, o) ↦ p (ap z (omega arith) ∙ (sym (before (s' - 1) (omega arith)) ∙ (q ∙ one_total s' (omega arith) (omega arith))))
        ];
        ends = λ h q. elim right [
          | inl (p, Q) ↦ let o = Q.order in Q.ends h (sym (after (suc e') (omega arith)) ∙ (q ∙ after e' (omega arith)))
          | inr (p, o) ↦ p (ap z (omega arith) ∙ (sym (after (suc e') (omega arith)) ∙ (q ∙ one_total e' (omega arith) (omega arith))))
        ];
      }

  low_left : AtMost K (z (s - 1)) t
  low_left = rw is (higher_left K O (z (s - 1)) (z (suc e)))

  low_right : AtMost K (z (suc e)) t
  low_right = rw is (higher_right K O (z (s - 1)) (z (suc e)))

  -- a bump or a pit of y before the new run, or after it, is one of z
  pub turn_before : (p w : ℕ) → Turn K y p w → p + w < s' → Turn K z p w
  turn_before p w (inl B) h =
      let a = left_order in
      let some = B.some in
      inl (record {
        some = B.some;
        level = λ d f l. sym (before d (omega arith)) ∙ (B.level d f l ∙ before (suc p) (omega arith));
        rises = rw (← before p (omega arith), ← before (suc p) (omega arith)) B.rises;
        falls = elim (cases_lt (suc (p + w)) s) [
          | inl g ↦ rw (← before (suc (p + w)) g, ← before (suc p) (omega arith)) B.falls
          | inr g ↦ absurd (not_below K O _ _ low_left
              (rw (on (suc (p + w)) (omega arith) (let o = R.order in omega arith), (sym (B.level (p + w) (omega arith) (omega arith)) ∙ (before (p + w) (omega arith) ∙ ap z (let o : p + w ≡ s - 1 = omega arith in o)))) at B.falls))
        ];
      })
  turn_before p w (inr B) h =
      let a = left_order in
      let some = B.some in
      inr (record {
        some = B.some;
        level = λ d f l. sym (before d (omega arith)) ∙ (B.level d f l ∙ before (suc p) (omega arith));
        rises = rw (← before p (omega arith), ← before (suc p) (omega arith)) B.rises;
        falls = elim (cases_lt (suc (p + w)) s) [
          | inl g ↦ rw (← before (suc (p + w)) g, ← before (suc p) (omega arith)) B.falls
          | inr g ↦ rw (sym (before (suc p) (omega arith)) ∙ (sym (B.level (p + w) (omega arith) (omega arith)) ∙ (before (p + w) (omega arith) ∙ ap z (let o : p + w ≡ s - 1 = omega arith in o))), let o : suc (p + w) ≡ s = omega arith in o) up
        ];
      })

  pub turn_after : (p w : ℕ) → Turn K y p w → e' ≤ p → Turn K z p w
  turn_after p w (inl B) h =
      let b = right_order in
      let some = B.some in
      inl (record {
        some = B.some;
        level = λ d f l. sym (after d (omega arith)) ∙ (B.level d f l ∙ after (suc p) (omega arith));
        rises = elim (cases_lt e p) [
          | inl g ↦ rw (← after p g, ← after (suc p) (omega arith)) B.rises
          | inr g ↦ absurd (not_below K O _ _ low_right
              (rw (on p (let o = R.order in omega arith) (omega arith), after (suc p) (omega arith), let o : p ≡ e = omega arith in o) at B.rises))
        ];
        falls = rw (← after (suc (p + w)) (omega arith), ← after (suc p) (omega arith)) B.falls;
      })
  turn_after p w (inr B) h =
      let b = right_order in
      let some = B.some in
      inr (record {
        some = B.some;
        level = λ d f l. sym (after d (omega arith)) ∙ (B.level d f l ∙ after (suc p) (omega arith));
        rises = elim (cases_lt e p) [
          | inl g ↦ rw (← after p g, ← after (suc p) (omega arith)) B.rises
          | inr g ↦ rw (let o : p ≡ e = omega arith in o, R.level e R.order (omega arith)) down
        ];
        falls = rw (← after (suc (p + w)) (omega arith), ← after (suc p) (omega arith)) B.falls;
      })
