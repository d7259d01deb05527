-- A trace laid out day by day.
use Rattle.std.proofs.Common.{◌≡◌, ℕ, suc, ◌<◌, ◌≤◌, sym, refl, ap, ◌∙◌, inl, inr, arith}
use Rattle.std.proofs.lemmas.Bool.{cases_lt}
use Rattle.kinds.specs.Kinds.{Kind, Of, Lawful}
use Rattle.transform.specs.Windows.{Trace}
use Rattle.transform.proofs.Order.{not_itself}
use Rattle.splitting.specs.Work.{View, with_run, with_mark}
use Rattle.splitting.specs.Runs.{Run, Knows, Laid, Marks, Turn}
use Rattle.splitting.proofs.Views.{put_same, put_other}
use Rattle.splitting.proofs.Runs.{knows_more}

pub laid_none : {X : Type 0} (m : ℕ) (x : ℕ → X) (v : View X) → Laid m x v 0 0 0
laid_none m x v =
    record {
      order = omega arith;
      level = λ d h l. ap x (omega arith);
      opens = λ h. absurd (omega arith);
      knows = λ s e R h. absurd (omega arith);
      few = omega arith;
      rising = λ i j h l. absurd (omega arith);
      within = λ i h. absurd (omega arith);
      begins = λ i h. absurd (omega arith);
      all = λ s h l. absurd (omega arith);
    }

module _ {X : Type 0} (m : ℕ) (x : ℕ → X) (v : View X) (first marks day : ℕ) (A : Laid m x v first marks day) where
  -- the next day holds the same total
  pub laid_same : x first ≡ x (suc day) → Laid m x v first marks (suc day)
  laid_same q =
      let o = A.order in
      let f = A.few in
      record {
        order = omega arith;
        level = λ d h l. elim (cases_lt d (suc day)) [ inl g ↦ A.level d h (omega arith) | inr g ↦ ap x (omega arith) ∙ sym q ];
        opens = A.opens;
        knows = A.knows;
        few = omega arith;
        rising = A.rising;
        within = λ i h. let z = A.within i h in omega arith;
        begins = A.begins;
        all = λ s h l n. elim (cases_lt s (suc day)) [
          | inl g ↦ A.all s h (omega arith) n
          | inr g ↦ absurd (n (ap x (omega arith) ∙ (A.level day o (omega arith) ∙ (q ∙ ap x (omega arith)))))
        ];
      }

  -- the run that is closed where the trace changes, or at the end
  pub run_closed : day ≤ m → (day < m → x first ≡ x (suc day) → ⊥) → Run m x first day
  run_closed h n =
      record {
        order = A.order;
        end = h;
        level = A.level;
        begins = A.opens;
        ends = λ l q. n l (sym (A.level day A.order (omega arith)) ∙ sym q);
      }

  -- the next day holds another total
  pub laid_changed : suc day ≤ m → (x first ≡ x (suc day) → ⊥) → Laid m x (with_mark (with_run v first day (x first)) marks (suc day)) (suc day) (suc marks) (suc day)
  laid_changed h n =
      let o = A.order in
      let f = A.few in
      let new = put_same v.mark marks (suc day) marks refl in
      record {
        order = omega arith;
        level = λ d g l. ap x (omega arith);
        opens = λ g q. n (sym (A.level day o (omega arith)) ∙ (ap x (omega arith) ∙ q));
        knows = knows_more m v x first day A.knows (run_closed (omega arith) (λ _. n));
        few = omega arith;
        rising = λ i j g l. elim (cases_lt j marks) [
          | inl k ↦ rw (put_other v.mark marks (suc day) i (λ e. omega arith), put_other v.mark marks (suc day) j (λ e. omega arith)) (A.rising i j g k)
          | inr k ↦ rw (put_other v.mark marks (suc day) i (λ e. omega arith), put_same v.mark marks (suc day) j (omega arith)) (let z = A.within i (omega arith) in omega arith)
        ];
        within = λ i g. elim (cases_lt i marks) [
          | inl k ↦ rw (put_other v.mark marks (suc day) i (λ e. omega arith)) (let z = A.within i k in omega arith)
          | inr k ↦ rw (put_same v.mark marks (suc day) i (omega arith)) (omega arith)
        ];
        begins = λ i g. elim (cases_lt i marks) [
          | inl k ↦ rw (put_other v.mark marks (suc day) i (λ e. omega arith)) (A.begins i k)
          | inr k ↦ rw (put_same v.mark marks (suc day) i (omega arith)) (λ l q. n (sym (A.level day o (omega arith)) ∙ (ap x (omega arith) ∙ q)))
        ];
        all = λ s g l k. elim (cases_lt s (suc day)) [
          | inl j ↦ let w = A.all s g (omega arith) k in (w.0, let z = w.1 in omega arith, put_other v.mark marks (suc day) w.0 (let z = w.1 in λ e. omega arith) ∙ w.2)
          | inr j ↦ (marks, omega arith, new ∙ omega arith)
        ];
      }

-- all laid out: the last run reaches the last day, and the marks serve for all bumps and pits
pub laid_known : {X : Type 0} (m : ℕ) (x : ℕ → X) (v : View X) (first marks : ℕ) → Laid m x v first marks m → Knows m (suc m) (with_run v first m (x first)) x
laid_known m x v first marks A = knows_more m v x first m A.knows (run_closed m x v first marks m A (omega arith) (λ h. absurd (omega arith)))

pub laid_marks : (K : Kind) → Lawful K → (m : ℕ) (x : Trace K) (v : View (Of K)) (first marks : ℕ) → Laid m x v first marks m → Marks K x v.mark 0 marks 0 m
laid_marks K O m x v first marks A =
    record {
      rising = λ i j h l g. A.rising i j l g;
      within = λ i h l g. A.within i l;
      begins = λ i h l g. A.begins i l g;
      turns = λ p w T h l. from p (moves p w T) l;
    }
  where
    moves : (p w : ℕ) → Turn K x p w → x p ≡ x (suc p) → ⊥
    moves p w (inl B) q = not_itself K O _ _ q B.rises
    moves p w (inr B) q = not_itself K O _ _ (sym q) B.rises

    from : (p : ℕ) → (x p ≡ x (suc p) → ⊥) → p < m → (i : ℕ) × (0 ≤ i) × (i < marks) × (v.mark i ≡ suc p)
    from p n l = let w = A.all (suc p) (omega arith) l (λ q. n (ap x (omega arith) ∙ q)) in (w.0, omega arith, w.1, w.2)
