-- The trace in mid-pass.
use Rattle.std.proofs.Common.{◌≡◌, ℕ, suc, ◌+◌, ◌<◌, ◌≤◌, sym, refl, ap, ◌∙◌, inl, inr, arith}
use Rattle.std.proofs.lemmas.Bool.{cases_lt}
use Rattle.kinds.specs.Kinds.{Kind, Lawful}
use Rattle.transform.specs.Windows.{Trace, L}
use Rattle.transform.specs.Theory.{turned, Bump}
use Rattle.transform.proofs.Order.{not_itself}
use Rattle.transform.proofs.Windows.{Apart}
use Rattle.transform.proofs.Smooths.{Outside, L_outside}
use Rattle.transform.proofs.Passes.{Clear, None, pass, pass_upto, pass_past, pass_on, pass_near, pass_bump, bump_pass}
use Rattle.splitting.specs.Runs.{Run, Turn}
use Rattle.splitting.specs.Passes.{spliced}
use Rattle.splitting.proofs.Runs.{run_same}

pub spliced_pass : (K : Kind) (n : ℕ) (x : Trace K) (r : ℕ) → spliced K n x r ≡ pass K n x r
unfolding spliced pass
spliced_pass K n x r = refl

pub spliced_upto : (K : Kind) (n : ℕ) (x : Trace K) (r d : ℕ) → d ≤ r → spliced K n x r d ≡ L K n x d
spliced_upto K n x r d h = ap (λ t. t d) (spliced_pass K n x r) ∙ pass_upto K n x r d h

pub spliced_past : (K : Kind) (n : ℕ) (x : Trace K) (r d : ℕ) → r < d → spliced K n x r d ≡ x d
spliced_past K n x r d h = ap (λ t. t d) (spliced_pass K n x r) ∙ pass_past K n x r d h

pub spliced_outside : (K : Kind) → Lawful K → (n N : ℕ) (x : Trace K) → Outside K N x → (r : ℕ) → Outside K N (spliced K n x r)
spliced_outside K O n N x o r =
    let l = L_outside K O n N x o in (
      spliced_upto K n x r 0 (omega arith) ∙ l.0,
      λ d h. elim (cases_lt r d) [ inl g ↦ spliced_past K n x r d g ∙ o.1 d h | inr g ↦ spliced_upto K n x r d g ∙ l.1 d h ],
    )

-- a bump or a pit of a trace of N days lies within them, and is a run
module _ (K : Kind) (O : Lawful K) (N : ℕ) (z : Trace K) (o : Outside K N z) where
  bump_within : (p w : ℕ) → Bump K z p w → p + w ≤ N
  bump_within p w B = let s = B.some in elim (cases_lt N (p + w)) [
    | inl h ↦ absurd (not_itself K O _ _ (o.1 (suc (p + w)) (omega arith) ∙ (sym (o.1 (p + w) h) ∙ B.level (p + w) (omega arith) (omega arith))) B.falls)
    | inr h ↦ h
  ]

  bump_run : (p w : ℕ) → Bump K z p w → Run (suc N) z (suc p) (p + w)
  bump_run p w B =
      let s = B.some in
      record {
        order = omega arith;
        end = let h = bump_within p w B in omega arith;
        level = λ d f l. B.level d f l;
        begins = λ f q. not_itself K O _ _ (ap z (omega arith) ∙ q) B.rises;
        ends = λ f q. not_itself K O _ _ (q ∙ B.level (p + w) (omega arith) (omega arith)) B.falls;
      }

pub turn_within : (K : Kind) → Lawful K → Lawful (turned K) → (N : ℕ) (z : Trace K) → Outside K N z → (p w : ℕ) → Turn K z p w → p + w ≤ N
turn_within K O P N z o p w (inl B) = bump_within K O N z o p w B
turn_within K O P N z o p w (inr B) = bump_within (turned K) P N z o p w B

pub turn_run : (K : Kind) → Lawful K → Lawful (turned K) → (N : ℕ) (z : Trace K) → Outside K N z → (p w : ℕ) → Turn K z p w → Run (suc N) z (suc p) (p + w)
turn_run K O P N z o p w (inl B) = bump_run K O N z o p w B
turn_run K O P N z o p w (inr B) = bump_run (turned K) P N z o p w B

module _ (K : Kind) (O : Lawful K) (n N : ℕ) (x : Trace K) (A : Apart K n x) (o : Outside K N x) (r : ℕ) (clear : Clear K n x r) where
  -- a bump of width n that begins after day r is one of the trace in mid-pass, and the other way round
  pub bump_seen : (p : ℕ) → r ≤ p → Bump K x p n → Bump K (spliced K n x r) p n
  bump_seen p h B = rw (spliced_pass K n x r) (pass_bump K O n x A r p h B)

  pub bump_there : (p : ℕ) → r ≤ p → Bump K (spliced K n x r) p n → Bump K x p n
  bump_there p h B = bump_pass K O n x A r p clear h (rw (spliced_pass K n x r) at B)

  pub bump_there_same : (p : ℕ) → r ≤ p → Bump K (spliced K n x r) p n → (d : ℕ) → p ≤ d → spliced K n x r d ≡ x d
  bump_there_same p h B d l = ap (λ t. t d) (spliced_pass K n x r) ∙ pass_near K O n x A r p h (bump_there p h B) d l

  -- the end of a run after day r is clear too
  pub clear_end : (s e : ℕ) → Run (suc N) (spliced K n x r) s e → r ≤ e → Clear K n x e
  clear_end s e R h p B g = elim (cases_lt p r) [
    | inl f ↦ let a = clear p B f in omega arith
    | inr f ↦ elim (cases_lt (p + n) s) [
      | inl a ↦ let b = R.order in omega arith
      | inr a ↦
          let Q = bump_run K O N (spliced K n x r) (spliced_outside K O n N x o r) p n (bump_seen p f B) in
          let w = (run_same (suc N) (spliced K n x r) s e (suc p) (p + n) R Q a g).1 in
          omega arith
    ]
  ]

  -- if no bump of width n begins after day r and up to day e, the trace stays as it is up to day e
  pub spliced_same : (e : ℕ) → r ≤ e → None K n x r e → spliced K n x e ≡ spliced K n x r
  spliced_same e h none = spliced_pass K n x e ∙ (sym (pass_on K O n x A r e h clear none) ∙ sym (spliced_pass K n x r))

  pub kept_days : (e : ℕ) → None K n x r e → (d : ℕ) → r < d → d ≤ e → L K n x d ≡ x d
  kept_days e none d h l = sym (spliced_upto K n x e d l) ∙ (ap (λ t. t d) (spliced_same e (omega arith) none) ∙ spliced_past K n x r d h)
