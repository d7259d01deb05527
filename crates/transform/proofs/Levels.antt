-- One levelling after another: each pulse takes a bump of the trace so far down to the higher of
-- its neighbours, or a pit up to the lower of them.
use Rattle.std.proofs.Common.{◌≡◌, ℕ, suc, ◌+◌, ◌<◌, ◌≤◌, cond, ◌&&◌, ltb, leb, ◌⊎◌, List, [], ◌∷◌, sym, ◌∙◌, inl, inr, arith}
use Rattle.std.proofs.lemmas.Bool.{cases_order, cases_Bool, cond-true, cond-false, and_from, and_left, and_right, le-leb, lt-leb, lt-ltb, le-ltb}
use Rattle.kinds.specs.Columns.{Arity, Columns, nought, minus}
use Rattle.kinds.specs.Kinds.{Kind, Of, Lawful}
use Rattle.transform.specs.Windows.{Trace, higher}
use Rattle.transform.specs.Pulses.{Pulse}
use Rattle.transform.specs.Theory.{turned, Bump}
use Rattle.transform.proofs.Order.{Below, AtMost, turned_lawful, at_most_same, not_itself, not_below, higher_left, higher_right, higher_both}
use Rattle.transform.proofs.Group.{minus_nought, minus_minus, minus_self, above_zero, below_zero, Agree, agree_turned}

-- the amount v on each of the w days from day f, and zero on every other
unfoldable pub block : (a : Arity) → ℕ → ℕ → Columns a → ℕ → Columns a
block a f w v d = cond (leb f d && ltb d (f + w)) v (nought a)

module _ (a : Arity) (f w : ℕ) (v : Columns a) (d : ℕ) where
  pub block_on : f ≤ d → d < f + w → block a f w v d ≡ v
  unfolding block
  block_on h l = cond-true _ _ _ (and_from _ _ (le-leb f d h) (lt-ltb d (f + w) l))

  pub block_before : d < f → block a f w v d ≡ nought a
  unfolding block
  block_before h = cond-false _ _ _ (and_left _ _ (lt-leb f d h))

  pub block_after : f + w ≤ d → block a f w v d ≡ nought a
  unfolding block
  block_after h = cond-false _ _ _ (and_right _ _ (le-ltb d (f + w) h))

-- the trace less a block
abbrev pub cut : (a : Arity) → (ℕ → Columns a) → ℕ → ℕ → Columns a → ℕ → Columns a
cut a x f w v d = minus a (x d) (block a f w v d)

-- the amount v takes the w days after day q, a bump, down to the higher neighbour
pub record Lowers (K : Kind) (x : Trace K) (q w : ℕ) (v : Of K) : Type 0 where
  pub bump : Bump K x q w
  pub amount : v ≡ minus K.arity (x (suc q)) (higher K (x q) (x (suc (q + w))))

-- each pulse in turn lowers a bump or raises a pit, and z is what is left
abbrev pub Levels : (K : Kind) → Trace K → List (Pulse K) → Trace K → Type 0
Levels K x [] z = x ≡ z
Levels K x (p ∷ ps) z =
    (q : ℕ) × (p.first ≡ suc q) × (Lowers K x q p.width p.amount ⊎ Lowers (turned K) x q p.width p.amount) ×
    Levels K (cut K.arity x (suc q) p.width p.amount) ps z

-- the other trace rises only where x does, and falls only where x does
abbrev pub Follows : (K : Kind) → Trace K → Trace K → Type 0
Follows K x s = (b : ℕ) → (AtMost K (x (suc b)) (x b) → AtMost K (s (suc b)) (s b)) × (AtMost K (x b) (x (suc b)) → AtMost K (s b) (s (suc b)))

pub follows_turned : (K : Kind) (x s : Trace K) → Follows (turned K) x s → Follows K x s
follows_turned K x s F b = ((F b).1, (F b).0)

-- what the levelling of a block does at each boundary b, between day b and the day after
pub record Step (K : Kind) (x : Trace K) (q w : ℕ) (v : Of K) : Type 0 where
  -- what is left, and what is taken, rise and fall only where x does
  pub left : Follows K x (cut K.arity x (suc q) w v)
  pub taken : Follows K x (block K.arity (suc q) w v)
  -- what is taken goes the way of whatever follows what is left
  pub agree : (t : Trace K) → Follows K (cut K.arity x (suc q) w v) t → (b : ℕ) →
      Agree K (minus K.arity (block K.arity (suc q) w v (suc b)) (block K.arity (suc q) w v b)) (minus K.arity (t (suc b)) (t b))
  -- what is taken moves at the block's two edges,
  pub some : 0 < w
  pub opens : block K.arity (suc q) w v (suc q) ≡ block K.arity (suc q) w v q → ⊥
  pub closes : block K.arity (suc q) w v (suc (q + w)) ≡ block K.arity (suc q) w v (q + w) → ⊥
  -- and at one of them what is left does not
  pub still : (cut K.arity x (suc q) w v (suc q) ≡ cut K.arity x (suc q) w v q) ⊎ (cut K.arity x (suc q) w v (suc (q + w)) ≡ cut K.arity x (suc q) w v (q + w))

step_turned : (K : Kind) (x : Trace K) (q w : ℕ) (v : Of K) → Step (turned K) x q w v → Step K x q w v
step_turned K x q w v S = record {
  left = follows_turned K x _ S.left;
  taken = follows_turned K x _ S.taken;
  agree = λ t F b. agree_turned K _ _ (S.agree t (follows_turned (turned K) _ t F) b);
  some = S.some;
  opens = S.opens;
  closes = S.closes;
  still = S.still;
}

-- where b lies beside the days after day q, w in number
place : (q w b : ℕ) → 0 < w → (b < q) ⊎ ((b ≡ q) ⊎ (((q < b) × (b < q + w)) ⊎ ((b ≡ q + w) ⊎ (q + w < b))))
place q w b h = elim (cases_order b q) [
  | inl e ↦ inr (inl e)
  | inr (inl l) ↦ inl l
  | inr (inr l) ↦ elim (cases_order b (q + w)) [
    | inl e ↦ inr (inr (inr (inl e)))
    | inr (inl m) ↦ inr (inr (inl (l, m)))
    | inr (inr m) ↦ inr (inr (inr (inr m)))
  ]
]

module _ (K : Kind) (O : Lawful K) (x : Trace K) (q w : ℕ) (v : Of K) (S : Lowers K x q w v) where
  pub cut_before : (d : ℕ) → d ≤ q → cut K.arity x (suc q) w v d ≡ x d
  cut_before d h = rw (block_before K.arity (suc q) w v d (omega arith)) (minus_nought _ _)

  pub cut_after : (d : ℕ) → q + w < d → cut K.arity x (suc q) w v d ≡ x d
  cut_after d h = rw (block_after K.arity (suc q) w v d (omega arith)) (minus_nought _ _)

  pub cut_on : (d : ℕ) → q < d → d ≤ q + w → cut K.arity x (suc q) w v d ≡ higher K (x q) (x (suc (q + w)))
  cut_on d h l = rw (block_on K.arity (suc q) w v d h (omega arith), S.bump.level d h l, S.amount) (minus_minus _ _ _)

  pub top : AtMost K (higher K (x q) (x (suc (q + w)))) (x (suc q))
  top = higher_both K O _ _ (λ a. AtMost K a (x (suc q))) (O.one_way _ _ S.bump.rises) (O.one_way _ _ S.bump.falls)

  -- the amount is above zero
  pub amount_above : Below K (nought K.arity) v
  amount_above = rw S.amount (above_zero K O _ _ ∙ higher_both K O _ _ (λ a. Below K a (x (suc q))) S.bump.rises S.bump.falls)

  -- what is level on the block's days, and before and after them level or as x is, rises before
  -- them if at all, and falls after them if at all, follows x
  along : (s : Trace K) → ((b : ℕ) → (b < q) ⊎ (((q < b) × (b < q + w)) ⊎ (q + w < b)) → (s (suc b) ≡ s b) ⊎ ((s b ≡ x b) × (s (suc b) ≡ x (suc b)))) →
      AtMost K (s q) (s (suc q)) → AtMost K (s (suc (q + w))) (s (q + w)) → Follows K x s
  along s E r f b = elim (place q w b S.bump.some) [
    | inl l ↦ same (E b (inl l))
    | inr (inl e) ↦ rw e (λ n. absurd (not_below K O _ _ n S.bump.rises), λ n. r)
    | inr (inr (inl l)) ↦ same (E b (inr (inl l)))
    | inr (inr (inr (inl e))) ↦ rw e (λ n. f, λ n. absurd (not_below K O _ _ n (rw (S.bump.level (q + w) (let z = S.bump.some in omega arith) (omega arith)) S.bump.falls)))
    | inr (inr (inr (inr l))) ↦ same (E b (inr (inr l)))
  ]
    where
      same : (s (suc b) ≡ s b) ⊎ ((s b ≡ x b) × (s (suc b) ≡ x (suc b))) → (AtMost K (x (suc b)) (x b) → AtMost K (s (suc b)) (s b)) × (AtMost K (x b) (x (suc b)) → AtMost K (s b) (s (suc b)))
      same (inl e) = (λ _. at_most_same K O _ _ e, λ _. at_most_same K O _ _ (sym e))
      same (inr (e, g)) = (λ n. rw (e, g) n, λ n. rw (e, g) n)

  before_rises : AtMost K (cut K.arity x (suc q) w v q) (cut K.arity x (suc q) w v (suc q))
  before_rises = rw (cut_before q (omega arith), cut_on (suc q) (omega arith) (let z = S.bump.some in omega arith)) (higher_left K O _ _)

  after_falls : AtMost K (cut K.arity x (suc q) w v (suc (q + w))) (cut K.arity x (suc q) w v (q + w))
  after_falls = rw (cut_after (suc (q + w)) (omega arith), cut_on (q + w) (let z = S.bump.some in omega arith) (omega arith)) (higher_right K O _ _)

  block_first : block K.arity (suc q) w v (suc q) ≡ v
  block_first = block_on K.arity (suc q) w v (suc q) (omega arith) (let z = S.bump.some in omega arith)

  block_last : block K.arity (suc q) w v (q + w) ≡ v
  block_last = block_on K.arity (suc q) w v (q + w) (let z = S.bump.some in omega arith) (omega arith)

  block_ahead : (d : ℕ) → d ≤ q → block K.arity (suc q) w v d ≡ nought K.arity
  block_ahead d h = block_before K.arity (suc q) w v d (omega arith)

  block_behind : (d : ℕ) → q + w < d → block K.arity (suc q) w v d ≡ nought K.arity
  block_behind d h = block_after K.arity (suc q) w v d (omega arith)

  block_flat : (b : ℕ) → (b < q) ⊎ (((q < b) × (b < q + w)) ⊎ (q + w < b)) → block K.arity (suc q) w v (suc b) ≡ block K.arity (suc q) w v b
  block_flat b (inl l) = block_ahead (suc b) l ∙ sym (block_ahead b (omega arith))
  block_flat b (inr (inl (l, m))) = block_on K.arity (suc q) w v (suc b) (omega arith) (omega arith) ∙ sym (block_on K.arity (suc q) w v b l (omega arith))
  block_flat b (inr (inr l)) = block_behind (suc b) (omega arith) ∙ sym (block_behind b l)

  rises_there : block K.arity (suc q) w v (suc q) ≡ block K.arity (suc q) w v q → ⊥
  rises_there e = not_itself K O _ _ (sym (block_ahead q (omega arith)) ∙ sym e ∙ block_first) amount_above

  falls_there : block K.arity (suc q) w v (suc (q + w)) ≡ block K.arity (suc q) w v (q + w) → ⊥
  falls_there e = not_itself K O _ _ (sym (block_behind (suc (q + w)) (omega arith)) ∙ e ∙ block_last) amount_above

  flat_agrees : (b : ℕ) → block K.arity (suc q) w v (suc b) ≡ block K.arity (suc q) w v b → (u : Of K) →
      Agree K (minus K.arity (block K.arity (suc q) w v (suc b)) (block K.arity (suc q) w v b)) u
  flat_agrees b e u = rw (e, minus_self) (elim (cases_Bool (K.below u (nought K.arity))) [
    | inl h ↦ inr (O.irreflexive _, O.one_way _ _ h)
    | inr h ↦ inl (O.irreflexive _, h)
  ])

  cut_flat : (b : ℕ) → (b < q) ⊎ (((q < b) × (b < q + w)) ⊎ (q + w < b)) →
      (cut K.arity x (suc q) w v (suc b) ≡ cut K.arity x (suc q) w v b) ⊎ ((cut K.arity x (suc q) w v b ≡ x b) × (cut K.arity x (suc q) w v (suc b) ≡ x (suc b)))
  cut_flat b (inl l) = inr (cut_before b (omega arith), cut_before (suc b) l)
  cut_flat b (inr (inl (l, m))) = inl (cut_on (suc b) (omega arith) m ∙ sym (cut_on b l (omega arith)))
  cut_flat b (inr (inr l)) = inr (cut_after b l, cut_after (suc b) (omega arith))

  pub one_step : Step K x q w v
  one_step = record {
    left = along _ cut_flat before_rises after_falls;
    taken = along _ (λ b h. inl (block_flat b h))
        (rw (block_ahead q (omega arith), block_first) (O.one_way _ _ amount_above))
        (rw (block_behind (suc (q + w)) (omega arith), block_last) (O.one_way _ _ amount_above));
    agree = λ t F b. elim (place q w b S.bump.some) [
      | inl l ↦ flat_agrees b (block_flat b (inl l)) _
      | inr (inl e) ↦ rw (e, block_first, block_ahead q (omega arith), minus_nought) (inl (O.one_way _ _ amount_above, below_zero K O _ _ ∙ (F q).1 before_rises))
      | inr (inr (inl l)) ↦ flat_agrees b (block_flat b (inr (inl l))) _
      | inr (inr (inr (inl e))) ↦ rw (e, block_last, block_behind (suc (q + w)) (omega arith)) (inr (above_zero K O _ _ ∙ O.one_way _ _ amount_above, above_zero K O _ _ ∙ (F (q + w)).0 after_falls))
      | inr (inr (inr (inr l))) ↦ flat_agrees b (block_flat b (inr (inr l))) _
    ];
    some = S.bump.some;
    opens = rises_there;
    closes = falls_there;
    still = higher_both K O (x q) (x (suc (q + w)))
        (λ a. (cut K.arity x (suc q) w v (suc q) ≡ a → cut K.arity x (suc q) w v (q + w) ≡ a → (cut K.arity x (suc q) w v (suc q) ≡ cut K.arity x (suc q) w v q) ⊎ (cut K.arity x (suc q) w v (suc (q + w)) ≡ cut K.arity x (suc q) w v (q + w))))
        (λ e f. inl (e ∙ sym (cut_before q (omega arith))))
        (λ e f. inr (cut_after (suc (q + w)) (omega arith) ∙ sym f))
        (cut_on (suc q) (omega arith) (let z = S.bump.some in omega arith))
        (cut_on (q + w) (let z = S.bump.some in omega arith) (omega arith));
  }

pub either_step : (K : Kind) → Lawful K → (x : Trace K) (q w : ℕ) (v : Of K) → Lowers K x q w v ⊎ Lowers (turned K) x q w v → Step K x q w v
either_step K O x q w v (inl S) = one_step K O x q w v S
either_step K O x q w v (inr S) = step_turned K x q w v (one_step (turned K) (turned_lawful K O) x q w v S)
