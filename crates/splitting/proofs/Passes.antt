-- One mark in a pass: from one mid-pass state to the next.
use Rattle.std.proofs.Common.{◌≡◌, ℕ, zero, suc, ◌+◌, ◌-◌, ◌<◌, ◌≤◌, ◌⊎◌, List, [], ◌++◌, sym, refl, ap, ◌∙◌, inl, inr, arith}
use Rattle.std.proofs.lemmas.List.{append-nil}
use Rattle.std.proofs.lemmas.Bool.{cases_lt, cases_eq}
use Rattle.kinds.specs.Kinds.{Kind, Of, Lawful}
use Rattle.transform.specs.Windows.{Trace, L, higher}
use Rattle.transform.specs.Pulses.{in_turn}
use Rattle.transform.specs.Theory.{Bump}
use Rattle.transform.proofs.Order.{Below, turned_lawful, not_below}
use Rattle.transform.proofs.Windows.{Apart, kept_or_bump, L_levels}
use Rattle.transform.proofs.Smooths.{Outside}
use Rattle.transform.proofs.Passes.{Clear}
use Rattle.splitting.specs.Work.{View, put, with_mark, with_run}
use Rattle.splitting.specs.Runs.{Run, Knows, Turn, Marks}
use Rattle.splitting.specs.Passes.{spliced, Midway}
use Rattle.splitting.proofs.Views.{put_same, put_other}
use Rattle.splitting.proofs.Runs.{run_same, run_from, run_to, knows_again}
use Rattle.splitting.proofs.Levelled.{one_total, begun, ended, new_run, turn_before, turn_after}
use Rattle.splitting.proofs.Splices.{spliced_upto, spliced_past, spliced_outside, turn_within, turn_run, bump_seen, bump_there, bump_there_same, clear_end, kept_days, spliced_same}

-- what is known beside a run
module _ (K : Kind) (O : Lawful K) (m : ℕ) (z : Trace K) (v : View (Of K)) (k : Knows m (suc m) v z) where
  pub known_from : (s : ℕ) → s ≤ m → (0 < s → z (s - 1) ≡ z s → ⊥) → (v.total s ≡ z s) × Run m z s (v.other s)
  known_from s h b =
      let f = run_from K O m z s h b in
      let w = (k s f.0 f.1 (let l = f.1.end in omega arith)).0 in
      (w.holds, rw w.joins f.1)

  pub known_to : (e : ℕ) → e ≤ m → (e < m → z (suc e) ≡ z e → ⊥) → (v.total e ≡ z e) × Run m z (v.other e) e
  known_to e h b =
      let f = run_to K O m z e h b in
      let w = (k f.0 e f.1 (omega arith)).1 in
      (w.holds ∙ sym (f.1.level e f.1.order (omega arith)), rw w.joins f.1)

  module _ (s e : ℕ) (R : Run m z s e) where
    pub known_left : 0 < s → (v.total (s - 1) ≡ z (s - 1)) × Run m z (v.other (s - 1)) (s - 1)
    known_left h = known_to (s - 1) (let a = R.order in let b = R.end in omega arith) (λ l q. R.begins h (sym (ap z (let i : s ≡ suc (s - 1) = omega arith in i) ∙ q)))

    pub known_right : e < m → (v.total (suc e) ≡ z (suc e)) × Run m z (suc e) (v.other (suc e))
    known_right h = known_from (suc e) h (λ l q. R.ends h (sym (ap z (let i : e ≡ suc e - 1 = omega arith in i) ∙ q)))

-- a run above both its neighbours is a bump
pub run_bump : (K : Kind) (m n : ℕ) (z : Trace K) (s e : ℕ) → Run m z s e → 0 < s → suc e ≡ s + n → Below K (z (s - 1)) (z s) → Below K (z (suc e)) (z s) → Bump K z (s - 1) n
run_bump K m n z s e R h q up down =
    let o = R.order in
    let i : suc (s - 1) ≡ s = omega arith in
    let j : suc (s - 1 + n) ≡ suc e = omega arith in
    record {
      some = omega arith;
      level = λ d f l. R.level d (omega arith) (omega arith) ∙ ap z (sym i);
      rises = rw i up;
      falls = rw (j, i) down;
    }

-- f d lists nothing for the days after r up to day e
pub in_turn_none : {A : Type 0} (f : ℕ → List A) (r e : ℕ) → r ≤ e → ((c : ℕ) → r ≤ c → c < e → f (suc c) ≡ []) → in_turn e f ≡ in_turn r f
unfolding in_turn
in_turn_none f r zero h none = let q : zero ≡ r = omega arith in ap (λ k. in_turn k f) q
in_turn_none f r (suc e) h none = elim (cases_lt e r) [
  | inl g ↦ let q : suc e ≡ r = omega arith in ap (λ k. in_turn k f) q
  | inr g ↦ ap (λ l. in_turn e f ++ l) (none e g (omega arith)) ∙ (append-nil (in_turn e f) ∙ in_turn_none f r e g (λ c k l. none c k (omega arith)))
]

pub in_turn_one : {A : Type 0} (f : ℕ → List A) (s : ℕ) → 0 < s → in_turn s f ≡ in_turn (s - 1) f ++ f s
unfolding in_turn
in_turn_one f zero h = absurd (omega arith)
in_turn_one f (suc s) h = let q : s ≡ suc s - 1 = omega arith in ap (λ k. in_turn k f ++ f (suc s)) q

module _ {K : Kind} (O : Lawful K) {n N : ℕ} (some : 0 < n) {x : Trace K} (A : Apart K n x) (o : Outside K N x) {v : View (Of K)} {i hi kept r : ℕ}
    (M : Midway K n (suc N) x v i hi kept r) where
  -- the run of a mark
  pub marked_run : i < hi → r < v.mark i → (v.total (v.mark i) ≡ spliced K n x r (v.mark i)) × Run (suc N) (spliced K n x r) (v.mark i) (v.other (v.mark i))
  marked_run h l = known_from K O (suc N) (spliced K n x r) v M.knows (v.mark i) (M.ahead.within i (omega arith) h l) (λ _. M.ahead.begins i (omega arith) h l)

  -- a mark that was dealt with
  pub skipped : i < hi → v.mark i ≤ r → Midway K n (suc N) x v (suc i) hi kept r
  skipped h l =
      record {
        reach = M.reach;
        clear = M.clear;
        knows = M.knows;
        behind = let b = M.behind in omega arith;
        early = M.early;
        ahead = record {
          rising = λ a b f g k. M.ahead.rising a b (omega arith) g k;
          within = λ a f g. M.ahead.within a (omega arith) g;
          begins = λ a f g. M.ahead.begins a (omega arith) g;
          turns = λ p w T f g. found p (M.ahead.turns p w T f g) f;
        };
      }
    where
      found : (p : ℕ) → ((j : ℕ) × (i ≤ j) × (j < hi) × (v.mark j ≡ suc p)) → r ≤ p → (j : ℕ) × (suc i ≤ j) × (j < hi) × (v.mark j ≡ suc p)
      found p (j, f, g, q) k = elim (cases_eq j i) [
        | inl e ↦ absurd (let z : v.mark j ≡ v.mark i = ap v.mark e in omega arith)
        | inr e ↦ (j, omega arith, g, q)
      ]

  -- no marks are left: the pass is done
  pub pass_ends : hi ≤ i → (spliced K n x r ≡ L K n x) × Marks K (spliced K n x r) v.mark 0 kept 0 (suc N) × ((c : ℕ) → r ≤ c → Bump K x c n → ⊥)
  pass_ends h = (
    spliced_all,
    record {
      rising = M.early.rising;
      within = λ a f g k. let b = M.early.within a f g k in let c = M.reach in omega arith;
      begins = M.early.begins;
      turns = λ p w T f g. elim (cases_lt p r) [ inl l ↦ M.early.turns p w T f l | inr l ↦ absurd (none_left p w T l g) ];
    },
    none,
  )
    where
      none_left : (p w : ℕ) → Turn K (spliced K n x r) p w → r ≤ p → p < suc N → ⊥
      none_left p w T f g = let j = M.ahead.turns p w T f g in let a = j.1 in let b = j.2 in omega arith

      none : (c : ℕ) → r ≤ c → Bump K x c n → ⊥
      none c f B =
          let C = bump_seen K O n N x A o r M.clear c f B in
          let w = turn_within K O (turned_lawful K O) N (spliced K n x r) (spliced_outside K O n N x o r) c n (inl C) in
          none_left c n (inl C) f (omega arith)

      spliced_all : spliced K n x r ≡ L K n x
      spliced_all = λ j d. (elim (cases_lt r d) as (λ _. spliced K n x r d ≡ L K n x d) [
        | inl f ↦ spliced_past K n x r d f ∙ sym (kept_days K O n N x A o r M.clear d (λ p a b. none p a) d f (omega arith))
        | inr f ↦ spliced_upto K n x r d f
      ]) j

  module _ {s e : ℕ} (here : i < hi) (marked : v.mark i ≡ s) (past : r < s) (R : Run (suc N) (spliced K n x r) s e) where
    -- of the bumps and pits that begin after day r and up to day e, all begin on day s
    pub first_turn : (p w : ℕ) → Turn K (spliced K n x r) p w → r ≤ p → p < e → s ≡ suc p
    first_turn p w T h l =
        let Q = turn_run K O (turned_lawful K O) N (spliced K n x r) (spliced_outside K O n N x o r) p w T in
        let c = R.end in
        let j = M.ahead.turns p w T h (omega arith) in
        let a = Q.order in
        let f : s ≤ suc p = elim (cases_eq j.0 i) [
          | inl q ↦ let b : v.mark j.0 ≡ v.mark i = ap v.mark q in let d = j.3 in omega arith
          | inr q ↦ let b = j.1 in let d = j.3 in let g = M.ahead.rising i j.0 (omega arith) (omega arith) j.2 in omega arith
        ] in
        (run_same (suc N) (spliced K n x r) s e (suc p) (p + w) R Q (omega arith) l).0

    -- the marks after number i serve for a trace that has no new runs and no new bumps or pits after day u
    ahead_on : (mark : ℕ → ℕ) → ((j : ℕ) → i < j → mark j ≡ v.mark j) → (y : Trace K) (u : ℕ) → s ≤ u →
        ((c : ℕ) → u < c → c ≤ suc N → (spliced K n x r (c - 1) ≡ spliced K n x r c → ⊥) → y (c - 1) ≡ y c → ⊥) →
        ((p w : ℕ) → Turn K y p w → u ≤ p → Turn K (spliced K n x r) p w) → Marks K y mark (suc i) hi u (suc N)
    ahead_on mark like y u h cuts turns =
        record {
          rising = λ a b f g l. rw (like a (omega arith), like b (omega arith)) (M.ahead.rising a b (omega arith) g l);
          within = λ a f g. rw (like a (omega arith)) (λ l. M.ahead.within a (omega arith) g (omega arith));
          begins = λ a f g. rw (like a (omega arith)) (λ l. cuts (v.mark a) l (M.ahead.within a (omega arith) g (omega arith)) (M.ahead.begins a (omega arith) g (omega arith)));
          turns = λ p w T f g. found p (M.ahead.turns p w (turns p w T f) (omega arith) g) f;
        }
      where
        found : (p : ℕ) → ((j : ℕ) × (i ≤ j) × (j < hi) × (v.mark j ≡ suc p)) → u ≤ p → (j : ℕ) × (suc i ≤ j) × (j < hi) × (mark j ≡ suc p)
        found p (j, f, g, q) k = elim (cases_eq j i) [
          | inl a ↦ absurd (let b : v.mark j ≡ v.mark i = ap v.mark a in omega arith)
          | inr a ↦ (j, omega arith, g, like j (omega arith) ∙ q)
        ]

    -- the mark's run is not levelled
    module _ (not : Bump K (spliced K n x r) (s - 1) n → ⊥) where
      pub no_bump : (p : ℕ) → r ≤ p → p < e → Bump K x p n → ⊥
      no_bump p h l B =
          let C = bump_seen K O n N x A o r M.clear p h B in
          let q = first_turn p n (inl C) h l in
          not (rw (let k : s - 1 ≡ p = omega arith in k) C)

      same : spliced K n x e ≡ spliced K n x r
      same = spliced_same K O n N x A o r M.clear e (let a = R.order in omega arith) no_bump

      pub run_dropped : ((w : ℕ) → Turn K (spliced K n x r) (s - 1) w → ⊥) → Midway K n (suc N) x v (suc i) hi kept e
      run_dropped no_turn =
          let a = R.order in
          record {
            reach = R.end;
            clear = clear_end K O n N x A o r M.clear s e R (omega arith);
            knows = rw same M.knows;
            behind = let b = M.behind in omega arith;
            early = rw same (record {
              rising = M.early.rising;
              within = λ j f g k. let b = M.early.within j f g k in omega arith;
              begins = M.early.begins;
              turns = λ p w T f g. elim (cases_lt p r) [
                | inl l ↦ M.early.turns p w T f l
                | inr l ↦ absurd (let q = first_turn p w T l g in no_turn w (rw (let k : s - 1 ≡ p = omega arith in k) T))
              ];
            });
            ahead = rw same (ahead_on v.mark (λ j f. refl) (spliced K n x r) e a (λ c f g h. h) (λ p w T f. T));
          }

      pub run_kept : Midway K n (suc N) x (with_mark v kept s) (suc i) hi (suc kept) e
      run_kept =
          let a = R.order in
          let b = M.behind in
          let mark : ℕ → ℕ = put v.mark kept s in
          record {
            reach = R.end;
            clear = clear_end K O n N x A o r M.clear s e R (omega arith);
            knows = rw same M.knows;
            behind = omega arith;
            early = rw same (record {
              rising = λ j k f g l. elim (cases_lt k kept) [
                | inl h ↦ rw (put_other v.mark kept s j (λ q. omega arith), put_other v.mark kept s k (λ q. omega arith)) (M.early.rising j k f g h)
                | inr h ↦ rw (put_other v.mark kept s j (λ q. omega arith), put_same v.mark kept s k (omega arith)) (below j (omega arith))
              ];
              within = λ j f g. elim (cases_lt j kept) [
                | inl h ↦ rw (put_other v.mark kept s j (λ q. omega arith)) (λ l. let z = below j h in omega arith)
                | inr h ↦ rw (put_same v.mark kept s j (omega arith)) (λ l. omega arith)
              ];
              begins = λ j f g. elim (cases_lt j kept) [
                | inl h ↦ rw (put_other v.mark kept s j (λ q. omega arith)) (M.early.begins j f h)
                | inr h ↦ rw (put_same v.mark kept s j (omega arith)) (λ l. R.begins (omega arith))
              ];
              turns = λ p w T f g. elim (cases_lt p r) [
                | inl l ↦ old p (M.early.turns p w T f l)
                | inr l ↦ (kept, omega arith, omega arith, put_same v.mark kept s kept refl ∙ first_turn p w T l g)
              ];
            });
            ahead = rw same (ahead_on (put v.mark kept s) (λ j f. put_other v.mark kept s j (λ q. omega arith)) (spliced K n x r) e a (λ c f g h. h) (λ p w T f. T));
          }
        where
          below : (j : ℕ) → j < kept → v.mark j < s
          below j h = elim (cases_lt 0 (v.mark j)) [ inl l ↦ let z = M.early.within j (omega arith) h l in omega arith | inr l ↦ omega arith ]

          old : (p : ℕ) → ((j : ℕ) × (0 ≤ j) × (j < kept) × (v.mark j ≡ suc p)) → (j : ℕ) × (0 ≤ j) × (j < suc kept) × (put v.mark kept s j ≡ suc p)
          old p (j, f, g, q) = (j, f, omega arith, put_other v.mark kept s j (λ e. omega arith) ∙ q)

    -- the mark's run is a bump of width n, and it is levelled to t, which makes the run from s' to e'
    module _ (wide : suc e ≡ s + n) (up : Below K (spliced K n x r (s - 1)) (spliced K n x r s)) (down : Below K (spliced K n x r (suc e)) (spliced K n x r s))
        {s' e' : ℕ} {t : Of K} (is : t ≡ higher K (spliced K n x r (s - 1)) (spliced K n x r (suc e)))
        (left : ((spliced K n x r (s - 1) ≡ t) × Run (suc N) (spliced K n x r) s' (s - 1)) ⊎ ((spliced K n x r (s - 1) ≡ t → ⊥) × (s' ≡ s)))
        (right : ((spliced K n x r (suc e) ≡ t) × Run (suc N) (spliced K n x r) (suc e) e') ⊎ ((spliced K n x r (suc e) ≡ t → ⊥) × (e' ≡ e))) where
      z : Trace K
      z = spliced K n x r

      y : Trace K
      y = spliced K n x e'

      seen : Bump K z (s - 1) n
      unfolding z
      seen = run_bump K (suc N) n z s e R (omega arith) wide up down

      pub the_bump : Bump K x (s - 1) n
      unfolding z
      the_bump = bump_there K O n N x A o r M.clear (s - 1) (omega arith) seen

      pub last_day : e < suc N
      unfolding z
      last_day =
          let w = turn_within K O (turned_lawful K O) N z (spliced_outside K O n N x o r) (s - 1) n (inl seen) in
          omega arith

      far : e ≤ e'
      far = elim right [ inl (p, Q) ↦ let a = Q.order in omega arith | inr (p, q) ↦ omega arith ]

      near : s' ≤ s
      near = elim left [ inl (p, Q) ↦ let a = Q.order in omega arith | inr (p, q) ↦ omega arith ]

      -- no other bump of width n begins up to day e'
      pub none_before : (p : ℕ) → r ≤ p → p < s - 1 → Bump K x p n → ⊥
      none_before p h l B =
          let a = R.order in
          let q = first_turn p n (inl (bump_seen K O n N x A o r M.clear p h B)) h (omega arith) in
          omega arith

      pub none_after : (p : ℕ) → s ≤ p → p < e' → Bump K x p n → ⊥
      none_after p h l B =
          let C = bump_seen K O n N x A o r M.clear p (omega arith) B in
          elim (cases_lt p e) [
            | inl g ↦ let q = first_turn p n (inl C) (omega arith) g in omega arith
            | inr g ↦ elim right [
              | inl (q, Q) ↦
                  let T = turn_run K O (turned_lawful K O) N (spliced K n x r) (spliced_outside K O n N x o r) p n (inl C) in
                  let a = run_same (suc N) (spliced K n x r) (suc e) e' (suc p) (p + n) Q T (let b = T.order in omega arith) l in
                  let b : p ≡ e = let c = a.0 in omega arith in
                  not_below K O _ _ (O.one_way _ _ (rw (sym (R.level e R.order (omega arith))) at down)) (rw b at C.rises)
              | inr (q, u) ↦ omega arith
            ]
          ]

      pub none_between : (p : ℕ) → r ≤ p → p < e' → (p ≡ s - 1 → ⊥) → Bump K x p n → ⊥
      none_between p h l n' B = elim (cases_lt p (s - 1)) [ inl g ↦ none_before p h g B | inr g ↦ none_after p (omega arith) l B ]

      there : (d : ℕ) → s - 1 ≤ d → z d ≡ x d
      unfolding z
      there = bump_there_same K O n N x A o r M.clear (s - 1) (omega arith) seen

      y_before : (d : ℕ) → d < s → y d ≡ z d
      unfolding z y
      y_before d h =
          let a = R.order in
          let b = far in
          spliced_upto K n x e' d (omega arith) ∙ elim (cases_lt r d) [
            | inl g ↦ kept_days K O n N x A o r M.clear (s - 1) none_before d g (omega arith) ∙ sym (spliced_past K n x r d g)
            | inr g ↦ sym (spliced_upto K n x r d g)
          ]

      y_on : (d : ℕ) → s ≤ d → d ≤ e → y d ≡ t
      unfolding z y
      y_on d h l =
          let b = far in
          let i : suc (s - 1 + n) ≡ suc e = omega arith in
          spliced_upto K n x e' d (omega arith) ∙
          (L_levels K O n x (s - 1) d the_bump (omega arith) (omega arith) ∙
          (rw (i, ← there (s - 1) (omega arith), ← there (suc e) (omega arith)) (sym is)))

      y_after : (d : ℕ) → e < d → y d ≡ z d
      unfolding z y
      y_after d h = elim (cases_lt e' d) [
        | inl g ↦ let b = far in let a = R.order in spliced_past K n x e' d g ∙ sym (spliced_past K n x r d (omega arith))
        | inr g ↦ let a = R.order in spliced_upto K n x e' d g ∙ (stays g ∙ sym (spliced_past K n x r d (omega arith)))
      ]
        where
          stays : d ≤ e' → L K n x d ≡ x d
          stays g = elim (kept_or_bump K O n x A d) [
            | inl q ↦ q
            | inr (p, a, b, B) ↦ absurd (elim (cases_lt p r) [
              | inl c ↦ let f = R.order in let q = M.clear p B c in omega arith
              | inr c ↦ none_between p c (omega arith) (λ q. omega arith) B
            ])
          ]

      made : Run (suc N) y s' e'
      unfolding z
      made = new_run O y R (omega arith) last_day up down is y_before y_on y_after left right

      all_t : (d : ℕ) → s' ≤ d → d ≤ e' → y d ≡ t
      unfolding z
      all_t = one_total O y R (omega arith) last_day up down is y_before y_on y_after left right

      knows_y : Knows (suc N) (suc (suc N)) (with_run v s' e' t) y
      unfolding z
      knows_y =
          let a = made.order in
          let b = near in
          let c = far in
          let k = knows_again (suc N) v z y s' e' made
          (begun O y R (omega arith) last_day up down is y_before y_on y_after left right)
          (ended O y R (omega arith) last_day up down is y_before y_on y_after left right)
          (λ d h. y_before d (omega arith)) (λ d h. y_after d (omega arith)) M.knows in
          rw (all_t s' (omega arith) a) at k

      clear_y : Clear K n x e'
      clear_y = elim right [
        | inl (q, Q) ↦ let a = Q.order in let b = R.order in clear_end K O n N x A o r M.clear (suc e) e' Q (omega arith)
        | inr (q, u) ↦ let b = R.order in clear_end K O n N x A o r M.clear s e' (rw u R) (omega arith)
      ]

      -- the marks that were kept lie no later than the new run
      not_later : (j : ℕ) → j < kept → v.mark j ≤ s'
      not_later j h = elim (cases_lt s' (v.mark j)) [
        | inr l ↦ l
        | inl l ↦ absurd (
            let a = M.early.within j (omega arith) h (omega arith) in
            elim left [
              | inl (q, Q) ↦ M.early.begins j (omega arith) h (omega arith) (Q.level (v.mark j - 1) (omega arith) (omega arith) ∙ sym (Q.level (v.mark j) (omega arith) (omega arith)))
              | inr (q, u) ↦ omega arith
            ])
      ]

      still_begins : (j : ℕ) → j < kept → 0 < v.mark j → y (v.mark j - 1) ≡ y (v.mark j) → ⊥
      unfolding z
      still_begins j h l q =
          let a = M.early.within j (omega arith) h l in
          M.early.begins j (omega arith) h l (sym (y_before (v.mark j - 1) (omega arith)) ∙ (q ∙ y_before (v.mark j) (omega arith)))

      early_turn : (p w : ℕ) → Turn K y p w → p < e' → (s' ≡ suc p) ⊎ ((j : ℕ) × (0 ≤ j) × (j < kept) × (v.mark j ≡ suc p))
      unfolding z y
      early_turn p w T h =
          let Q = turn_run K O (turned_lawful K O) N y (spliced_outside K O n N x o e') p w T in
          let a = Q.order in
          let b = near in
          let c = R.order in
          elim (cases_lt (p + w) s') [
            | inl g ↦
                let V = turn_before O y R (omega arith) last_day up down is y_before y_on y_after left right p w T g in
                elim (cases_lt p r) [
                  | inl l ↦ inr (M.early.turns p w V (omega arith) l)
                  | inr l ↦ absurd (let q = first_turn p w V l (omega arith) in omega arith)
                ]
            | inr g ↦ inl (run_same (suc N) y s' e' (suc p) (p + w) made Q g h).0
          ]

      ahead_y : (mark : ℕ → ℕ) → ((j : ℕ) → i < j → mark j ≡ v.mark j) → Marks K y mark (suc i) hi e' (suc N)
      unfolding z y
      ahead_y mark like =
          let a = R.order in
          let b = far in
          ahead_on mark like y e' (omega arith)
          (λ c f g h q. elim (cases_lt e' (c - 1)) [
            | inl l ↦ h (sym (y_after (c - 1) (omega arith)) ∙ (q ∙ y_after c (omega arith)))
            | inr l ↦ made.ends (omega arith) (ap y (let k : suc e' ≡ c = omega arith in k) ∙ (sym q ∙ ap y (let k : c - 1 ≡ e' = omega arith in k)))
          ])
          (turn_after O y R (omega arith) last_day up down is y_before y_on y_after left right)

      levelled_with : (kept' : ℕ) (w : View (Of K)) → (w.total ≡ (with_run v s' e' t).total) → (w.other ≡ (with_run v s' e' t).other) → kept' ≤ suc i →
          Marks K y w.mark 0 kept' 0 e' → ((j : ℕ) → i < j → w.mark j ≡ v.mark j) → Midway K n (suc N) x w (suc i) hi kept' e'
      unfolding z y
      levelled_with kept' w a b h marks like =
          record {
            reach = made.end;
            clear = clear_y;
            knows = rw (a, b) knows_y;
            behind = h;
            early = marks;
            ahead = ahead_y w.mark like;
          }

      -- its mark is there already, or it needs none
      pub levelled_same : (s' ≡ 0) ⊎ ((0 < kept) × (v.mark (kept - 1) ≡ s')) → Midway K n (suc N) x (with_run v s' e' t) (suc i) hi kept e'
      unfolding y
      levelled_same m =
          let a = R.order in
          let b = far in
          let c = M.behind in
          levelled_with kept (with_run v s' e' t) refl refl (omega arith)
          (record {
            rising = M.early.rising;
            within = λ j f g l. let k = M.early.within j f g l in omega arith;
            begins = λ j f g. still_begins j g;
            turns = λ p w T f g. elim (early_turn p w T g) [
              | inr j ↦ j
              | inl q ↦ elim m [ inl u ↦ absurd (omega arith) | inr (u, k) ↦ (kept - 1, omega arith, omega arith, k ∙ q) ]
            ];
          })
          (λ j f. refl)

      -- it gets a mark
      pub levelled_marked : 0 < s' → (0 < kept → v.mark (kept - 1) ≡ s' → ⊥) → Midway K n (suc N) x (with_mark (with_run v s' e' t) kept s') (suc i) hi (suc kept) e'
      unfolding y
      levelled_marked pos m =
          let a = R.order in
          let b = far in
          let c = M.behind in
          levelled_with (suc kept) (with_mark (with_run v s' e' t) kept s') refl refl (omega arith)
          (record {
            rising = λ j k f g l. elim (cases_lt k kept) [
              | inl h ↦ rw (put_other v.mark kept s' j (λ q. omega arith), put_other v.mark kept s' k (λ q. omega arith)) (M.early.rising j k f g h)
              | inr h ↦ rw (put_other v.mark kept s' j (λ q. omega arith), put_same v.mark kept s' k (omega arith)) (below j (omega arith))
            ];
            within = λ j f g. elim (cases_lt j kept) [
              | inl h ↦ rw (put_other v.mark kept s' j (λ q. omega arith)) (λ l. let k = M.early.within j f h l in omega arith)
              | inr h ↦ rw (put_same v.mark kept s' j (omega arith)) (λ l. made.order)
            ];
            begins = λ j f g. elim (cases_lt j kept) [
              | inl h ↦ rw (put_other v.mark kept s' j (λ q. omega arith)) (still_begins j h)
              | inr h ↦ rw (put_same v.mark kept s' j (omega arith)) made.begins
            ];
            turns = λ p w T f g. elim (early_turn p w T g) [
              | inr (j, k, l, q) ↦ (j, k, omega arith, put_other v.mark kept s' j (λ e. omega arith) ∙ q)
              | inl q ↦ (kept, omega arith, omega arith, put_same v.mark kept s' kept refl ∙ q)
            ];
          })
          (λ j f. put_other v.mark kept s' j (λ q. omega arith))
        where
          below : (j : ℕ) → j < kept → v.mark j < s'
          below j h =
              let a = not_later j h in
              let b = not_later (kept - 1) (omega arith) in
              elim (cases_eq (v.mark (kept - 1)) s') [
                | inl q ↦ absurd (m (omega arith) q)
                | inr q ↦ elim (cases_lt j (kept - 1)) [
                  | inl l ↦ let c = M.early.rising j (kept - 1) (omega arith) l (omega arith) in omega arith
                  | inr l ↦ let c : v.mark j ≡ v.mark (kept - 1) = ap v.mark (let k : j ≡ kept - 1 = omega arith in k) in omega arith
                ]
              ]
