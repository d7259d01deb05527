-- What a visit of a mark leaves.
use Rattle.std.proofs.Common.{◌≡◌, ℕ, suc, ◌+◌, ◌-◌, ◌<◌, ◌≤◌, true, ◌⊎◌, List, [], ◌∷◌, ◌++◌, length, sym, refl, ap, ◌∙◌, inl, inr, arith}
use Rattle.std.proofs.lemmas.Bool.{cases_lt}
use Rattle.std.proofs.lemmas.List.{length-append}
use Rattle.kinds.specs.Columns.{within}
use Rattle.kinds.specs.Kinds.{Kind, Of, Lawful}
use Rattle.transform.specs.Windows.{Record, Trace, trace, higher}
use Rattle.transform.specs.Pulses.{in_turn, change}
use Rattle.transform.specs.Theory.{turned, Bump}
use Rattle.transform.proofs.Order.{Below, turned_lawful}
use Rattle.transform.proofs.Smooths.{Outside, trace_outside}
use Rattle.transform.proofs.Listing.{Pass, lowering, change_is}
use Rattle.transform.proofs.Endings.{L_among, in_turn_front}
use Rattle.splitting.specs.declared.levelling.Fate.TheVariants.{Levelled, Kept, Dropped}
use Rattle.splitting.specs.declared.levelling.Aim.{Aim}
use Rattle.splitting.specs.Work.{View, with_mark}
use Rattle.splitting.specs.Runs.{Run, Turn}
use Rattle.splitting.specs.Passes.{aimed, spliced, Stage, Midway, Ready, Visiting, SlotsLeft, FateOf, nearest, Relaid, Marked, bump_pulse}
use Rattle.splitting.proofs.Aims.{aimed_lawful}
use Rattle.splitting.proofs.Runs.{run_same, same_or_not}
use Rattle.splitting.proofs.Splices.{spliced_upto, spliced_past, spliced_outside, turn_within, turn_run, bump_there, bump_there_same}
use Rattle.splitting.proofs.Passes.{known_left, known_right, run_bump, in_turn_none, in_turn_one, marked_run, run_dropped, run_kept, no_bump, none_before, none_after, levelled_same, levelled_marked}

pub stage_outside : (K : Kind) (aim : Aim) (days : ℕ) (b : Record K) → length b ≡ days → Outside (aimed K aim) days (trace K b)
stage_outside K aim days b q = rw q at (trace_outside K b)

pub stage_pass : (K : Kind) → Lawful K → (aim : Aim) (n : ℕ) (b a : Record K) → Stage K aim n b a → Pass K (aimed K aim).below n b a
stage_pass K O aim n b a S = record { lawful = aimed_lawful K O aim; some = S.some; apart = S.apart; levels = S.levels }

-- every total in mid-pass may be entered
pub entered_midway : (K : Kind) → Lawful K → (aim : Aim) (n : ℕ) (b a : Record K) → Stage K aim n b a → (r d : ℕ) → within K.arity K.bound (spliced (aimed K aim) n (trace K b) r d) ≡ true
entered_midway K O aim n b a S r d = elim (cases_lt r d) [
  | inl h ↦ rw (spliced_past (aimed K aim) n (trace K b) r d h) (S.entered d)
  | inr h ↦ rw (spliced_upto (aimed K aim) n (trace K b) r d h) (L_among (aimed K aim) (aimed_lawful K O aim) (λ v. within K.arity K.bound v ≡ true) n (trace K b) S.entered d)
]

-- a mark of a pass that lies after the days dealt with is to be visited
pub to_visit : {K : Kind} {aim : Aim} {n days : ℕ} {v w : View (Of K)} {marks kept r s i : ℕ} {b a : Record K} →
    Ready K aim n days v marks b a → Midway (aimed K aim) n (suc days) (trace K b) w i marks kept r → i < marks → s ≡ w.mark i → r < s → Visiting K aim n days w kept r s b a i marks
to_visit R M h q p = record { size = R.size; stage = R.stage; mid = M; here = h; few = R.few; marked = sym q; past = p }

-- days that come later leave no pulse out
in_turn_longer : {A : Type 0} (f : ℕ → List A) (r e : ℕ) → r ≤ e → length (in_turn r f) ≤ length (in_turn e f)
in_turn_longer f r e h =
    let w = in_turn_front f r (e - r) in
    let q : r + (e - r) ≡ e = omega arith in
    let l = ap length (rw q at w.1) in
    omega (arith, simp length-append at l)

module _ {K : Kind} (O : Lawful K) {aim : Aim} {n days : ℕ} {v : View (Of K)} {kept r s : ℕ} {b a : Record K} {i hi : ℕ} (V : Visiting K aim n days v kept r s b a i hi) where
  abbrev J : Kind
  J = aimed K aim

  P : Lawful J
  P = aimed_lawful K O aim

  out : Outside J days (trace K b)
  out = stage_outside K aim days b V.size

  abbrev z : Trace J
  z = spliced J n (trace K b) r

  abbrev e : ℕ
  e = v.other s

  found : (v.total s ≡ z s) × Run (suc days) z s e
  found =
      let h : r < v.mark i = let p = V.past in let m = V.marked in omega arith in
      rw V.marked at (marked_run P V.stage.some V.stage.apart out V.mid V.here h)

  pub visit_starts : 0 < s
  visit_starts = let p = V.past in omega arith

  pub visit_order : s ≤ v.other s
  visit_order = found.1.order

  pub visit_end : v.other s ≤ suc days
  visit_end = found.1.end

  beside : (v.total (s - 1) ≡ z (s - 1)) × Run (suc days) z (v.other (s - 1)) (s - 1)
  beside = known_left J P (suc days) z v V.mid.knows s e found.1 visit_starts

  behind : e ≤ days → (v.total (e + 1) ≡ z (suc e)) × Run (suc days) z (suc e) (v.other (e + 1))
  behind h = rw (let q : e + 1 ≡ suc e = omega arith in q) (known_right J P (suc days) z v V.mid.knows s e found.1 (omega arith))

  pub other_left : v.other (s - 1) ≤ s - 1
  other_left = beside.1.order

  pub other_right : v.other s ≤ days → v.other (v.other s + 1) ≤ suc days
  other_right h = (behind h).1.end

  pub entered_here : within K.arity K.bound (v.total s) ≡ true
  entered_here = rw found.0 (entered_midway K O aim n b a V.stage r s)

  pub entered_left : within K.arity K.bound (v.total (s - 1)) ≡ true
  entered_left = rw beside.0 (entered_midway K O aim n b a V.stage r (s - 1))

  pub entered_right : v.other s ≤ days → within K.arity K.bound (v.total (v.other s + 1)) ≡ true
  entered_right h = rw (behind h).0 (entered_midway K O aim n b a V.stage r (suc (v.other s)))

  -- no pulse is listed for days on which no bump begins
  unlisted : (c : ℕ) → (Bump J (trace K b) c n → ⊥) → change K b a (suc c) ≡ []
  unlisted c none = elim (change_is K O (aimed K aim).below n b a (stage_pass K O aim n b a V.stage) c) [
    | inl (B, q) ↦ absurd (none B)
    | inr (f, q) ↦ q
  ]

  none_listed : ((p : ℕ) → r ≤ p → p < e → Bump J (trace K b) p n → ⊥) → in_turn e (change K b a) ≡ in_turn r (change K b a)
  none_listed none = in_turn_none (change K b a) r e (let f = found.1.order in let g = V.past in omega arith) (λ c h l. unlisted c (none c h l))

  -- what the tests say of a bump or a pit that begins on the mark's day
  placed : (w : ℕ) → Turn J z (s - 1) w → (e ≤ days) × (suc e ≡ s + w)
  placed w T =
      let f = visit_starts in
      let W = turn_within J P (turned_lawful J P) days z (spliced_outside J P n days (trace K b) out r) (s - 1) w T in
      let Q = turn_run J P (turned_lawful J P) days z (spliced_outside J P n days (trace K b) out r) (s - 1) w T in
      let g = Q.order in
      let k = found.1.order in
      let q = (run_same (suc days) z s e (suc (s - 1)) (s - 1 + w) found.1 Q (omega arith) (omega arith)).1 in
      (omega arith, omega arith)

  tested_bump : (w : ℕ) → Bump J z (s - 1) w → Below J (v.total (s - 1)) (v.total s) × Below J (v.total (e + 1)) (v.total s)
  tested_bump w B =
      let f = visit_starts in
      let p = placed w (inl B) in
      let i1 : suc (s - 1) ≡ s = omega arith in
      let i2 : suc (s - 1 + w) ≡ suc e = let q = p.1 in omega arith in
      rw (beside.0, found.0, (behind p.0).0) (rw i1 at B.rises, rw (i2, i1) at B.falls)

  tested_pit : (w : ℕ) → Bump (turned J) z (s - 1) w → Below J (v.total s) (v.total (s - 1)) × Below J (v.total s) (v.total (e + 1))
  tested_pit w B =
      let f = visit_starts in
      let p = placed w (inr B) in
      let i1 : suc (s - 1) ≡ s = omega arith in
      let i2 : suc (s - 1 + w) ≡ suc e = let q = p.1 in omega arith in
      rw (beside.0, found.0, (behind p.0).0) (rw i1 at B.rises, rw (i2, i1) at B.falls)

  -- a bump of the pass's width has its pulse still to be put
  module _ (F : FateOf (aimed K aim) days n s (v.other s) (v.total (s - 1)) (v.total s) (v.total (v.other s + 1)) Levelled) where
    up : Below J (z (s - 1)) (z s)
    up = rw (beside.0, found.0) at F.1

    falls : Below J (z (suc e)) (z s)
    falls = rw ((behind F.0).0, found.0) at F.2

    there : Bump J (trace K b) (s - 1) n
    there =
        let p = V.past in
        bump_there J P n days (trace K b) V.stage.apart out r V.mid.clear (s - 1) (omega arith)
        (run_bump J (suc days) n z s e found.1 visit_starts F.3 up falls)

    pub slot_left : (rows slots : ℕ) → SlotsLeft {K = K} (change K b a) days r rows slots → rows < slots
    slot_left rows slots h =
        let f = visit_starts in
        let p = V.past in
        let o = found.1.order in
        let l = F.0 in
        let i : suc (s - 1) ≡ s = omega arith in
        let here : length (change K b a s) ≡ 1 = elim (change_is K O (aimed K aim).below n b a (stage_pass K O aim n b a V.stage) (s - 1)) [
          | inl (B, q) ↦ ap length (ap (change K b a) (sym i) ∙ q)
          | inr (g, q) ↦ absurd (g there)
        ] in
        let one : length (in_turn s (change K b a)) ≡ length (in_turn (s - 1) (change K b a)) + length (change K b a s) =
        ap length (in_turn_one (change K b a) s f) ∙ length-append (in_turn (s - 1) (change K b a)) (change K b a s) in
        let before = in_turn_longer (change K b a) r (s - 1) (omega arith) in
        let after = in_turn_longer (change K b a) s days (omega arith) in
        omega arith

  -- the mark is dropped
  module _ (F : FateOf (aimed K aim) days n s (v.other s) (v.total (s - 1)) (v.total s) (v.total (v.other s + 1)) Dropped) where
    no_turn : (w : ℕ) → Turn J z (s - 1) w → ⊥
    no_turn w (inl B) = let t = tested_bump w B in (F (placed w (inl B)).0).0 t.0 t.1
    no_turn w (inr B) = let t = tested_pit w B in (F (placed w (inr B)).0).1 t.0 t.1

    pub visit_dropped : Midway (aimed K aim) n (suc days) (trace K b) v (suc i) hi kept (v.other s)
    visit_dropped =
        run_dropped P V.stage.some V.stage.apart out V.mid V.here V.marked V.past found.1
        (λ B. no_turn n (inl B)) no_turn

    pub dropped_none : in_turn (v.other s) (change K b a) ≡ in_turn r (change K b a)
    dropped_none = none_listed (no_bump P V.stage.some V.stage.apart out V.mid V.here V.marked V.past found.1 (λ B. no_turn n (inl B)))

  -- it is kept
  module _ (F : FateOf (aimed K aim) days n s (v.other s) (v.total (s - 1)) (v.total s) (v.total (v.other s + 1)) Kept) where
    not_levelled : Bump J z (s - 1) n → ⊥
    not_levelled B = let t = tested_bump n B in F t.0 t.1 (placed n (inl B)).1

    pub visit_kept : Midway (aimed K aim) n (suc days) (trace K b) (with_mark v kept s) (suc i) hi (suc kept) (v.other s)
    visit_kept =
        run_kept P V.stage.some V.stage.apart out V.mid V.here V.marked V.past found.1 not_levelled

    pub kept_none : in_turn (v.other s) (change K b a) ≡ in_turn r (change K b a)
    kept_none = none_listed (no_bump P V.stage.some V.stage.apart out V.mid V.here V.marked V.past found.1 not_levelled)

  -- its run is levelled
  module _ (F : FateOf (aimed K aim) days n s (v.other s) (v.total (s - 1)) (v.total s) (v.total (v.other s + 1)) Levelled)
      {u w : View (Of K)} {s' e' kept' : ℕ} (E : Relaid (aimed K aim) v u s (v.other s) s' e') (G : Marked u w kept s' kept') where
    abbrev t : Of K
    t = nearest (aimed K aim) v s (v.other s)

    t_is : t ≡ higher J (z (s - 1)) (z (suc e))
    unfolding higher
    t_is = rw (beside.0, (behind F.0).0)

    lefts : ((z (s - 1) ≡ t) × Run (suc days) z s' (s - 1)) ⊎ ((z (s - 1) ≡ t → ⊥) × (s' ≡ s))
    lefts = elim (same_or_not J P 0 (λ _. t) (z (s - 1)) t) [
      | inl q ↦ inl (q, rw (E.left.0 (beside.0 ∙ q)) beside.1)
      | inr q ↦ inr (q, E.left.1 (λ p. q (sym beside.0 ∙ p)))
    ]

    rights : ((z (suc e) ≡ t) × Run (suc days) z (suc e) e') ⊎ ((z (suc e) ≡ t → ⊥) × (e' ≡ e))
    rights = elim (same_or_not J P 0 (λ _. t) (z (suc e)) t) [
      | inl q ↦ inl (q, rw (E.right.0 ((behind F.0).0 ∙ q)) (behind F.0).1)
      | inr q ↦ inr (q, E.right.1 (λ p. q (sym (behind F.0).0 ∙ p)))
    ]

    pub visit_levelled : Midway (aimed K aim) n (suc days) (trace K b) w (suc i) hi kept' e'
    visit_levelled = elim G [
      | inl (p, q, m) ↦ rw (p, q, E.written)
          (levelled_same P V.stage.some V.stage.apart out V.mid V.here V.marked V.past found.1 F.3 (up F) (falls F) t_is lefts rights (rw E.written at m))
      | inr (p, q, pos, m) ↦ rw (p, q, E.written)
          (levelled_marked P V.stage.some V.stage.apart out V.mid V.here V.marked V.past found.1 F.3 (up F) (falls F) t_is lefts rights pos (rw E.written at m))
    ]

    reaches : e ≤ e'
    reaches = elim rights [ inl (q, Q) ↦ let f = Q.order in omega arith | inr (q, f) ↦ omega arith ]

    as_there : (d : ℕ) → s - 1 ≤ d → z d ≡ trace K b d
    as_there =
        let f = V.past in
        bump_there_same J P n days (trace K b) V.stage.apart out r V.mid.clear (s - 1) (omega arith)
        (run_bump J (suc days) n z s e found.1 visit_starts F.3 (up F) (falls F))

    the_pulse : lowering K (aimed K aim).below n (trace K b) (s - 1) ≡ bump_pulse K aim v n s (v.other s)
    unfolding higher
    the_pulse =
        let f = visit_starts in
        let i1 : suc (s - 1) ≡ s = omega arith in
        let i2 : suc (s - 1 + n) ≡ suc e = let q = F.3 in omega arith in
        let o = found.1.order in
        rw (i1, i2, beside.0, found.0, (behind F.0).0, as_there (s - 1) (omega arith), as_there s (omega arith), as_there (suc e) (omega arith)) refl

    pub levelled_one : in_turn e' (change K b a) ≡ in_turn r (change K b a) ++ bump_pulse K aim v n s (v.other s) ∷ []
    levelled_one =
        let f = visit_starts in
        let g = V.past in
        let o = found.1.order in
        let i1 : suc (s - 1) ≡ s = omega arith in
        let here : change K b a s ≡ bump_pulse K aim v n s (v.other s) ∷ [] = elim (change_is K O (aimed K aim).below n b a (stage_pass K O aim n b a V.stage) (s - 1)) [
          | inl (B, q) ↦ ap (change K b a) (sym i1) ∙ (q ∙ ap (λ p. p ∷ []) the_pulse)
          | inr (h, q) ↦ absurd (h (there F))
        ] in
        in_turn_none (change K b a) s e' (let q = reaches in omega arith) (λ c h l. unlisted c (none_after P V.stage.some V.stage.apart out V.mid V.here V.marked V.past found.1 F.3 (up F) (falls F) t_is lefts rights c h l)) ∙
        (in_turn_one (change K b a) s f ∙
        (rw here (ap (λ l. l ++ bump_pulse K aim v n s (v.other s) ∷ [])
        (in_turn_none (change K b a) r (s - 1) (omega arith) (λ c h l. unlisted c (none_before P V.stage.some V.stage.apart out V.mid V.here V.marked V.past found.1 F.3 (up F) (falls F) t_is lefts rights c h l))))))
