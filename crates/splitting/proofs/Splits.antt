-- A record split width by width.
use Rattle.std.proofs.Common.{◌≡◌, ℕ, suc, ◌+◌, ◌-◌, ◌≤◌, true, List, [], ◌∷◌, ◌++◌, length, None, Option, sym, refl, ap, ◌∙◌, inl, inr, arith}
use lib.Dec.{leb-zero}
use Rattle.std.proofs.lemmas.List.{append_assoc, length-append, length_push, set_at}
use Rattle.std.proofs.lemmas.Bool.{cases_lt, and_from}
use Rattle.kinds.specs.Columns.{Arity, one, two, Each, nought, within}
use Rattle.kinds.specs.Kinds.{Kind, Of, Lawful}
use Rattle.shelves.specs.Slots.{Entry}
use Rattle.transform.specs.Windows.{Record, Trace, trace, lowered, smooth}
use Rattle.transform.specs.Pulses.{Pulse, in_turn, change, changes, upward, downward, pulses}
use Rattle.transform.specs.Theory.{turned}
use Rattle.transform.proofs.Order.{turned_lawful}
use Rattle.transform.proofs.Smooths.{trace_outside, apart_flat, length_smooth, length_lowered, smooth_outside}
use Rattle.transform.proofs.Runs.{apart_bumps}
use Rattle.transform.proofs.Stages.{stage, upward_pass, downward_pass}
use Rattle.transform.proofs.Endings.{in_turn_front, smooth_among, lowered_among, pulses_upto}
use Rattle.transform.proofs.Counts.{pulses_few}
use Rattle.splitting.specs.Records.{BarredDay, row_of, laid}
use Rattle.splitting.specs.declared.levelling.Aim.TheVariants.{Bumps, Pits}
use Rattle.splitting.specs.Work.{View}
use Rattle.splitting.specs.Runs.{Knows, Turn, Marks}
use Rattle.splitting.specs.Passes.{Ready, SlotsLeft, Swept, put_rows}
use Rattle.splitting.proofs.Splices.{turn_within}
use Rattle.splitting.proofs.Sweeps.{put_rows_append, put_rows_length}

-- rows put from slot 0 on, where there are slots enough
put_rows_from : {K : Kind} (ps : List (Pulse K)) (front rest : List (Option Entry)) → length ps ≤ length rest → put_rows (length front) ps (front ++ rest) ≡ front ++ laid ps rest
put_rows_from [] front rest h = refl
put_rows_from (p ∷ ps) front [] h = absurd (omega arith)
put_rows_from (p ∷ ps) front (x ∷ rest) h =
    let e : suc (length front) ≡ length (front ++ row_of p ∷ []) = omega (arith, length_push front (row_of p)) in
    rw (set_at front x rest (row_of p) (length front) refl, e, ← append_assoc front (row_of p ∷ []) rest)
    (put_rows_from ps (front ++ row_of p ∷ []) rest (omega arith) ∙ append_assoc front (row_of p ∷ []) (laid ps rest))

pub put_rows_laid : {K : Kind} (ps : List (Pulse K)) (slots : List (Option Entry)) → length ps ≤ length slots → put_rows 0 ps slots ≡ laid ps slots
put_rows_laid ps slots h = put_rows_from ps [] slots h

-- marks serve bumps and pits alike
marks_turned : (K : Kind) (x : Trace K) (mark : ℕ → ℕ) (lo hi a b : ℕ) → Marks K x mark lo hi a b → Marks (turned K) x mark lo hi a b
marks_turned K x mark lo hi a b M =
    record {
      rising = M.rising;
      within = M.within;
      begins = M.begins;
      turns = λ p w T h l. M.turns p w (elim T [ inl B ↦ inr B | inr B ↦ inl B ]) h l;
    }

within_nought : (a : Arity) (b : Each a ℕ) → within a b (nought a) ≡ true
within_nought one b = leb-zero b
within_nought two b = and_from _ _ (leb-zero b.0) (leb-zero b.1)

-- After the widths up to n of a record that is accepted: the work list knows the smooth of width n,
-- and the pulses so far are put.
pub record SoFar (K : Kind) (xs : Record K) (days n : ℕ) (v : View (Of K)) (marks rows : ℕ) (base slots : List (Option Entry)) : Type 0 where
  pub size : length xs ≡ days
  pub enter : BarredDay K xs None
  pub room : length xs ≤ length base
  pub upto : n ≤ days
  pub knows : Knows (suc days) (suc (suc days)) v (trace K (smooth K n xs))
  pub marked : Marks K (trace K (smooth K n xs)) v.mark 0 marks 0 (suc days)
  pub few : marks ≤ suc days
  pub count : rows ≡ length (in_turn n (stage K xs))
  pub put : slots ≡ put_rows 0 (in_turn n (stage K xs)) base

pub so_far_none : {K : Kind} {xs : Record K} (days : ℕ) {v : View (Of K)} {marks : ℕ} (slots : List (Option Entry)) →
    length xs ≡ days → BarredDay K xs None → length xs ≤ length slots → Knows (suc days) (suc (suc days)) v (trace K xs) → Marks K (trace K xs) v.mark 0 marks 0 (suc days) → marks ≤ suc days →
    SoFar K xs days 0 v marks 0 slots slots
unfolding smooth in_turn
so_far_none days slots q e r k m f = record { size = q; enter = e; room = r; upto = omega arith; knows = k; marked = m; few = f; count = refl; put = refl }

module _ (K : Kind) (O : Lawful K) (xs : Record K) where
  -- the rows so far are no more than the days
  upto_few : (n : ℕ) → n ≤ length xs → length (in_turn n (stage K xs)) ≤ length xs
  unfolding pulses
  upto_few n h =
      let f = in_turn_front (stage K xs) n (length xs - n) in
      let e : n + (length xs - n) ≡ length xs = omega arith in
      let q = ap length (rw e at f.1) in
      let k = pulses_few K O xs in
      omega (arith, simp length-append at q)

  in_turn_next : (n : ℕ) → in_turn (suc n) (stage K xs) ≡ in_turn n (stage K xs) ++ (upward K xs (suc n) ++ downward K xs (suc n))
  unfolding in_turn
  in_turn_next n = refl

module _ {K : Kind} (O : Lawful K) {xs : Record K} {days n : ℕ} {v : View (Of K)} {marks rows : ℕ} {base s : List (Option Entry)} (F : SoFar K xs days n v marks rows base s) where
  -- all widths are done
  pub split_done : days ≤ n → (rows ≡ length (pulses K xs)) × (s ≡ laid (pulses K xs) base)
  unfolding pulses
  split_done e =
      let k = pulses_few K O xs in
      let h = F.room in
      let q : in_turn n (stage K xs) ≡ pulses K xs = ap (λ i. in_turn i (stage K xs)) (let z = F.size in let l = F.upto in let f : n ≡ length xs = omega arith in f) in
      (F.count ∙ ap length q, F.put ∙ (ap (λ l. put_rows 0 l base) q ∙ put_rows_laid (pulses K xs) base (omega arith)))

  -- no mark is left: the smooth is zero, and there are no more pulses
  no_turn : marks ≡ 0 → (p w : ℕ) → Turn K (trace K (smooth K n xs)) p w → ⊥
  no_turn e p w T =
      let l = turn_within K O (turned_lawful K O) (length xs) (trace K (smooth K n xs)) (smooth_outside K O n xs) p w T in
      let z = F.size in
      let j = F.marked.turns p w T (omega arith) (omega arith) in
      let a = j.2 in
      omega arith

  pub split_flat : marks ≡ 0 → (rows ≡ length (pulses K xs)) × (s ≡ laid (pulses K xs) base)
  split_flat e =
      let k = pulses_few K O xs in
      let h = F.room in
      let i = F.size in
      let l = F.upto in
      let z = apart_flat K O (length xs) (trace K (smooth K n xs)) (smooth_outside K O n xs)
      (apart_bumps K O (trace K (smooth K n xs)) (suc (length xs)) (λ p w g B. no_turn e p w (inl B)))
      (apart_bumps (turned K) (turned_lawful K O) (trace K (smooth K n xs)) (suc (length xs)) (λ p w g B. no_turn e p w (inr B))) in
      let q : in_turn n (stage K xs) ≡ pulses K xs = sym (pulses_upto K O xs n (omega arith) z) in
      (F.count ∙ ap length q, F.put ∙ (ap (λ l. put_rows 0 l base) q ∙ put_rows_laid (pulses K xs) base (omega arith)))

  -- the two passes of the next width
  module _ {width : ℕ} (wide : width ≡ suc n) (more : width ≤ days) where
    entered : (d : ℕ) → within K.arity K.bound (trace K xs d) ≡ true
    entered d = elim (cases_lt 0 d) [
      | inr h ↦ rw (let e : d ≡ 0 = omega arith in e, (trace_outside K xs).0) (within_nought K.arity K.bound)
      | inl h ↦ elim (cases_lt (length xs) d) [
        | inl l ↦ rw ((trace_outside K xs).1 d l) (within_nought K.arity K.bound)
        | inr l ↦ F.enter d h l
      ]
    ]

    pub ready_up : Ready K Bumps width days v marks (smooth K n xs) (lowered K (suc n) (smooth K n xs))
    ready_up =
        let p = upward_pass K O xs n in
        record {
          size = length_smooth K O n xs ∙ F.size;
          stage = rw wide (record { some = p.some; apart = p.apart; levels = p.levels; entered = smooth_among K O (λ a. within K.arity K.bound a ≡ true) xs entered n });
          knows = F.knows;
          marked = F.marked;
          few = F.few;
        }

    pub rows_up : rows ≤ days
    rows_up = let z = F.size in let a = upto_few K O xs n (omega arith) in let c = F.count in omega arith

    -- the next width's pulses, and the rows so far, are no more than the slots
    slots_enough : rows + (length (upward K xs (suc n)) + length (downward K xs (suc n))) ≤ length s
    slots_enough =
        let z = F.size in
        let a = upto_few K O xs (suc n) (omega arith) in
        let q : length (in_turn (suc n) (stage K xs)) ≡ length (in_turn n (stage K xs)) + (length (upward K xs (suc n)) + length (downward K xs (suc n))) =
        simp (in_turn_next K O xs n, length-append) refl in
        let b = F.count in
        let h = F.room in
        let l : length s ≡ length base = ap length F.put ∙ put_rows_length 0 (in_turn n (stage K xs)) base in
        omega arith

    pub slots_up : SlotsLeft {K = K} (change K (smooth K n xs) (lowered K (suc n) (smooth K n xs))) days 0 rows (length s)
    unfolding upward changes in_turn
    slots_up =
        let h = slots_enough in
        let q : length (smooth K n xs) ≡ days = length_smooth K O n xs ∙ F.size in
        let e : length (upward K xs (suc n)) ≡ length (in_turn days (change K (smooth K n xs) (lowered K (suc n) (smooth K n xs)))) =
        ap (λ d. length (in_turn d (change K (smooth K n xs) (lowered K (suc n) (smooth K n xs))))) q in
        omega arith

    module _ {u : View (Of K)} {kept rows' : ℕ} {s' : List (Option Entry)} (up : (b a : Record K) → Ready K Bumps width days v marks b a → Swept K Bumps days u kept b a rows rows' s s') where
      W : Swept K Bumps days u kept (smooth K n xs) (lowered K (suc n) (smooth K n xs)) rows rows' s s'
      W = up _ _ ready_up

      pub ready_down : Ready K Pits width days u kept (lowered K (suc n) (smooth K n xs)) (smooth K (suc n) xs)
      ready_down =
          let p = downward_pass K O xs n in
          record {
            size = length_lowered K O (suc n) (smooth K n xs) ∙ (length_smooth K O n xs ∙ F.size);
            stage = rw wide (record { some = p.some; apart = p.apart; levels = p.levels; entered = lowered_among K O (λ a. within K.arity K.bound a ≡ true) xs entered n });
            knows = W.knows;
            marked = marks_turned K _ _ _ _ _ _ W.marked;
            few = W.few;
          }

      pub slots_down : SlotsLeft {K = K} (change K (lowered K (suc n) (smooth K n xs)) (smooth K (suc n) xs)) days 0 rows' (length s')
      unfolding upward downward changes in_turn
      slots_down =
          let h = slots_enough in
          let q : length (lowered K (suc n) (smooth K n xs)) ≡ days = length_lowered K O (suc n) (smooth K n xs) ∙ (length_smooth K O n xs ∙ F.size) in
          let e : length (downward K xs (suc n)) ≡ length (in_turn days (change K (lowered K (suc n) (smooth K n xs)) (smooth K (suc n) xs))) =
          ap (λ d. length (in_turn d (change K (lowered K (suc n) (smooth K n xs)) (smooth K (suc n) xs)))) q in
          let c : rows' ≡ rows + length (upward K xs (suc n)) = W.count in
          let l : length s' ≡ length s = ap length W.put ∙ put_rows_length rows (upward K xs (suc n)) s in
          omega arith

      pub rows_down : rows' ≤ days
      unfolding upward
      rows_down =
          let z = F.size in
          let a = upto_few K O xs (suc n) (omega arith) in
          let q = ap length (in_turn_next K O xs n) in
          let b = F.count in
          let c = W.count in
          omega (arith, simp length-append at q)

      pub so_far_more : {w : View (Of K)} {kept'' rows'' : ℕ} {s'' : List (Option Entry)} → ((b a : Record K) → Ready K Pits width days u kept b a → Swept K Pits days w kept'' b a rows' rows'' s' s'') →
          SoFar K xs days width w kept'' rows'' base s''
      unfolding upward downward
      so_far_more {w} {kept''} {rows''} {s''} down =
          let X = down _ _ ready_down in
          let a = F.count in
          let b = W.count in
          let c = X.count in
          let e : rows ≡ 0 + length (in_turn n (stage K xs)) = omega arith in
          let next : put_rows rows' (downward K xs (suc n)) s' ≡ put_rows rows (upward K xs (suc n) ++ downward K xs (suc n)) s =
          rw (W.count, W.put) (sym (put_rows_append rows (upward K xs (suc n)) (downward K xs (suc n)) s)) in
          let all : put_rows rows (upward K xs (suc n) ++ downward K xs (suc n)) s ≡ put_rows 0 (in_turn n (stage K xs) ++ (upward K xs (suc n) ++ downward K xs (suc n))) base =
          rw (e, F.put) (sym (put_rows_append 0 (in_turn n (stage K xs)) (upward K xs (suc n) ++ downward K xs (suc n)) base)) in
          let done : SoFar K xs days (suc n) w kept'' rows'' base s'' = record {
            size = F.size;
            enter = F.enter;
            room = F.room;
            upto = omega arith;
            knows = X.knows;
            marked = marks_turned (turned K) _ _ _ _ _ _ X.marked;
            few = X.few;
            count = simp (in_turn_next K O xs n, length-append) (omega arith);
            put = X.put ∙ (next ∙ (all ∙ ap (λ l. put_rows 0 l base) (sym (in_turn_next K O xs n))));
          } in
          rw wide done
