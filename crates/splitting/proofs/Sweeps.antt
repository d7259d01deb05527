-- A whole pass: its start, its end, and the rows that it puts.
use Rattle.std.proofs.Common.{◌≡◌, ℕ, suc, ◌+◌, ◌≤◌, List, [], ◌∷◌, ◌++◌, length, set, Option, sym, refl, ap, ◌∙◌, inl, inr, arith}
use Rattle.std.proofs.lemmas.List.{append-nil, append_assoc, length-append, length-set}
use Rattle.std.proofs.lemmas.Bool.{cases_lt}
use Rattle.kinds.specs.Kinds.{Kind, Of, Lawful}
use Rattle.shelves.specs.Slots.{Entry}
use Rattle.transform.specs.Windows.{Record, trace, L}
use Rattle.transform.specs.Pulses.{Pulse, in_turn, change, changes}
use Rattle.transform.specs.Theory.{Bump}
use Rattle.transform.proofs.Smooths.{Outside}
use Rattle.transform.proofs.Passes.{clear_start, pass_start}
use Rattle.transform.proofs.Listing.{change_is, bump_within}
use Rattle.splitting.specs.Records.{row_of}
use Rattle.splitting.specs.declared.levelling.Aim.{Aim}
use Rattle.splitting.specs.Work.{View}
use Rattle.splitting.specs.Runs.{Knows, Marks}
use Rattle.splitting.specs.Passes.{aimed, spliced, Midway, Ready, SlotsLeft, put_rows, Added}
use Rattle.splitting.proofs.Aims.{aimed_lawful}
use Rattle.splitting.proofs.Splices.{spliced_pass}
use Rattle.splitting.proofs.Passes.{in_turn_none, pass_ends}
use Rattle.splitting.proofs.Visits.{stage_outside, stage_pass}

-- rows put, and then more rows
pub put_rows_append : {K : Kind} (n : ℕ) (ps qs : List (Pulse K)) (slots : List (Option Entry)) → put_rows n (ps ++ qs) slots ≡ put_rows (n + length ps) qs (put_rows n ps slots)
put_rows_append n [] qs slots = ap (λ k. put_rows k qs slots) (let e : n ≡ n + 0 = omega arith in e)
put_rows_append n (p ∷ ps) qs slots =
    put_rows_append (suc n) ps qs (set slots n (row_of p)) ∙ ap (λ k. put_rows k qs (put_rows n (p ∷ ps) slots)) (let e : suc n + length ps ≡ n + suc (length ps) = omega arith in e)

-- rows put leave as many slots
pub put_rows_length : {K : Kind} (n : ℕ) (ps : List (Pulse K)) (slots : List (Option Entry)) → length (put_rows n ps slots) ≡ length slots
put_rows_length n [] slots = refl
put_rows_length n (p ∷ ps) slots = put_rows_length (suc n) ps (set slots n (row_of p)) ∙ length-set slots n (row_of p)

pub added_none : (K : Kind) (f : ℕ → List (Pulse K)) (r rows : ℕ) (slots : List (Option Entry)) → Added K f r r rows rows slots slots
added_none K f r rows slots = record { list = []; more = sym (append-nil (in_turn r f)); put = refl; count = omega arith }

pub added_then : {K : Kind} {f : ℕ → List (Pulse K)} {r r₁ r₂ n n₁ n₂ : ℕ} {s s₁ s₂ : List (Option Entry)} →
    Added K f r r₁ n n₁ s s₁ → Added K f r₁ r₂ n₁ n₂ s₁ s₂ → Added K f r r₂ n n₂ s s₂
added_then {f} {r} {n} {s} A B =
    record {
      list = A.list ++ B.list;
      more = B.more ∙ (ap (λ l. l ++ B.list) A.more ∙ append_assoc (in_turn r f) A.list B.list);
      put = B.put ∙ (rw (A.count, A.put) (sym (put_rows_append n A.list B.list s)));
      count = let a = A.count in let b = B.count in simp length-append (omega arith);
    }

-- after what was added enough slots are left
pub added_left : {K : Kind} {f : ℕ → List (Pulse K)} (m : ℕ) {r n n' : ℕ} {s s' : List (Option Entry)} → SlotsLeft {K = K} f m 0 n (length s) → Added K f 0 r n n' s s' → SlotsLeft {K = K} f m r n' (length s')
unfolding in_turn
added_left {f} m {r} {n} {s} {s'} h A =
    let q : length (in_turn r f) ≡ length A.list = ap length A.more in
    let l : length s' ≡ length s = ap length A.put ∙ put_rows_length n A.list s in
    let c = A.count in
    omega arith

-- all that was added from day 0 on
pub added_all : {K : Kind} {f : ℕ → List (Pulse K)} {r n n' : ℕ} {s s' : List (Option Entry)} (l : List (Pulse K)) → in_turn r f ≡ l → Added K f 0 r n n' s s' → (s' ≡ put_rows n l s) × (n' ≡ n + length l)
unfolding in_turn
added_all {n} {s} l e A = let q : A.list ≡ l = sym A.more ∙ e in (A.put ∙ ap (λ k. put_rows n k s) q, A.count ∙ ap (λ k. n + length k) q)

module _ {K : Kind} (O : Lawful K) {aim : Aim} {n days : ℕ} {v : View (Of K)} {marks : ℕ} {b a : Record K} (R : Ready K aim n days v marks b a) where
  abbrev J : Kind
  J = aimed K aim

  P : Lawful J
  P = aimed_lawful K O aim

  out : Outside J days (trace K b)
  out = stage_outside K aim days b R.size

  start : spliced J n (trace K b) 0 ≡ trace K b
  start = spliced_pass J n (trace K b) 0 ∙ pass_start J P n (trace K b)

  pub ready_midway : Midway (aimed K aim) n (suc days) (trace K b) v 0 marks 0 0
  ready_midway =
      record {
        reach = omega arith;
        clear = clear_start J P n (trace K b);
        knows = rw start R.knows;
        behind = omega arith;
        early = record {
          rising = λ i j f g l. absurd (omega arith);
          within = λ i f g. absurd (omega arith);
          begins = λ i f g. absurd (omega arith);
          turns = λ p w T f g. absurd (omega arith);
        };
        ahead = rw start R.marked;
      }

  module _ {w : View (Of K)} {i kept r : ℕ} (M : Midway (aimed K aim) n (suc days) (trace K b) w i marks kept r) (last : marks ≤ i) where
    E : (spliced J n (trace K b) r ≡ L J n (trace K b)) × Marks J (spliced J n (trace K b) r) w.mark 0 kept 0 (suc days) × ((c : ℕ) → r ≤ c → Bump J (trace K b) c n → ⊥)
    E = pass_ends P R.stage.some R.stage.apart out M last

    all : spliced J n (trace K b) r ≡ trace K a
    all = E.0 ∙ sym R.stage.levels

    pub done_knows : Knows (suc days) (suc (suc days)) w (trace K a)
    done_knows = rw all at M.knows

    pub done_marks : Marks (aimed K aim) (trace K a) w.mark 0 kept 0 (suc days)
    done_marks = rw all at E.1

    unlisted : (c : ℕ) → (Bump J (trace K b) c n → ⊥) → change K b a (suc c) ≡ []
    unlisted c none = elim (change_is K O (aimed K aim).below n b a (stage_pass K O aim n b a R.stage) c) [
      | inl (B, q) ↦ absurd (none B)
      | inr (f, q) ↦ q
    ]

    pub done_list : in_turn r (change K b a) ≡ changes K b a
    unfolding changes
    done_list = elim (cases_lt (length b) r) [
      | inl h ↦ in_turn_none (change K b a) (length b) r (omega arith) (λ c f g. unlisted c (λ B.
          let w = bump_within K O (aimed K aim).below n b a (stage_pass K O aim n b a R.stage) c B in
          let s = R.stage.some in
          omega arith))
      | inr h ↦ sym (in_turn_none (change K b a) r (length b) h (λ c f g. unlisted c (E.2 c f)))
    ]
