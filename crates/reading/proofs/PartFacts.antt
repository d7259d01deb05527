-- Lemmas on the parts of a text.
use Rattle.std.proofs.Common.{◌≡◌, ℕ, suc, ◌+◌, ◌<◌, ◌≤◌, Bool, true, false, cond, eqb, ltb, List, [], ◌∷◌, length, get_or, take, drop, count_by, position, Some, None, sym, refl, ap, ◌∙◌, inl, inr, add-one, arith}
use Rattle.std.proofs.lemmas.Bool.{cases_Bool, eq-eqb, ne_eqb, ltb-true, ltb-false, lt-ltb, le-ltb}
use Rattle.std.proofs.lemmas.Bool.Decides.{nat_tests}
use Rattle.std.proofs.lemmas.List.{at_drop_more, at_drop_all, length-take, length-drop}
use Rattle.std.proofs.lemmas.List.Splits.{length-slice_split}
use Rattle.std.specs.List.{slice_split, onto_first, position_or_len, list_any}
use Rattle.reading.specs.Parts.{parts, longer, reach, holds, Cut}

pub reach_le : (c : ℕ) (bs : List ℕ) → reach c bs ≤ length bs
reach_le c [] = omega arith
reach_le c (b ∷ bs) =
    elim (cases_Bool (eqb b c)) [ inl e ↦ rw e (omega arith) | inr e ↦ rw e (let h = reach_le c bs in omega arith) ]

-- as std cuts a list
pub parts_split : (c : ℕ) (bs : List ℕ) → slice_split (λ b. eqb b c) bs ≡ parts c bs
parts_split c [] = refl
parts_split c (b ∷ bs) =
    let h = parts_split c bs in
    elim (cases_Bool (eqb b c)) [ inl e ↦ rw e (ap (λ ps. [] ∷ ps) h) | inr e ↦ rw e (ap (onto_first b) h ∙ onto (parts c bs)) ]
  where
    onto : (ps : List (List ℕ)) → onto_first b ps ≡ longer b ps
    onto [] = refl
    onto (p ∷ ps) = refl

-- there is always a part
pub parts_some : (c : ℕ) (bs : List ℕ) → 0 < length (parts c bs)
parts_some c [] = omega arith
parts_some c (b ∷ bs) =
    elim (cases_Bool (eqb b c)) [ inl e ↦ rw e (omega arith) | inr e ↦ rw e (go (parts c bs)) ]
  where
    go : (ps : List (List ℕ)) → 0 < length (longer b ps)
    go [] = omega arith
    go (p ∷ ps) = omega arith

-- a text that is cut at its first c
pub parts_cut : (c : ℕ) (bs : List ℕ) → reach c bs < length bs → parts c bs ≡ take (reach c bs) bs ∷ parts c (drop (suc (reach c bs)) bs)
parts_cut c [] h = absurd (omega arith)
parts_cut c (b ∷ bs) h =
    elim (cases_Bool (eqb b c)) [
      | inl e ↦ rw e refl
      | inr e ↦ rw e (ap (longer b) (parts_cut c bs (let k : suc (reach c bs) < suc (length bs) = rw e at h in omega arith)))
    ]

-- a text that holds no c
pub parts_last : (c : ℕ) (bs : List ℕ) → reach c bs ≡ length bs → parts c bs ≡ bs ∷ []
parts_last c [] h = refl
parts_last c (b ∷ bs) h =
    elim (cases_Bool (eqb b c)) [
      | inl e ↦ absurd (let k : ◌≡◌ {A = ℕ} 0 (suc (length bs)) = rw e at h in omega arith)
      | inr e ↦ rw e (ap (longer b) (parts_last c bs (let k : suc (reach c bs) ≡ suc (length bs) = rw e at h in omega arith)))
    ]

-- one byte on
pub reach_stop : (c : ℕ) (bs : List ℕ) (i : ℕ) → i < length bs → get_or bs i 0 ≡ c → reach c (drop i bs) ≡ 0
reach_stop c bs i h e =
    let t = eq-eqb (get_or bs i 0) c e in
    at_drop_more (reach c) bs i 0 h ∙ rw t refl

pub reach_pass : (c : ℕ) (bs : List ℕ) (i : ℕ) → i < length bs → (get_or bs i 0 ≡ c → ⊥) → reach c (drop i bs) ≡ suc (reach c (drop (i + 1) bs))
reach_pass c bs i h e =
    let t = ne_eqb (get_or bs i 0) c e in
    at_drop_more (reach c) bs i 0 h ∙ rw t refl

pub reach_end : (c : ℕ) (bs : List ℕ) (i : ℕ) → length bs ≤ i → reach c (drop i bs) ≡ 0
reach_end c bs i h = at_drop_all (reach c) bs i h

-- the place of the first c, as std finds it
pub reach_position : (c : ℕ) (bs : List ℕ) → position_or_len (λ b. eqb b c) bs ≡ reach c bs
reach_position c [] = refl
reach_position c (b ∷ bs) =
    let h = reach_position c bs in
    elim (cases_Bool (eqb b c)) [ inl e ↦ rw e refl | inr e ↦ rw e (omega arith) ]

-- the place where the parts are cut, or none
pub cut_found : (c : ℕ) (bs : List ℕ) (n : ℕ) → position (λ b. eqb b c) bs ≡ Some n → Cut c bs (take n bs) (Some (drop (n + 1) bs))
cut_found c bs n p = go (ltb (reach c bs) (length bs)) refl (sym (ap (λ r. cond (ltb r (length bs)) (Some r) None) (reach_position c bs)) ∙ p)
  where
    go : (t : Bool) → ltb (reach c bs) (length bs) ≡ t → cond t (Some (reach c bs)) None ≡ Some n → Cut c bs (take n bs) (Some (drop (n + 1) bs))
    go true l e =
        let k : n ≡ reach c bs = cc in
        let h = ltb-true (reach c bs) (length bs) l in
        rw (k, add-one) (record { in_parts = parts_cut c bs h; in_all = simp (length-take, length-drop) (omega arith) })
    go false l e = absurd (let z : ◌≡◌ {A = ℕ} 0 1 = cc in omega arith)

pub cut_whole : (c : ℕ) (bs : List ℕ) → position (λ b. eqb b c) bs ≡ None → Cut c bs bs None
cut_whole c bs p = go (ltb (reach c bs) (length bs)) refl (sym (ap (λ r. cond (ltb r (length bs)) (Some r) None) (reach_position c bs)) ∙ p)
  where
    go : (t : Bool) → ltb (reach c bs) (length bs) ≡ t → cond t (Some (reach c bs)) None ≡ None → Cut c bs bs None
    go true l e = absurd (let z : ◌≡◌ {A = ℕ} 0 1 = cc in omega arith)
    go false l e =
        let h = ltb-false (reach c bs) (length bs) l in
        let k = reach_le c bs in
        record { in_parts = parts_last c bs (omega arith); in_all = omega arith }

-- a c stands among the bytes, as std finds it
pub holds_any : (c : ℕ) (bs : List ℕ) → list_any (λ b. eqb b c) bs ≡ holds c bs
holds_any c [] = sym (le-ltb 0 0 (omega arith))
holds_any c (b ∷ bs) =
    let h = holds_any c bs in
    elim (cases_Bool (eqb b c)) [ inl e ↦ rw e (sym (lt-ltb 0 (suc (length bs)) (omega arith))) | inr e ↦ rw e (h ∙ grind (arith, nat_tests)) ]

-- there is a part more than there are places to cut
pub parts_counted : (c : ℕ) (bs : List ℕ) → count_by (λ b. eqb b c) bs + 1 ≡ length (parts c bs)
parts_counted c bs = sym (length-slice_split (λ b. eqb b c) bs) ∙ ap length (parts_split c bs)
