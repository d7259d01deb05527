-- Every line and every field stands in its text at the byte where it is said to start.
use Rattle.std.proofs.Common.{◌≡◌, ℕ, suc, false, eqb, List, [], ◌∷◌, ◌++◌, length, sym, refl, ap, ◌∙◌, inl, inr, arith}
use Rattle.std.proofs.lemmas.List.{append-nil, append_assoc, length-append}
use Rattle.std.proofs.lemmas.Bool.{cases_Bool, ltb-false, le-ltb}
use Rattle.std.specs.List.{AllByRecursion, join_with_byte}
use Rattle.std.proofs.lemmas.List.Splits.{join_with_byte-slice_split}
use Rattle.reading.specs.Parts.{parts, longer, reach, holds}
use Rattle.reading.specs.Refused.{spread, PartOf, Stands}
use Rattle.reading.proofs.PartFacts.{parts_split}
use Rattle.reading.proofs.PlaceFacts.{no_part, each_part}

pub joined_parts : (c : ℕ) (bs : List ℕ) → join_with_byte c (parts c bs) ≡ bs
joined_parts c bs = sym (ap (join_with_byte c) (parts_split c bs)) ∙ join_with_byte-slice_split c bs

stand_joined : (c : ℕ) (before : List (List ℕ)) (part : List ℕ) (after : List (List ℕ)) → (front : List ℕ) × (back : List ℕ) × (join_with_byte c (before ++ (part ∷ after)) ≡ front ++ (part ++ back)) × (length front ≡ spread before)
stand_joined c [] part [] = ([], [], sym (append-nil part), refl)
stand_joined c [] part (q ∷ qs) = ([], c ∷ join_with_byte c (q ∷ qs), refl, refl)
stand_joined c (b ∷ []) part after =
    let m = stand_joined c [] part after in
    let l = m.3 in (
      b ++ (c ∷ m.0),
      m.1,
      ap (λ xs. b ++ (c ∷ xs)) m.2 ∙ sym (append_assoc b (c ∷ m.0) (part ++ m.1)),
      length-append b (c ∷ m.0) ∙ omega arith,
    )
stand_joined c (b ∷ d ∷ ds) part after =
    let m = stand_joined c (d ∷ ds) part after in
    let l = m.3 in (
      b ++ (c ∷ m.0),
      m.1,
      ap (λ xs. b ++ (c ∷ xs)) m.2 ∙ sym (append_assoc b (c ∷ m.0) (part ++ m.1)),
      length-append b (c ∷ m.0) ∙ omega arith,
    )

-- no part holds a c
parts_alone : (c : ℕ) (bs : List ℕ) → AllByRecursion (λ p. holds c p ≡ false) (parts c bs)
parts_alone c [] = (le-ltb 0 0 (omega arith), tt)
parts_alone c (b ∷ bs) =
    let h = parts_alone c bs in
    elim (cases_Bool (eqb b c)) [ inl e ↦ rw e (le-ltb 0 0 (omega arith), h) | inr e ↦ rw e (more (parts c bs) e h) ]
  where
    one_more : (p : List ℕ) → eqb b c ≡ false → holds c p ≡ false → holds c (b ∷ p) ≡ false
    one_more p e h = rw e (let l = ltb-false (reach c p) (length p) h in le-ltb (suc (reach c p)) (suc (length p)) (omega arith))

    more : (ps : List (List ℕ)) → eqb b c ≡ false → AllByRecursion (λ p. holds c p ≡ false) ps → AllByRecursion (λ p. holds c p ≡ false) (longer b ps)
    more [] e h = (one_more [] e (le-ltb 0 0 (omega arith)), tt)
    more (p ∷ ps) e h = (one_more p e h.0, h.1)

of_all : (P : List ℕ → Type 0) (vs : List (List ℕ)) → AllByRecursion P vs → (p : PartOf vs) → P p.part
of_all P [] h p = absurd (no_part p)
of_all P (v ∷ vs) h p = each_part v vs (λ b x a. P x) h.0 (of_all P vs h.1) p

pub part_stands : (c : ℕ) (bytes : List ℕ) (p : PartOf (parts c bytes)) → Stands c bytes p
part_stands c bytes p =
    let m = stand_joined c p.before p.part p.after in
    record {
      front = m.0;
      back = m.1;
      bytes_are = sym (joined_parts c bytes) ∙ (ap (join_with_byte c) p.are ∙ m.2);
      start = m.3;
      alone = of_all (λ x. holds c x ≡ false) (parts c bytes) (parts_alone c bytes) p;
    }
