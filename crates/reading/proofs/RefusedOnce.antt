-- At most one condition is the first that a text meets, and reading refuses by it.
use Rattle.std.proofs.Common.{◌≡◌, ℕ, ◌+◌, cond, eqb, ◌⊎◌, List, [], ◌∷◌, length, Ok, Err, Result, sym, refl, ap, ◌∙◌, inl, inr, arith}
use Rattle.std.proofs.lemmas.Bool.{cases_order}
use Rattle.kinds.specs.Kinds.{Kind, Of}
use Rattle.refusals.specs.Faults.{Finding}
use Rattle.reading.specs.Parts.{fields}
use Rattle.reading.specs.Refused.{finding, spread, NamesMeet, unknown, repeated, missing, unended_names, LineMeets, miscounted, no_figure, out_of_turn, past_the_last, may_not_enter, LinesMeet, ended, unended, Meets, twin_names, too_long, in_names, in_values, past_the_room, stage, turn, Sooner, standing, FirstMet, Judged}
use Rattle.reading.specs.Traces.{read_text}
use Rattle.reading.proofs.RefusedFacts.{reading_judged}

-- of two lists of one length one is sooner, unless they are equal
pub one_sooner : (xs ys : List ℕ) → length xs ≡ length ys → Sooner xs ys ⊎ ((xs ≡ ys) ⊎ Sooner ys xs)
one_sooner [] [] h = inr (inl refl)
one_sooner [] (y ∷ ys) h = absurd (omega arith)
one_sooner (x ∷ xs) [] h = absurd (omega arith)
one_sooner (x ∷ xs) (y ∷ ys) h =
    let more = one_sooner xs ys (omega arith) in
    elim (cases_order x y) [
      | inr l ↦ elim l [ inl k ↦ inl (inl k) | inr k ↦ inr (inr (inl k)) ]
      | inl e ↦
          elim more [
            | inl s ↦ inl (inr (e, s))
            | inr t ↦ elim t [ inl s ↦ inr (inl (ap (λ z. z ∷ xs) e ∙ ap (λ zs. y ∷ zs) s)) | inr s ↦ inr (inr (inr (sym e, s))) ]
          ]
    ]

-- the number that stands so
abbrev numbered : ℕ → ℕ → ℕ
numbered s t =
    cond (eqb s 3) (cond (eqb t 0) 12 (cond (eqb t 1) 11 (cond (eqb t 2) 13 (cond (eqb t 3) 1 2)))) (cond (eqb s 1) 9 (cond (eqb s 4) 8 10))

abbrev Numbered : Finding → Type 0
Numbered f = f.number ≡ numbered (stage f) (turn f.number)

names_numbered : (K : Kind) (names : List ℕ) (rest : List (List ℕ)) (f : Finding) → NamesMeet K names rest f → Numbered f
names_numbered K names rest f (unknown p k e) = rw e refl
names_numbered K names rest f (repeated p k e) = rw e refl
names_numbered K names rest f (missing n k m e) = rw e refl
names_numbered K names rest f (unended_names k e) = rw e refl

line_numbered : (K : Kind) (names values : List (List ℕ)) (day at : ℕ) (f : Finding) → LineMeets K names values day at f → Numbered f
line_numbered K names values day at f (miscounted c e) = rw e refl
line_numbered K names values day at f (no_figure q n e) = rw e refl
line_numbered K names values day at f (out_of_turn z n d e) = rw e refl
line_numbered K names values day at f (past_the_last l e) = rw e refl
line_numbered K names values day at f (may_not_enter x c b e) = rw e refl

lines_numbered : (K : Kind) (names : List (List ℕ)) (day at : ℕ) (values : List (List ℕ)) (f : Finding) → LinesMeet K names day at values f → Numbered f
lines_numbered K names day at values f (ended p n m) = line_numbered K names (fields p.part) (day + length p.before) (at + spread p.before) f m
lines_numbered K names day at values f (unended p z n e) = rw e refl

is_numbered : (K : Kind) (room : ℕ) (text : List ℕ) (f : Finding) → Meets K room text f → Numbered f
is_numbered K room text f (twin_names t e) = rw e refl
is_numbered K room text f (too_long t e) = rw e refl
is_numbered K room text f (in_names n r e m) = names_numbered K n r f m
is_numbered K room text f (in_values n r e m) = lines_numbered K (fields n) 1 (length n + 1) r f m
is_numbered K room text f (past_the_room n v last e t j) = rw j refl

-- findings that stand alike are one
pub stand_alike : (f g : Finding) → Numbered f → Numbered g → standing f ≡ standing g → f ≡ g
stand_alike f g p q e = go (stage f) (turn f.number) (stage g) (turn g.number) p q e
  where
    go : (s t s' t' : ℕ) → f.number ≡ numbered s t → g.number ≡ numbered s' t' → s ∷ f.line ∷ t ∷ f.byte ∷ [] ≡ s' ∷ g.line ∷ t' ∷ g.byte ∷ [] → f ≡ g
    go s t s' t' a b k =
        let i : s ≡ s' = cc in
        let j : t ≡ t' = cc in
        let l : f.line ≡ g.line = cc in
        let m : f.byte ≡ g.byte = cc in
        let n : f.number ≡ g.number = a ∙ (ap (λ (x : ℕ). numbered x t) i ∙ (ap (numbered s') j ∙ sym b)) in
        ap (λ (x : ℕ). finding x f.line f.byte) n ∙ (ap (λ (x : ℕ). finding g.number x f.byte) l ∙ ap (finding g.number g.line) m)

pub one_first : (K : Kind) (room : ℕ) (text : List ℕ) (f g : Finding) → FirstMet K room text f → FirstMet K room text g → f ≡ g
one_first K room text f g p q =
    elim (one_sooner (standing f) (standing g) refl) [
      | inl b ↦ absurd (q.first f p.met b)
      | inr r ↦ elim r [ inl e ↦ stand_alike f g (is_numbered K room text f p.met) (is_numbered K room text g q.met) e | inr b ↦ absurd (p.first g q.met b) ]
    ]

pub refused_so : (K : Kind) (room : ℕ) (text : List ℕ) (f : Finding) → FirstMet K room text f → read_text K room text ≡ Err f
refused_so K room text f p = go (read_text K room text) refl (reading_judged K room text)
  where
    go : (r : Result (List (Of K)) Finding) → read_text K room text ≡ r → Judged K room text r → read_text K room text ≡ Err f
    go (Ok xs) e j = absurd (j f p.met)
    go (Err g) e j = e ∙ ap Err (one_first K room text g f j p)
