-- A refused text meets that condition and none before it; an accepted one meets none.
use Rattle.std.proofs.Common.{◌≡◌, ℕ, ◌+◌, ◌<◌, ◌≤◌, Bool, true, false, cond, not, ltb, ◌⊎◌, List, [], ◌∷◌, ◌++◌, length, Ok, Err, Result, sym, refl, ap, ◌∙◌, subst, inl, inr, arith}
use Rattle.std.proofs.lemmas.List.{length-append}
use Rattle.std.proofs.lemmas.Bool.{both_ways, ltb-true, ltb-false, false≢true}
use Rattle.kinds.specs.Kinds.{Kind, Of}
use Rattle.refusals.specs.declared.fault.FileFault.{FileFault}
use Rattle.reading.specs.Accepted.{LinesOf}
use Rattle.refusals.specs.Faults.{Finding, found}
use Rattle.figures.specs.Headings.{twins}
use Rattle.reading.specs.Parts.{lines, fields}
use Rattle.reading.specs.Refused.{finding, NamesMeet, LinesMeet, Meets, twin_names, too_long, in_names, in_values, past_the_room, stage, Before, FirstMet, Judged}
use Rattle.reading.specs.Traces.{refuse, then, told, none, check_names, read_lines, read_all, within_room, read_text, Reads}
use Rattle.reading.proofs.AcceptedFacts.{lines_accepted}
use Rattle.reading.proofs.PartFacts.{parts_some}
use Rattle.reading.proofs.OrderFacts.{not_itself}
use Rattle.reading.proofs.RefusedLines.{in_lines, lines_unmet, First-in-lines, lines_refused}
use Rattle.reading.proofs.RefusedNames.{in_names_line, names_pass, names_unmet, First-in-names, names_refused}

-- as many days as lines
pub as_many : (K : Kind) (names : List (List ℕ)) (day : ℕ) (ls : List (List ℕ)) (xs : List (Of K)) → LinesOf K names day ls xs → length xs ≡ length ls
as_many K names day [] [] h = refl
as_many K names day [] (x ∷ xs) h = absurd h
as_many K names day (l ∷ ls) [] h = absurd h
as_many K names day (l ∷ ls) (x ∷ xs) h = let k = as_many K names (day + 1) ls xs h.1 in omega arith

pub days_counted : (K : Kind) (names : List (List ℕ)) (at : ℕ) (rest : List (List ℕ)) (xs : List (Of K)) → 0 < length rest → read_lines K names 1 at rest ≡ Ok xs → length rest ≡ length xs + 1
days_counted K names at rest xs l h =
    let m = lines_accepted K names 1 at rest xs l h in
    let n = as_many K names 1 m.0 xs m.2 in
    let k : length rest ≡ length m.0 + 1 = ap length m.1 ∙ length-append m.0 ([] ∷ []) in
    omega arith

module _ (K : Kind) (room : ℕ) (text names : List ℕ) (rest : List (List ℕ)) (are : lines text ≡ names ∷ rest) where
  -- the text passes the tests before this stage
  pub record Clears (stages : ℕ) : Type 0 where
    pub no_twins : 0 < stages → twins K.arity K.names ≡ false
    pub in_size : 1 < stages → length text ≤ 40000
    pub names_right : 2 < stages → (g : Finding) → NamesMeet K names rest g → ⊥
    pub lines_right : 3 < stages → (g : Finding) → LinesMeet K (fields names) 1 (length names + 1) rest g → ⊥
    pub in_room : 4 < stages → length rest ≤ room + 1

  -- what the names line and the lines of values meet, and how many lines of values are ended
  in_these_names : (g : Finding) (names' : List ℕ) (rest' : List (List ℕ)) → lines text ≡ names' ∷ rest' → NamesMeet K names' rest' g → NamesMeet K names rest g
  in_these_names g names' rest' e m =
      let n : names' ≡ names = cc in
      let r : rest' ≡ rest = cc in
      subst (λ (x : List (List ℕ)). NamesMeet K names x g) r (subst (λ (x : List ℕ). NamesMeet K x rest' g) n m)

  in_these_lines : (g : Finding) (names' : List ℕ) (rest' : List (List ℕ)) → lines text ≡ names' ∷ rest' → LinesMeet K (fields names') 1 (length names' + 1) rest' g → LinesMeet K (fields names) 1 (length names + 1) rest g
  in_these_lines g names' rest' e m =
      let n : names' ≡ names = cc in
      let r : rest' ≡ rest = cc in
      subst (λ (x : List (List ℕ)). LinesMeet K (fields names) 1 (length names + 1) x g) r (subst (λ (x : List ℕ). LinesMeet K (fields x) 1 (length x + 1) rest' g) n m)

  lines_behind : (names' : List ℕ) (values : List (List ℕ)) (last : List ℕ) → lines text ≡ names' ∷ (values ++ (last ∷ [])) → length rest ≡ length values + 1
  lines_behind names' values last e =
      let r : rest ≡ values ++ (last ∷ []) = cc in
      ap length r ∙ length-append values (last ∷ [])

  -- then it meets no condition before this stage
  pub clear : (stages : ℕ) → Clears stages → (g : Finding) → Meets K room text g → stage g < stages → ⊥
  clear stages c g (twin_names t e) l =
      let k : 0 < stages = subst (λ (x : Finding). stage x < stages) e l in
      both_ways (twins K.arity K.names) (c.no_twins k) t
  clear stages c g (too_long t e) l =
      let k : 1 < stages = subst (λ (x : Finding). stage x < stages) e l in
      let s = c.in_size k in
      omega arith
  clear stages c g (in_names n r e m) l =
      let these = in_these_names g n r e m in
      let s = in_names_line K names rest g these in
      c.names_right (omega arith) g these
  clear stages c g (in_values n r e m) l =
      let these = in_these_lines g n r e m in
      let s = in_lines K (fields names) 1 (length names + 1) rest g these in
      c.lines_right (omega (arith, s.0)) g these
  clear stages c g (past_the_room n v last e t j) l =
      let k : 4 < stages = subst (λ (x : Finding). stage x < stages) j l in
      let s = c.in_room k in
      let i = lines_behind n v last e in
      omega arith

  -- a finding comes first in its stage
  pub record Leads (f : Finding) : Type 0 where
    pub twin : stage f ≡ 0 → f ≡ finding 10 0 0
    pub size : stage f ≡ 1 → f ≡ finding 9 0 0
    pub among_names : stage f ≡ 2 → (g : Finding) → NamesMeet K names rest g → Before g f → ⊥
    pub among_lines : stage f ≡ 3 → (g : Finding) → LinesMeet K (fields names) 1 (length names + 1) rest g → Before g f → ⊥
    pub of_room : stage f ≡ 4 → f ≡ finding 8 0 0

  leads : (f : Finding) → Leads f → (g : Finding) → Meets K room text g → stage g ≡ stage f → Before g f → ⊥
  leads f d g (twin_names t e) s b =
      let k : ◌≡◌ {A = ℕ} 0 (stage f) = sym (ap stage e) ∙ s in
      not_itself g f (e ∙ sym (d.twin (sym k))) b
  leads f d g (too_long t e) s b =
      let k : ◌≡◌ {A = ℕ} 1 (stage f) = sym (ap stage e) ∙ s in
      not_itself g f (e ∙ sym (d.size (sym k))) b
  leads f d g (in_names n r e m) s b =
      let these = in_these_names g n r e m in
      d.among_names (sym s ∙ in_names_line K names rest g these) g these b
  leads f d g (in_values n r e m) s b =
      let these = in_these_lines g n r e m in
      d.among_lines (sym s ∙ (in_lines K (fields names) 1 (length names + 1) rest g these).0) g these b
  leads f d g (past_the_room n v last e t j) s b =
      let k : ◌≡◌ {A = ℕ} 4 (stage f) = sym (ap stage j) ∙ s in
      not_itself g f (j ∙ sym (d.of_room (sym k))) b

  first_of_all : (f : Finding) → Clears (stage f) → Leads f → (g : Finding) → Meets K room text g → Before g f → ⊥
  first_of_all f c d g m b = elim b [ inl l ↦ clear (stage f) c g m l | inr p ↦ leads f d g m p.0 (inr p) ]

  never : {P : Type 0} (a b : ℕ) → b ≤ a → a < b → P
  never a b l h = absurd (omega arith)

  other : {P : Type 0} (a b : ℕ) → (a < b) ⊎ (b < a) → a ≡ b → P
  other a b l h = absurd (elim l [ inl k ↦ omega arith | inr k ↦ omega arith ])

  pub twins_first : twins K.arity K.names ≡ true → FirstMet K room text (finding 10 0 0)
  twins_first t =
      record {
        met = twin_names t refl;
        first =
            first_of_all (finding 10 0 0)
            (record { no_twins = never 0 0 (omega arith); in_size = never 1 0 (omega arith); names_right = never 2 0 (omega arith); lines_right = never 3 0 (omega arith); in_room = never 4 0 (omega arith) })
            (record { twin = λ _. refl; size = other 0 1 (inl (omega arith)); among_names = other 0 2 (inl (omega arith)); among_lines = other 0 3 (inl (omega arith)); of_room = other 0 4 (inl (omega arith)) });
      }

  pub size_first : twins K.arity K.names ≡ false → 40000 < length text → FirstMet K room text (finding 9 0 0)
  size_first t s =
      record {
        met = too_long s refl;
        first =
            first_of_all (finding 9 0 0)
            (record { no_twins = λ _. t; in_size = never 1 1 (omega arith); names_right = never 2 1 (omega arith); lines_right = never 3 1 (omega arith); in_room = never 4 1 (omega arith) })
            (record { twin = other 1 0 (inr (omega arith)); size = λ _. refl; among_names = other 1 2 (inl (omega arith)); among_lines = other 1 3 (inl (omega arith)); of_room = other 1 4 (inl (omega arith)) });
      }

  pub names_first : (f : Finding) → twins K.arity K.names ≡ false → length text ≤ 40000 → First-in-names K names rest f → FirstMet K room text f
  names_first f t s d =
      let k = in_names_line K names rest f d.met in
      record {
        met = in_names names rest are d.met;
        first =
            first_of_all f
            (record { no_twins = λ _. t; in_size = λ _. s; names_right = never 2 (stage f) (omega arith); lines_right = never 3 (stage f) (omega arith); in_room = never 4 (stage f) (omega arith) })
            (record { twin = other (stage f) 0 (inr (omega arith)); size = other (stage f) 1 (inr (omega arith)); among_names = λ _. d.first; among_lines = other (stage f) 3 (inl (omega arith)); of_room = other (stage f) 4 (inl (omega arith)) });
      }

  pub lines_first : (f : Finding) → twins K.arity K.names ≡ false → length text ≤ 40000 → ((g : Finding) → NamesMeet K names rest g → ⊥) → First-in-lines K (fields names) 1 (length names + 1) rest f → FirstMet K room text f
  lines_first f t s n d =
      let k = (in_lines K (fields names) 1 (length names + 1) rest f d.met).0 in
      record {
        met = in_values names rest are d.met;
        first =
            first_of_all f
            (record { no_twins = λ _. t; in_size = λ _. s; names_right = λ _. n; lines_right = never 3 (stage f) (omega arith); in_room = never 4 (stage f) (omega arith) })
            (record { twin = other (stage f) 0 (inr (omega arith)); size = other (stage f) 1 (inr (omega arith)); among_names = other (stage f) 2 (inr (omega arith)); among_lines = λ _. d.first; of_room = other (stage f) 4 (inl (omega arith)) });
      }

  pub room_first : twins K.arity K.names ≡ false → length text ≤ 40000 → ((g : Finding) → NamesMeet K names rest g → ⊥) → ((g : Finding) → LinesMeet K (fields names) 1 (length names + 1) rest g → ⊥) → (values : List (List ℕ)) → rest ≡ values ++ ([] ∷ []) → room < length values → FirstMet K room text (finding 8 0 0)
  room_first t s n l values e r =
      record {
        met = past_the_room names values [] (are ∙ ap (λ (x : List (List ℕ)). names ∷ x) e) r refl;
        first =
            first_of_all (finding 8 0 0)
            (record { no_twins = λ _. t; in_size = λ _. s; names_right = λ _. n; lines_right = λ _. l; in_room = never 4 4 (omega arith) })
            (record { twin = other 4 0 (inr (omega arith)); size = other 4 1 (inr (omega arith)); among_names = other 4 2 (inr (omega arith)); among_lines = other 4 3 (inr (omega arith)); of_room = λ _. refl });
      }

  stage_small : (g : Finding) → Meets K room text g → stage g < 5
  stage_small g (twin_names t e) = rw e (omega arith)
  stage_small g (too_long t e) = rw e (omega arith)
  stage_small g (in_names n r e m) = let s = in_names_line K n r g m in omega arith
  stage_small g (in_values n r e m) = let s = (in_lines K (fields n) 1 (length n + 1) r g m).0 in omega arith
  stage_small g (past_the_room n v last e t j) = rw j (omega arith)

  pub none_met : twins K.arity K.names ≡ false → length text ≤ 40000 → ((g : Finding) → NamesMeet K names rest g → ⊥) → ((g : Finding) → LinesMeet K (fields names) 1 (length names + 1) rest g → ⊥) → length rest ≤ room + 1 → (g : Finding) → Meets K room text g → ⊥
  none_met t s n l r g m =
      clear 5 (record { no_twins = λ _. t; in_size = λ _. s; names_right = λ _. n; lines_right = λ _. l; in_room = λ _. r }) g m (stage_small g m)

  -- the judgement of each answer, from the last test up
  judged_room : (xs : List (Of K)) → twins K.arity K.names ≡ false → length text ≤ 40000 → (x : Unit {0}) → check_names K names (not (none rest)) ≡ Ok x → read_lines K (fields names) 1 (length names + 1) rest ≡ Ok xs → (t : Bool) → ltb room (length xs) ≡ t → Judged {X = List (Of K)} K room text (cond t (refuse 8 0 0) (Ok xs))
  judged_room xs t s x n h r e = go r e (some_behind rest (names_pass K names rest x n).1)
    where
      some_behind : (ps : List (List ℕ)) → not (none ps) ≡ true → 0 < length ps
      some_behind [] k = absurd (false≢true k)
      some_behind (p ∷ ps) k = omega arith

      go : (u : Bool) → ltb room (length xs) ≡ u → 0 < length rest → Judged {X = List (Of K)} K room text (cond u (refuse 8 0 0) (Ok xs))
      go true k l =
          let m = lines_accepted K (fields names) 1 (length names + 1) rest xs l h in
          let c = as_many K (fields names) 1 m.0 xs m.2 in
          let j = ltb-true room (length xs) k in
          room_first t s (names_unmet K names rest x n) (lines_unmet K (fields names) 1 (length names + 1) rest xs h) m.0 m.1 (omega arith)
      go false k l =
          let c = days_counted K (fields names) (length names + 1) rest xs l h in
          let j = ltb-false room (length xs) k in
          none_met t s (names_unmet K names rest x n) (lines_unmet K (fields names) 1 (length names + 1) rest xs h) (omega arith)

  judged_lines : twins K.arity K.names ≡ false → length text ≤ 40000 → (x : Unit {0}) → check_names K names (not (none rest)) ≡ Ok x → (r : Result (List (Of K)) Finding) → read_lines K (fields names) 1 (length names + 1) rest ≡ r → Judged K room text (within_room room r)
  judged_lines t s x n (Ok xs) h = judged_room xs t s x n h (ltb room (length xs)) refl
  judged_lines t s x n (Err f) h = lines_first f t s (names_unmet K names rest x n) (lines_refused K (fields names) 1 (length names + 1) rest f (names_pass K names rest x n).2 h)

  judged_names : twins K.arity K.names ≡ false → length text ≤ 40000 → (r : Result (Unit {0}) Finding) → check_names K names (not (none rest)) ≡ r → Judged {X = List (Of K)} K room text (within_room room (then r (read_lines K (fields names) 1 (length names + 1) rest)))
  judged_names t s (Ok x) h = judged_lines t s x h (read_lines K (fields names) 1 (length names + 1) rest) refl
  judged_names t s (Err f) h = names_first f t s (names_refused K names rest f h)

  judged_size : twins K.arity K.names ≡ false → (t : Bool) → ltb 40000 (length text) ≡ t → Judged {X = List (Of K)} K room text (cond t (refuse 9 0 0) (within_room room (read_all K (names ∷ rest))))
  judged_size t true e = size_first t (ltb-true 40000 (length text) e)
  judged_size t false e = judged_names t (ltb-false 40000 (length text) e) (check_names K names (not (none rest))) refl

  pub judged_text : (t : Bool) → twins K.arity K.names ≡ t → Judged {X = List (Of K)} K room text (cond t (refuse 10 0 0) (cond (ltb 40000 (length text)) (refuse 9 0 0) (within_room room (read_all K (names ∷ rest)))))
  judged_text true e = twins_first e
  judged_text false e = judged_size e (ltb 40000 (length text)) refl

pub reading_judged : (K : Kind) (room : ℕ) (text : List ℕ) → Judged K room text (read_text K room text)
reading_judged K room text = go (lines text) refl (parts_some 10 text)
  where
    go : (ps : List (List ℕ)) → lines text ≡ ps → 0 < length ps → Judged {X = List (Of K)} K room text (cond (twins K.arity K.names) (refuse 10 0 0) (cond (ltb 40000 (length text)) (refuse 9 0 0) (within_room room (read_all K ps))))
    go [] e l = absurd (omega arith)
    go (names ∷ rest) e l = judged_text K room text names rest e (twins K.arity K.names) refl

-- a refusal is the first condition that is met, and so is one that a call answers
pub reading_refused : (K : Kind) (room : ℕ) (text : List ℕ) (f : Finding) → read_text K room text ≡ Err f → FirstMet K room text f
reading_refused K room text f h =
    subst (λ (x : Result (List (Of K)) Finding). Judged K room text x) h (reading_judged K room text)

pub reads_judged : {V : Type 0} (K : Kind) (columns : V → Of K) (room : ℕ) (text : List ℕ) (before after : List V) (r : Result ℕ FileFault) → Reads K columns before after (read_text K room text) r → Judged K room text (told (λ n. n) found r)
reads_judged K columns room text before after (Ok days) h =
    subst (λ (x : Result (List (Of K)) Finding). Judged K room text x) h.0 (reading_judged K room text)
reads_judged K columns room text before after (Err fault) h = reading_refused K room text (found fault) h.0
