-- Lemmas on one of several parts, and on the leftmost that fails a test.
use Rattle.std.proofs.Common.{◌≡◌, ℕ, zero, suc, ◌+◌, ◌<◌, ◌≤◌, Bool, true, false, cond, ◌&&◌, ◌||◌, eqb, ◌⊎◌, List, [], ◌∷◌, ◌++◌, length, get_or, is_some, Some, None, Option, sym, refl, ap, ◌∙◌, subst, inl, inr, arith}
use Rattle.std.proofs.lemmas.Slice.Eq.{bytes_eq-Decides}
use Rattle.std.proofs.lemmas.Bool.{cases_Bool, both_ways, and_right, or_cases, or_left, or_right, eq-eqb, ne_eqb, false≢true}
use Rattle.std.specs.List.{ContainsAt as Has}
use Rattle.std.specs.Str.{bytes_eq}
use Rattle.std.specs.Option.{option_map}
use Rattle.reading.specs.Parts.{parts, longer, under, start_under}
use Rattle.reading.specs.Places.{placed, placed_under}
use Rattle.reading.specs.Refused.{spread, PartOf}
use Rattle.figures.specs.Figures.{figure}
use Rattle.reading.specs.Traces.{among, bad_name, malformed}
use Rattle.reading.proofs.PartFacts.{parts_some}

-- the first part, and a part behind it
abbrev pub front : (v : List ℕ) (vs : List (List ℕ)) → PartOf (v ∷ vs)
front v vs = record { before = []; part = v; after = vs; are = refl }

abbrev pub behind : (v : List ℕ) (vs : List (List ℕ)) → PartOf vs → PartOf (v ∷ vs)
behind v vs p = record { before = v ∷ p.before; part = p.part; after = p.after; are = ap (λ xs. v ∷ xs) p.are }

pub no_part : PartOf [] → ⊥
no_part p = go p.before p.are
  where
    go : (before : List (List ℕ)) → [] ≡ before ++ (p.part ∷ p.after) → ⊥
    go [] e = let z : ◌≡◌ {A = ℕ} 0 1 = cc in omega arith
    go (b ∷ bs) e = let z : ◌≡◌ {A = ℕ} 0 1 = cc in omega arith

-- every part is the first or one behind it
pub each_part : (v : List ℕ) (vs : List (List ℕ)) (Q : List (List ℕ) → List ℕ → List (List ℕ) → Type 0) → Q [] v vs → ((p : PartOf vs) → Q (v ∷ p.before) p.part p.after) → (p : PartOf (v ∷ vs)) → Q p.before p.part p.after
each_part v vs Q first rest p = go p.before p.are
  where
    go : (before : List (List ℕ)) → v ∷ vs ≡ before ++ (p.part ∷ p.after) → Q before p.part p.after
    go [] e =
        let k : v ≡ p.part = cc in
        let l : vs ≡ p.after = cc in
        subst (λ (y : List (List ℕ)). Q [] p.part y) l (subst (λ (x : List ℕ). Q [] x vs) k first)
    go (b ∷ bs) e =
        let k : v ≡ b = cc in
        let l : vs ≡ bs ++ (p.part ∷ p.after) = cc in
        subst (λ (x : List ℕ). Q (x ∷ bs) p.part p.after) k (rest (record { before = bs; part = p.part; after = p.after; are = l }))

pub spread_append : (xs ys : List (List ℕ)) → spread (xs ++ ys) ≡ spread xs + spread ys
spread_append [] ys = omega arith
spread_append (x ∷ xs) ys = let h = spread_append xs ys in omega arith

pub spread_parts : (c : ℕ) (bs : List ℕ) → spread (parts c bs) ≡ length bs + 1
spread_parts c [] = omega arith
spread_parts c (b ∷ bs) =
    let h = spread_parts c bs in
    elim (cases_Bool (eqb b c)) [ inl e ↦ rw e (omega arith) | inr e ↦ rw e (go (parts c bs) h (parts_some c bs)) ]
  where
    go : (ps : List (List ℕ)) → spread ps ≡ length bs + 1 → 0 < length ps → spread (longer b ps) ≡ suc (length bs) + 1
    go [] h l = absurd (omega arith)
    go (p ∷ ps) h l = omega arith

-- a part starts within the bytes
pub part_within : (c : ℕ) (bs : List ℕ) (p : PartOf (parts c bs)) → spread p.before ≤ length bs
part_within c bs p =
    let h : length bs + 1 ≡ spread p.before + spread (p.part ∷ p.after) = sym (spread_parts c bs) ∙ (ap spread p.are ∙ spread_append p.before (p.part ∷ p.after)) in
    omega arith

-- the byte of the leftmost part that fails a test of its byte and itself
abbrev pub leftmost : (ℕ → List ℕ → Bool) → ℕ → List (List ℕ) → Option ℕ
leftmost t at [] = None
leftmost t at (v ∷ vs) = cond (t at v) (leftmost t (at + length v + 1) vs) (Some at)

pub leftmost_none : (t : ℕ → List ℕ → Bool) (at : ℕ) (vs : List (List ℕ)) → leftmost t at vs ≡ None → (p : PartOf vs) → t (at + spread p.before) p.part ≡ true
leftmost_none t at [] h p = absurd (no_part p)
leftmost_none t at (v ∷ vs) h p = go (t at v) refl h (leftmost_none t (at + length v + 1) vs)
  where
    go : (r : Bool) → t at v ≡ r → cond r (leftmost t (at + length v + 1) vs) (Some at) ≡ None → (leftmost t (at + length v + 1) vs ≡ None → (q : PartOf vs) → t (at + length v + 1 + spread q.before) q.part ≡ true) → t (at + spread p.before) p.part ≡ true
    go true e k more =
        each_part v vs (λ b x a. t (at + spread b) x ≡ true)
        (let z : at + 0 ≡ at = omega arith in ap (λ n. t n v) z ∙ e)
        (λ q. let z : at + (length v + 1 + spread q.before) ≡ at + length v + 1 + spread q.before = omega arith in ap (λ n. t n q.part) z ∙ more k q)
        p
    go false e k more = absurd (let z : ◌≡◌ {A = ℕ} 0 1 = cc in omega arith)

pub record Leftmost (t : ℕ → List ℕ → Bool) (at : ℕ) (vs : List (List ℕ)) (byte : ℕ) : Type 0 where
  pub place : PartOf vs
  pub fails : t (at + spread place.before) place.part ≡ false
  pub byte_is : byte ≡ at + spread place.before
  pub least : (p : PartOf vs) → t (at + spread p.before) p.part ≡ false → byte ≤ at + spread p.before

pub leftmost_some : (t : ℕ → List ℕ → Bool) (at : ℕ) (vs : List (List ℕ)) (byte : ℕ) → leftmost t at vs ≡ Some byte → Leftmost t at vs byte
leftmost_some t at [] byte h = absurd (let z : ◌≡◌ {A = ℕ} 0 1 = cc in omega arith)
leftmost_some t at (v ∷ vs) byte h = go (t at v) refl h (leftmost_some t (at + length v + 1) vs byte)
  where
    first : at + 0 ≡ at
    first = omega arith

    next : (n : ℕ) → at + (length v + 1 + n) ≡ at + length v + 1 + n
    next n = omega arith

    go : (r : Bool) → t at v ≡ r → cond r (leftmost t (at + length v + 1) vs) (Some at) ≡ Some byte → (leftmost t (at + length v + 1) vs ≡ Some byte → Leftmost t (at + length v + 1) vs byte) → Leftmost t at (v ∷ vs) byte
    go true e k more =
        let m = more k in
        record {
          place = behind v vs m.place;
          fails = ap (λ n. t n m.place.part) (next (spread m.place.before)) ∙ m.fails;
          byte_is = m.byte_is ∙ sym (next (spread m.place.before));
          least =
              each_part v vs (λ b x a. t (at + spread b) x ≡ false → byte ≤ at + spread b)
              (λ f. absurd (both_ways (t at v) (sym (ap (λ n. t n v) first) ∙ f) e))
              (λ q f. let l = m.least q (sym (ap (λ n. t n q.part) (next (spread q.before))) ∙ f) in omega arith);
        }
    go false e k more =
        let same : at ≡ byte = cc in
        record {
          place = front v vs;
          fails = ap (λ n. t n v) first ∙ e;
          byte_is = sym same ∙ sym first;
          least = λ p f. omega arith;
        }

pub same_either_way : (a b : List ℕ) → bytes_eq a b ≡ bytes_eq b a
same_either_way a b =
    elim (cases_Bool (bytes_eq a b)) [
      | inl e ↦ e ∙ sym ((bytes_eq-Decides b a).1 (sym ((bytes_eq-Decides a b).0 e)))
      | inr e ↦ elim (cases_Bool (bytes_eq b a)) [
        | inl k ↦ absurd (both_ways (bytes_eq a b) e ((bytes_eq-Decides a b).1 (sym ((bytes_eq-Decides b a).0 k))))
        | inr k ↦ e ∙ sym k
      ]
    ]

-- a text is among the list where the list has it
pub among_has : (n : List ℕ) (ms : List (List ℕ)) → among n ms ≡ true → Has ms n
among_has n [] h = absurd (false≢true h)
among_has n (m ∷ ms) h =
    let more = among_has n ms in
    elim (or_cases (bytes_eq n m) (among n ms) h) [
      | inl e ↦ (0, omega arith, λ d. sym ((bytes_eq-Decides n m).0 e))
      | inr e ↦ let k = more e in (suc k.0, omega (arith, k.1), k.2)
    ]

pub has_among : (n : List ℕ) (ms : List (List ℕ)) → Has ms n → among n ms ≡ true
has_among n [] h = absurd (let l = h.1 in omega arith)
has_among n (m ∷ ms) h = go h.0 h.1 h.2 (has_among n ms)
  where
    go : (k : ℕ) → k < length (m ∷ ms) → ((d : List ℕ) → get_or (m ∷ ms) k d ≡ n) → (Has ms n → among n ms ≡ true) → (bytes_eq n m || among n ms) ≡ true
    go zero l e more = or_left (bytes_eq n m) (among n ms) ((bytes_eq-Decides n m).1 (sym (e [])))
    go (suc k) l e more = or_right (bytes_eq n m) (among n ms) (more (k, omega arith, e))

pub not_among : (n : List ℕ) (ms : List (List ℕ)) → among n ms ≡ false → Has ms n → ⊥
not_among n ms h k = both_ways (among n ms) h (has_among n ms k)

pub has_not : (n : List ℕ) (ms : List (List ℕ)) → (Has ms n → ⊥) → among n ms ≡ false
has_not n ms h = elim (cases_Bool (among n ms)) [ inl e ↦ absurd (h (among_has n ms e)) | inr e ↦ e ]

-- where a name first stands in its own line
pub starts_here : (at : ℕ) (n : List ℕ) (before after : List (List ℕ)) → among n before ≡ false → start_under at (before ++ (n ∷ after)) (before ++ (n ∷ after)) n ≡ at + spread before
starts_here at n [] after h = let e = (bytes_eq-Decides n n).1 refl in rw e (omega arith)
starts_here at n (b ∷ bs) after h =
    let more = starts_here (at + length b + 1) n bs after in
    elim (cases_Bool (bytes_eq n b)) [
      | inl e ↦ absurd (both_ways (among n (b ∷ bs)) h (or_left (bytes_eq n b) (among n bs) e))
      | inr e ↦
          let k : bytes_eq b n ≡ false = same_either_way b n ∙ e in
          let l : among n bs ≡ false = rw e at h in
          let m = more l in
          rw k (omega arith)
    ]

pub starts_earlier : (at : ℕ) (n : List ℕ) (before after : List (List ℕ)) → among n before ≡ true → start_under at (before ++ (n ∷ after)) (before ++ (n ∷ after)) n < at + spread before
starts_earlier at n [] after h = absurd (false≢true h)
starts_earlier at n (b ∷ bs) after h =
    let more = starts_earlier (at + length b + 1) n bs after in
    elim (cases_Bool (bytes_eq n b)) [
      | inl e ↦ let k : bytes_eq b n ≡ true = same_either_way b n ∙ e in rw k (omega arith)
      | inr e ↦
          let k : bytes_eq b n ≡ false = same_either_way b n ∙ e in
          let l : among n bs ≡ true = rw e at h in
          let m = more l in
          rw k (omega arith)
    ]

-- the value of a field that is told with its byte
pub value_under : (at : ℕ) (names values : List (List ℕ)) (name : List ℕ) → option_map (λ p. p.1) (placed_under at names values name) ≡ under names values name
value_under at [] values name = refl
value_under at (n ∷ names) [] name = refl
value_under at (n ∷ names) (v ∷ values) name =
    let more = value_under (at + length v + 1) names values name in
    elim (cases_Bool (bytes_eq n name)) [ inl e ↦ rw e refl | inr e ↦ rw e more ]

-- the same of names and values that are told with their bytes
abbrev pub pair_under : List (ℕ × List ℕ) → List (ℕ × List ℕ) → List ℕ → Option (ℕ × List ℕ)
pair_under [] values name = None
pair_under (n ∷ names) [] name = None
pair_under (n ∷ names) (v ∷ values) name = cond (bytes_eq n.1 name) (Some v) (pair_under names values name)

pub pair_placed : (from at : ℕ) (names values : List (List ℕ)) (name : List ℕ) → pair_under (placed from names) (placed at values) name ≡ placed_under at names values name
pair_placed from at [] values name = refl
pair_placed from at (n ∷ names) [] name = refl
pair_placed from at (n ∷ names) (v ∷ values) name =
    let more = pair_placed (from + length n + 1) (at + length v + 1) names values name in
    elim (cases_Bool (bytes_eq n name)) [ inl e ↦ rw e refl | inr e ↦ rw e more ]

pub pair_none : (xs ys : List (ℕ × List ℕ)) (name : List ℕ) (o : Option (ℕ × List ℕ)) → (xs ≡ []) ⊎ (ys ≡ []) → pair_under xs ys name ≡ o → None ≡ o
pair_none xs ys name o (inl e) h = rw e at h
pair_none [] ys name o (inr e) h = h
pair_none (x ∷ xs) ys name o (inr e) h = rw e at h

pub pair_step : (xs ys us vs : List (ℕ × List ℕ)) (n v : ℕ × List ℕ) (name : List ℕ) (o : Option (ℕ × List ℕ)) → xs ≡ n ∷ us → ys ≡ v ∷ vs → pair_under xs ys name ≡ o → cond (bytes_eq n.1 name) (Some v) (pair_under us vs name) ≡ o
pair_step xs ys us vs n v name o e f h = rw (e, f) at h

-- the byte of the value
abbrev pub start_in : ℕ → Option (ℕ × List ℕ) → ℕ
start_in at None = 0
start_in at (Some p) = at + p.0

pub start_placed : (at from : ℕ) (names values : List (List ℕ)) (name : List ℕ) → start_in at (placed_under from names values name) ≡ start_under (at + from) names values name
start_placed at from [] values name = refl
start_placed at from (n ∷ names) [] name = refl
start_placed at from (n ∷ names) (v ∷ values) name =
    let more = start_placed at (from + length v + 1) names values name in
    let e : at + (from + length v + 1) ≡ at + from + length v + 1 = omega arith in
    elim (cases_Bool (bytes_eq n name)) [ inl k ↦ rw k refl | inr k ↦ rw k (more ∙ ap (λ m. start_under m names values name) e) ]

pub start_found : (at : ℕ) (names values : List (List ℕ)) (name : List ℕ) → start_in at (placed_under 0 names values name) ≡ start_under at names values name
start_found at names values name =
    let e : at + 0 ≡ at = omega arith in
    start_placed at 0 names values name ∙ ap (λ m. start_under m names values name) e

-- it lies within the bytes
pub placed_within : (from : ℕ) (names values : List (List ℕ)) (name : List ℕ) (p : ℕ × List ℕ) → placed_under from names values name ≡ Some p → p.0 + 1 ≤ from + spread values
placed_within from [] values name p h = absurd (let z : ◌≡◌ {A = ℕ} 0 1 = cc in omega arith)
placed_within from (n ∷ names) [] name p h = absurd (let z : ◌≡◌ {A = ℕ} 0 1 = cc in omega arith)
placed_within from (n ∷ names) (v ∷ values) name p h = go (bytes_eq n name) h (placed_within (from + length v + 1) names values name p)
  where
    go : (t : Bool) → cond t (Some (from, v)) (placed_under (from + length v + 1) names values name) ≡ Some p → (placed_under (from + length v + 1) names values name ≡ Some p → p.0 + 1 ≤ from + length v + 1 + spread values) → p.0 + 1 ≤ from + spread (v ∷ values)
    go true k more = let e : 0 + from ≡ 0 + p.0 = ap (λ (q : Option (ℕ × List ℕ)). start_in 0 q) k in omega arith
    go false k more = let l = more k in omega arith

pub start_within : (names : List (List ℕ)) (values name : List ℕ) (p : ℕ × List ℕ) → placed_under 0 names (parts 44 values) name ≡ Some p → p.0 ≤ length values
start_within names values name p h =
    let l = placed_within 0 names (parts 44 values) name p h in
    let s = spread_parts 44 values in
    omega arith

pub under_among : (from : ℕ) (ns : List (List ℕ)) (name : List ℕ) → is_some (placed_under from ns ns name) ≡ among name ns
under_among from [] name = refl
under_among from (n ∷ ns) name =
    let more = under_among (from + length n + 1) ns name in
    rw (same_either_way name n) (elim (cases_Bool (bytes_eq n name)) [ inl e ↦ rw e refl | inr e ↦ rw e more ])

pub mapped_some : {A B : Type 0} (f : A → B) (o : Option A) → is_some o ≡ is_some (option_map f o)
mapped_some f None = refl
mapped_some f (Some a) = refl

-- the places of fields lie within their line
abbrev pub Within : ℕ → List (ℕ × List ℕ) → Type 0
Within most [] = Unit {0}
Within most (p ∷ ps) = (p.0 ≤ most) × Within most ps

all_within : (most at : ℕ) (ps : List (List ℕ)) → at + spread ps ≤ most + 1 → Within most (placed at ps)
all_within most at [] h = tt
all_within most at (p ∷ ps) h = (omega arith, all_within most (at + length p + 1) ps (omega arith))

pub fields_within : (line : List ℕ) → Within (length line) (placed 0 (parts 44 line))
fields_within line = let s = spread_parts 44 line in all_within (length line) 0 (parts 44 line) (omega arith)

-- the first of the placed fields that is no figure
abbrev pub malformed_in : ℕ → List (ℕ × List ℕ) → Option ℕ
malformed_in at [] = None
malformed_in at (p ∷ ps) = cond (is_some (figure p.1)) (malformed_in at ps) (Some (at + p.0))

pub malformed_placed : (at from : ℕ) (vs : List (List ℕ)) → malformed_in at (placed from vs) ≡ malformed (at + from) vs
malformed_placed at from [] = refl
malformed_placed at from (v ∷ vs) =
    let e : at + (from + length v + 1) ≡ at + from + length v + 1 = omega arith in
    ap (λ o. cond (is_some (figure v)) o (Some (at + from))) (malformed_placed at (from + length v + 1) vs ∙ ap (λ m. malformed m vs) e)

pub malformed_start : (at : ℕ) (vs : List (List ℕ)) → malformed_in at (placed 0 vs) ≡ malformed at vs
malformed_start at vs = let e : at + 0 ≡ at = omega arith in malformed_placed at 0 vs ∙ ap (λ m. malformed m vs) e

-- the first of the placed names that is unknown or not the first of its name
abbrev pub bad_in : List (List ℕ) → List (List ℕ) → List (ℕ × List ℕ) → Option ℕ
bad_in known line [] = None
bad_in known line (p ∷ ps) = cond (among p.1 known && eqb (start_under 0 line line p.1) p.0) (bad_in known line ps) (Some p.0)

pub bad_placed : (known line : List (List ℕ)) (from : ℕ) (ns : List (List ℕ)) → bad_in known line (placed from ns) ≡ bad_name known line from ns
bad_placed known line from [] = refl
bad_placed known line from (n ∷ ns) =
    ap (λ o. cond (among n known && eqb (start_under 0 line line n) from) o (Some from)) (bad_placed known line (from + length n + 1) ns)

module _ (known line : List (List ℕ)) (xs us : List (ℕ × List ℕ)) (p : ℕ × List ℕ) (o : Option ℕ) (e : xs ≡ p ∷ us) (h : bad_in known line xs ≡ o) where
  bad_first : cond (among p.1 known && eqb (start_under 0 line line p.1) p.0) (bad_in known line us) (Some p.0) ≡ o
  bad_first = rw e at h

  -- a name that is right, and one that is not
  pub bad_later : among p.1 known ≡ true → start_under 0 line line p.1 ≡ p.0 → bad_in known line us ≡ o
  bad_later a f = rw (a, eq-eqb (start_under 0 line line p.1) p.0 f) at bad_first

  pub bad_unknown : among p.1 known ≡ false → Some p.0 ≡ o
  bad_unknown a = rw a at bad_first

  pub bad_repeated : (start_under 0 line line p.1 ≡ p.0 → ⊥) → Some p.0 ≡ o
  bad_repeated n = rw (and_right (among p.1 known) (eqb (start_under 0 line line p.1) p.0) (ne_eqb (start_under 0 line line p.1) p.0 n)) at bad_first

pub bad_none : (known line : List (List ℕ)) (xs : List (ℕ × List ℕ)) (o : Option ℕ) → xs ≡ [] → bad_in known line xs ≡ o → None ≡ o
bad_none known line xs o e h = rw e at h

module _ (at : ℕ) (xs us : List (ℕ × List ℕ)) (p : ℕ × List ℕ) (o : Option ℕ) (e : xs ≡ p ∷ us) where
  malformed_first : malformed_in at xs ≡ o → cond (is_some (figure p.1)) (malformed_in at us) (Some (at + p.0)) ≡ o
  malformed_first h = rw e at h

  -- a field that is a figure, and one that is none
  pub malformed_later : malformed_in at xs ≡ o → is_some (figure p.1) ≡ true → malformed_in at us ≡ o
  malformed_later h f = let k = malformed_first h in rw f at k

  pub malformed_here : malformed_in at xs ≡ o → is_some (figure p.1) ≡ false → Some (at + p.0) ≡ o
  malformed_here h f = let k = malformed_first h in rw f at k

pub within_first : (most : ℕ) (xs us : List (ℕ × List ℕ)) (p : ℕ × List ℕ) → xs ≡ p ∷ us → Within most xs → (p.0 ≤ most) × Within most us
within_first most xs us p e h = rw e at h

pub malformed_none : (at : ℕ) (xs : List (ℕ × List ℕ)) (o : Option ℕ) → xs ≡ [] → malformed_in at xs ≡ o → None ≡ o
malformed_none at xs o e h = rw e at h
