-- An accepted text has the lines that it should have.
use Rattle.std.proofs.Common.{◌≡◌, ℕ, ◌+◌, ◌<◌, Bool, true, false, cond, ◌&&◌, eqb, ltb, List, [], ◌∷◌, ◌++◌, length, ℤ, pos, negsuc, is_some, Some, None, Ok, Err, Option, Result, sym, refl, ap, ◌∙◌, subst, arith}
use Rattle.std.proofs.lemmas.Bool.{and_parts, eqb-true, ltb-false, false≢true}
use Rattle.kinds.specs.Columns.{within}
use Rattle.kinds.specs.Kinds.{Kind, Of}
use Rattle.figures.specs.declared.heading.Heading.TheVariants.{Day}
use Rattle.reading.specs.Accepted.{AllFigures, LineOf, LinesOf, TextOf}
use Rattle.refusals.specs.Faults.{Finding}
use Rattle.figures.specs.Figures.{figure}
use Rattle.figures.specs.Headings.{letters, twins}
use Rattle.reading.specs.Parts.{lines, fields}
use Rattle.reading.specs.Traces.{then, unless_at, malformed, number_under, is_day, columns_under, check_line, read_line, none, push, read_lines, trace_names, bad_name, all_among, check_names, read_all, read_text, within_room}
use Rattle.reading.proofs.PartFacts.{parts_some}

pub never : {X : Type 0} {E : Type 0} (e : E) (x : X) → Err e ≡ Ok x → ⊥
never e x h = let z : ◌≡◌ {A = ℕ} 0 1 = cc in omega arith

-- what an accepted answer says of its parts
pub then_ok : {X Y : Type 0} (a : Result X Finding) (b : Result Y Finding) (y : Y) → then a b ≡ Ok y → ((x : X) × (a ≡ Ok x)) × (b ≡ Ok y)
then_ok (Ok x) b y h = ((x, refl), h)
then_ok (Err e) b y h = absurd (never e y h)

pub cond_ok : {X E : Type 0} (t : Bool) (a : Result X E) (e : E) (x : X) → cond t a (Err e) ≡ Ok x → (t ≡ true) × (a ≡ Ok x)
cond_ok true a e x h = (refl, h)
cond_ok false a e x h = absurd (never e x h)

pub cond_not_ok : {X E : Type 0} (t : Bool) (a : Result X E) (e : E) (x : X) → cond t (Err e) a ≡ Ok x → (t ≡ false) × (a ≡ Ok x)
cond_not_ok true a e x h = absurd (never e x h)
cond_not_ok false a e x h = (refl, h)

pub unless_ok : {X : Type 0} (number line : ℕ) (o : Option ℕ) (r : Result X Finding) (x : X) → unless_at number line o r ≡ Ok x → (o ≡ None) × (r ≡ Ok x)
unless_ok number line None r x h = (refl, h)
unless_ok number line (Some byte) r x h = absurd (never (record { number = number; line = line; byte = byte }) x h)

pub push_ok : {X : Type 0} (a : Result X Finding) (b : Result (List X) Finding) (zs : List X) → push a b ≡ Ok zs → (x : X) × (xs : List X) × (a ≡ Ok x) × (b ≡ Ok xs) × (x ∷ xs ≡ zs)
push_ok (Ok x) (Ok xs) zs h = (x, xs, refl, refl, cc)
push_ok (Ok x) (Err e) zs h = absurd (never e zs h)
push_ok (Err e) b zs h = absurd (never e zs h)

pub figures_all : (at : ℕ) (vs : List (List ℕ)) → malformed at vs ≡ None → AllFigures vs
figures_all at [] h = tt
figures_all at (v ∷ vs) h = go (is_some (figure v)) refl h (figures_all (at + length v + 1) vs)
  where
    go : (t : Bool) → t ≡ is_some (figure v) → cond t (malformed (at + length v + 1) vs) (Some at) ≡ None → (malformed (at + length v + 1) vs ≡ None → AllFigures vs) → (is_some (figure v) ≡ true) × AllFigures vs
    go true e k more = (sym e, more k)
    go false e k more = absurd (let z : ◌≡◌ {A = ℕ} 0 1 = cc in omega arith)

pub day_is : (day : ℕ) (z : ℤ) → is_day day z ≡ true → z ≡ pos day
day_is day (pos n) h = ap pos (eqb-true n day h)
day_is day (negsuc n) h = absurd (false≢true h)

pub line_accepted : (K : Kind) (names values : List (List ℕ)) (day at : ℕ) (x : Of K) → read_line K names day at values ≡ Ok x → LineOf K names values day x
line_accepted K names values day at x h =
    let p = then_ok (check_line names day at values) _ x h in
    let c = cond_ok (eqb (length values) (length names)) _ _ p.0.0 p.0.1 in
    let f = unless_ok 11 (day + 1) (malformed at values) _ p.0.0 c.1 in
    let d = cond_ok (is_day day (number_under names values (letters Day))) _ _ p.0.0 f.1 in
    let l = cond_not_ok (ltb 1000 day) _ _ p.0.0 d.1 in
    let e = cond_ok (K.has (columns_under K.arity K.names names values) && within K.arity K.bound (columns_under K.arity K.names names values)) (Ok (columns_under K.arity K.names names values)) _ x p.1 in
    let w = and_parts (K.has (columns_under K.arity K.names names values)) _ e.0 in
    let same : columns_under K.arity K.names names values ≡ x = cc e.1 in
    record {
      count = eqb-true (length values) (length names) c.0;
      figures = figures_all at values f.0;
      day_is = day_is day (number_under names values (letters Day)) d.0;
      in_time = ltb-false 1000 day l.0;
      total_is = same;
      may_enter = subst (λ (y : Of K). within K.arity K.bound y ≡ true) same w.1;
    }

pub none_empty : {X : Type 0} (xs : List X) → none xs ≡ true → xs ≡ []
none_empty [] h = refl
none_empty (x ∷ xs) h = absurd (false≢true h)

pub lines_accepted : (K : Kind) (names : List (List ℕ)) (day at : ℕ) (ps : List (List ℕ)) (xs : List (Of K)) → 0 < length ps → read_lines K names day at ps ≡ Ok xs → (values : List (List ℕ)) × (ps ≡ values ++ ([] ∷ [])) × LinesOf K names day values xs
lines_accepted K names day at [] xs l h = absurd (omega arith)
lines_accepted K names day at (p ∷ []) xs l h =
    let c = cond_ok (none p) (Ok []) _ xs h in
    let e : [] ≡ xs = cc c.1 in
    ([], ap (λ q. q ∷ []) (none_empty p c.0), subst (λ (ys : List (Of K)). LinesOf K names day [] ys) e tt)
lines_accepted K names day at (p ∷ q ∷ qs) xs l h =
    let u = push_ok (read_line K names day at (fields p)) (read_lines K names (day + 1) (at + (length p + 1)) (q ∷ qs)) xs h in
    let m = lines_accepted K names (day + 1) (at + (length p + 1)) (q ∷ qs) u.1 (omega arith) u.3 in (
      p ∷ m.0,
      ap (λ rs. p ∷ rs) m.1,
      subst (λ (ys : List (Of K)). LinesOf K names day (p ∷ m.0) ys) u.4 (line_accepted K names (fields p) day at u.0 u.2, m.2),
    )

pub text_accepted : (K : Kind) (text : List ℕ) (xs : List (Of K)) → read_all K (lines text) ≡ Ok xs → TextOf K text xs
text_accepted K text xs h = go (lines text) refl h (parts_some 10 text)
  where
    go : (ps : List (List ℕ)) → ps ≡ lines text → read_all K ps ≡ Ok xs → 0 < length ps → TextOf K text xs
    go [] e k l = absurd (omega arith)
    go (names ∷ []) e k l =
        let p = then_ok (check_names K names false) _ xs k in
        let f = unless_ok 10 1 (bad_name (trace_names K) (fields names) 0 (fields names)) _ p.0.0 p.0.1 in
        absurd (never _ _ f.1)
    go (names ∷ q ∷ qs) e k l =
        let p = then_ok (check_names K names true) _ xs k in
        let f = unless_ok 10 1 (bad_name (trace_names K) (fields names) 0 (fields names)) _ p.0.0 p.0.1 in
        let c = cond_ok (all_among (trace_names K) (fields names)) _ _ p.0.0 f.1 in
        let m = lines_accepted K (fields names) 1 (length names + 1) (q ∷ qs) xs (omega arith) p.1 in
        record {
          names = names;
          values = m.0;
          lines_are = sym e ∙ ap (λ rs. names ∷ rs) m.1;
          known = f.0;
          complete = c.0;
          lines_of = m.2;
        }

pub room_accepted : {X : Type 0} (room : ℕ) (r : Result (List X) Finding) (xs : List X) → within_room room r ≡ Ok xs → r ≡ Ok xs
room_accepted room (Ok ys) xs h = (cond_not_ok (ltb room (length ys)) (Ok ys) _ xs h).1
room_accepted room (Err e) xs h = h

pub reading_accepted : (K : Kind) (room : ℕ) (text : List ℕ) (xs : List (Of K)) → read_text K room text ≡ Ok xs → TextOf K text xs
reading_accepted K room text xs h =
    let p = cond_not_ok (twins K.arity K.names) _ _ xs h in
    let q = cond_not_ok (ltb 40000 (length text)) _ _ xs p.1 in
    text_accepted K text xs (room_accepted room (read_all K (lines text)) xs q.1)
