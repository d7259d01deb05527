-- Lemmas on the numbers under names.
use Rattle.std.proofs.Common.{◌≡◌, ℕ, true, false, List, [], ◌∷◌, map, length, ℤ, is_some, Some, None, Option, sym, refl, ap, ◌∙◌, subst, inl, inr, arith}
use Rattle.std.proofs.lemmas.Bool.{cases_Bool, and_parts, false≢true}
use Rattle.std.specs.Str.{bytes_eq}
use Rattle.kinds.specs.Columns.{Arity, one, two, Each, Columns}
use Rattle.kinds.specs.declared.name.Name.{Name}
use Rattle.kinds.specs.Kinds.{Kind}
use Rattle.figures.specs.declared.heading.Heading.TheVariants.{Day}
use Rattle.reading.specs.Accepted.{AllFigures}
use Rattle.figures.specs.Figures.{figure}
use Rattle.figures.specs.Headings.{letters, heading, column_headings}
use Rattle.reading.specs.Parts.{under}
use Rattle.reading.specs.Refused.{FigureUnder, FiguresUnder}
use Rattle.reading.specs.Traces.{among, all_among, trace_names, number_or_0, number_of, number_under, columns_under}
use Rattle.reading.proofs.PlaceFacts.{same_either_way}

-- the number under a name
pub number_is : (names values : List (List ℕ)) (name : List ℕ) (z : ℤ) → FigureUnder names values name z → number_under names values name ≡ z
number_is names values name z n = ap number_of n.is_under ∙ ap number_or_0 n.is_figure

pub some_is : {X : Type 0} (o : Option X) → is_some o ≡ true → (x : X) × (o ≡ Some x)
some_is None h = absurd (false≢true h)
some_is (Some x) h = (x, refl)

pub field_stands : (names values : List (List ℕ)) (name : List ℕ) → among name names ≡ true → length values ≡ length names → AllFigures values → (v : List ℕ) × (under names values name ≡ Some v) × (is_some (figure v) ≡ true)
field_stands [] values name a l h = absurd (false≢true a)
field_stands (n ∷ names) [] name a l h = absurd (omega arith)
field_stands (n ∷ names) (v ∷ values) name a l h =
    let more = field_stands names values name in
    elim (cases_Bool (bytes_eq name n)) [
      | inl e ↦ let k : bytes_eq n name ≡ true = same_either_way n name ∙ e in (v, rw k refl, h.0)
      | inr e ↦
          let k : bytes_eq n name ≡ false = same_either_way n name ∙ e in
          let b : among name names ≡ true = rw e at a in
          let m = more b (omega arith) h.1 in
          (m.0, rw k m.1, m.2)
    ]

pub number_stands : (names values : List (List ℕ)) (name : List ℕ) → among name names ≡ true → length values ≡ length names → AllFigures values → FigureUnder names values name (number_under names values name)
number_stands names values name a l h =
    let v = field_stands names values name a l h in
    let z = some_is (figure v.0) v.2 in
    let n : FigureUnder names values name z.0 = record { field = v.0; is_under = v.1; is_figure = z.1 } in
    subst (λ (y : ℤ). FigureUnder names values name y) (sym (number_is names values name z.0 n)) n

-- the columns under their names
pub columns_are : (a : Arity) (n : Each a Name) (names values : List (List ℕ)) (x : Columns a) → FiguresUnder a n names values x → columns_under a n names values ≡ x
columns_are one n names values x c = number_is names values (letters (heading n)) x c
columns_are two n names values x c =
    let p = number_is names values (letters (heading n.0)) x.0 c.0 in
    let q = number_is names values (letters (heading n.1)) x.1 c.1 in
    ap (λ (y : ℤ). (y, number_under names values (letters (heading n.1)))) p ∙ ap (λ (y : ℤ). (x.0, y)) q

-- the names of the columns, and `day`, stand among the names
pub all_stand : (K : Kind) (names values : List (List ℕ)) → all_among (trace_names K) names ≡ true → length values ≡ length names → AllFigures values → FigureUnder names values (letters Day) (number_under names values (letters Day)) × FiguresUnder K.arity K.names names values (columns_under K.arity K.names names values)
all_stand K names values a l h = go K.arity K.names (and_parts (among (letters Day) names) _ a)
  where
    go : (b : Arity) (n : Each b Name) → (among (letters Day) names ≡ true) × (all_among (map letters (column_headings b n)) names ≡ true) → FigureUnder names values (letters Day) (number_under names values (letters Day)) × FiguresUnder b n names values (columns_under b n names values)
    go one n p =
        let q = and_parts (among (letters (heading n)) names) _ p.1 in
        (number_stands names values (letters Day) p.0 l h, number_stands names values (letters (heading n)) q.0 l h)
    go two n p =
        let q = and_parts (among (letters (heading n.0)) names) _ p.1 in
        let r = and_parts (among (letters (heading n.1)) names) _ q.1 in (
          number_stands names values (letters Day) p.0 l h,
          (number_stands names values (letters (heading n.0)) q.0 l h, number_stands names values (letters (heading n.1)) r.0 l h),
        )
