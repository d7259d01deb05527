-- What one row adds to a standing total, and the first rows together.
use Rattle.std.proofs.Common.{◌≡◌, ℕ, ◌+◌, true, false, ◌&&◌, ltb, leb, ◌⊎◌, List, [], ◌∷◌, get_or, Some, None, Option, refl, inl, inr, add-one}
use Rattle.kinds.specs.Columns.{Arity, one, two, Columns, nought, plus}
use Rattle.kinds.specs.Kinds.{Kind, Of}
use Rattle.shelves.specs.declared.row.Mark.{Mark}
use Rattle.shelves.specs.declared.row.Mark.TheVariants.{In, Out}
use Rattle.shelves.specs.Slots.{Entry, is_out, listed}
use Rattle.transform.specs.Pulses.{covers, standing}
use Rattle.transform.proofs.Group.{plus_nought}
use Rattle.transform.proofs.Sums.{standing_none, standing_append}
use Rattle.sheets.specs.Standing.{unlisted, pulse_of, stands_in, stand_in}

pub unlisted_listed : (a : Arity) (x : Columns a) → unlisted a (listed a x) ≡ x
unlisted_listed one x = refl
unlisted_listed two x = refl

module _ (K : Kind) (first width : ℕ) (x : Of K) (d : ℕ) where
  -- a pulse alone
  alone_covering : (leb first d && ltb d (first + width)) ≡ true → standing K (pulse_of K (record { first = first; width = width; out = false; columns = listed K.arity x }) ∷ []) d ≡ x
  unfolding standing covers
  alone_covering e = rw (e, plus_nought) (unlisted_listed K.arity x)

  alone_apart : (leb first d && ltb d (first + width)) ≡ false → standing K (pulse_of K (record { first = first; width = width; out = false; columns = listed K.arity x }) ∷ []) d ≡ nought K.arity
  unfolding standing covers
  alone_apart e = rw (e, plus_nought) refl

  pub row_adds : (m : Mark) → m ≡ In → (leb first d && ltb d (first + width)) ≡ true → standing K (stands_in K (Some (record { first = first; width = width; out = is_out m; columns = listed K.arity x }))) d ≡ x
  row_adds m e c = rw e (alone_covering c)

  pub row_adds_none : (m : Mark) → (m ≡ In → ⊥) ⊎ ((leb first d && ltb d (first + width)) ≡ false) → standing K (stands_in K (Some (record { first = first; width = width; out = is_out m; columns = listed K.arity x }))) d ≡ nought K.arity
  row_adds_none In (inl f) = absurd (f refl)
  row_adds_none In (inr f) = alone_apart f
  row_adds_none Out e = standing_none K d

-- one slot more
pub stand_more : (K : Kind) (k : ℕ) (slots : List (Option Entry)) (d : ℕ) → standing K (stand_in K (k + 1) slots) d ≡ plus K.arity (standing K (stand_in K k slots) d) (standing K (stands_in K (get_or slots k None)) d)
unfolding stand_in
stand_more K k slots d = rw add-one (standing_append K (stand_in K k slots) (stands_in K (get_or slots k None)) d)

pub stand_none : (K : Kind) (slots : List (Option Entry)) (d : ℕ) → standing K (stand_in K 0 slots) d ≡ nought K.arity
unfolding stand_in
stand_none K slots d = standing_none K d
