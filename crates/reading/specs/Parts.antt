-- Lines and fields: what stands between line feeds, and between commas.
use Rattle.std.specs.Prelude.{◌≡◌, ℕ, suc, ◌+◌, Bool, cond, ◌||◌, List, [], ◌∷◌, length, Some, None, Option, ◌==◌, nat_lt}
use Rattle.std.specs.Str.{bytes_eq}

-- a byte in front of the first part
abbrev pub longer : ℕ → List (List ℕ) → List (List ℕ)
longer b [] = (b ∷ []) ∷ []
longer b (p ∷ ps) = (b ∷ p) ∷ ps

-- the parts between the bytes c, at least one
abbrev pub parts : ℕ → List ℕ → List (List ℕ)
parts c [] = [] ∷ []
parts c (b ∷ bs) = cond (b == c) ([] ∷ parts c bs) (longer b (parts c bs))

-- how many bytes stand before the first c
abbrev pub reach : ℕ → List ℕ → ℕ
reach c [] = 0
reach c (b ∷ bs) = cond (b == c) 0 (suc (reach c bs))

-- the parts of what follows, if there is anything
abbrev pub rest_parts : ℕ → Option (List ℕ) → List (List ℕ)
rest_parts c None = []
rest_parts c (Some bs) = parts c bs

abbrev pub rest_length : Option (List ℕ) → ℕ
rest_length None = 0
rest_length (Some bs) = suc (length bs)

-- the bytes are cut at their first c, if they have one
pub record Cut (c : ℕ) (bs first : List ℕ) (rest : Option (List ℕ)) : Type 0 where
  pub in_parts : parts c bs ≡ first ∷ rest_parts c rest
  pub in_all : length bs ≡ length first + rest_length rest

-- a c stands among the bytes
abbrev pub holds : ℕ → List ℕ → Bool
holds c bs = nat_lt (reach c bs) (length bs)

-- the lines of a text, the last of them perhaps unended; the fields of a line
abbrev pub lines : List ℕ → List (List ℕ)
lines text = parts 10 text

abbrev pub fields : List ℕ → List (List ℕ)
fields line = parts 44 line

-- the value at the first place of the name
abbrev pub under : List (List ℕ) → List (List ℕ) → List ℕ → Option (List ℕ)
under [] values name = None
under (n ∷ names) [] name = None
under (n ∷ names) (v ∷ values) name = cond (bytes_eq n name) (Some v) (under names values name)

-- the byte at which that value starts, where the values line starts at byte `at`
abbrev pub start_under : ℕ → List (List ℕ) → List (List ℕ) → List ℕ → ℕ
start_under at [] values name = 0
start_under at (n ∷ names) [] name = 0
start_under at (n ∷ names) (v ∷ values) name = cond (bytes_eq n name) at (start_under (at + length v + 1) names values name)

-- the field of the values line that stands where the name first stands in the names line
abbrev pub field_under : List ℕ → List ℕ → List ℕ → Option (List ℕ)
field_under names values name =
    cond (holds 10 names || holds 10 values) None (under (fields names) (fields values) name)
