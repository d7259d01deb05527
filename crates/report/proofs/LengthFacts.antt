-- How long lines, pulse texts and reports are.
use Rattle.std.proofs.Common.{◌≡◌, ℕ, suc, ◌+◌, ◌*◌, ◌^◌, ◌≤◌, Bool, true, List, [], ◌∷◌, ◌++◌, map, length, ℤ, pos, negsuc, decimal, refl, arith}
use Rattle.std.specs.List.{AllByRecursion}
use Rattle.std.specs.Fmt.{signed_decimal}
use Rattle.std.proofs.lemmas.List.{length-append}
use Rattle.std.proofs.lemmas.Fmt.{length-decimal-le}
use Rattle.std.proofs.lemmas.Bool.{ltb-true}
use Rattle.kinds.specs.Columns.{Arity, one, two, Columns, fits64, within}
use Rattle.kinds.specs.Columns.{All as EachColumn}
use Rattle.kinds.specs.Kinds.{Kind, Lawful}
use Rattle.transform.specs.Windows.{Record}
use Rattle.transform.specs.Pulses.{Pulse, pulses}
use Rattle.transform.proofs.Counts.{pulses_few}
use Rattle.transform.proofs.Endings.{pulses_within}
use Rattle.transform.proofs.Ranges.{in_range}
use Rattle.shelves.specs.declared.row.Mark.{Mark}
use Rattle.shelves.specs.declared.row.Mark.TheVariants.{In, Out}
use Rattle.writer.specs.declared.value.Value.TheVariants.{Amount, Word as word}
use Rattle.figures.specs.Headings.{first, second, if_any}
use Rattle.writing.specs.Texts.{pulse_values}
use Rattle.writer.specs.Values.{spelled, shown, behind, written}
use Rattle.report.specs.PulseTexts.{state, pulse_line, pulse_lines}

-- the bytes of some fields, with one behind each
abbrev pub widths : {X : Type 0} → (X → List ℕ) → List X → ℕ
widths bytes [] = 0
widths bytes (x ∷ xs) = length (bytes x) + 1 + widths bytes xs

pub written_length : {X : Type 0} (bytes : X → List ℕ) (xs : List X) → length (written bytes xs) ≡ widths bytes xs
written_length bytes [] = refl
written_length bytes (x ∷ xs) =
    let h = written_length bytes xs in
    omega (arith, length-append (bytes x) (behind xs ∷ written bytes xs))

pub few_digits : (n : ℕ) → n ≤ 1000 → length (decimal n) ≤ 4
few_digits n h = length-decimal-le 4 n (omega arith) (omega arith) (omega arith)

signed_short : (z : ℤ) → fits64 z ≡ true → length (signed_decimal z) ≤ 20
signed_short (pos n) h =
    let l = ltb-true n (2 ^ 63) h in
    let d = length-decimal-le 19 n (omega arith) (omega arith) (omega arith) in
    omega arith
signed_short (negsuc n) h =
    let l = ltb-true n (2 ^ 63) h in
    let d = length-decimal-le 19 (suc n) (omega arith) (omega arith) (omega arith) in
    omega arith

spelled_short : (w : Mark) → length (spelled w) ≤ 3
spelled_short In = omega arith
spelled_short Out = omega arith

columns_short : (a : Arity) (x : Columns a) (w : Mark) → EachColumn a (λ v. fits64 v ≡ true) x → widths shown (map Amount (first a x ∷ if_any (second a x)) ++ word w ∷ []) ≤ 46
columns_short one x w f = omega (arith, signed_short x f, spelled_short w)
columns_short two x w f = omega (arith, signed_short x.0 f.0, signed_short x.1 f.1, spelled_short w)

module _ (K : Kind) (O : Lawful K) where
  -- a pulse of a record of at most 1,000 days
  abbrev Slim : Pulse K → Type 0
  Slim p = (p.first ≤ 1000) × (p.width ≤ 1000) × (K.has p.amount ≡ true)

  line_short : (n : ℕ) (p : Pulse K) (out : Bool) → n ≤ 1000 → Slim p → length (pulse_line K n p out) ≤ 61
  unfolding pulse_values
  line_short n p out h s =
      omega (
        arith,
        written_length shown (pulse_values K n p.width p.first p.amount (state out)),
        few_digits n h,
        few_digits p.width s.1,
        few_digits p.first s.0,
        columns_short K.arity p.amount (state out) (O.fitting p.amount s.2),
      )

  lines_short : (out : Pulse K → Bool) (n : ℕ) (ps : List (Pulse K)) → n + length ps ≤ 1001 → AllByRecursion Slim ps → length (pulse_lines K out n ps) ≤ 61 * length ps
  unfolding pulse_lines
  lines_short out n [] h a = omega arith
  lines_short out n (p ∷ ps) h a =
      let l = line_short n p (out p) (omega arith) a.0 in
      let m = lines_short out (suc n) ps (omega arith) a.1 in
      omega (arith, length-append (pulse_line K n p (out p)) (pulse_lines K out (suc n) ps))

  all_slim : (ps : List (Pulse K)) (days : ℕ) → days ≤ 1000 → AllByRecursion (λ p. (1 ≤ p.first) × (1 ≤ p.width) × (p.first + p.width ≤ days + 1)) ps → AllByRecursion (λ p. K.has p.amount ≡ true) ps → AllByRecursion Slim ps
  all_slim [] days l a b = tt
  all_slim (p ∷ ps) days l a b = ((omega (arith, a.0.0, a.0.1, a.0.2), omega (arith, a.0.0, a.0.1, a.0.2), b.0), all_slim ps days l a.1 b.1)

  pub pulses_short : (out : Pulse K → Bool) (xs : Record K) → length xs ≤ 1000 → AllByRecursion (λ x. within K.arity K.bound x ≡ true) xs → length (pulse_lines K out 1 (pulses K xs)) ≤ 61000
  pulses_short out xs l w =
      let few = pulses_few K O xs in
      let s = all_slim (pulses K xs) (length xs) l (pulses_within K O xs) (in_range K O xs l w).0 in
      let m = lines_short out 1 (pulses K xs) (omega arith) s in
      omega arith
