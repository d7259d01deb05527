-- Figures and decimals: what is written of a number reads back, and what reads is what would be written.
use Rattle.std.proofs.Common.{◌≡◌, ℕ, zero, suc, ◌^◌, ◌<◌, ◌≤◌, Bool, true, false, cond, not, ◌&&◌, ◌||◌, eqb, leb, ◌⊎◌, List, [], ◌∷◌, length, get_or, ℤ, pos, negsuc, neg_ℤ, nat_abs, Some, None, decimal, sym, refl, ap, ◌∙◌, inl, inr, arith, rules}
use Rattle.std.proofs.lemmas.Fmt.{decimal_digit, digits_decimal, digits_value-decimal, length-decimal-le, decimal_nonempty, first_decimal, decimal-digits_value}
use Rattle.std.proofs.lemmas.Str.Parse.{IsNumeralModel, numerals_by_fold, digits_value_short}
use Rattle.std.proofs.lemmas.Bool.{cases_Bool, and_parts, and_from, or_left, or_right, or_cases, eqb-true, eqb-false, ne_eqb, eq-eqb, le-leb, leb-true, not-true, not_from_false, cases_lt}
use Rattle.std.specs.Fmt.{signed_decimal}
use Rattle.figures.specs.Laws.{FiguresAgree}
use Rattle.figures.specs.Bytes.{is_digit}
use Rattle.figures.specs.Figures.{digits, number_on, plain, figure}

-- our words for decimal digits and their number
pub own : IsNumeralModel (λ bs. digits bs ≡ true) (number_on 0)
own = numerals_by_fold _ (search rules) number_on (search rules)

pub plain_parts : (bs : List ℕ) → plain bs ≡ true → (digits bs ≡ true) × (1 ≤ length bs) × (length bs ≤ 18) × ((eqb (length bs) 1 || not (eqb (get_or bs 0 0) 48)) ≡ true)
plain_parts bs h =
    let a = and_parts (digits bs) _ h in
    let b = and_parts (leb 1 (length bs)) _ a.1 in
    let c = and_parts (leb (length bs) 18) _ b.1 in
    (a.0, leb-true 1 (length bs) b.0, leb-true (length bs) 18 c.0, c.1)

pub plain_from : (bs : List ℕ) → digits bs ≡ true → 1 ≤ length bs → length bs ≤ 18 → (eqb (length bs) 1 || not (eqb (get_or bs 0 0) 48)) ≡ true → plain bs ≡ true
plain_from bs a b c d =
    and_from (digits bs) _ a (and_from (leb 1 (length bs)) _ (le-leb 1 (length bs) b) (and_from (leb (length bs) 18) _ (le-leb (length bs) 18 c) d))

pub figure_plain : (bs : List ℕ) → plain bs ≡ true → figure bs ≡ Some (pos (number_on 0 bs))
figure_plain [] h = absurd (let p = plain_parts [] h in omega (arith, p.1))
figure_plain (b ∷ bs) h =
    let p = plain_parts (b ∷ bs) h in
    let d = and_parts (is_digit b) (digits bs) p.0 in
    let l = and_parts (leb 48 b) (leb b 57) d.0 in
    let least = leb-true 48 b l.0 in
    let e : eqb b 45 ≡ false = ne_eqb b 45 (omega arith) in
    rw (e, h) refl

pub figure_minus : (bs : List ℕ) → plain bs ≡ true → (get_or bs 0 0 ≡ 48 → ⊥) → figure (45 ∷ bs) ≡ Some (neg_ℤ (pos (number_on 0 bs)))
figure_minus bs h n =
    let e = ne_eqb (get_or bs 0 0) 48 n in
    rw (h, e) refl

pub plain_decimal : (n : ℕ) → n < 10 ^ 18 → plain (decimal n) ≡ true
plain_decimal n h =
    plain_from (decimal n) (digits_decimal own n (omega arith)) (decimal_nonempty n (omega arith)) (length-decimal-le 18 n (omega arith) h (omega arith))
    (go (cases_lt 0 n))
  where
    go : (0 < n) ⊎ (n ≤ 0) → (eqb (length (decimal n)) 1 || not (eqb (get_or (decimal n) 0 0) 48)) ≡ true
    go (inl some) = or_right _ _ (not_from_false _ (ne_eqb (get_or (decimal n) 0 0) 48 (let k = first_decimal n some (omega arith) in omega arith)))
    go (inr none) = or_left _ _ (eq-eqb (length (decimal n)) 1 (ap length (decimal_digit n (omega arith))))

-- what is written of a number of at most 18 digits reads back
pub figure_signed : (z : ℤ) → nat_abs z < 10 ^ 18 → figure (signed_decimal z) ≡ Some z
figure_signed (pos n) h = figure_plain (decimal n) (plain_decimal n h) ∙ ap (λ m. Some (pos m)) (digits_value-decimal own n (omega arith))
figure_signed (negsuc n) h =
    let k = first_decimal (suc n) (omega arith) (omega arith) in
    figure_minus (decimal (suc n)) (plain_decimal (suc n) h) (omega arith) ∙ ap (λ m. Some (neg_ℤ (pos m))) (digits_value-decimal own (suc n) (omega arith))

-- what reads is what would be written, and has at most 18 digits
pub decimal_plain : (bs : List ℕ) → plain bs ≡ true → (decimal (number_on 0 bs) ≡ bs) × (number_on 0 bs < 10 ^ 18)
decimal_plain bs h =
    let p = plain_parts bs h in
    let short = digits_value_short own bs 18 p.0 p.2 in
    (decimal-digits_value own bs p.0 p.1 (lone bs p.3) (omega arith), short)
  where
    lone : (ds : List ℕ) → (eqb (length ds) 1 || not (eqb (get_or ds 0 0) 48)) ≡ true → get_or ds 0 0 ≡ 48 → length ds ≡ 1
    lone ds t e = go (or_cases (eqb (length ds) 1) (not (eqb (get_or ds 0 0) 48)) t)
      where
        go : (eqb (length ds) 1 ≡ true) ⊎ (not (eqb (get_or ds 0 0) 48) ≡ true) → length ds ≡ 1
        go (inl a) = eqb-true (length ds) 1 a
        go (inr b) = absurd (eqb-false (get_or ds 0 0) 48 (not-true _ b) e)

pub first_zero : (bs : List ℕ) → plain bs ≡ true → number_on 0 bs ≡ 0 → get_or bs 0 0 ≡ 48
first_zero bs h e =
    let d = (decimal_plain bs h).0 in
    let k : decimal 0 ≡ bs = ap decimal (sym e) ∙ d in
    ap (λ ds. get_or ds 0 0) (sym k ∙ decimal_digit 0 (omega arith))

pub signed_negative : (bs : List ℕ) (n : ℕ) → n ≡ number_on 0 bs → plain bs ≡ true → (get_or bs 0 0 ≡ 48 → ⊥) → signed_decimal (neg_ℤ (pos n)) ≡ 45 ∷ bs
signed_negative bs zero e h f = absurd (f (first_zero bs h (sym e)))
signed_negative bs (suc n) e h f = ap (λ ds. 45 ∷ ds) (ap decimal e ∙ (decimal_plain bs h).0)

pub signed_figure : (bs : List ℕ) (z : ℤ) → figure bs ≡ Some z → signed_decimal z ≡ bs
signed_figure [] z e = absurd (let x : ◌≡◌ {A = ℕ} 0 1 = cc in omega arith)
signed_figure (b ∷ bs) z e = go (cases_Bool (eqb b 45))
  where
    minus : (t : Bool) → t ≡ (plain bs && not (eqb (get_or bs 0 0) 48)) → cond t (Some (neg_ℤ (pos (number_on 0 bs)))) None ≡ Some z → signed_decimal z ≡ 45 ∷ bs
    minus true t f =
        let p = and_parts (plain bs) (not (eqb (get_or bs 0 0) 48)) (sym t) in
        let k : neg_ℤ (pos (number_on 0 bs)) ≡ z = cc in
        ap signed_decimal (sym k) ∙ signed_negative bs (number_on 0 bs) refl p.0 (eqb-false (get_or bs 0 0) 48 (not-true _ p.1))
    minus false t f = absurd (let x : ◌≡◌ {A = ℕ} 0 1 = cc in omega arith)

    bare : (t : Bool) → t ≡ plain (b ∷ bs) → cond t (Some (pos (number_on 0 (b ∷ bs)))) None ≡ Some z → signed_decimal z ≡ b ∷ bs
    bare true t f = let k : pos (number_on 0 (b ∷ bs)) ≡ z = cc in ap signed_decimal (sym k) ∙ (decimal_plain (b ∷ bs) (sym t)).0
    bare false t f = absurd (let x : ◌≡◌ {A = ℕ} 0 1 = cc in omega arith)

    go : (eqb b 45 ≡ true) ⊎ (eqb b 45 ≡ false) → signed_decimal z ≡ b ∷ bs
    go (inl t) = minus (plain bs && not (eqb (get_or bs 0 0) 48)) refl (rw t at e) ∙ ap (λ c. c ∷ bs) (sym (eqb-true b 45 t))
    go (inr t) = bare (plain (b ∷ bs)) refl (rw t at e)

pub figure_few : (bs : List ℕ) (z : ℤ) → figure bs ≡ Some z → nat_abs z < 10 ^ 18
figure_few [] z e = absurd (let x : ◌≡◌ {A = ℕ} 0 1 = cc in omega arith)
figure_few (b ∷ bs) z e = go (cases_Bool (eqb b 45))
  where
    size : (n : ℕ) → nat_abs (neg_ℤ (pos n)) ≡ n
    size zero = refl
    size (suc n) = refl

    minus : (t : Bool) → t ≡ (plain bs && not (eqb (get_or bs 0 0) 48)) → cond t (Some (neg_ℤ (pos (number_on 0 bs)))) None ≡ Some z → nat_abs z < 10 ^ 18
    minus true t f =
        let p = and_parts (plain bs) (not (eqb (get_or bs 0 0) 48)) (sym t) in
        let k : neg_ℤ (pos (number_on 0 bs)) ≡ z = cc in
        let n = ap nat_abs (sym k) ∙ size (number_on 0 bs) in
        omega (arith, n, (decimal_plain bs p.0).1)
    minus false t f = absurd (let x : ◌≡◌ {A = ℕ} 0 1 = cc in omega arith)

    bare : (t : Bool) → t ≡ plain (b ∷ bs) → cond t (Some (pos (number_on 0 (b ∷ bs)))) None ≡ Some z → nat_abs z < 10 ^ 18
    bare true t f =
        let k : pos (number_on 0 (b ∷ bs)) ≡ z = cc in
        let n : nat_abs z ≡ number_on 0 (b ∷ bs) = ap nat_abs (sym k) in
        omega (arith, n, (decimal_plain (b ∷ bs) (sym t)).1)
    bare false t f = absurd (let x : ◌≡◌ {A = ℕ} 0 1 = cc in omega arith)

    go : (eqb b 45 ≡ true) ⊎ (eqb b 45 ≡ false) → nat_abs z < 10 ^ 18
    go (inl t) = minus (plain bs && not (eqb (get_or bs 0 0) 48)) refl (rw t at e)
    go (inr t) = bare (plain (b ∷ bs)) refl (rw t at e)

pub figures_agree : FiguresAgree
figures_agree = record { back = figure_signed; forth = signed_figure; few = figure_few }
