-- Lemmas on records that are written.
use Rattle.std.proofs.Common.{◌≡◌, ℕ, ◌+◌, ◌<◌, ◌≤◌, List, ◌∷◌, ◌++◌, map, length, get_or, drop, Some, Ok, Err, Result, sym, ap, ◌∙◌}
use Rattle.std.proofs.lemmas.List.{length-append, drop_more}
use Rattle.std.specs.Result.{result_ok}
use Rattle.kinds.specs.Kinds.{Kind, Of}
use Rattle.reading.specs.Traces.{told}
use Rattle.writing.specs.Texts.{trace_values, trace_lines}
use Rattle.writer.specs.Values.{line, shown}
use Rattle.writer.specs.Written.{pasted, Moves}
use Rattle.writer.proofs.WrittenFacts.{pasted_append}

module _ {V : Type 0} (K : Kind) (columns : V → Of K) where
  pub one_day : (xs : List V) (i : ℕ) (x : V) → i < length xs → x ≡ get_or xs i x → map columns (drop i xs) ≡ columns x ∷ map columns (drop (i + 1) xs)
  one_day xs i x h e = ap (map columns) (drop_more xs i x h ∙ ap (λ y. y ∷ drop (i + 1) xs) (sym e))

  pub lines_of_day : (day : ℕ) (xs : List V) (i : ℕ) (x : V) → i < length xs → x ≡ get_or xs i x → trace_lines K day (map columns (drop i xs)) ≡ line shown (trace_values K day (columns x)) ++ trace_lines K (day + 1) (map columns (drop (i + 1) xs))
  lines_of_day day xs i x h e = ap (trace_lines K day) (one_day xs i x h e)

  pub length_of_day : (day : ℕ) (xs : List V) (i : ℕ) (x : V) → i < length xs → x ≡ get_or xs i x → length (trace_lines K day (map columns (drop i xs))) ≡ length (line shown (trace_values K day (columns x))) + length (trace_lines K (day + 1) (map columns (drop (i + 1) xs)))
  length_of_day day xs i x h e =
      ap length (lines_of_day day xs i x h e) ∙ length-append (line shown (trace_values K day (columns x))) (trace_lines K (day + 1) (map columns (drop (i + 1) xs)))

  pub pasted_day : (day : ℕ) (xs : List V) (i : ℕ) (x : V) (end next : ℕ) (out mid : List ℕ) → i < length xs → x ≡ get_or xs i x → end ≤ length out → next ≡ end + length (line shown (trace_values K day (columns x))) → mid ≡ pasted end (line shown (trace_values K day (columns x))) out → pasted next (trace_lines K (day + 1) (map columns (drop (i + 1) xs))) mid ≡ pasted end (trace_lines K day (map columns (drop i xs))) out
  pasted_day day xs i x end next out mid h e l n m =
      let this : List ℕ = line shown (trace_values K day (columns x)) in
      let rest : List ℕ = trace_lines K (day + 1) (map columns (drop (i + 1) xs)) in
      ap (λ p. pasted p rest mid) n ∙ (ap (pasted (end + length this) rest) m ∙ (pasted_append end this rest out l ∙ ap (λ bs. pasted end bs out) (sym (lines_of_day day xs i x h e))))

-- a text that went on has its bytes in the buffer
pub went_on : {X E : Type 0} (place : X → ℕ) (kept : E → ℕ) (at : ℕ) (bytes before after : List ℕ) (r : Result X E) (x : X) → Moves at bytes before after (told place kept r) → Some x ≡ result_ok r → (after ≡ pasted at bytes before) × (place x ≡ at + length bytes)
went_on place kept at bytes before after (Ok y) x m e = (m.0, ap place (the_same x y e) ∙ m.1)
  where
    the_same : {X : Type 0} (x y : X) → Some x ≡ Some y → x ≡ y
    the_same x y e = cc
went_on place kept at bytes before after (Err y) x m e = cc
