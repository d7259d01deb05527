-- Lemmas on the pulse text of a sheet.
use Rattle.std.proofs.Common.{◌≡◌, ℕ, zero, suc, ◌+◌, ◌-◌, ◌<◌, ◌≤◌, Bool, List, [], ◌∷◌, ◌++◌, length, get_or, slice_index_or, take, Some, None, Ok, Err, Option, Result, sym, refl, ap, ◌∙◌, subst, add-one, arith}
use Rattle.std.proofs.lemmas.List.{append-nil, append_assoc, length-append, length-take-le, take_more, take_all}
use Rattle.kinds.specs.Columns.{Arity, one, two, Columns, nought}
use Rattle.kinds.specs.Kinds.{Kind, Of}
use Rattle.shelves.specs.Slots.{Entry, listed, is_out}
use Rattle.transform.specs.Pulses.{Pulse, pulses}
use Rattle.sheets.specs.declared.questions.ListedPulse.{ListedPulse}
use Rattle.sheets.specs.declared.sheet.Stop.{Stop}
use Rattle.sheets.specs.declared.sheet.Stop.TheVariants.{Refused, Unreachable}
use Rattle.sheets.specs.Takes.{State}
use Rattle.sheets.specs.History.{Calls, Shows, Strays, row}
use Rattle.sheets.specs.Standing.{unlisted}
use Rattle.sheets.specs.Questions.{row_listed}
use Rattle.shelves.specs.declared.row.Mark.{Mark}
use Rattle.shelves.specs.declared.row.Mark.TheVariants.{In, Out}
use Rattle.figures.specs.Headings.{letters}
use Rattle.writing.specs.Texts.{pulse_names, pulse_values}
use Rattle.writer.specs.Values.{line, shown}
use Rattle.writer.specs.Written.{pasted}
use Rattle.writer.proofs.WrittenFacts.{pasted_none, pasted_append}
use Rattle.report.specs.PulseTexts.{CutShort, Stopped, state, pulse_line, pulse_lines, row_line, slot_line, row_lines, sheet_text, TextWritten, TextTold, RoomLeft, PartWritten}

pub unlisted_listed : (a : Arity) (x : Columns a) → unlisted a (listed a x) ≡ x
unlisted_listed one x = refl
unlisted_listed two x = refl

marked : (m : Mark) → state (is_out m) ≡ m
marked In = refl
marked Out = refl

-- the line of a listed pulse
pub listed_line : {V : Type 0} (K : Kind) (columns : V → Of K) (slots : List (Option Entry)) (n : ℕ) (p : ListedPulse V) → slice_index_or slots (n - 1) None ≡ Some (row_listed K columns p) →
    slot_line K slots n ≡ line shown (pulse_values K n p.stretch.width p.stretch.first (columns p.amount) p.mark)
listed_line K columns slots n p l =
    ap (row_line K n) l
    ∙ (ap (λ x. line shown (pulse_values K n p.stretch.width p.stretch.first x (state (is_out p.mark)))) (unlisted_listed K.arity (columns p.amount))
    ∙ ap (λ v. line shown (pulse_values K n p.stretch.width p.stretch.first (columns p.amount) v)) (marked p.mark))

-- bytes of which none are written
pub cut_none : (at : ℕ) (bytes out : List ℕ) → CutShort at bytes out out
cut_none at bytes out = record { part = []; rest = bytes; whole = refl; written = sym (pasted_none at out) }

-- bytes cut short behind others that are written
pub cut_more : (start at : ℕ) (a b c before now after : List ℕ) → start ≤ length before → now ≡ pasted start a before → at ≡ start + length a → CutShort at b now after → CutShort start (a ++ (b ++ c)) before after
cut_more start at a b c before now after l e f k = record {
  part = a ++ k.part;
  rest = k.rest ++ c;
  whole = ap (λ z. a ++ (z ++ c)) k.whole ∙ (ap (λ z. a ++ z) (append_assoc k.part k.rest c) ∙ sym (append_assoc a k.part (k.rest ++ c)));
  written = k.written ∙ (ap (λ n. pasted n k.part now) f ∙ (ap (pasted (start + length a) k.part) e ∙ pasted_append start a k.part before l));
}

-- the lines of the first slots
pub rows_none : (K : Kind) (slots : List (Option Entry)) → row_lines K 0 slots ≡ []
unfolding row_lines
rows_none K slots = refl

pub rows_more : (K : Kind) (slots : List (Option Entry)) (i : ℕ) → row_lines K (i + 1) slots ≡ row_lines K i slots ++ slot_line K slots (i + 1)
unfolding row_lines
rows_more K slots i = rw add-one refl

pub rows_longer : (K : Kind) (slots : List (Option Entry)) (i : ℕ) → length (row_lines K (i + 1) slots) ≡ length (row_lines K i slots) + length (slot_line K slots (i + 1))
rows_longer K slots i = ap length (rows_more K slots i) ∙ length-append (row_lines K i slots) (slot_line K slots (i + 1))

-- the same for the line of a number, that of a slot counted from 1
pub rows_to : (K : Kind) (slots : List (Option Entry)) (n : ℕ) → 1 ≤ n → row_lines K n slots ≡ row_lines K (n - 1) slots ++ slot_line K slots n
rows_to K slots n p =
    let e : n ≡ (n - 1) + 1 = omega arith in
    ap (λ i. row_lines K i slots) e ∙ (rows_more K slots (n - 1) ∙ ap (λ i. row_lines K (n - 1) slots ++ slot_line K slots i) (sym e))

pub rows_next : (K : Kind) (slots : List (Option Entry)) (n : ℕ) → 1 ≤ n → length (row_lines K n slots) ≡ length (row_lines K (n - 1) slots) + length (slot_line K slots n)
rows_next K slots n p = ap length (rows_to K slots n p) ∙ length-append (row_lines K (n - 1) slots) (slot_line K slots n)

pub rows_grow : (K : Kind) (slots : List (Option Entry)) (i j : ℕ) → length (row_lines K i slots) ≤ length (row_lines K (i + j) slots)
rows_grow K slots i zero = let e : length (row_lines K i slots) ≡ length (row_lines K (i + 0) slots) = ap (λ n. length (row_lines K n slots)) (omega arith) in omega arith
rows_grow K slots i (suc j) =
    let h = rows_grow K slots i j in
    let l = rows_longer K slots (i + j) in
    let e : length (row_lines K (i + suc j) slots) ≡ length (row_lines K (i + j + 1) slots) = ap (λ n. length (row_lines K n slots)) (omega arith) in
    omega arith

pub rows_within : (K : Kind) (slots : List (Option Entry)) (i n : ℕ) → i ≤ n → length (row_lines K i slots) ≤ length (row_lines K n slots)
rows_within K slots i n h =
    let g = rows_grow K slots i (n - i) in
    let e : length (row_lines K (i + (n - i)) slots) ≡ length (row_lines K n slots) = ap (λ m. length (row_lines K m slots)) (omega arith) in
    omega arith

-- what follows the lines of the first slots
rows_rest : (K : Kind) (slots : List (Option Entry)) (i j : ℕ) → (rest : List ℕ) × (row_lines K (i + j) slots ≡ row_lines K i slots ++ rest)
rows_rest K slots i zero = ([], ap (λ n. row_lines K n slots) (omega arith) ∙ sym (append-nil (row_lines K i slots)))
rows_rest K slots i (suc j) =
    let (rest, e) = rows_rest K slots i j in
    let m : i + suc j ≡ (i + j) + 1 = omega arith in
    (rest ++ slot_line K slots ((i + j) + 1), ap (λ n. row_lines K n slots) m ∙ (rows_more K slots (i + j) ∙ (ap (λ z. z ++ slot_line K slots ((i + j) + 1)) e ∙ append_assoc (row_lines K i slots) rest (slot_line K slots ((i + j) + 1)))))

-- lines that stop at a number, behind those that are written
pub lines_stop : (K : Kind) (s : State) (n start at : ℕ) (before now after : List ℕ) (stop : Stop) → 1 ≤ n → n ≤ s.count → start ≤ length before →
    now ≡ pasted start (row_lines K (n - 1) s.slots) before → at ≡ start + length (row_lines K (n - 1) s.slots) →
    PartWritten K s at (slot_line K s.slots n) now after (Err stop) → Stopped at (slot_line K s.slots n) now after (Err stop) →
    PartWritten K s start (row_lines K s.count s.slots) before after (Err stop) × Stopped start (row_lines K s.count s.slots) before after (Err stop)
lines_stop K s n start at before now after (Refused r) p h l e f w k = absurd w
lines_stop K s n start at before now after Unreachable p h l e f u k =
    let (rest, q) = rows_rest K s.slots n (s.count - n) in
    let m : n + (s.count - n) ≡ s.count = omega arith in
    let whole : row_lines K (n - 1) s.slots ++ (slot_line K s.slots n ++ rest) ≡ row_lines K s.count s.slots =
    sym (append_assoc (row_lines K (n - 1) s.slots) (slot_line K s.slots n) rest) ∙ (ap (λ z. z ++ rest) (sym (rows_to K s.slots n p)) ∙ (sym q ∙ ap (λ i. row_lines K i s.slots) m)) in
    (u, subst (λ bytes. CutShort start bytes before after) whole (cut_more start at (row_lines K (n - 1) s.slots) (slot_line K s.slots n) rest before now after l e f k))

-- the same behind the names line
pub whole_stop : (K : Kind) (s : State) (start at : ℕ) (before now after : List ℕ) (stop : Stop) → start ≡ 0 →
    now ≡ pasted start (line letters (pulse_names K)) before → at ≡ start + length (line letters (pulse_names K)) →
    PartWritten K s at (row_lines K s.count s.slots) now after (Err stop) → Stopped at (row_lines K s.count s.slots) now after (Err stop) →
    PartWritten K s 0 (sheet_text K s) before after (Err stop) × Stopped 0 (sheet_text K s) before after (Err stop)
whole_stop K s start at before now after (Refused r) z e f w k = absurd w
whole_stop K s start at before now after Unreachable z e f u k = (
  u,
  subst (λ bytes. CutShort 0 bytes before after) (ap (λ b. line letters (pulse_names K) ++ b) (append-nil (row_lines K s.count s.slots)))
      (cut_more 0 at (line letters (pulse_names K)) (row_lines K s.count s.slots) [] before now after (omega arith) (e ∙ ap (λ n. pasted n (line letters (pulse_names K)) before) z) (omega arith) k),
)

-- a number whose line has no room, or is not there
pub rows_stop : (K : Kind) (s : State) (n room left : ℕ) (stop : Stop) → 1 ≤ n → n ≤ s.count → room ≡ length (row_lines K (n - 1) s.slots) + left →
    RoomLeft K s (length (slot_line K s.slots n)) left (Err stop) → RoomLeft K s (length (row_lines K s.count s.slots)) room (Err stop)
rows_stop K s n room left (Refused r) p h e (t, l) =
    let m = rows_next K s.slots n p in
    let w = rows_within K s.slots n s.count h in
    (t, omega arith)
rows_stop K s n room left Unreachable p h e u = u

-- one line more is written
pub write_more : (K : Kind) (slots : List (Option Entry)) (n start at end : ℕ) (before now after : List ℕ) → 1 ≤ n → start ≤ length before →
    now ≡ pasted start (row_lines K (n - 1) slots) before → at ≡ start + length (row_lines K (n - 1) slots) →
    after ≡ pasted at (slot_line K slots n) now → end ≡ at + length (slot_line K slots n) →
    (after ≡ pasted start (row_lines K n slots) before) × (end ≡ start + length (row_lines K n slots))
write_more K slots n start at end before now after p l a b c d = (
  c ∙ (ap (λ i. pasted i (slot_line K slots n) now) b
      ∙ (ap (pasted (start + length (row_lines K (n - 1) slots)) (slot_line K slots n)) a
      ∙ (pasted_append start (row_lines K (n - 1) slots) (slot_line K slots n) before l
      ∙ ap (λ bs. pasted start bs before) (sym (rows_to K slots n p))))),
  omega (arith, rows_next K slots n p),
)

-- the lines of the rows are those of the pulses
lines_append : (K : Kind) (out : Pulse K → Bool) (n : ℕ) (ps qs : List (Pulse K)) → pulse_lines K out n (ps ++ qs) ≡ pulse_lines K out n ps ++ pulse_lines K out (n + length ps) qs
unfolding pulse_lines
lines_append K out n [] qs = ap (λ m. pulse_lines K out m qs) (omega arith)
lines_append K out n (p ∷ ps) qs =
    ap (λ bs. pulse_line K n p (out p) ++ bs) (lines_append K out (suc n) ps qs ∙ ap (λ m. pulse_lines K out (suc n) ps ++ pulse_lines K out m qs) (omega arith))
    ∙ sym (append_assoc (pulse_line K n p (out p)) (pulse_lines K out (suc n) ps) (pulse_lines K out (n + length (p ∷ ps)) qs))

lines_one : (K : Kind) (out : Pulse K → Bool) (n : ℕ) (p : Pulse K) → pulse_lines K out n (p ∷ []) ≡ pulse_line K n p (out p)
unfolding pulse_lines
lines_one K out n p = append-nil (pulse_line K n p (out p))

lines_none : (K : Kind) (out : Pulse K → Bool) (n : ℕ) → pulse_lines K out n [] ≡ []
unfolding pulse_lines
lines_none K out n = refl

no_pulse : (K : Kind) → Pulse K
no_pulse K = record { first = 0; width = 0; amount = nought K.arity }

module _ (K : Kind) (slots : List (Option Entry)) (out : Pulse K → Bool) (ps : List (Pulse K))
    (rows : (k : ℕ) (d : Pulse K) → k < length ps → get_or slots k None ≡ Some (row (get_or ps k d) (out (get_or ps k d)))) where
  one_line : (k : ℕ) → k < length ps → slot_line K slots (k + 1) ≡ pulse_line K (k + 1) (get_or ps k (no_pulse K)) (out (get_or ps k (no_pulse K)))
  one_line k h =
      let p = get_or ps k (no_pulse K) in
      let back : (k + 1) - 1 ≡ k = omega arith in
      ap (row_line K (k + 1)) (ap (λ i. get_or slots i None) back ∙ rows k (no_pulse K) h)
      ∙ ap (λ x. line shown (pulse_values K (k + 1) p.width p.first x (state (out p)))) (unlisted_listed K.arity p.amount)

  first_lines : (n : ℕ) → n ≤ length ps → row_lines K n slots ≡ pulse_lines K out 1 (take n ps)
  first_lines zero h = rows_none K slots ∙ sym (lines_none K out 1)
  first_lines (suc n) h =
      let p = get_or ps n (no_pulse K) in
      let l : n < length ps = omega arith in
      let m : 1 + length (take n ps) ≡ n + 1 = omega (arith, length-take-le n ps (omega arith)) in
      let t : take (suc n) ps ≡ take n ps ++ p ∷ [] = ap (λ i. take i ps) (sym (add-one n)) ∙ take_more ps n (no_pulse K) l in
      ap (λ i. row_lines K i slots) (sym (add-one n))
      ∙ (rows_more K slots n
      ∙ (ap (λ bs. bs ++ slot_line K slots (n + 1)) (first_lines n (omega arith))
      ∙ (ap (λ bs. pulse_lines K out 1 (take n ps) ++ bs) (one_line n l ∙ (sym (lines_one K out (n + 1) p) ∙ ap (λ i. pulse_lines K out i (p ∷ [])) (sym m)))
      ∙ (sym (lines_append K out 1 (take n ps) (p ∷ [])) ∙ ap (pulse_lines K out 1) (sym t)))))

  pub all_lines : row_lines K (length ps) slots ≡ pulse_lines K out 1 ps
  all_lines = first_lines (length ps) (omega arith) ∙ ap (pulse_lines K out 1) (take_all (length ps) ps (omega arith))

-- what the text is to the history
strays_never : (K : Kind) (h : Calls K) (s : State) (before after : List ℕ) (r : Result ℕ Stop) → Shows K h s → TextWritten K s before after r → Strays r → ⊥
strays_never K h s before after (Ok n) S w t = t
strays_never K h s before after (Err (Refused r)) S w t = t
strays_never K h s before after (Err Unreachable) S w t = w h S

pub text_told : (K : Kind) (s : State) (before after : List ℕ) (r : Result ℕ Stop) → TextWritten K s before after r → TextTold K s r
text_told K s before after r w h S = (
  record {
    totals = S.totals;
    held = S.held;
    out = S.out;
    told = S.told;
    is =
        ap (λ bs. line letters (pulse_names K) ++ bs)
        (ap (λ n. row_lines K n s.slots) S.count ∙ all_lines K s.slots S.out (pulses K S.totals) S.rows);
  },
  strays_never K h s before after r S w,
)
