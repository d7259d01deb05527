-- From a record that was read to the text of its pulses.
use Rattle.std.proofs.Common.{◌≡◌, ℕ, ◌≤◌, true, false, List, [], ◌∷◌, length, is_ok, IsErrAnd, MatchResult, Some, None, Ok, Err, Result, sym, refl, ap, ◌∙◌, subst, inl, arith}
use Rattle.std.proofs.lemmas.Bool.{true≢false}
use Rattle.kinds.specs.Kinds.{Kind}
use Rattle.refusals.specs.declared.refusal.Refusal.{Refusal}
use Rattle.refusals.specs.Table.{number}
use Rattle.writer.specs.Written.{Writes}
use Rattle.transform.specs.Windows.{Record}
use Rattle.transform.specs.Pulses.{pulses}
use Rattle.sheets.specs.declared.sheet.Stop.{Stop}
use Rattle.sheets.specs.declared.sheet.Stop.TheVariants.{Refused, Unreachable}
use Rattle.splitting.specs.Records.{Accepted}
use Rattle.sheets.specs.Takes.{State}
use Rattle.sheets.specs.Calls.{taking}
use Rattle.sheets.specs.History.{Calls, Shows}
use Rattle.refusals.specs.declared.fault.FileFault.{FileFault}
use Rattle.refusals.specs.declared.fault.FileFault.TheVariants.{Reading, ReadingWhole, Taking, Writing}
use Rattle.reading.specs.Traces.{read_text}
use Rattle.report.specs.PulseTexts.{pulse_text, sheet_text, TextWritten}
use Rattle.report.specs.Reports.{told, report_as, Reported, refusal_in, RecordTaken, SplitWritten, PulsesWritten, OfReport}
use Rattle.report.proofs.ReadFacts.{Fair, Fit, text_fair}
use Rattle.report.proofs.ShortFacts.{only_14}
use Rattle.report.proofs.TakeFacts.{accepted, taken_text}

-- a call that was stopped
write_stop : (K : Kind) (s : State) (before after : List ℕ) (stop : Stop) → ((h : Calls K) × Shows K h s) → TextWritten K s before after (Err stop) → Reported (sheet_text K s) before after (Err (refusal_in stop))
write_stop K s before after (Refused r) H T = T
write_stop K s before after Unreachable (h, S) T = absurd (T h S)

pub write_told : (K : Kind) (s : State) (before after : List ℕ) (r : Result ℕ Stop) (q : Result ℕ Refusal) → ((h : Calls K) × Shows K h s) → TextWritten K s before after r → ((n : ℕ) → r ≡ Ok n → q ≡ Ok n) → ((stop : Stop) → r ≡ Err stop → q ≡ Err (refusal_in stop)) → Reported (sheet_text K s) before after q
write_told K s before after (Ok n) q H T o e = subst (Reported (sheet_text K s) before after) (sym (o n refl)) T
write_told K s before after (Err stop) q H T o e = subst (Reported (sheet_text K s) before after) (sym (e stop refl)) (write_stop K s before after stop H T)

-- a record that is taken: the history goes on, and the text of the sheet is that of its pulses
module _ (K : Kind) (xs : Record K) (entries : ℕ) (before after : State) where
  pub taken_on : (x : Result ℕ Refusal) → RecordTaken K xs entries before after x → true ≡ is_ok x → Shows K [] before → (h : Calls K) × Shows K h after
  taken_on (Ok n) T e S = (taking xs entries ∷ [], T.1 [] S)
  taken_on (Err r) T e S = absurd (true≢false e)

  due : (x : Result ℕ Refusal) → RecordTaken K xs entries before after x → true ≡ is_ok x → sheet_text K after ≡ pulse_text K (λ p. false) (pulses K xs)
  due (Ok n) T e = taken_text K xs before after T.0
  due (Err r) T e = absurd (true≢false e)

  written : (out end : List ℕ) (y : Result ℕ Refusal) → Reported (pulse_text K (λ p. false) (pulses K xs)) out end y → (r : Result ℕ FileFault) → MatchResult y (λ n. r ≡ Ok n) (λ e. IsErrAnd r (λ f. f ≡ Writing e)) → SplitWritten K xs entries (length before.slots) out end r
  written out end (Ok n) R r m = rw m R
  written out end (Err e) R (Ok n) m = absurd m
  written out end (Err e) R (Err f) m = rw m (only_14 e R.0, R.1)

  pub split_written : (x : Result ℕ Refusal) → RecordTaken K xs entries before after x → true ≡ is_ok x → (out end : List ℕ) (y : Result ℕ Refusal) → Reported (sheet_text K after) out end y → (r : Result ℕ FileFault) → MatchResult y (λ n. r ≡ Ok n) (λ e. IsErrAnd r (λ f. f ≡ Writing e)) → SplitWritten K xs entries (length before.slots) out end r
  split_written x T e out end y R = written out end y (subst (λ bs. Reported bs out end y) (due x T e) R)

-- a record that was read
module _ (K : Kind) (text : List ℕ) (room : ℕ) (xs : Record K) (full : room ≡ 1000) (read : read_text K room text ≡ Ok xs) where
  read_full : read_text K 1000 text ≡ Ok xs
  read_full = ap (λ n. read_text K n text) (sym full) ∙ read

  fit : Fit K 1000 xs
  fit = subst (Fair 40002 (Fit K 1000)) read_full (text_fair K 1000 text)

  not_refused : (entries capacity : ℕ) → 1002 ≤ entries → 1000 ≤ capacity → Accepted K xs entries capacity
  not_refused entries capacity e c = let (l, w) = fit in accepted K xs entries capacity l w (omega arith) (omega arith)

  text_is : pulse_text K (λ p. false) (pulses K xs) ≡ report_as K text
  unfolding report_as
  text_is = sym (ap (told K) read_full)

  pub pulses_written : (entries capacity : ℕ) → 1002 ≤ entries → 1000 ≤ capacity → (out end : List ℕ) (r : Result ℕ FileFault) → SplitWritten K xs entries capacity out end r → PulsesWritten K text out end r × OfReport r
  pulses_written entries capacity e c out end (Ok n) w = (subst (λ bs. Writes 0 bs out end (Some n)) text_is w, tt)
  pulses_written entries capacity e c out end (Err (Taking r)) w = absurd (not_refused entries capacity e c r w.0)
  pulses_written entries capacity e c out end (Err (Writing r)) w = (inl (ap number w.0, subst (λ bs. Writes 0 bs out end None) text_is w.1), inl (ap Writing w.0))
  pulses_written entries capacity e c out end (Err (Reading fault)) w = absurd w
  pulses_written entries capacity e c out end (Err (ReadingWhole r)) w = absurd w
