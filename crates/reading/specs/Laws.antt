-- What trace texts promise.
use Rattle.std.specs.Prelude.{◌≡◌, ℕ, List, Ok, Err}
use Rattle.kinds.specs.Kinds.{Kind, Of}
use Rattle.refusals.specs.Faults.{Finding}
use Rattle.reading.specs.Accepted.{TextOf}
use Rattle.reading.specs.Parts.{parts}
use Rattle.reading.specs.Refused.{PartOf, Stands, FirstMet, Judged}
use Rattle.reading.specs.Traces.{read_text}

-- trace texts of every kind: an accepted text has the lines of the record that it gives and meets no
-- condition of a refusal, a text is refused by the first condition that it meets and by no other, and
-- each line and field stands at the byte where it is said to start
pub record ReadingLaw : Type 0 where
  pub accepted : (K : Kind) (room : ℕ) (text : List ℕ) (days : List (Of K)) → read_text K room text ≡ Ok days → TextOf K text days
  pub judged : (K : Kind) (room : ℕ) (text : List ℕ) → Judged K room text (read_text K room text)
  pub refused : (K : Kind) (room : ℕ) (text : List ℕ) (f : Finding) → FirstMet K room text f → read_text K room text ≡ Err f
  pub places : (c : ℕ) (bytes : List ℕ) (p : PartOf (parts c bytes)) → Stands c bytes p
