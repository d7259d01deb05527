-- What is written reads back.
use Rattle.std.specs.Prelude.{◌≡◌, ℕ, ◌≤◌, List, length, take, Ok, Err, Result}
use Rattle.kinds.specs.Kinds.{Kind, Of, Lawful}
use Rattle.refusals.specs.declared.refusal.Refusal.{Refusal}
use Rattle.reading.specs.Accepted.{TextOf}
use Rattle.reading.specs.Traces.{read_text}
use Rattle.writing.specs.Texts.{write_record}

-- a text that was written of a record reads back as the same record, into any list with room for it
abbrev pub ReadsBack : (K : Kind) → List (Of K) → List ℕ → Result ℕ Refusal → Type 0
ReadsBack K record_of after (Ok bytes) = (room : ℕ) → length record_of ≤ room → read_text K room (take bytes after) ≡ Ok record_of
ReadsBack K record_of after (Err refusal) = Unit {0}

-- trace texts of every kind: an accepted text has the lines of the record that it gives, and a
-- record that is written reads back the same
pub record TextsAgree : Type 0 where
  pub accepted : (K : Kind) (room : ℕ) (text : List ℕ) (days : List (Of K)) → read_text K room text ≡ Ok days → TextOf K text days
  pub back : (K : Kind) → Lawful K → (size room : ℕ) (days : List (Of K)) (text : List ℕ) → write_record K size days ≡ Ok text → length days ≤ room → read_text K room text ≡ Ok days
