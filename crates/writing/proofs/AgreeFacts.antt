-- A record that is written reads back the same.
use Rattle.std.proofs.Common.{◌≡◌, ℕ, ◌≤◌, ltb, List, length, Some, None, Ok, Option, Result, sym, refl, ap, ◌∙◌}
use Rattle.std.proofs.lemmas.Bool.{ltb-false}
use Rattle.kinds.specs.Entries.{not_entered}
use Rattle.kinds.specs.Kinds.{Kind, Of, Lawful}
use Rattle.refusals.specs.declared.refusal.Refusal.{Refusal}
use Rattle.refusals.specs.declared.refusal.Refusal.TheVariants.{MayNotEnter}
use Rattle.figures.specs.Headings.{twins}
use Rattle.reading.specs.Traces.{read_text}
use Rattle.writing.specs.Laws.{TextsAgree}
use Rattle.writing.specs.Texts.{trace_text, unless_day, write_record}
use Rattle.reading.proofs.AcceptedFacts.{never, cond_not_ok, reading_accepted}
use Rattle.writing.proofs.BackText.{text_back}

pub unless_day_ok : {X : Type 0} (o : Option ℕ) (r : Result X Refusal) (x : X) → unless_day o r ≡ Ok x → (o ≡ None) × (r ≡ Ok x)
unless_day_ok None r x h = (refl, h)
unless_day_ok (Some day) r x h = absurd (never (MayNotEnter day) x h)

pub writing_back : (K : Kind) → Lawful K → (size room : ℕ) (xs : List (Of K)) (text : List ℕ) → write_record K size xs ≡ Ok text → length xs ≤ room → read_text K room text ≡ Ok xs
writing_back K L size room xs text h fits =
    let p = cond_not_ok (twins K.arity K.names) _ _ text h in
    let q = cond_not_ok (ltb 1000 (length xs)) _ _ text p.1 in
    let d = unless_day_ok (not_entered K 1 xs) _ text q.1 in
    let r = cond_not_ok (ltb size (length (trace_text K xs))) (Ok (trace_text K xs)) _ text d.1 in
    let same : trace_text K xs ≡ text = cc r.1 in
    ap (read_text K room) (sym same) ∙ text_back K L p.0 xs room (ltb-false 1000 (length xs) q.0) d.0 fits

pub texts_agree : TextsAgree
texts_agree = record { accepted = reading_accepted; back = writing_back }
