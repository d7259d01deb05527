-- No report is longer than the room for the longest.
use Rattle.std.proofs.Common.{ℕ, ◌^◌, ◌<◌, ◌≤◌, false, List, length, Ok, Err, Result, refl, arith, lit≤, rules}
use Rattle.std.proofs.lemmas.List.{length-append}
use Rattle.std.proofs.lemmas.Fmt.{length-decimal-le}
use Rattle.std.proofs.lemmas.Bool.{cond_both}
use Rattle.kinds.specs.declared.name.Name.{Name}
use Rattle.kinds.specs.Kinds.{Kind, Lawful}
use Rattle.kinds.specs.Wholes.{whole, Sound, cents_bound, pieces_bound, paper, mobile}
use Rattle.kinds.specs.PairsLemmas.{pair_lawful}
use Rattle.transform.specs.Windows.{Record}
use Rattle.transform.specs.Pulses.{pulses}
use Rattle.refusals.specs.Faults.{Finding}
use Rattle.figures.specs.Headings.{letters}
use Rattle.writing.specs.Texts.{pulse_names, refusal_names, refusal_values, refusal_text}
use Rattle.reading.specs.Traces.{read_text}
use Rattle.writer.specs.Values.{line, shown}
use Rattle.report.specs.PulseTexts.{pulse_lines}
use Rattle.report.specs.Reports.{names_pieces, told, report_as, report_of, most_bytes, ReportsFit}
use Rattle.report.proofs.ReadFacts.{Near, Fair, Fit, text_fair}
use Rattle.report.proofs.LengthFacts.{pulses_short, written_length}

whole_lawful : (bound : ℕ) (name : Name) → Sound bound → Lawful (whole bound name)
whole_lawful bound name s = search rules

paper_lawful : Lawful paper
paper_lawful = whole_lawful cents_bound _ (record { least = lit≤ tt; room = lit≤ tt })

mobile_lawful : Lawful mobile
mobile_lawful = pair_lawful paper (whole pieces_bound _) refl refl paper_lawful (whole_lawful pieces_bound _ (record { least = lit≤ tt; room = lit≤ tt }))

refusal_short : (m : ℕ) (f : Finding) → m < 10 ^ 5 → Near m f → length (refusal_text f.number (record { line = f.line; byte = f.byte })) ≤ most_bytes
unfolding refusal_names refusal_values
refusal_short m f h (a, b, c) =
    let d = length-decimal-le 2 f.number (omega arith) (omega arith) (omega arith) in
    let e = length-decimal-le 5 f.line (omega arith) (omega arith) (omega arith) in
    let k = length-decimal-le 5 f.byte (omega arith) (omega arith) (omega arith) in
    omega (
      arith,
      length-append (line letters refusal_names) (line shown (refusal_values f.number (record { line = f.line; byte = f.byte }))),
      written_length shown (refusal_values f.number (record { line = f.line; byte = f.byte })),
    )

module _ (K : Kind) (O : Lawful K) (short : length (line letters (pulse_names K)) ≤ 100) where
  told_short : (r : Result (Record K) Finding) → Fair 40002 (Fit K 1000) r → length (told K r) ≤ most_bytes
  told_short (Ok xs) (l, w) =
      let h = pulses_short K O (λ p. false) xs l w in
      omega (arith, length-append (line letters (pulse_names K)) (pulse_lines K (λ p. false) 1 (pulses K xs)))
  told_short (Err f) n = refusal_short 40002 f (omega arith) n

  as_short : (text : List ℕ) → length (report_as K text) ≤ most_bytes
  unfolding report_as
  as_short text = told_short (read_text K 1000 text) (text_fair K 1000 text)

paper_names : length (line letters (pulse_names paper)) ≤ 100
unfolding pulse_names
paper_names = lit≤ tt

mobile_names : length (line letters (pulse_names mobile)) ≤ 100
unfolding pulse_names
mobile_names = lit≤ tt

pub reports_fit : ReportsFit
unfolding report_of
reports_fit text =
    cond_both {A = List ℕ} (names_pieces text) (report_as mobile text) (report_as paper text) (λ bs. length bs ≤ most_bytes) (λ e. as_short mobile mobile_lawful mobile_names text) (λ e. as_short paper paper_lawful paper_names text)
