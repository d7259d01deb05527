use Rattle.writing.proofs.AgreeFacts as facts
use Rattle.writing.proofs.record_text.texts_agree.Goals as goal

pub returns : goal.returns
returns c = facts.texts_agree
