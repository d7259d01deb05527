use Rattle.figures.proofs.FigureLaws as laws
use Rattle.figures.proofs.figure.figures_agree.Goals as goal

pub returns : goal.returns
returns c = laws.figures_agree
