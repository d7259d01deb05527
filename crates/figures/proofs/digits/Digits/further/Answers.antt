use Rattle.std.proofs.Common.{arith}
use Rattle.figures.proofs.FigureFacts.{below_18_digits}
use Rattle.figures.proofs.digits.Digits.further.Goals as goal

pub overflow_mul-result : goal.overflow_mul-result
overflow_mul-result c = let h = below_18_digits _ _ c.args.self.short c.args.self.few in omega arith

pub overflow_add-result-2 : goal.overflow_add-result-2
overflow_add-result-2 c = let h = below_18_digits _ _ c.args.self.short c.args.self.few in omega arith
