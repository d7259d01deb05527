use Rattle.std.proofs.Common.{arith}
use Rattle.std.proofs.lemmas.Int.{ints}
use Rattle.figures.proofs.FigureFacts.{below_18_digits}
use Rattle.figures.proofs.digits.Digits.number.Goals as goal

pub overflow_cast-value : goal.overflow_cast-value
overflow_cast-value c = let h = below_18_digits _ _ c.args.self.short c.args.self.few in omega (arith, ints)

pub overflow_sub-result : goal.overflow_sub-result
overflow_sub-result c = let h = below_18_digits _ _ c.args.self.short c.args.self.few in omega (arith, ints)

pub returns-then-self : goal.returns-then-self
returns-then-self c = let h = below_18_digits _ _ c.args.self.short c.args.self.few in rw c.if-self.true (omega (arith, ints))

pub returns-else-self : goal.returns-else-self
returns-else-self c = let h = below_18_digits _ _ c.args.self.short c.args.self.few in rw c.if-self.false (omega (arith, ints))
