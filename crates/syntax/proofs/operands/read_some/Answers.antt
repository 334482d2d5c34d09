use Rattle.std.proofs.Common.{rules}
use Rattle.syntax.specs.declared.cuts.Separator.TheVariants.{Comma}
use Rattle.syntax.proofs.Steps.{pieces-cut}
use Rattle.syntax.proofs.operands.read_some.Goals as goal

pub returns-in-Some-rest-2 : goal.returns-in-Some-rest-2
returns-in-Some-rest-2 c = let e = pieces-cut Comma c.in-Some-rest-2.field-0.now in search rules
