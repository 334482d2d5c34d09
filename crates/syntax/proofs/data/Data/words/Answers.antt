use Rattle.std.proofs.Common.{rules}
use Rattle.syntax.proofs.Sizes.{text-length, number-length}
use Rattle.syntax.proofs.data.Data.words.Goals as goal

pub returns-in-Text : goal.returns-in-Text
returns-in-Text c = search (rules, text-length)

pub returns-in-Numbers : goal.returns-in-Numbers
returns-in-Numbers c = search (rules, number-length)
