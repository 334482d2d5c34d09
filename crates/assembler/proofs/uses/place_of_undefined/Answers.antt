use Rattle.std.proofs.Common.{ap, rules}
use Rattle.std.proofs.lemmas.Iterator.Consumers.{YieldsList-from_first}
use Rattle.std.proofs.lemmas.Iterator.Search.{position_from_yields_List}
use Rattle.syntax.specs.Cuts.{lines}
use Rattle.syntax.specs.Statements.{statement_in}
use Rattle.assembler.specs.Images.{used_by, is_undefined}
use Rattle.assembler.proofs.Cutting.{lines_bound}
use Rattle.assembler.proofs.uses.place_of_undefined.Goals as goal

pub position-requires-clause-fits : goal.position-requires-clause-fits
position-requires-clause-fits c = search (rules, lines_bound)

pub returns-clause-place : goal.returns-clause-place
returns-clause-place c =
    position_from_yields_List (λ l. is_undefined c.args.text.now c.args.labels.now (used_by (statement_in l))) c.position.new.self _ _ c.position.ensures.ran
    (YieldsList-from_first (λ x. x.now) (λ s. lines s.rest.now) (lines c.args.text.now) (ap lines c.of.ensures))
    (λ x b q k. search rules)

pub returns-clause-bound : goal.returns-clause-bound
returns-clause-bound c = search (rules, lines_bound)
