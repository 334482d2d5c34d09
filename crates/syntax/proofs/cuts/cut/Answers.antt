use Rattle.std.proofs.Common.{rules}
use Rattle.std.proofs.lemmas.List.{take_rest}
use Rattle.syntax.proofs.Steps.{before_at, behind_at, before_none, behind_none, pieces-cut}
use Rattle.syntax.proofs.cuts.cut.Goals as goal

pub returns-in-Some-clause-before : goal.returns-in-Some-clause-before
returns-in-Some-clause-before c = search (rules, before_at)

pub returns-in-Some-clause-behind : goal.returns-in-Some-clause-behind
returns-in-Some-clause-behind c = search (rules, take_rest, behind_at)

pub returns-in-Some-clause-pieces : goal.returns-in-Some-clause-pieces
returns-in-Some-clause-pieces c = let e = pieces-cut c.args.separator c.args.text.now in search (rules, take_rest, before_at, behind_at)

pub returns-in-None-clause-before : goal.returns-in-None-clause-before
returns-in-None-clause-before c = search (rules, before_none)

pub returns-in-None-clause-behind : goal.returns-in-None-clause-behind
returns-in-None-clause-behind c = search (rules, behind_none)

pub returns-in-None-clause-pieces : goal.returns-in-None-clause-pieces
returns-in-None-clause-pieces c = let e = pieces-cut c.args.separator c.args.text.now in search (rules, before_none, behind_none)
