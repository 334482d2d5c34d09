use Rattle.std.proofs.Common.{◌≡◌, rules}
use Rattle.syntax.specs.Rows.{mapped_ok}
use Rattle.syntax.specs.Statements.{statement_in, statement_of}
use Rattle.syntax.proofs.Held.{statement_held}
use Rattle.syntax.proofs.Shorts.{read_short}
use Rattle.syntax.proofs.statements.read_statement.Goals as goal

pub returns-in_err-read_line-clause-value : goal.returns-in_err-read_line-clause-value
returns-in_err-read_line-clause-value c = let h = statement_held c.args.line.now in search rules

pub returns-clause-value : goal.returns-clause-value
returns-clause-value c = let h = statement_held c.args.line.now in search rules

pub returns-clause-size : goal.returns-clause-size
returns-clause-size c =
    let h = statement_held c.args.line.now in
    let v : mapped_ok statement_of c.say.result ≡ statement_in c.args.line.now = search rules in
    read_short c.args.line.now c.say.result v
