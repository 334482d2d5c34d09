use Rattle.std.proofs.Common.{◌≡◌, Ok, rules}
use Rattle.syntax.specs.Rows.{said_row}
use Rattle.syntax.specs.Statements.{code, statement_in}
use Rattle.assembler.proofs.Judged.{code_passed}
use Rattle.assembler.proofs.image.put_line.Goals as goal

pub put_row-requires-clause-range : goal.put_row-requires-clause-range
put_row-requires-clause-range c =
    let is : statement_in c.args.line.now ≡ Ok (code (said_row c.in-Ok-Code.row)) = search rules in
    (code_passed c.args.line.now (said_row c.in-Ok-Code.row) is).range
