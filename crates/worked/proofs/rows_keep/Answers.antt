use Rattle.worked.proofs.WorkedRows.{rows}
use Rattle.worked.proofs.rows_keep.Goals as goal

pub returns : goal.returns
returns c = rows
