use Rattle.reading.proofs.Rows.{rows}
use Rattle.reading.proofs.rows_keep.Goals as goal

pub returns : goal.returns
returns c = rows
