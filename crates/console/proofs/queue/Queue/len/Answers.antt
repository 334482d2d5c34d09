use Rattle.std.proofs.Common.{sym, ◌∙◌}
use Rattle.console.proofs.Rings.{length-ring, capped}
use Rattle.console.proofs.queue.Queue.len.Goals as goal

pub returns : goal.returns
returns g c = record { within = capped _ _ _ c.size.ensures; exact = c.size.ensures ∙ sym (length-ring _ _ _ _) }
