use Rattle.std.proofs.Common.{◌≡◌, ◌++◌, take}
use Rattle.console.specs.Rings.{items}
use Rattle.console.proofs.queue.Queue.push_all.Given as goal

abbrev pub invariant-loop-b : goal.invariant-loop-b
invariant-loop-b g l = items l.self ≡ items l.initial.self ++ take l.b-index l.text
