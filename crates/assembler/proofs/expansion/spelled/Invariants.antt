use Rattle.std.proofs.Common.{◌≡◌, map, take}
use Rattle.word.specs.Words.{encoded}
use Rattle.assembler.specs.Expansions.{held}
use Rattle.assembler.proofs.expansion.spelled.Given as goal

abbrev pub invariant-loop-instruction : goal.invariant-loop-instruction
invariant-loop-instruction l = (held l.spelling ≡ map encoded (take l.instruction-index l.instructions)) × (l.spelling.count ≡ l.instruction-index)
