use Rattle.std.proofs.Common.{◌≡◌, ◌+◌, ◌++◌, take}
use Rattle.assembler.specs.Tables.{filled, Spared}
use Rattle.assembler.proofs.output.put_bytes.Given as goal

abbrev pub invariant-loop-byte : goal.invariant-loop-byte
invariant-loop-byte l =
    (filled l.out ≡ filled l.initial.out ++ take l.byte-index l.bytes)
    × (l.out.count ≡ l.initial.out.count + l.byte-index)
    × Spared l.initial.out l.out
