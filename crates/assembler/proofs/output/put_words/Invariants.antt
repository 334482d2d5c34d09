use Rattle.std.proofs.Common.{◌≡◌, ◌+◌, ◌*◌, ◌++◌, drop}
use Rattle.assembler.specs.Tables.{filled, Spared}
use Rattle.assembler.specs.Images.{word_bytes}
use Rattle.assembler.proofs.output.put_words.Given as goal

abbrev pub invariant-loop-word : goal.invariant-loop-word
invariant-loop-word l =
    (filled l.out ++ word_bytes (drop l.word-index l.words) ≡ filled l.initial.out ++ word_bytes l.words)
    × (l.out.count ≡ l.initial.out.count + 2 * l.word-index)
    × Spared l.initial.out l.out
