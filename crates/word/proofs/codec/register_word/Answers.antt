use Rattle.std.proofs.Common.{rules}
use Rattle.word.proofs.Packs.{registers-packed}
use Rattle.word.proofs.codec.register_word.Goals as goal

pub returns : goal.returns
returns c = search (rules, registers-packed)
