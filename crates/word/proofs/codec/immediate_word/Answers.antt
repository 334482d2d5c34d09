use Rattle.std.proofs.Common.{rules}
use Rattle.word.proofs.Packs.{immediate-packed}
use Rattle.word.proofs.codec.immediate_word.Goals as goal

pub returns : goal.returns
returns c = search (rules, immediate-packed)
