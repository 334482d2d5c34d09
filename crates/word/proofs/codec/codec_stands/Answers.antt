use Rattle.word.proofs.Back.{decodes-back, encodes_back}
use Rattle.word.proofs.codec.codec_stands.Goals as goal

pub returns : goal.returns
returns c = record { back = decodes-back; forth = encodes_back }
