use Rattle.std.proofs.Common.{◌≡◌, ◌<◌, ap, ◌∙◌, subst, arith, rules}
use Rattle.word.specs.Words.{encoded, decoded}
use Rattle.word.specs.Laws.{ByteIn}
use Rattle.word.proofs.Back.{decodes-back}
use Rattle.word.proofs.codec.encode.Goals as goal

pub returns-in-Registers-clause-back : goal.returns-in-Registers-clause-back
returns-in-Registers-clause-back c =
    let v : c.register_word.result ≡ encoded c.args.instruction = search rules in
    ap decoded v ∙ (decodes-back c.args.instruction (subst ByteIn c.in-Registers.ensures tt)).0

pub returns-in-Immediate-clause-back : goal.returns-in-Immediate-clause-back
returns-in-Immediate-clause-back c =
    let v : c.immediate_word.result ≡ encoded c.args.instruction = search rules in
    let byte : c.in-Immediate.immediate < 256 = omega arith in
    ap decoded v ∙ (decodes-back c.args.instruction (subst ByteIn c.in-Immediate.ensures byte)).0
