use Rattle.assembler.proofs.Laying.{spared_on}
use Rattle.assembler.proofs.image.put_text.Goals as goal

pub returns-clause-spared : goal.returns-clause-spared
returns-clause-spared c = spared_on c.args.out.now c.put_bytes.new.out c.put_bytes-2.new.out c.put_bytes.ensures.spared c.put_bytes-2.ensures.spared
