use Rattle.any_bus.proofs.KindsStay.{stored_word}
use Rattle.any_bus.proofs.calls.answer.Goals as goal

pub returns-in-StoreWord-clause-kinds : goal.returns-in-StoreWord-clause-kinds
returns-in-StoreWord-clause-kinds g c = stored_word (g.B.Bus.meaning c.args.bus.now) (g.B.Bus.meaning c.store_word.new.self) _ _ c.store_word.result (g.B.Bus.facts c.args.bus.now) c.store_word.ensures.comes
