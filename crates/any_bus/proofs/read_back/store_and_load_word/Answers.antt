use Rattle.any_bus.proofs.read_back.store_and_load_word.Goals as goal

pub returns-clause-stores : goal.returns-clause-stores
returns-clause-stores g c = rw c.in_ok-store_word.ensures.comes (g.B.Bus.further _ _ _ _ _ c.in_ok-store_word.ensures.stores c.load_word.ensures.stores)
