use Rattle.any_bus.proofs.read_back.store_and_load_byte.Goals as goal

pub returns-clause-stores : goal.returns-clause-stores
returns-clause-stores g c = rw c.in_ok-store_byte.ensures.comes (g.B.Bus.further _ _ _ _ _ c.in_ok-store_byte.ensures.stores c.load_byte.ensures.stores)
