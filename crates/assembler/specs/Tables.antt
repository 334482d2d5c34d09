-- Tables over lent records.
use Rattle.std.specs.Prelude.{◌≡◌, ℕ, ◌≤◌, List, length, take, drop}
use Rattle.assembler.specs.declared.table.Table.{Table}

-- The records that are filled.
abbrev pub filled : {R : Type 0} → Table R → List R
filled t = take t.count t.records.now

-- How many records are lent.
abbrev pub size : {R : Type 0} → Table R → ℕ
size t = length t.records.now

-- A table that was t is t' now: no fewer records are filled, as many are lent, those that are free are as they were, and it lies over
-- the same lent memory.
abbrev pub Spared : {R : Type 0} → Table R → Table R → Type 0
Spared t t' =
    (t.count ≤ t'.count) × (size t' ≡ size t) × (drop t'.count t'.records.now ≡ drop t'.count t.records.now)
    × (t'.records.ghost_name ≡ t.records.ghost_name)
