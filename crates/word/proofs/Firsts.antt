-- A search through the table for the first row that passes.
use Rattle.std.proofs.Common.{◌≡◌, Bool, true, false, cond, List, [], ◌∷◌, map, find, Some, Option, option_map, refl, ap, ◌∙◌}
use Rattle.word.specs.declared.instructions.Operation.{Operation}
use Rattle.word.specs.declared.table.Mnemonic.{Mnemonic}
use Rattle.word.specs.Table.{Row, row_in, entry_in, entries, first}

abbrev pub operation_in : Option Mnemonic → Option Operation
operation_in o = option_map (λ (m : Mnemonic). m.operation) o

abbrev pub find_in : (Row → Bool) → List Mnemonic → Option Mnemonic
find_in p xs = find (λ (m : Mnemonic). p (row_in m)) xs

first_in : (p : Row → Bool) (xs : List Mnemonic) → operation_in (find_in p xs) ≡ first p (map entry_in xs)
first_in p [] = refl
first_in p (x ∷ xs) = by (p (row_in x)) (first_in p xs)
  where
    by : (b : Bool) → operation_in (find_in p xs) ≡ first p (map entry_in xs)
        → operation_in (cond b (Some x) (find_in p xs)) ≡ cond b (Some x.operation) (first p (map entry_in xs))
    by true e = refl
    by false e = e

-- the operation of the first element of the program's table that passes
pub first_found : (p : Row → Bool) (table : List Mnemonic) (m : Option Mnemonic) (r : Option Operation)
    → map entry_in table ≡ entries → m ≡ find_in p table → r ≡ operation_in m → r ≡ first p entries
first_found p table m r rows found is = is ∙ ap operation_in found ∙ first_in p table ∙ ap (first p) rows
