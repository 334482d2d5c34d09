-- A search through the table for the first entry that passes.
use Rattle.std.proofs.Common.{◌≡◌, Bool, true, false, cond, List, [], ◌∷◌, map, Some, refl}
use Rattle.std.specs.List.{find}
use Rattle.std.specs.Option.{option_map}
use Rattle.syntax.specs.declared.mnemonics.PseudoName.{PseudoName}
use Rattle.syntax.specs.Mnemonics.{Entry, entry_in, first}

pub first-found : (p : Entry → Bool) (xs : List PseudoName) → first p (map entry_in xs) ≡ option_map (λ x. x.pseudo) (find (λ x. p (entry_in x)) xs)
first-found p [] = refl
first-found p (x ∷ xs) =
    elim (p (entry_in x)) as (λ t. cond t (Some x.pseudo) (first p (map entry_in xs)) ≡ option_map (λ x. x.pseudo) (cond t (Some x) (find (λ x. p (entry_in x)) xs))) [
      | true ↦ refl
      | false ↦ first-found p xs
    ]
