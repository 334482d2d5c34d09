-- The stores that a bus accepted.
use Rattle.std.specs.Prelude.{ℕ, List, [], ◌∷◌, Ok, Err, Result}
use Rattle.bus.specs.Calls.{Width}
use Rattle.bus.specs.declared.faults.BusFault.{BusFault}

-- One store: where, what and how wide.
pub record Store : Type 0 where
  pub address : ℕ
  pub value : ℕ
  pub width : Width

-- The accepted stores of one call: its own store, or none where it was refused.
abbrev pub accepted : Result (Unit {0}) BusFault → ℕ → ℕ → Width → List Store
accepted (Ok _) a v w = record { address = a; value = v; width = w } ∷ []
accepted (Err _) a v w = []
