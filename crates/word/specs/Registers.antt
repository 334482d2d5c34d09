-- Registers.
use Rattle.std.specs.Prelude.{ℕ, ◌%◌}
use Rattle.std.proofs.Common.{arith}
use Rattle.word.specs.declared.registers.Register.{Register}

-- The register that a number's lowest three bits name.
abbrev pub register : ℕ → Register
register n = record { number = n % 8; small = omega arith }
