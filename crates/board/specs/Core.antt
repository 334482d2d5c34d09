-- The core of the Viking: eight registers and a next address.
use Rattle.std.specs.Prelude.{◌≡◌, ℕ, ◌%◌, ◌<◌, ◌≢◌, cond, List, [], ◌∷◌, ◌==◌, slice_index_or}
use Rattle.std.specs.List.{AllByRecursion}
use Rattle.word.specs.declared.registers.Register.{Register}

-- The eight registers.
pub record Registers : Type 0 where
  pub r0 : ℕ
  pub r1 : ℕ
  pub r2 : ℕ
  pub r3 : ℕ
  pub r4 : ℕ
  pub r5 : ℕ
  pub r6 : ℕ
  pub r7 : ℕ

-- The core: the registers, and the address of the word that comes next.
pub record Core : Type 0 where
  pub registers : Registers
  pub next : ℕ

-- The registers, from 0 to 7.
abbrev pub in_order : Registers → List ℕ
in_order g = g.r0 ∷ g.r1 ∷ g.r2 ∷ g.r3 ∷ g.r4 ∷ g.r5 ∷ g.r6 ∷ g.r7 ∷ []

-- The register with this number; 0 for a number from 8 up, which no register has.
abbrev pub get : ℕ → Registers → ℕ
get n g = slice_index_or (in_order g) n 0

-- The register with this number is v now; the others are as before.
abbrev pub put : ℕ → ℕ → Registers → Registers
put n v g = record {
  r0 = cond (n == 0) v g.r0;
  r1 = cond (n == 1) v g.r1;
  r2 = cond (n == 2) v g.r2;
  r3 = cond (n == 3) v g.r3;
  r4 = cond (n == 4) v g.r4;
  r5 = cond (n == 5) v g.r5;
  r6 = cond (n == 6) v g.r6;
  r7 = cond (n == 7) v g.r7;
}

-- What a register of the core holds.
abbrev pub holds : Core → Register → ℕ
holds c r = get r.number c.registers

-- The core with another value in a register; the next address is as before.
abbrev pub with_register : Core → Register → ℕ → Core
with_register c r v = record { registers = put r.number v c.registers; next = c.next }

-- The core with another next address; the registers are as before.
abbrev pub with_next : Core → ℕ → Core
with_next c a = record { registers = c.registers; next = a }

-- The core fits: each register and the next address are below 65,536, and the next address is even.
pub record Fits (c : Core) : Type 0 where
  pub registers_fit : AllByRecursion (λ v. v < 65536) (in_order c.registers)
  pub next_fits : c.next < 65536
  pub next_even : c.next % 2 ≡ 0

-- A register that is written holds the value, and every other holds what it held.
pub record RegistersStand : Type 0 where
  pub written : (n v : ℕ) (g : Registers) → n < 8 → get n (put n v g) ≡ v
  pub others : (n q v : ℕ) (g : Registers) → n ≢ q → get q (put n v g) ≡ get q g
