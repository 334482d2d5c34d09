-- A register is known by its number.
use Rattle.std.proofs.Common.{◌≡◌, ℕ, ◌<◌, ap, subst}
use native.Mathlib.Bridge.{le_prop}
use Rattle.word.specs.declared.registers.Register.{Register}

abbrev numbered : (n : ℕ) → n < 8 → Register
numbered n h = record { number = n; small = h }

pub same-register : (r s : Register) → r.number ≡ s.number → r ≡ s
same-register r s e =
    subst (λ (n : ℕ). (h : n < 8) → r ≡ numbered n h) e (λ h. ap (numbered r.number) (le_prop r.small h)) s.small
