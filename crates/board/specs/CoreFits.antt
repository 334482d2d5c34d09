-- Nothing of what a core is stands here, only the evidence that registers and next address stay below 65,536, and the next address even.
use Rattle.std.proofs.Common.{◌≡◌, ℕ, zero, suc, ◌+◌, ◌/◌, ◌%◌, ◌<◌, Bool, true, false, cond, ltb, Some, None, Option, arith}
use Rattle.std.proofs.lemmas.Nat.{and_le_l, or_of_16, xor_of_16}
use Rattle.std.specs.Prelude.{List, [], ◌∷◌, int_lt, slice_index_or}
use Rattle.std.specs.List.{AllByRecursion}
use Rattle.word.specs.declared.registers.Register.{Register}
use Rattle.word.specs.declared.instructions.Computation.{Computation}
use Rattle.word.specs.declared.instructions.Computation.TheVariants.{And, Or, Xor, Slt, Sltu, Add, Sub}
use Rattle.word.specs.declared.instructions.Shift.{Shift}
use Rattle.word.specs.declared.instructions.Shift.TheVariants.{Lsr, Asr}
use Rattle.word.specs.declared.instructions.Operation.{Operation}
use Rattle.word.specs.declared.table.Extension.{Extension}
use Rattle.word.specs.declared.table.Extension.TheVariants.{ZeroExtended, SignExtended}
use Rattle.word.specs.Table.{row}
use Rattle.word.specs.Arithmetic.{signed, truth, sign_extend, extend, compute, shift_right}
use Rattle.board.specs.Core.{Registers, Core, in_order, put, holds, with_next, Fits}
use Rattle.board.specs.Step.{immediate, goes_on, results}

-- registers
each_fits : (vs : List ℕ) (n : ℕ) → AllByRecursion (λ v. v < 65536) vs → slice_index_or vs n 0 < 65536
each_fits [] zero h = omega arith
each_fits [] (suc n) h = omega arith
each_fits (v ∷ vs) zero h = h.0
each_fits (v ∷ vs) (suc n) h = each_fits vs n h.1

one_fits : (t : Bool) (v x : ℕ) → v < 65536 → x < 65536 → cond t v x < 65536
one_fits true v x h k = h
one_fits false v x h k = k

put_fits : (n v : ℕ) (g : Registers) → v < 65536 → AllByRecursion (λ v. v < 65536) (in_order g) → AllByRecursion (λ v. v < 65536) (in_order (put n v g))
put_fits n v g k h = search (one_fits, arith)

pub holds_fits : (c : Core) (r : Register) → Fits c → holds c r < 65536
holds_fits c r h = each_fits (in_order c.registers) r.number h.registers_fit

-- cores
pub goes_fits : (c : Core) → Fits c → Fits (goes_on c)
goes_fits c h = let even = h.next_even in record { registers_fit = h.registers_fit; next_fits = omega arith; next_even = omega arith }

pub results_fit : (c : Core) (r : Register) (v : ℕ) → v < 65536 → Fits c → Fits (results c r v)
results_fit c r v k h =
    let even = h.next_even in
    record { registers_fit = put_fits r.number v c.registers k h.registers_fit; next_fits = omega arith; next_even = omega arith }

pub next_fits : (c : Core) (a : ℕ) → a < 65536 → a % 2 ≡ 0 → Fits c → Fits (with_next c a)
next_fits c a small even h = record { registers_fit = h.registers_fit; next_fits = small; next_even = even }

-- results
truth_fits : (t : Bool) → truth t < 65536
truth_fits true = omega arith
truth_fits false = omega arith

pub compute_fits : (x : Computation) (a b : ℕ) → a < 65536 → b < 65536 → compute x a b < 65536
compute_fits And a b h k = omega (arith, and_le_l a b)
compute_fits Or a b h k = or_of_16 a b h k
compute_fits Xor a b h k = xor_of_16 a b h k
compute_fits Slt a b h k = truth_fits (int_lt (signed a) (signed b))
compute_fits Sltu a b h k = truth_fits (ltb a b)
compute_fits Add a b h k = omega arith
compute_fits Sub a b h k = omega arith

pub shift_fits : (x : Shift) (a : ℕ) → a < 65536 → shift_right x a < 65536
shift_fits Lsr a h = omega arith
shift_fits Asr a h = one_fits (ltb a 32768) (a / 2) (0x8000 + a / 2) (omega arith) (omega arith)

pub sign_fits : (n : ℕ) → n < 256 → sign_extend n < 65536
sign_fits n h = one_fits (ltb n 128) n (0xFF00 + n) (omega arith) (omega arith)

extend_fits : (e : Option Extension) (n : ℕ) → n < 256 → extend e n < 65536
extend_fits None n h = omega arith
extend_fits (Some ZeroExtended) n h = omega arith
extend_fits (Some SignExtended) n h = sign_fits n h

pub immediate_fits : (x : Operation) (n : ℕ) → n < 256 → immediate x n < 65536
immediate_fits x n h = extend_fits (row x).immediate n h
