-- As many words as are counted.
use Rattle.std.proofs.Common.{◌≡◌, ℕ, true, false, length, ℤ, refl, arith}
use Rattle.word.specs.declared.registers.Register.{Register}
use Rattle.word.specs.declared.instructions.Shift.TheVariants.{Lsr, Asr}
use Rattle.word.specs.declared.instructions.Width.TheVariants.{Byte, Word}
use Rattle.word.specs.declared.instructions.Operation.{Operation}
use Rattle.word.specs.declared.instructions.Operation.TheVariants.{Computes, Shifts, Loads, Stores, Branches, LoadsRegister, LoadsConstant, Halts}
use Rattle.syntax.specs.Rows.{registers, immediate, negation, constant, load_from, store_to, branch_to, long_shift, in_range, registers_fit}
use Rattle.assembler.specs.Expansions.{spelled}
use Rattle.assembler.specs.Laws.{CountsStand}

never : {X : Type 0} → false ≡ true → X
never e = absurd (let z : ◌≡◌ {A = ℕ} 0 1 = cc in omega arith)

of_registers_lem : (v : ℕ) (x : Operation) (a b c : Register) → registers_fit (registers x a b c) ≡ true → length (spelled v (registers x a b c)) ≡ 1
of_registers_lem v (Computes k) a b c h = refl
of_registers_lem v (Shifts s) a b c h = refl
of_registers_lem v (Loads w) a b c h = refl
of_registers_lem v (Stores w) a b c h = refl
of_registers_lem v (Branches k) a b c h = refl
of_registers_lem v LoadsRegister a b c h = never h
of_registers_lem v LoadsConstant a b c h = never h
of_registers_lem v Halts a b c h = refl

of_immediate_lem : (v : ℕ) (x : Operation) (r : Register) (z : ℤ) → in_range (immediate x r z) ≡ true → length (spelled v (immediate x r z)) ≡ 1
of_immediate_lem v (Computes k) r z h = refl
of_immediate_lem v (Shifts Lsr) r z h = never h
of_immediate_lem v (Shifts Asr) r z h = never h
of_immediate_lem v (Loads Byte) r z h = never h
of_immediate_lem v (Loads Word) r z h = never h
of_immediate_lem v (Stores Byte) r z h = never h
of_immediate_lem v (Stores Word) r z h = never h
of_immediate_lem v (Branches k) r z h = refl
of_immediate_lem v LoadsRegister r z h = refl
of_immediate_lem v LoadsConstant r z h = refl
of_immediate_lem v Halts r z h = never h

pub counts_stand : CountsStand
counts_stand v (registers x a b c) h k = of_registers_lem v x a b c k
counts_stand v (immediate x r z) h k = of_immediate_lem v x r z h
counts_stand v (negation r) h k = refl
counts_stand v (constant r c) h k = refl
counts_stand v (load_from w r c) h k = refl
counts_stand v (store_to w r c) h k = refl
counts_stand v (branch_to c r t) h k = refl
counts_stand v (long_shift d r s) h k = refl
