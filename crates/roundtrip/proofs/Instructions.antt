-- The line of each instruction says a row that spells that instruction.
use Rattle.std.proofs.Common.{◌≡◌, ℕ, ◌<◌, true, List, [], ◌∷◌, map, Some, None, Option, refl, ap, ◌∙◌, sym, subst, arith}
use Rattle.word.specs.declared.registers.Register.{Register}
use Rattle.word.specs.declared.instructions.Computation.{Computation}
use Rattle.word.specs.declared.instructions.Computation.TheVariants.{And, Or, Xor, Slt, Sltu, Add, Sub}
use Rattle.word.specs.declared.instructions.Condition.{Condition}
use Rattle.word.specs.declared.instructions.Condition.TheVariants.{Zero, NotZero}
use Rattle.word.specs.declared.instructions.Operation.{Operation}
use Rattle.word.specs.declared.instructions.Operation.TheVariants.{Computes, Shifts, Loads, Stores, Branches, LoadsRegister, LoadsConstant, Halts}
use Rattle.word.specs.declared.instructions.Instruction.{Instruction}
use Rattle.word.specs.declared.instructions.Instruction.TheVariants.{Compute, ComputeImmediate, Shift, Load, Store, Branch, BranchImmediate, LoadRegister, LoadConstant, Halt}
use Rattle.word.specs.declared.instructions.Fields.TheVariants.{Registers, Immediate}
use Rattle.word.specs.declared.table.Extension.{Extension}
use Rattle.word.specs.declared.table.Extension.TheVariants.{ZeroExtended, SignExtended}
use Rattle.word.specs.Registers.{register as numbered}
use Rattle.word.specs.Table.{row}
use Rattle.word.specs.Words.{fields, encoded, keeps_zero, with_registers, with_immediate}
use Rattle.word.specs.Laws.{HasByte}
use Rattle.word.proofs.Lookups.{shape_of, shaped}
use Rattle.lister.specs.Lines.{register_text, immediate_text, three_registers, register_and_number, operands, line_with, line_of_fields, line_of}
use Rattle.syntax.specs.declared.mnemonics.Mnemonic.TheVariants.{OfWord}
use Rattle.syntax.specs.Operands.{register, numeral, two, three}
use Rattle.syntax.specs.Rows.{Row, registers, immediate, fits_byte, fills_fields, of_number}
use Rattle.assembler.specs.Expansions.{byte_of, list_of, words, word_count}
use Rattle.assembler.specs.Images.{used}
use Rattle.roundtrip.proofs.Operands.{value, ReadsByte, register-back, immediate-back}
use Rattle.roundtrip.proofs.Lines.{Says, line_says, two_read, three_read}

-- A line, its row, and what the row spells.
pub record Line (i : Instruction) : Type 0 where
  pub says_row : Row
  pub says : Says (line_of i) says_row
  pub uses : used says_row ≡ None
  pub counts : word_count says_row ≡ 1
  pub spells : (v : ℕ) → words v says_row ≡ encoded i ∷ []

-- An instruction whose fields are three registers.
registers_line : (i : Instruction) (x : Operation) (a b c : Register) → fields i ≡ Registers x a b c
    → operands (shape_of x) (three_registers a b c) ≡ 32 ∷ three_registers a b c → fills_fields (shape_of x) x a b c ≡ Some (registers x a b c)
    → keeps_zero (shape_of x) a b c ≡ true → with_registers x a b c ≡ Some i → Line i
registers_line i x a b c filled opens fills fits back = record {
  says_row = registers x a b c;
  says = subst (λ (t : List ℕ). Says t (registers x a b c)) (sym (ap line_of_fields filled ∙ ap (line_with (row x).name) text)) read;
  uses = refl;
  counts = refl;
  spells = λ v. ap (λ o. map encoded (list_of o)) back;
}
  where
    text : operands (row x).shape (three_registers a b c) ≡ 32 ∷ three_registers a b c
    text = ap (λ o. operands o (three_registers a b c)) (shaped x) ∙ opens

    read : Says (line_with (row x).name (32 ∷ three_registers a b c)) (registers x a b c)
    read = line_says x (three_registers a b c) (three (register a) (register b) (register c)) (registers x a b c)
        (three_read (register_text a) (register_text b) (register_text c) (register a) (register b) (register c) (register-back a) (register-back b) (register-back c) refl refl refl)
        (ap (λ o. fills_fields o x a b c) (shaped x) ∙ fills) refl (ap (λ o. keeps_zero o a b c) (shaped x) ∙ fits)

-- An instruction whose fields are a register and a byte, with its extension.
record Takes (x : Operation) : Type 0 where
  extension : Extension
  is : (row x).immediate ≡ Some extension

immediate_line : (i : Instruction) (x : Operation) (a : Register) (n : ℕ) → Takes x → n < 256
    → fields i ≡ Immediate x a n → with_immediate x a n ≡ Some i
    → of_number (OfWord x) a (value (row x).immediate n) ≡ Some (immediate x a (value (row x).immediate n)) → Line i
immediate_line i x a n takes small filled back rows = record {
  says_row = immediate x a (value (row x).immediate n);
  says = subst (λ (t : List ℕ). Says t (immediate x a (value (row x).immediate n))) (sym (ap line_of_fields filled)) read;
  uses = refl;
  counts = refl;
  spells = λ v. ap (λ m. map encoded (list_of (with_immediate x a m))) byte ∙ ap (λ o. map encoded (list_of o)) back;
}
  where
    e : Extension
    e = takes.extension

    reads : ReadsByte e n
    reads = immediate-back e n small

    byte : byte_of (value (row x).immediate n) ≡ n
    byte = ap (λ o. byte_of (value o n)) takes.is ∙ reads.byte

    read : Says (line_of_fields (Immediate x a n)) (immediate x a (value (row x).immediate n))
    read = subst (λ (o : Option Extension). Says (line_with (row x).name (32 ∷ register_and_number o a n)) (immediate x a (value o n))) (sym takes.is)
        (line_says x (register_and_number (Some e) a n) (two (register a) (numeral (value (Some e) n))) (immediate x a (value (Some e) n))
        (two_read (register_text a) (immediate_text (Some e) n) (register a) (numeral (value (Some e) n)) (register-back a) reads.reads (omega arith))
        (subst (λ (o : Option Extension). of_number (OfWord x) a (value o n) ≡ Some (immediate x a (value o n))) takes.is rows)
        (ap (λ o. fits_byte o (value (Some e) n)) takes.is ∙ reads.range) refl)

computes_take : (c : Computation) → Takes (Computes c)
computes_take And = record { extension = ZeroExtended; is = refl }
computes_take Or = record { extension = ZeroExtended; is = refl }
computes_take Xor = record { extension = SignExtended; is = refl }
computes_take Slt = record { extension = SignExtended; is = refl }
computes_take Sltu = record { extension = SignExtended; is = refl }
computes_take Add = record { extension = SignExtended; is = refl }
computes_take Sub = record { extension = SignExtended; is = refl }

branches_take : (c : Condition) → Takes (Branches c)
branches_take Zero = record { extension = SignExtended; is = refl }
branches_take NotZero = record { extension = SignExtended; is = refl }

pub lined : (i : Instruction) → HasByte i → Line i
lined (Compute c a b d) h = registers_line _ (Computes c) a b d refl refl refl refl refl
lined (ComputeImmediate c r n) h = immediate_line _ (Computes c) r n (computes_take c) h refl refl refl
lined (Shift s a b) h = registers_line _ (Shifts s) a b (numbered 0) refl refl refl refl refl
lined (Load w a b) h = registers_line _ (Loads w) a (numbered 0) b refl refl refl refl refl
lined (Store w a b) h = registers_line _ (Stores w) (numbered 0) a b refl refl refl refl refl
lined (Branch c a b) h = registers_line _ (Branches c) (numbered 0) a b refl refl refl refl refl
lined (BranchImmediate c r n) h = immediate_line _ (Branches c) r n (branches_take c) h refl refl refl
lined (LoadRegister r n) h = immediate_line _ LoadsRegister r n (record { extension = SignExtended; is = refl }) h refl refl refl
lined (LoadConstant r n) h = immediate_line _ LoadsConstant r n (record { extension = ZeroExtended; is = refl }) h refl refl refl
lined Halt h = record {
  says_row = registers Halts (numbered 0) (numbered 0) (numbered 0);
  says = record { inner = 9 ∷ (row Halts).name; whole = refl; plain = refl; short = omega arith; says = refl };
  uses = refl;
  counts = refl;
  spells = λ v. refl;
}
