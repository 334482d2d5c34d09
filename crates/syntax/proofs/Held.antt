-- A number held no further than the bound is judged as the number itself.
use Rattle.std.proofs.Common.{◌≡◌, ℕ, ◌-◌, min, Bool, true, false, cond, List, [], ◌∷◌, ℤ, pos, negsuc, Some, None, Err, Option, sym, refl, ap, ◌∙◌, arith}
use Rattle.std.specs.Option.{option_map}
use Rattle.std.proofs.lemmas.Bool.Decides.{nat_tests}
use Rattle.std.proofs.lemmas.Bool.{cond-false}
use Rattle.word.specs.declared.registers.Register.{Register}
use Rattle.word.specs.declared.instructions.Operation.{Operation}
use Rattle.word.specs.declared.instructions.Operation.TheVariants.{Computes, Shifts, Loads, Stores, Branches, LoadsRegister, LoadsConstant, Halts}
use Rattle.word.specs.declared.table.Extension.{Extension}
use Rattle.word.specs.declared.table.Extension.TheVariants.{ZeroExtended, SignExtended}
use Rattle.word.specs.Table.{row}
use Rattle.syntax.specs.declared.mnemonics.Pseudo.TheVariants.{Nop, Lsl, Not, Neg, Ldi, Lsrm, Asrm, Lslm}
use Rattle.syntax.specs.declared.mnemonics.Mnemonic.{Mnemonic}
use Rattle.syntax.specs.declared.mnemonics.Mnemonic.TheVariants.{OfWord, OfPseudo}
use Rattle.syntax.specs.declared.rows.InstructionFault.TheVariants.{OutOfRange}
use Rattle.syntax.specs.Numbers.{number, bound, held, held_number}
use Rattle.syntax.specs.Names.{register_in, is_name}
use Rattle.syntax.specs.Operands.{Operand, register, numeral, name, Operands, none, one, two, three, or_number, or_name, or_register, operand_by, and_then, after_three, after_two, after_one, after_none, operands_by}
use Rattle.syntax.specs.Rows.{Row, immediate, constant, load_from, store_to, plain, fits_byte, fits_word, in_range, asked, judged, of_number, row_of}
use Rattle.syntax.specs.declared.statements.Beginning.{Beginning}
use Rattle.syntax.specs.declared.statements.Beginning.TheVariants.{Semicolon, Tab, Space, Other}
use Rattle.syntax.specs.Statements.{with_operands, with_mnemonic, instruction_by, beginning, kind_of, kind_by, is_clean, with_row, said_by, statement_by, statement_in}
use Rattle.syntax.specs.declared.statements.LineFault.TheVariants.{BadCharacters}
use Rattle.syntax.specs.Mnemonics.{mnemonic_in}
use Rattle.syntax.specs.Cuts.{pieces, before, behind}
use Rattle.syntax.specs.declared.cuts.Separator.TheVariants.{Comma, Blank}

-- within a word's range a number is held as it is
word_same : (z : ℤ) → fits_word z ≡ true → held z ≡ z
word_same (pos n) h = let e : min bound n ≡ n = grind (arith, nat_tests) in ap pos e
word_same (negsuc n) h = let e : min (bound - 1) n ≡ n = grind (arith, nat_tests) in ap negsuc e

byte-same : (x : Option Extension) (z : ℤ) → fits_byte x z ≡ true → held z ≡ z
byte-same None z h = absurd (let n : ◌≡◌ {A = ℕ} 0 1 = cc in omega arith)
byte-same (Some ZeroExtended) (pos n) h = let e : min bound n ≡ n = grind (arith, nat_tests) in ap pos e
byte-same (Some ZeroExtended) (negsuc n) h = absurd (let n : ◌≡◌ {A = ℕ} 0 1 = cc in omega arith)
byte-same (Some SignExtended) (pos n) h = let e : min bound n ≡ n = grind (arith, nat_tests) in ap pos e
byte-same (Some SignExtended) (negsuc n) h = let e : min (bound - 1) n ≡ n = grind (arith, nat_tests) in ap negsuc e

-- out of range it stays out of range
word_out : (z : ℤ) → fits_word z ≡ false → fits_word (held z) ≡ false
word_out (pos n) h = grind (arith, nat_tests)
word_out (negsuc n) h = grind (arith, nat_tests)

byte_out : (x : Option Extension) (z : ℤ) → fits_byte x z ≡ false → fits_byte x (held z) ≡ false
byte_out None z h = refl
byte_out (Some ZeroExtended) (pos n) h = grind (arith, nat_tests)
byte_out (Some ZeroExtended) (negsuc n) h = refl
byte_out (Some SignExtended) (pos n) h = grind (arith, nat_tests)
byte_out (Some SignExtended) (negsuc n) h = grind (arith, nat_tests)

-- a row with one number
module _ (K : ℤ → Row) (fits : ℤ → Bool) (is : (z : ℤ) → in_range (K z) ≡ fits z) (same : (z : ℤ) → fits z ≡ true → held z ≡ z) (out : (z : ℤ) → fits z ≡ false → fits (held z) ≡ false) where
  asked-held : (z : ℤ) → asked (K (held z)) ≡ asked (K z)
  asked-held z = by (fits z) refl
    where
      refused : (z : ℤ) → fits z ≡ false → asked (K z) ≡ Err OutOfRange
      refused z e = cond-false _ _ _ (is z ∙ e)

      by : (b : Bool) → fits z ≡ b → asked (K (held z)) ≡ asked (K z)
      by true e = ap (λ z. asked (K z)) (same z e)
      by false e = refused (held z) (out z e) ∙ sym (refused z e)

immediate-held : (x : Operation) (r : Register) (z : ℤ) → asked (immediate x r (held z)) ≡ asked (immediate x r z)
immediate-held x r = asked-held (immediate x r) (fits_byte (row x).immediate) (λ z. refl) (byte-same (row x).immediate) (byte_out (row x).immediate)

numbers-held : (m : Mnemonic) (r : Register) (n : ℤ) → judged (of_number m r (held n)) ≡ judged (of_number m r n)
numbers-held (OfWord (Computes c)) r n = immediate-held (Computes c) r n
numbers-held (OfWord (Shifts s)) r n = refl
numbers-held (OfWord (Loads w)) r n = asked-held (λ z. load_from w r (plain z)) fits_word (λ z. refl) word_same word_out n
numbers-held (OfWord (Stores w)) r n = asked-held (λ z. store_to w r (plain z)) fits_word (λ z. refl) word_same word_out n
numbers-held (OfWord (Branches c)) r n = immediate-held (Branches c) r n
numbers-held (OfWord LoadsRegister) r n = immediate-held LoadsRegister r n
numbers-held (OfWord LoadsConstant) r n = immediate-held LoadsConstant r n
numbers-held (OfWord Halts) r n = refl
numbers-held (OfPseudo Nop) r n = refl
numbers-held (OfPseudo Lsl) r n = refl
numbers-held (OfPseudo Not) r n = refl
numbers-held (OfPseudo Neg) r n = refl
numbers-held (OfPseudo Ldi) r n = asked-held (λ z. constant r (plain z)) fits_word (λ z. refl) word_same word_out n
numbers-held (OfPseudo Lsrm) r n = refl
numbers-held (OfPseudo Asrm) r n = refl
numbers-held (OfPseudo Lslm) r n = refl

-- operands as the program holds them
abbrev held_operand : Operand → Operand
held_operand (register r) = register r
held_operand (numeral z) = numeral (held z)
held_operand (name t) = name t

abbrev held_operands : Operands → Operands
held_operands none = none
held_operands (one a) = one (held_operand a)
held_operands (two a b) = two (held_operand a) (held_operand b)
held_operands (three a b c) = three (held_operand a) (held_operand b) (held_operand c)

rows_held : (m : Mnemonic) (os : Operands) → judged (row_of m (held_operands os)) ≡ judged (row_of m os)
rows_held m none = refl
rows_held m (one (register r)) = refl
rows_held m (one (numeral n)) = refl
rows_held m (one (name t)) = refl
rows_held m (two (register r) (register s)) = refl
rows_held m (two (register r) (numeral n)) = numbers-held m r n
rows_held m (two (register r) (name t)) = refl
rows_held m (two (numeral n) b) = refl
rows_held m (two (name t) b) = refl
rows_held m (three (register a) (register b) (register c)) = refl
rows_held m (three (register a) (register b) (numeral n)) = refl
rows_held m (three (register a) (register b) (name t)) = refl
rows_held m (three (register a) (numeral n) c) = refl
rows_held m (three (register a) (name t) c) = refl
rows_held m (three (numeral n) b c) = refl
rows_held m (three (name t) b c) = refl

-- reading with the bound gives the held operands
operand_held : (t : List ℕ) → operand_by held_number t ≡ option_map held_operand (operand_by number t)
operand_held t = by_register (register_in t)
  where
    by_number : (o : Option ℤ) → or_number held_number (option_map held o) ≡ option_map held_operand (or_number number o)
    by_number None = refl
    by_number (Some z) = refl

    by_name : (b : Bool) → or_name held_number b t ≡ option_map held_operand (or_name number b t)
    by_name true = refl
    by_name false = by_number (number t)

    by_register : (o : Option Register) → or_register held_number o t ≡ option_map held_operand (or_register number o t)
    by_register (Some r) = refl
    by_register None = by_name (is_name t)

-- one operand more, and the rest
then_held : (p : List ℕ) (F G : Operand → Option Operands) → ((a : Operand) → F (held_operand a) ≡ option_map held_operands (G a))
    → and_then (operand_by held_number p) F ≡ option_map held_operands (and_then (operand_by number p) G)
then_held p F G each = ap (λ o. and_then o F) (operand_held p) ∙ by (operand_by number p)
  where
    by : (o : Option Operand) → and_then (option_map held_operand o) F ≡ option_map held_operands (and_then o G)
    by None = refl
    by (Some a) = each a

three-held : (a b c : Operand) (ps : List (List ℕ))
    → after_three held_number (held_operand a) (held_operand b) (held_operand c) ps ≡ option_map held_operands (after_three number a b c ps)
three-held a b c [] = refl
three-held a b c (p ∷ ps) = refl

two-held : (a b : Operand) (ps : List (List ℕ)) → after_two held_number (held_operand a) (held_operand b) ps ≡ option_map held_operands (after_two number a b ps)
two-held a b [] = refl
two-held a b (p ∷ ps) = then_held p _ _ (λ c. three-held a b c ps)

one-held : (a : Operand) (ps : List (List ℕ)) → after_one held_number (held_operand a) ps ≡ option_map held_operands (after_one number a ps)
one-held a [] = refl
one-held a (p ∷ ps) = then_held p _ _ (λ b. two-held a b ps)

none-held : (ps : List (List ℕ)) → after_none held_number ps ≡ option_map held_operands (after_none number ps)
none-held [] = refl
none-held (p ∷ ps) = then_held p _ _ (λ a. one-held a ps)

operands-held : (o : Option (List ℕ)) → operands_by held_number o ≡ option_map held_operands (operands_by number o)
operands-held None = refl
operands-held (Some t) = none-held (pieces Comma t)

instruction-held : (t : List ℕ) → said_by (instruction_by held_number t) ≡ said_by (instruction_by number t)
instruction-held t = by_mnemonic (mnemonic_in (before Blank t))
  where
    by_operands : (m : Mnemonic) (os : Option Operands) → said_by (with_operands m (option_map held_operands os)) ≡ said_by (with_operands m os)
    by_operands m None = refl
    by_operands m (Some os) = ap with_row (rows_held m os)

    by_mnemonic : (m : Option Mnemonic) → said_by (with_mnemonic m (operands_by held_number (behind Blank t))) ≡ said_by (with_mnemonic m (operands_by number (behind Blank t)))
    by_mnemonic None = refl
    by_mnemonic (Some m) = ap (λ o. said_by (with_operands m o)) (operands-held (behind Blank t)) ∙ by_operands m (operands_by number (behind Blank t))

kind-held : (l : List ℕ) → said_by (kind_by held_number l) ≡ said_by (kind_by number l)
kind-held [] = refl
kind-held (c ∷ cs) = by (beginning c)
  where
    by : (b : Beginning) → said_by (kind_of held_number b c cs) ≡ said_by (kind_of number b c cs)
    by Semicolon = refl
    by Tab = instruction-held cs
    by Space = refl
    by Other = refl

pub statement_held : (l : List ℕ) → statement_by held_number l ≡ statement_in l
statement_held l = by (is_clean l)
  where
    by : (b : Bool) → said_by (cond b (kind_by held_number l) (Err BadCharacters)) ≡ said_by (cond b (kind_by number l) (Err BadCharacters))
    by true = kind-held l
    by false = refl
