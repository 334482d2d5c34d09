-- What an instruction's line says.
use Rattle.std.proofs.Common.{◌≡◌, ℕ, ◌+◌, ◌<◌, ◌≤◌, true, cond, ◌&&◌, leb, List, [], ◌∷◌, ◌++◌, length, Some, Ok, Err, refl, ap, ◌∙◌, sym, append_assoc, length-append, arith, lit<}
use Rattle.std.specs.List.{list_all}
use Rattle.std.proofs.lemmas.List.Folds.{list_all-append}
use Rattle.std.proofs.lemmas.Bool.Decides.{nat_tests}
use Rattle.word.specs.declared.instructions.Computation.TheVariants.{And, Or, Xor, Slt, Sltu, Add, Sub}
use Rattle.word.specs.declared.instructions.Shift.TheVariants.{Lsr, Asr}
use Rattle.word.specs.declared.instructions.Width.TheVariants.{Byte, Word}
use Rattle.word.specs.declared.instructions.Condition.TheVariants.{Zero, NotZero}
use Rattle.word.specs.declared.instructions.Operation.{Operation}
use Rattle.word.specs.declared.instructions.Operation.TheVariants.{Computes, Shifts, Loads, Stores, Branches, LoadsRegister, LoadsConstant, Halts}
use Rattle.word.specs.Table.{row}
use Rattle.lister.specs.Lines.{line_with}
use Rattle.syntax.specs.declared.cuts.Separator.TheVariants.{Blank, Comma}
use Rattle.syntax.specs.declared.mnemonics.Mnemonic.TheVariants.{OfWord}
use Rattle.syntax.specs.declared.rows.InstructionFault.TheVariants.{OutOfRange, WrongRegister}
use Rattle.syntax.specs.declared.statements.LineFault.TheVariants.{BadCharacters}
use Rattle.syntax.specs.Cuts.{pieces, behind}
use Rattle.syntax.specs.Mnemonics.{mnemonic_in}
use Rattle.syntax.specs.Numbers.{number}
use Rattle.syntax.specs.Operands.{Operand, Operands, two, three, and_then, after_none, after_one, after_two, after_three, operands_in}
use Rattle.syntax.specs.Rows.{Row, in_range, registers_fit, judged, row_of}
use Rattle.syntax.specs.Statements.{is_plain, is_clean, code, with_operands, with_mnemonic, with_row, said_by, kind_by, statement_in}
use Rattle.roundtrip.proofs.Cuts.{is_free, before_cut, behind_cut, pieces_cut, one_piece}
use Rattle.roundtrip.proofs.Operands.{Reads}

-- A text of one line that says a row.
pub record Says (text : List ℕ) (r : Row) : Type 0 where
  pub inner : List ℕ
  pub whole : text ≡ inner ++ (10 ∷ [])
  pub plain : list_all is_plain inner ≡ true
  pub short : length inner ≤ 15
  pub says : statement_in inner ≡ Ok (code r)

-- A mnemonic is known, and has no blank in it.
record Known (x : Operation) : Type 0 where
  plain : list_all is_plain (row x).name ≡ true
  free : is_free Blank (row x).name ≡ true
  short : length (row x).name < 5
  found : mnemonic_in (row x).name ≡ Some (OfWord x)

known : (x : Operation) → Known x
known (Computes And) = record { plain = refl; free = refl; short = lit< tt; found = refl }
known (Computes Or) = record { plain = refl; free = refl; short = lit< tt; found = refl }
known (Computes Xor) = record { plain = refl; free = refl; short = lit< tt; found = refl }
known (Computes Slt) = record { plain = refl; free = refl; short = lit< tt; found = refl }
known (Computes Sltu) = record { plain = refl; free = refl; short = lit< tt; found = refl }
known (Computes Add) = record { plain = refl; free = refl; short = lit< tt; found = refl }
known (Computes Sub) = record { plain = refl; free = refl; short = lit< tt; found = refl }
known (Shifts Lsr) = record { plain = refl; free = refl; short = lit< tt; found = refl }
known (Shifts Asr) = record { plain = refl; free = refl; short = lit< tt; found = refl }
known (Loads Byte) = record { plain = refl; free = refl; short = lit< tt; found = refl }
known (Loads Word) = record { plain = refl; free = refl; short = lit< tt; found = refl }
known (Stores Byte) = record { plain = refl; free = refl; short = lit< tt; found = refl }
known (Stores Word) = record { plain = refl; free = refl; short = lit< tt; found = refl }
known (Branches Zero) = record { plain = refl; free = refl; short = lit< tt; found = refl }
known (Branches NotZero) = record { plain = refl; free = refl; short = lit< tt; found = refl }
known LoadsRegister = record { plain = refl; free = refl; short = lit< tt; found = refl }
known LoadsConstant = record { plain = refl; free = refl; short = lit< tt; found = refl }
known Halts = record { plain = refl; free = refl; short = lit< tt; found = refl }

-- Operands with commas between, as a text that reads as these operands.
pub record ReadAll (t : List ℕ) (os : Operands) : Type 0 where
  plain : list_all is_plain t ≡ true
  short : length t ≤ 8
  operands : after_none number (pieces Comma t) ≡ Some os

-- two plain texts with a plain byte between
plain_with : (c : ℕ) (xs ys : List ℕ) → is_plain c ≡ true → list_all is_plain xs ≡ true → list_all is_plain ys ≡ true
    → list_all is_plain (xs ++ (c ∷ ys)) ≡ true
plain_with c xs ys p a b = list_all-append is_plain xs (c ∷ ys) ∙ (λ i. a i && (p i && b i))

long_with : (c : ℕ) (xs ys : List ℕ) → length (xs ++ (c ∷ ys)) ≡ length xs + (1 + length ys)
long_with c xs ys = let k : length (c ∷ ys) ≡ 1 + length ys = omega arith in let a = length-append xs (c ∷ ys) in omega arith

pub two_read : (s t : List ℕ) (a b : Operand) → Reads s a → Reads t b → length s ≤ 2 → ReadAll (s ++ (44 ∷ t)) (two a b)
two_read s t a b p q short = record {
  plain = plain_with 44 s t refl p.plain q.plain;
  short = let k = long_with 44 s t in let h = q.short in omega arith;
  operands =
      ap (after_none number) (pieces_cut Comma 44 t refl s p.free ∙ ap (λ ps. s ∷ ps) (one_piece Comma t q.free))
      ∙ ap (λ o. and_then o (λ a. after_one number a (t ∷ []))) p.operand
      ∙ ap (λ o. and_then o (λ b. after_two number a b [])) q.operand;
}

pub three_read : (s t u : List ℕ) (a b c : Operand) → Reads s a → Reads t b → Reads u c → length s ≡ 2 → length t ≡ 2 → length u ≡ 2
    → ReadAll (s ++ (44 ∷ (t ++ (44 ∷ u)))) (three a b c)
three_read s t u a b c p q r k l m = record {
  plain = plain_with 44 s (t ++ (44 ∷ u)) refl p.plain (plain_with 44 t u refl q.plain r.plain);
  short = let x = long_with 44 s (t ++ (44 ∷ u)) in let y = long_with 44 t u in omega arith;
  operands =
      ap (after_none number) (pieces_cut Comma 44 (t ++ (44 ∷ u)) refl s p.free
      ∙ ap (λ ps. s ∷ ps) (pieces_cut Comma 44 u refl t q.free ∙ ap (λ ps. t ∷ ps) (one_piece Comma u r.free)))
      ∙ ap (λ o. and_then o (λ a. after_one number a (t ∷ (u ∷ [])))) p.operand
      ∙ ap (λ o. and_then o (λ b. after_two number a b (u ∷ []))) q.operand
      ∙ ap (λ o. and_then o (λ c. after_three number a b c [])) r.operand;
}

-- A line with operands.
pub line_says : (x : Operation) (t : List ℕ) (os : Operands) (r : Row) → ReadAll t os → row_of (OfWord x) os ≡ Some r
    → in_range r ≡ true → registers_fit r ≡ true → Says (line_with (row x).name (32 ∷ t)) r
line_says x t os r read is range fit = record {
  inner = inner;
  whole = sym (append_assoc (9 ∷ (row x).name) (32 ∷ t) (10 ∷ []));
  plain = plain;
  short = long;
  says =
      ap (λ b. said_by (cond b (kind_by number inner) (Err BadCharacters))) clean
      ∙ ap (λ m. said_by (with_mnemonic m (operands_in (behind Blank ((row x).name ++ (32 ∷ t)))))) (ap mnemonic_in (before_cut Blank 32 t refl (row x).name k.free) ∙ k.found)
      ∙ ap (λ o. said_by (with_operands (OfWord x) (operands_in o))) (behind_cut Blank 32 t refl (row x).name k.free)
      ∙ ap (λ o. said_by (with_operands (OfWord x) o)) read.operands
      ∙ ap (λ o. with_row (judged o)) is
      ∙ ap (λ b. with_row (cond b (cond (registers_fit r) (Ok r) (Err WrongRegister)) (Err OutOfRange))) range
      ∙ ap (λ b. with_row (cond b (Ok r) (Err WrongRegister))) fit;
}
  where
    inner : List ℕ
    inner = 9 ∷ ((row x).name ++ (32 ∷ t))

    k : Known x
    k = known x

    plain : list_all is_plain inner ≡ true
    plain = plain_with 32 (row x).name t refl k.plain read.plain

    long : length inner ≤ 15
    long = let a = long_with 32 (row x).name t in let b = k.short in let c = read.short in let d : length inner ≡ 1 + length ((row x).name ++ (32 ∷ t)) = omega arith in omega arith

    under : (n : ℕ) → n ≤ 15 → leb n 120 ≡ true
    under n h = grind (arith, nat_tests)

    clean : is_clean inner ≡ true
    clean = λ i. under (length inner) long i && plain i
