-- A row that a line says has passed its questions.
use Rattle.std.proofs.Common.{◌≡◌, ℕ, Bool, true, false, cond, List, Some, None, Ok, Err, Option, Result, refl, subst, arith}
use Rattle.syntax.specs.declared.statements.LineFault.{LineFault}
use Rattle.syntax.specs.declared.rows.InstructionFault.TheVariants.{OutOfRange, WrongRegister}
use Rattle.syntax.specs.Numbers.{number}
use Rattle.syntax.specs.Rows.{Row, in_range, registers_fit, asked, judged, row_of}
use Rattle.syntax.specs.Statements.{Line, blank, comment, label, instruction, code, line_by, with_row, said_by, statement_in}

-- A row in range with the right registers.
pub record Passed (r : Row) : Type 0 where
  pub range : in_range r ≡ true
  pub registers : registers_fit r ≡ true

never : {X : Type 0} → ◌≡◌ {A = ℕ} 0 1 → X
never z = absurd (omega arith)

asked_passed : (q r : Row) → with_row (asked q) ≡ Ok (code r) → Passed r
asked_passed q r e = by (in_range q) (registers_fit q) refl refl e
  where
    by : (a b : Bool) → in_range q ≡ a → registers_fit q ≡ b → with_row (cond a (cond b (Ok q) (Err WrongRegister)) (Err OutOfRange)) ≡ Ok (code r) → Passed r
    by true true x y e = let is : q ≡ r = cc in subst Passed is (record { range = x; registers = y })
    by true false x y e = never cc
    by false b x y e = never cc

judged_passed : (o : Option Row) (r : Row) → with_row (judged o) ≡ Ok (code r) → Passed r
judged_passed None r e = never cc
judged_passed (Some q) r e = asked_passed q r e

pub code_passed : (l : List ℕ) (r : Row) → statement_in l ≡ Ok (code r) → Passed r
code_passed l r e = by (line_by number l) e
  where
    by : (m : Result Line LineFault) → said_by m ≡ Ok (code r) → Passed r
    by (Err f) e = never cc
    by (Ok blank) e = never cc
    by (Ok comment) e = never cc
    by (Ok (label n rest)) e = never cc
    by (Ok (instruction m os)) e = judged_passed (row_of m os) r e
