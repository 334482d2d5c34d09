-- What the table's searches find.
use Rattle.std.proofs.Common.{◌≡◌, ℕ, ◌<◌, Bool, true, false, cond, ◌&&◌, eqb, List, [], ◌∷◌, map, is_some, Some, None, Option, sym, refl, ap, ◌∙◌, arith, lit<}
use Rattle.std.proofs.lemmas.Bool.Decides.{nat_tests}
use Rattle.word.specs.declared.instructions.Computation.{Computation}
use Rattle.word.specs.declared.instructions.Computation.TheVariants.{And, Or, Xor, Slt, Sltu, Add, Sub}
use Rattle.word.specs.declared.instructions.Shift.TheVariants.{Lsr, Asr}
use Rattle.word.specs.declared.instructions.Width.TheVariants.{Byte, Word}
use Rattle.word.specs.declared.instructions.Condition.{Condition}
use Rattle.word.specs.declared.instructions.Condition.TheVariants.{Zero, NotZero}
use Rattle.word.specs.declared.instructions.Operation.{Operation}
use Rattle.word.specs.declared.instructions.Operation.TheVariants.{Computes, Shifts, Loads, Stores, Branches, LoadsRegister, LoadsConstant, Halts}
use Rattle.word.specs.declared.table.Shape.{Shape}
use Rattle.word.specs.declared.table.Shape.TheVariants.{ThreeRegisters, LastZero, MiddleZero, FirstZero, NoOperands}
use Rattle.word.specs.Table.{Row, row, entry, operations, first, is_coded, coded, is_immediately_coded, immediately_coded}

pub both : (a b : Bool) → (a && b) ≡ true → (a ≡ true) × (b ≡ true)
both true b e = (refl, e)
both false b e = absurd (let z : ◌≡◌ {A = ℕ} 0 1 = cc in omega arith)

-- what a search finds passes
first_passes : (p : Row → Bool) (xs : List Operation) (x : Operation) → first p (map entry xs) ≡ Some x → p (row x) ≡ true
first_passes p [] x e = absurd (let z : ◌≡◌ {A = ℕ} 0 1 = cc in omega arith)
first_passes p (y ∷ ys) x e = by (p (row y)) refl (first_passes p ys x) e
  where
    by : (b : Bool) → p (row y) ≡ b → (first p (map entry ys) ≡ Some x → p (row x) ≡ true)
        → cond b (Some y) (first p (map entry ys)) ≡ Some x → p (row x) ≡ true
    by true t later f = let s : y ≡ x = cc in sym (ap (λ z. p (row z)) s) ∙ t
    by false t later f = later f

pub codes_of : (o p : ℕ) (x : Operation) → coded o p ≡ Some x → ((row x).opcode ≡ o) × ((row x).op2 ≡ p)
codes_of o p x e =
    let t = both (eqb (row x).opcode o) (eqb (row x).op2 p) (first_passes (is_coded o p) operations x e) in
    (grind (arith, nat_tests), grind (arith, nat_tests))

pub opcode_of : (o : ℕ) (x : Operation) → immediately_coded o ≡ Some x → (row x).opcode ≡ o
opcode_of o x e =
    let t = both (eqb (row x).opcode o) (is_some (row x).immediate) (first_passes (is_immediately_coded o) operations x e) in
    grind (arith, nat_tests)

-- each row is found by its codes, which fit their fields
pub record Placed (x : Operation) : Type 0 where
  pub found : coded (row x).opcode (row x).op2 ≡ Some x
  pub opcode-fits : (row x).opcode < 16
  pub op2-fits : (row x).op2 < 4

pub placed : (x : Operation) → Placed x
placed (Computes And) = record { found = refl; opcode-fits = lit< tt; op2-fits = lit< tt }
placed (Computes Or) = record { found = refl; opcode-fits = lit< tt; op2-fits = lit< tt }
placed (Computes Xor) = record { found = refl; opcode-fits = lit< tt; op2-fits = lit< tt }
placed (Computes Slt) = record { found = refl; opcode-fits = lit< tt; op2-fits = lit< tt }
placed (Computes Sltu) = record { found = refl; opcode-fits = lit< tt; op2-fits = lit< tt }
placed (Computes Add) = record { found = refl; opcode-fits = lit< tt; op2-fits = lit< tt }
placed (Computes Sub) = record { found = refl; opcode-fits = lit< tt; op2-fits = lit< tt }
placed (Shifts Lsr) = record { found = refl; opcode-fits = lit< tt; op2-fits = lit< tt }
placed (Shifts Asr) = record { found = refl; opcode-fits = lit< tt; op2-fits = lit< tt }
placed (Loads Byte) = record { found = refl; opcode-fits = lit< tt; op2-fits = lit< tt }
placed (Loads Word) = record { found = refl; opcode-fits = lit< tt; op2-fits = lit< tt }
placed (Stores Byte) = record { found = refl; opcode-fits = lit< tt; op2-fits = lit< tt }
placed (Stores Word) = record { found = refl; opcode-fits = lit< tt; op2-fits = lit< tt }
placed (Branches Zero) = record { found = refl; opcode-fits = lit< tt; op2-fits = lit< tt }
placed (Branches NotZero) = record { found = refl; opcode-fits = lit< tt; op2-fits = lit< tt }
placed LoadsRegister = record { found = refl; opcode-fits = lit< tt; op2-fits = lit< tt }
placed LoadsConstant = record { found = refl; opcode-fits = lit< tt; op2-fits = lit< tt }
placed Halts = record { found = refl; opcode-fits = lit< tt; op2-fits = lit< tt }

-- the shape that an operation's rows share
abbrev pub shape_of : Operation → Option Shape
shape_of (Computes c) = Some ThreeRegisters
shape_of (Shifts s) = Some LastZero
shape_of (Loads w) = Some MiddleZero
shape_of (Stores w) = Some FirstZero
shape_of (Branches c) = Some FirstZero
shape_of LoadsRegister = None
shape_of LoadsConstant = None
shape_of Halts = Some NoOperands

pub shaped : (x : Operation) → (row x).shape ≡ shape_of x
shaped (Computes And) = refl
shaped (Computes Or) = refl
shaped (Computes Xor) = refl
shaped (Computes Slt) = refl
shaped (Computes Sltu) = refl
shaped (Computes Add) = refl
shaped (Computes Sub) = refl
shaped (Shifts Lsr) = refl
shaped (Shifts Asr) = refl
shaped (Loads Byte) = refl
shaped (Loads Word) = refl
shaped (Stores Byte) = refl
shaped (Stores Word) = refl
shaped (Branches Zero) = refl
shaped (Branches NotZero) = refl
shaped LoadsRegister = refl
shaped LoadsConstant = refl
shaped Halts = refl

-- an operation that takes an immediate is found by its opcode
pub computes_found : (c : Computation) → immediately_coded (row (Computes c)).opcode ≡ Some (Computes c)
computes_found And = refl
computes_found Or = refl
computes_found Xor = refl
computes_found Slt = refl
computes_found Sltu = refl
computes_found Add = refl
computes_found Sub = refl

pub branches_found : (c : Condition) → immediately_coded (row (Branches c)).opcode ≡ Some (Branches c)
branches_found Zero = refl
branches_found NotZero = refl
