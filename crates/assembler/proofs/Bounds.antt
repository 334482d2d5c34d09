-- How far a line moves the next address.
use Rattle.std.proofs.Common.{◌≡◌, ℕ, ◌+◌, ◌*◌, ◌/◌, ◌≤◌, min, Bool, true, false, cond, ltb, List, [], ◌∷◌, ◌++◌, length, is_some, IfOk, Some, None, Ok, Err, Option, Result, refl, subst, arith}
use Rattle.syntax.specs.declared.statements.LineFault.{LineFault}
use Rattle.syntax.specs.Data.{Datum, data_in, data_bytes}
use Rattle.syntax.specs.Rows.{Row, registers, immediate, negation, constant, load_from, store_to, branch_to, long_shift}
use Rattle.syntax.specs.Statements.{Statement, empty, labelled, code, statement_in}
use Rattle.syntax.specs.Bounds.{RestShort}
use Rattle.syntax.proofs.Sizes.{data-bound}
use Rattle.syntax.proofs.Shorts.{statement_short}
use Rattle.assembler.specs.declared.records.Refusal.{Refusal}
use Rattle.assembler.specs.declared.records.Refusal.TheVariants.{LabelTwice, NoLabelRecord, NoLineRecord}
use Rattle.assembler.specs.declared.records.LabelRecord.{LabelRecord}
use Rattle.assembler.specs.declared.records.LineRecord.{LineRecord}
use Rattle.assembler.specs.declared.records.LineKind.TheVariants.{Instruction, Data}
use Rattle.assembler.specs.Expansions.{word_count}
use Rattle.assembler.specs.Placing.{Room, Placing, behind, label_record, line_record, came_to, label_named, place_code, place_data, place_rest, place_label, place_statement, place_line}

never : {X : Type 0} {A : Type 0} {a : A} {f : Refusal} → Err f ≡ Ok a → X
never e = absurd (let z : ◌≡◌ {A = ℕ} 0 1 = cc in omega arith)

pub three-words : (r : Row) → word_count r ≤ 3
three-words (registers x a b c) = omega arith
three-words (immediate x r z) = omega arith
three-words (negation r) = omega arith
three-words (constant r c) = omega arith
three-words (load_from w r c) = omega arith
three-words (store_to w r c) = omega arith
three-words (branch_to c r t) = omega arith
three-words (long_shift d r s) = omega arith

-- A line of so many bytes led from s to s'.
pub record Moves (s s' : Placing) (bytes : ℕ) : Type 0 where
  pub line : s'.line ≡ s.line + 1
  pub place : s'.place ≡ s.place + (bytes + 1)
  pub address : s'.address ≤ s.address + (bytes + 6)

-- What stands behind a line that takes at most so much memory.
moves : (s s' : Placing) (bytes memory : ℕ) (labels : List LabelRecord) (lines : List LineRecord) → memory ≤ bytes + 6
    → ◌≡◌ {A = Result Placing Refusal} (Ok (behind s bytes memory labels lines)) (Ok s') → Moves s s' bytes
moves s s' bytes memory labels lines small e =
    let is : behind s bytes memory labels lines ≡ s' = cc in
    subst (λ (x : Placing). Moves s x bytes) is (record { line = refl; place = refl; address = omega arith })

module _ (free : Room) (s s' : Placing) (bytes : ℕ) where
  code_moves : (r : Row) → place_code free s bytes r ≡ Ok s' → Moves s s' bytes
  code_moves r e = by (ltb (length s.lines) free.lines) e
    where
      by : (b : Bool) → cond b (Ok (behind s bytes (2 * word_count r) s.labels (s.lines ++ (line_record s (word_count r) Instruction ∷ [])))) (Err NoLineRecord) ≡ Ok s' → Moves s s' bytes
      by true e = moves s s' bytes _ _ _ (let t = three-words r in omega arith) e
      by false e = never e

  data_moves : (n t : List ℕ) (d : Option Datum) → length t ≤ bytes → data_in t ≡ d → place_data free s bytes n d ≡ Ok s' → Moves s s' bytes
  data_moves n t None h is e = never e
  data_moves n t (Some d) h is e = by (ltb (length s.lines) free.lines) e
    where
      by : (b : Bool) → cond b (Ok (behind s bytes (length (data_bytes d)) (s.labels ++ (label_record s n ∷ [])) (s.lines ++ (line_record s (length (data_bytes d) / 2) Data ∷ [])))) (Err NoLineRecord) ≡ Ok s' → Moves s s' bytes
      by true e = moves s s' bytes _ _ _ (let t = data-bound t d is in omega arith) e
      by false e = never e

  rest_moves : (n : List ℕ) (rest : Option (List ℕ)) → RestShort bytes rest → place_rest free s bytes n rest ≡ Ok s' → Moves s s' bytes
  rest_moves n None h e = moves s s' bytes _ _ _ (omega arith) e
  rest_moves n (Some t) h e = data_moves n t (data_in t) h refl e

  label_moves : (text n : List ℕ) (rest : Option (List ℕ)) → RestShort bytes rest → place_label free text s bytes n rest ≡ Ok s' → Moves s s' bytes
  label_moves text n rest h e = by (is_some (label_named text n s.labels)) (ltb (length s.labels) (min 256 free.labels)) e
    where
      by : (a b : Bool) → cond a (Err LabelTwice) (cond b (place_rest free s bytes n rest) (Err NoLabelRecord)) ≡ Ok s' → Moves s s' bytes
      by true b e = never e
      by false true e = rest_moves n rest h e
      by false false e = never e

pub line_moves : (free : Room) (text : List ℕ) (s s' : Placing) (l : List ℕ) → place_line free text s l ≡ Ok s' → Moves s s' (length l)
line_moves free text s s' l e = by (statement_in l) refl e
  where
    by : (r : Result Statement LineFault) → statement_in l ≡ r → place_statement free text s (length l) r ≡ Ok s' → Moves s s' (length l)
    by (Err f) is e = never e
    by (Ok empty) is e = moves s s' (length l) _ _ _ (omega arith) e
    by (Ok (labelled n rest)) is e = label_moves free s s' (length l) text n rest (statement_short l (labelled n rest) is).1.1 e
    by (Ok (code r)) is e = code_moves free s s' (length l) r e

-- A line that was answered with the memory that it takes.
pub memory_bound : (free : Room) (text : List ℕ) (s : Placing) (l : List ℕ) (r : Result ℕ Refusal) (labels : List LabelRecord) (lines : List LineRecord)
    → place_line free text s l ≡ came_to r s (length l) labels lines → IfOk r (λ memory. memory ≤ length l + 6)
memory_bound free text s l (Ok memory) labels lines e =
    let m = (line_moves free text s (behind s (length l) memory labels lines) l e).address in
    omega arith
memory_bound free text s l (Err f) labels lines e = tt
