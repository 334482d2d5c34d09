-- The image is as long as the next address says.
use Rattle.std.proofs.Common.{◌≡◌, ℕ, ◌+◌, ◌*◌, ◌/◌, min, Bool, true, false, cond, ltb, List, [], ◌∷◌, ◌++◌, length, is_some, Some, None, Ok, Err, Option, Result, refl, sym, ap, subst, length-append, arith}
use Rattle.std.specs.Option.{option_map}
use Rattle.std.proofs.lemmas.List.{length-map}
use Rattle.word.specs.Words.{encoded}
use Rattle.syntax.specs.declared.statements.LineFault.{LineFault}
use Rattle.syntax.specs.Data.{Datum, data_in, data_bytes, bytes_of}
use Rattle.syntax.specs.Rows.{Row}
use Rattle.syntax.specs.Statements.{Statement, empty, labelled, code, statement_in}
use Rattle.assembler.specs.declared.records.LabelRecord.{LabelRecord}
use Rattle.assembler.specs.declared.records.LineRecord.{LineRecord}
use Rattle.assembler.specs.declared.records.LineKind.TheVariants.{Instruction, Data}
use Rattle.assembler.specs.declared.records.Refusal.{Refusal}
use Rattle.assembler.specs.declared.records.Refusal.TheVariants.{LabelTwice, NoLabelRecord, NoLineRecord}
use Rattle.assembler.specs.Expansions.{spelled, words, word_count, value_in}
use Rattle.assembler.specs.Placing.{Room, Placing, Whole, Stopped, behind, label_record, line_record, label_named, place_code, place_data, place_rest, place_label, place_statement, place_line, place}
use Rattle.assembler.specs.Images.{Part, data_part, part_of, word_bytes, part_bytes, line_bytes, image_of}
use Rattle.assembler.proofs.Counts.{counts_stand}
use Rattle.assembler.proofs.Judged.{code_passed}

never : {X : Type 0} → ◌≡◌ {A = ℕ} 0 1 → X
never z = absurd (omega arith)

-- two bytes for each word
pub word_bytes_length : (ws : List ℕ) → length (word_bytes ws) ≡ 2 * length ws
word_bytes_length [] = refl
word_bytes_length (w ∷ ws) =
    let a : length (bytes_of w ++ word_bytes ws) ≡ length (bytes_of w) + length (word_bytes ws) = length-append (bytes_of w) (word_bytes ws) in
    let ih = word_bytes_length ws in
    let k : length (w ∷ ws) ≡ 1 + length ws = omega arith in
    omega arith

-- the next address moved by as much
abbrev Moved : Placing → ℕ → Placing → Type 0
Moved s memory s' = s'.address ≡ s.address + memory

moved : (s s' : Placing) (bytes memory n : ℕ) (labels : List LabelRecord) (lines : List LineRecord) → memory ≡ n
    → ◌≡◌ {A = Result Placing Refusal} (Ok (behind s bytes memory labels lines)) (Ok s') → Moved s n s'
moved s s' bytes memory n labels lines k e =
    let is : behind s bytes memory labels lines ≡ s' = cc in
    subst (λ (x : Placing). Moved s n x) is (ap (λ m. s.address + m) k)

module _ (address : List ℕ → ℕ) (free : Room) (s s' : Placing) (bytes : ℕ) where
  code_length : (l : List ℕ) (r : Row) → statement_in l ≡ Ok (code r) → length (word_bytes (words (value_in address r) r)) ≡ 2 * word_count r
  code_length l r is =
      let p = code_passed l r is in
      let a = word_bytes_length (words (value_in address r) r) in
      let b : length (words (value_in address r) r) ≡ length (spelled (value_in address r) r) = length-map (spelled (value_in address r) r) encoded in
      let c = counts_stand (value_in address r) r p.range p.registers in
      omega arith

  code_moved : (l : List ℕ) (r : Row) → statement_in l ≡ Ok (code r) → place_code free s bytes r ≡ Ok s' → Moved s (length (word_bytes (words (value_in address r) r))) s'
  code_moved l r is e = by (ltb (length s.lines) free.lines) e
    where
      by : (b : Bool) → cond b (Ok (behind s bytes (2 * word_count r) s.labels (s.lines ++ (line_record s (word_count r) Instruction ∷ [])))) (Err NoLineRecord) ≡ Ok s' → Moved s (length (word_bytes (words (value_in address r) r))) s'
      by true e = moved s s' bytes _ _ _ _ (sym (code_length l r is)) e
      by false e = never cc

  data_moved : (n : List ℕ) (d : Option Datum) → place_data free s bytes n d ≡ Ok s' → Moved s (length (part_bytes address (option_map Part.datum d))) s'
  data_moved n None e = never cc
  data_moved n (Some d) e = by (ltb (length s.lines) free.lines) e
    where
      by : (b : Bool) → cond b (Ok (behind s bytes (length (data_bytes d)) (s.labels ++ (label_record s n ∷ [])) (s.lines ++ (line_record s (length (data_bytes d) / 2) Data ∷ [])))) (Err NoLineRecord) ≡ Ok s' → Moved s (length (data_bytes d)) s'
      by true e = moved s s' bytes _ _ _ _ refl e
      by false e = never cc

  rest_moved : (n : List ℕ) (rest : Option (List ℕ)) → place_rest free s bytes n rest ≡ Ok s' → Moved s (length (part_bytes address (data_part rest))) s'
  rest_moved n None e = moved s s' bytes _ _ _ _ refl e
  rest_moved n (Some t) e = data_moved n (data_in t) e

  label_moved : (text n : List ℕ) (rest : Option (List ℕ)) → place_label free text s bytes n rest ≡ Ok s' → Moved s (length (part_bytes address (data_part rest))) s'
  label_moved text n rest e = by (is_some (label_named text n s.labels)) (ltb (length s.labels) (min 256 free.labels)) e
    where
      by : (a b : Bool) → cond a (Err LabelTwice) (cond b (place_rest free s bytes n rest) (Err NoLabelRecord)) ≡ Ok s' → Moved s (length (part_bytes address (data_part rest))) s'
      by true b e = never cc
      by false true e = rest_moved n rest e
      by false false e = never cc

line_moved : (address : List ℕ → ℕ) (free : Room) (text : List ℕ) (s s' : Placing) (l : List ℕ) → place_line free text s l ≡ Ok s' → Moved s (length (line_bytes address l)) s'
line_moved address free text s s' l e = by (statement_in l) refl e
  where
    by : (r : Result Statement LineFault) → statement_in l ≡ r → place_statement free text s (length l) r ≡ Ok s' → Moved s (length (part_bytes address (part_of r))) s'
    by (Err f) is e = never cc
    by (Ok empty) is e = moved s s' (length l) _ _ _ _ refl e
    by (Ok (labelled n rest)) is e = label_moved address free s s' (length l) text n rest e
    by (Ok (code r)) is e = code_moved address free s s' (length l) l r is e

whole : (s s' : Placing) → Whole s ≡ Whole s' → s ≡ s'
whole s s' e = cc

-- where all lines are placed, the next address has moved by the length of their image
pub image_long : (address : List ℕ → ℕ) (free : Room) (text : List ℕ) (s s' : Placing) (ls : List (List ℕ)) → place free text s ls ≡ Whole s'
    → s'.address ≡ s.address + length (image_of address ls)
image_long address free text s s' [] e = let k = ap (λ (x : Placing). x.address) (whole s s' e) in omega arith
image_long address free text s s' (l ∷ ls) e = by (λ x. image_long address free text x s' ls) (place_line free text s l) refl e
  where
    by : ((x : Placing) → place free text x ls ≡ Whole s' → s'.address ≡ x.address + length (image_of address ls))
        → (r : Result Placing Refusal) → place_line free text s l ≡ r → elim r [ Ok x ↦ place free text x ls | Err f ↦ Stopped s f ] ≡ Whole s'
        → s'.address ≡ s.address + length (line_bytes address l ++ image_of address ls)
    by later (Ok x) is e =
        let a = line_moved address free text s x l is in
        let b = later x e in
        let c : length (line_bytes address l ++ image_of address ls) ≡ length (line_bytes address l) + length (image_of address ls) = length-append (line_bytes address l) (image_of address ls) in
        omega arith
    by later (Err f) is e = never cc
