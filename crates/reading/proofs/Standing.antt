-- The instruction lines of an accepted text's program stand where the line records say.
use Rattle.std.proofs.Common.{◌≡◌, ℕ, ◌+◌, ◌*◌, ◌/◌, min, Bool, true, false, cond, leb, ltb, List, [], ◌∷◌, ◌++◌, length, is_some, Some, None, Ok, Err, Option, Result, refl, sym, ap, ◌∙◌, subst, arith}
use Rattle.std.specs.Option.{option_map}
use Rattle.word.specs.declared.instructions.Instruction.{Instruction}
use Rattle.machine.specs.Program.{Item, bytes}
use Rattle.board.specs.Viking.{viking}
use Rattle.syntax.specs.declared.statements.LineFault.{LineFault}
use Rattle.syntax.specs.Cuts.{lines}
use Rattle.syntax.specs.Data.{Datum, data_in, data_bytes}
use Rattle.syntax.specs.Rows.{Row}
use Rattle.syntax.specs.Statements.{Statement, empty, labelled, code, statement_in}
use Rattle.assembler.specs.declared.records.LabelRecord.{LabelRecord}
use Rattle.assembler.specs.declared.records.LineRecord.{LineRecord}
use Rattle.assembler.specs.declared.records.LineKind.{LineKind}
use Rattle.assembler.specs.declared.records.LineKind.TheVariants as Kind
use Rattle.assembler.specs.declared.records.Refusal.{Refusal}
use Rattle.assembler.specs.declared.records.Refusal.TheVariants.{LabelTwice, NoLabelRecord, NoLineRecord, ImageTooLong, TextTooLong, TooManyLines}
use Rattle.assembler.specs.Expansions.{value_in, spelled, word_count}
use Rattle.assembler.specs.Placing.{Room, Placing, Course, Whole, Stopped, behind, start, label_record, line_record, label_named, place_code, place_data, place_rest, place_label, place_statement, place_line, place}
use Rattle.assembler.specs.Images.{instruction, datum, data_part, part_of, address_in, image_of, first_undefined}
use Rattle.assembler.specs.Answers.{accepted, refused, named, passed, of_lines}
use Rattle.assembler.proofs.Judged.{code_passed}
use Rattle.assembler.proofs.Counts.{counts_stand}
use Rattle.reading.specs.Programs.{items, program_of, program, begins, recorded, LinesStand}

never : {X : Type 0} → ◌≡◌ {A = ℕ} 0 1 → X
never z = absurd (omega arith)

-- two bytes for each word
bytes_length : (is : List Instruction) → length (bytes viking is) ≡ 2 * length is
bytes_length [] = refl
bytes_length (i ∷ is) =
    let ih = bytes_length is in
    let k : length (i ∷ is) ≡ 1 + length is = omega arith in
    omega arith

-- one record more
one_more : (rs : List LineRecord) (r : LineRecord) (k : List (ℕ × ℕ)) → r.kind ≡ Kind.Instruction → recorded (rs ++ (r ∷ [])) ++ k ≡ recorded rs ++ ((r.address, r.words) ∷ k)
one_more [] r k e = ap (λ t. elim t [ Kind.Instruction ↦ (r.address, r.words) ∷ [] | Kind.Data ↦ [] ] ++ k) e
one_more (x ∷ rs) r k e = by x.kind (one_more rs r k e)
  where
    by : (t : LineKind) → recorded (rs ++ (r ∷ [])) ++ k ≡ recorded rs ++ ((r.address, r.words) ∷ k)
        → elim t [ Kind.Instruction ↦ (x.address, x.words) ∷ recorded (rs ++ (r ∷ [])) | Kind.Data ↦ recorded (rs ++ (r ∷ [])) ] ++ k ≡
        elim t [ Kind.Instruction ↦ (x.address, x.words) ∷ recorded rs | Kind.Data ↦ recorded rs ] ++ ((r.address, r.words) ∷ k)
    by Kind.Instruction h = ap (λ y. (x.address, x.words) ∷ y) h
    by Kind.Data h = h

none_more : (rs : List LineRecord) (r : LineRecord) → r.kind ≡ Kind.Data → recorded (rs ++ (r ∷ [])) ≡ recorded rs
none_more [] r e = ap (λ t. elim t [ Kind.Instruction ↦ (r.address, r.words) ∷ [] | Kind.Data ↦ [] ]) e
none_more (x ∷ rs) r e = ap (λ y. elim x.kind [ Kind.Instruction ↦ (x.address, x.words) ∷ y | Kind.Data ↦ y ]) (none_more rs r e)

-- One line leads from s to x: what was recorded before it and begins with it is what is recorded and begins behind it.
module _ (address : List ℕ → ℕ) (free : Room) (s x : Placing) (size : ℕ) (rest : List (Item viking)) where
  abbrev Goes : List (Item viking) → Placing → Type 0
  Goes its y = recorded s.lines ++ begins (its ++ rest) s.address ≡ recorded y.lines ++ begins rest y.address

  stays : (labels : List LabelRecord) → ◌≡◌ {A = Result Placing Refusal} (Ok (behind s size 0 labels s.lines)) (Ok x) → Goes [] x
  stays labels e =
      let is : behind s size 0 labels s.lines ≡ x = cc in
      let k : s.address ≡ s.address + 0 = omega arith in
      subst (Goes []) is (ap (λ a. recorded s.lines ++ begins rest a) k)

  code_goes : (l : List ℕ) (r : Row) → statement_in l ≡ Ok (code r) → place_code free s size r ≡ Ok x → Goes (items address (Some (instruction r))) x
  code_goes l r said e = by (ltb (length s.lines) free.lines) e
    where
      ws : List Instruction
      ws = spelled (value_in address r) r

      counts : length ws ≡ word_count r
      counts = let p = code_passed l r said in counts_stand (value_in address r) r p.range p.registers

      by : (b : Bool) → cond b (Ok (behind s size (2 * word_count r) s.labels (s.lines ++ (line_record s (word_count r) Kind.Instruction ∷ [])))) (Err NoLineRecord) ≡ Ok x
          → Goes (items address (Some (instruction r))) x
      by true e =
          let is : behind s size (2 * word_count r) s.labels (s.lines ++ (line_record s (word_count r) Kind.Instruction ∷ [])) ≡ x = cc in
          let n : length (bytes viking ws) ≡ 2 * word_count r = bytes_length ws ∙ ap (λ m. 2 * m) counts in
          subst (Goes (items address (Some (instruction r)))) is
          (ap (λ m. recorded s.lines ++ ((s.address, m) ∷ begins rest (s.address + length (bytes viking ws)))) counts ∙
          ap (λ m. recorded s.lines ++ ((s.address, word_count r) ∷ begins rest (s.address + m))) n ∙
          sym (one_more s.lines (line_record s (word_count r) Kind.Instruction) (begins rest (s.address + 2 * word_count r)) refl))
      by false e = never cc

  data_goes : (n : List ℕ) (d : Option Datum) → place_data free s size n d ≡ Ok x → Goes (items address (option_map datum d)) x
  data_goes n None e = never cc
  data_goes n (Some d) e = by (ltb (length s.lines) free.lines) e
    where
      by : (b : Bool) → cond b (Ok (behind s size (length (data_bytes d)) (s.labels ++ (label_record s n ∷ [])) (s.lines ++ (line_record s (length (data_bytes d) / 2) Kind.Data ∷ [])))) (Err NoLineRecord) ≡ Ok x
          → Goes (items address (Some (datum d))) x
      by true e =
          let is : behind s size (length (data_bytes d)) (s.labels ++ (label_record s n ∷ [])) (s.lines ++ (line_record s (length (data_bytes d) / 2) Kind.Data ∷ [])) ≡ x = cc in
          subst (Goes (items address (Some (datum d)))) is
          (ap (λ rs. rs ++ begins rest (s.address + length (data_bytes d))) (sym (none_more s.lines (line_record s (length (data_bytes d) / 2) Kind.Data) refl)))
      by false e = never cc

  rest_goes : (n : List ℕ) (t : Option (List ℕ)) → place_rest free s size n t ≡ Ok x → Goes (items address (data_part t)) x
  rest_goes n None e = stays _ e
  rest_goes n (Some t) e = data_goes n (data_in t) e

  label_goes : (text n : List ℕ) (t : Option (List ℕ)) → place_label free text s size n t ≡ Ok x → Goes (items address (data_part t)) x
  label_goes text n t e = by (is_some (label_named text n s.labels)) (ltb (length s.labels) (min 256 free.labels)) e
    where
      by : (a b : Bool) → cond a (Err LabelTwice) (cond b (place_rest free s size n t) (Err NoLabelRecord)) ≡ Ok x → Goes (items address (data_part t)) x
      by true b e = never cc
      by false true e = rest_goes n t e
      by false false e = never cc

  statement_goes : (text l : List ℕ) (r : Result Statement LineFault) → statement_in l ≡ r → place_statement free text s size r ≡ Ok x → Goes (items address (part_of r)) x
  statement_goes text l (Err f) said e = never cc
  statement_goes text l (Ok empty) said e = stays _ e
  statement_goes text l (Ok (labelled n t)) said e = label_goes text n t e
  statement_goes text l (Ok (code r)) said e = code_goes l r said e

-- all lines
lines_go : (address : List ℕ → ℕ) (free : Room) (text : List ℕ) (s s' : Placing) (ls : List (List ℕ)) → place free text s ls ≡ Whole s'
    → recorded s.lines ++ begins (program_of address ls) s.address ≡ recorded s'.lines ++ []
lines_go address free text s s' [] e = let is : s ≡ s' = cc in ap (λ (x : Placing). recorded x.lines ++ []) is
lines_go address free text s s' (l ∷ ls) e = by (λ x. lines_go address free text x s' ls) (place_line free text s l) refl e
  where
    by : ((x : Placing) → place free text x ls ≡ Whole s' → recorded x.lines ++ begins (program_of address ls) x.address ≡ recorded s'.lines ++ [])
        → (r : Result Placing Refusal) → place_line free text s l ≡ r → elim r [ Ok x ↦ place free text x ls | Err f ↦ Stopped s f ] ≡ Whole s'
        → recorded s.lines ++ begins (items address (part_of (statement_in l)) ++ program_of address ls) s.address ≡ recorded s'.lines ++ []
    by later (Err f) is e = never cc
    by later (Ok x) is e = statement_goes address free s x (length l) (program_of address ls) text l (statement_in l) refl is ∙ later x e

end_none : (xs : List (ℕ × ℕ)) → xs ++ [] ≡ xs
end_none [] = refl
end_none (x ∷ xs) = ap (λ ys. x ∷ ys) (end_none xs)

pub lines_stand : LinesStand
lines_stand free most text im labels records e = by_length (leb (length text) 32768) e
  where
    by_size : (ls : List LabelRecord) (rs : List LineRecord) (x : List ℕ) (b : Bool) → cond b (accepted x ls rs) (refused ImageTooLong 0 ls rs) ≡ accepted im labels records → (labels ≡ ls) × (records ≡ rs)
    by_size ls rs x true e = (cc, cc)
    by_size ls rs x false e = never cc

    by_names : (s : Placing) (o : Option ℕ) → named most text s o ≡ accepted im labels records → (labels ≡ s.labels) × (records ≡ s.lines)
    by_names s (Some n) e = never cc
    by_names s None e = by_size s.labels s.lines (image_of (address_in text s.labels) (lines text)) (leb (length (image_of (address_in text s.labels) (lines text))) most) e

    by_course : (c : Course) → place free text start (lines text) ≡ c → passed most text c ≡ accepted im labels records → recorded records ≡ begins (program text labels) 0
    by_course (Stopped s f) is e = never cc
    by_course (Whole s) is e =
        let (y, z) = by_names s (first_undefined text s.labels (lines text)) e in
        ap recorded z ∙ sym (lines_go (address_in text labels) free text start s (lines text) is ∙ end_none (recorded s.lines))

    by_lines : (b : Bool) → cond b (passed most text (place free text start (lines text))) (refused TooManyLines 2049 [] []) ≡ accepted im labels records → recorded records ≡ begins (program text labels) 0
    by_lines true e = by_course (place free text start (lines text)) refl e
    by_lines false e = never cc

    by_length : (b : Bool) → cond b (of_lines free most text) (refused TextTooLong 0 [] []) ≡ accepted im labels records → recorded records ≡ begins (program text labels) 0
    by_length true e = by_lines (leb (length (lines text)) 2048) e
    by_length false e = never cc
