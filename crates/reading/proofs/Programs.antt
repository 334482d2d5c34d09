-- The program of an accepted text: its lines keep what they owe, and its bytes are the image.
use Rattle.std.proofs.Common.{◌≡◌, ℕ, suc, ◌/◌, ◌%◌, ◌<◌, Bool, true, false, cond, leb, leb-true, List, [], ◌∷◌, ◌++◌, length, map, Some, None, Ok, Err, Option, Result, refl, sym, ap, ◌∙◌, subst, arith}
use Rattle.std.specs.Prelude.{ℤ, pos, negsuc}
use Rattle.std.specs.List.{All, find}
use Rattle.std.specs.Option.{option_map}
use Rattle.word.specs.declared.instructions.Instruction.{Instruction}
use Rattle.word.specs.Words.{encoded}
use Rattle.machine.specs.Program.{bytes, image}
use Rattle.machine.specs.Obligation.{Keeps}
use Rattle.machine.specs.Agreement.{Agreement}
use Rattle.board.specs.Viking.{viking}
use Rattle.syntax.specs.declared.statements.LineFault.{LineFault}
use Rattle.syntax.specs.Cuts.{lines}
use Rattle.syntax.specs.Data.{Datum, data_in, word_of}
use Rattle.syntax.specs.Rows.{Value, plain, address_of, Row, registers, immediate, negation, constant, load_from, store_to, branch_to, long_shift, fits_word, fits_value, in_range}
use Rattle.syntax.specs.Statements.{Statement, empty, labelled, code, statement_in}
use Rattle.assembler.specs.declared.records.LabelRecord.{LabelRecord}
use Rattle.assembler.specs.declared.records.LineRecord.{LineRecord}
use Rattle.assembler.specs.declared.records.Refusal.TheVariants.{ImageTooLong, TextTooLong, TooManyLines}
use Rattle.assembler.specs.Expansions.{value_of, value_in, spelled}
use Rattle.assembler.specs.Placing.{Room, Placing, Course, Whole, Stopped, start, place}
use Rattle.assembler.specs.Images.{datum, part_of, record_address, address_in, word_bytes, part_bytes, image_of, first_undefined}
use Rattle.assembler.specs.Answers.{accepted, refused, named, passed, of_lines, assembled}
use Rattle.assembler.proofs.Judged.{code_passed}
use Rattle.assembler.proofs.Addresses.{addresses_fit}
use Rattle.reading.specs.Programs.{items, program_of, program, Stands, ImagesMatch, BoardFollows}
use Rattle.reading.proofs.Rows.{rows}

never : {X : Type 0} → ◌≡◌ {A = ℕ} 0 1 → X
never z = absurd (omega arith)

-- the value that a row takes in is below 65,536
word_small : (z : ℤ) → fits_word z ≡ true → word_of z < 65536
word_small (negsuc n) h = omega arith
word_small (pos n) h = omega (arith, leb-true n 65535 h)

address_small : (test : LabelRecord → Bool) (rs : List LabelRecord) → All (λ r. r.address < 61440) rs → record_address (find test rs) < 65536
address_small test [] h = omega arith
address_small test (r ∷ rs) h = go (test r) (address_small test rs (λ k d less. h (suc k) d (omega arith)))
  where
    go : (t : Bool) → record_address (find test rs) < 65536 → record_address (cond t (Some r) (find test rs)) < 65536
    go true rest = omega (arith, h 0 r (omega arith))
    go false rest = rest

module _ (address : List ℕ → ℕ) (small : (n : List ℕ) → address n < 65536) where
  value_small : (v : Value) → fits_value v ≡ true → value_of address v < 65536
  value_small (plain z) h = word_small z h
  value_small (address_of t) h = small t

  taken_small : (r : Row) → in_range r ≡ true → value_in address r < 65536
  taken_small (registers x a b c) h = omega arith
  taken_small (immediate x r z) h = omega arith
  taken_small (negation r) h = omega arith
  taken_small (constant r v) h = value_small v h
  taken_small (load_from w r v) h = value_small v h
  taken_small (store_to w r v) h = value_small v h
  taken_small (branch_to c r t) h = small t
  taken_small (long_shift d r s) h = omega arith

  -- each line keeps what it owes
  keeps : (ls : List (List ℕ)) → Keeps viking (program_of address ls)
  keeps [] = tt
  keeps (l ∷ ls) = by (statement_in l) refl (keeps ls)
    where
      of_data : (d : Option Datum) → Keeps viking (program_of address ls) → Keeps viking (items address (option_map datum d) ++ program_of address ls)
      of_data None k = k
      of_data (Some d) k = k

      by : (r : Result Statement LineFault) → statement_in l ≡ r → Keeps viking (program_of address ls) → Keeps viking (items address (part_of r) ++ program_of address ls)
      by (Err f) e k = k
      by (Ok empty) e k = k
      by (Ok (labelled n None)) e k = k
      by (Ok (labelled n (Some t))) e k = of_data (data_in t) k
      by (Ok (code r)) e k = let p = code_passed l r e in (rows (value_in address r) r (taken_small r p.range) p.range p.registers, k)

-- the bytes of a line are those of its words
word_bytes_same : (is : List Instruction) → bytes viking is ≡ word_bytes (map encoded is)
word_bytes_same [] = refl
word_bytes_same (i ∷ is) = ap (λ bs. encoded i / 256 ∷ encoded i % 256 ∷ bs) (word_bytes_same is)

module _ (address : List ℕ → ℕ) where
  image_same : (ls : List (List ℕ)) → image viking (program_of address ls) ≡ image_of address ls
  image_same [] = refl
  image_same (l ∷ ls) = by (statement_in l) (image_same ls)
    where
      of_data : (d : Option Datum) → image viking (program_of address ls) ≡ image_of address ls → image viking (items address (option_map datum d) ++ program_of address ls) ≡ part_bytes address (option_map datum d) ++ image_of address ls
      of_data None k = k
      of_data (Some d) k = ap (λ bs. part_bytes address (Some (datum d)) ++ bs) k

      by : (r : Result Statement LineFault) → image viking (program_of address ls) ≡ image_of address ls → image viking (items address (part_of r) ++ program_of address ls) ≡ part_bytes address (part_of r) ++ image_of address ls
      by (Err f) k = k
      by (Ok empty) k = k
      by (Ok (labelled n None)) k = k
      by (Ok (labelled n (Some t))) k = of_data (data_in t) k
      by (Ok (code r)) k =
          ap (λ bs. bs ++ image viking (program_of address ls)) (word_bytes_same (spelled (value_in address r) r)) ∙
          ap (λ bs. word_bytes (map encoded (spelled (value_in address r) r)) ++ bs) k

-- the image of an accepted text
image_is : (free : Room) (most : ℕ) (text im : List ℕ) (labels : List LabelRecord) (records : List LineRecord) → assembled free most text ≡ accepted im labels records
    → image_of (address_in text labels) (lines text) ≡ im
image_is free most text im labels records e = by_length (leb (length text) 32768) e
  where
    by_size : (ls : List LabelRecord) (rs : List LineRecord) (x : List ℕ) (b : Bool) → cond b (accepted x ls rs) (refused ImageTooLong 0 ls rs) ≡ accepted im labels records → (labels ≡ ls) × (x ≡ im)
    by_size ls rs x true e = (cc, cc)
    by_size ls rs x false e = never cc

    by_names : (s : Placing) (o : Option ℕ) → named most text s o ≡ accepted im labels records → image_of (address_in text labels) (lines text) ≡ im
    by_names s (Some n) e = never cc
    by_names s None e =
        let (y, x) = by_size s.labels s.lines (image_of (address_in text s.labels) (lines text)) (leb (length (image_of (address_in text s.labels) (lines text))) most) e in
        ap (λ ls. image_of (address_in text ls) (lines text)) y ∙ x

    by_course : (c : Course) → passed most text c ≡ accepted im labels records → image_of (address_in text labels) (lines text) ≡ im
    by_course (Stopped s f) e = never cc
    by_course (Whole s) e = by_names s (first_undefined text s.labels (lines text)) e

    by_lines : (b : Bool) → cond b (passed most text (place free text start (lines text))) (refused TooManyLines 2049 [] []) ≡ accepted im labels records → image_of (address_in text labels) (lines text) ≡ im
    by_lines true e = by_course (place free text start (lines text)) e
    by_lines false e = never cc

    by_length : (b : Bool) → cond b (of_lines free most text) (refused TextTooLong 0 [] []) ≡ accepted im labels records → image_of (address_in text labels) (lines text) ≡ im
    by_length true e = by_lines (leb (length (lines text)) 2048) e
    by_length false e = never cc

pub images_match : ImagesMatch
images_match free most text im labels records e = image_same (address_in text labels) (lines text) ∙ image_is free most text im labels records e

-- the promise, from the agreement of the machine
pub follows : Agreement viking → BoardFollows
follows agreement free most text im labels records e c b fits facts stands =
    let (short, low, ends) = addresses_fit free most text im labels records e in
    let is : image viking (program text labels) ≡ im = images_match free most text im labels records e in
    let size = ap length is in
    agreement (program text labels) (keeps (address_in text labels) (λ n. address_small _ labels low) (lines text)) (omega arith) c b fits facts
    (subst (λ (bs : List ℕ). Stands bs b) (sym is) stands)
