-- An instruction's line is assembled to that instruction's word.
use Rattle.std.proofs.Common.{◌≡◌, ℕ, ◌+◌, ◌*◌, ◌≤◌, Bool, true, false, cond, not, leb, ltb, List, [], ◌∷◌, ◌++◌, length, Some, None, Ok, Err, ap, ◌∙◌, length-append, arith}
use Rattle.std.specs.List.{position}
use Rattle.std.specs.Option.{option_map}
use Rattle.std.proofs.lemmas.Bool.Decides.{nat_tests}
use Rattle.word.specs.declared.instructions.Instruction.{Instruction}
use Rattle.word.specs.Words.{encoded}
use Rattle.lister.specs.Lines.{line_of}
use Rattle.syntax.specs.Cuts.{lines}
use Rattle.syntax.specs.Data.{bytes_of}
use Rattle.syntax.specs.Statements.{statement_in}
use Rattle.assembler.specs.declared.records.LineKind.TheVariants as K
use Rattle.assembler.specs.declared.records.LineRecord.{LineRecord}
use Rattle.assembler.specs.declared.records.Refusal.TheVariants.{TextTooLong, TooManyLines, ImageTooLong, NoLineRecord}
use Rattle.assembler.specs.Expansions.{value_in, word_count}
use Rattle.assembler.specs.Placing.{Whole, Stopped, room, start, behind, line_record, place_statement, place}
use Rattle.assembler.specs.Images.{used_by, is_undefined, first_undefined, address_in, word_bytes, part_of, part_bytes, image_of}
use Rattle.assembler.specs.Answers.{accepted, refused, passed, named, of_lines}
use Rattle.roundtrip.specs.Back.{assembled_line}
use Rattle.roundtrip.proofs.Cuts.{one_line}
use Rattle.roundtrip.proofs.Instructions.{Line}

none_passes : (p : List ℕ → Bool) (x : List ℕ) → p x ≡ false → position p (x ∷ []) ≡ None
none_passes p x e = ap (λ t. cond (ltb (cond (not t) (1 + 0) 0) 1) (Some (cond (not t) (1 + 0) 0)) None) e

at_most : (m n : ℕ) → m ≤ n → leb m n ≡ true
at_most m n h = grind (arith, nat_tests)

above_none : (n : ℕ) → 1 ≤ n → ltb 0 n ≡ true
above_none n h = grind (arith, nat_tests)

module _ (i : Instruction) (line : Line i) where
  abbrev inner : List ℕ
  inner = line.says.inner

  pub text_short : length (line_of i) ≤ 16
  text_short =
      let a : length (line_of i) ≡ length (inner ++ (10 ∷ [])) = ap length line.says.whole in
      let b : length (inner ++ (10 ∷ [])) ≡ length inner + 1 = length-append inner (10 ∷ []) in
      let c : length inner ≤ 15 = line.says.short in
      omega arith

  alone : lines (line_of i) ≡ inner ∷ []
  alone = ap lines line.says.whole ∙ one_line inner line.says.plain

  -- its record
  abbrev record_of : LineRecord
  record_of = line_record start 1 K.Instruction

  module _ (free most : ℕ) (h : 1 ≤ free) (k : 2 ≤ most) where
    place_comes : place (room 0 free) (line_of i) start (lines (line_of i)) ≡ Whole (behind start (length inner) 2 [] (record_of ∷ []))
    place_comes =
        ap (place (room 0 free) (line_of i) start) alone
        ∙ ap (λ r. elim (place_statement (room 0 free) (line_of i) start (length inner) r) [ Ok s ↦ Whole s | Err f ↦ Stopped start f ]) line.says.says
        ∙ ap (λ b. elim (cond b (Ok (behind start (length inner) (2 * word_count line.says_row) [] (line_record start (word_count line.says_row) K.Instruction ∷ []))) (Err NoLineRecord)) [ Ok s ↦ Whole s | Err f ↦ Stopped start f ]) (above_none free h)
        ∙ ap (λ n. Whole (behind start (length inner) (2 * n) [] (line_record start n K.Instruction ∷ []))) line.counts

    names_none : first_undefined (line_of i) [] (lines (line_of i)) ≡ None
    names_none =
        ap (first_undefined (line_of i) []) alone
        ∙ ap (option_map (λ n. n + 1)) (none_passes (λ l. is_undefined (line_of i) [] (used_by (statement_in l))) inner
        (ap (λ r. is_undefined (line_of i) [] (used_by r)) line.says.says ∙ ap (is_undefined (line_of i) []) line.uses))

    image_comes : (address : List ℕ → ℕ) → image_of address (lines (line_of i)) ≡ bytes_of (encoded i)
    image_comes address =
        ap (image_of address) alone
        ∙ ap (λ r. part_bytes address (part_of r) ++ []) line.says.says
        ∙ ap (λ ws. word_bytes ws ++ []) (line.spells (value_in address line.says_row))

    pub line_comes : assembled_line free most i ≡ accepted (bytes_of (encoded i)) [] (record_of ∷ [])
    line_comes =
        ap (λ b. cond b (of_lines (room 0 free) most (line_of i)) (refused TextTooLong 0 [] [])) (at_most (length (line_of i)) 32768 (let t = text_short in omega arith))
        ∙ ap (λ b. cond b (passed most (line_of i) (place (room 0 free) (line_of i) start (lines (line_of i)))) (refused TooManyLines 2049 [] [])) (at_most (length (lines (line_of i))) 2048 (let t : length (lines (line_of i)) ≡ 1 = ap length alone in omega arith))
        ∙ ap (passed most (line_of i)) place_comes
        ∙ ap (named most (line_of i) (behind start (length inner) 2 [] (record_of ∷ []))) names_none
        ∙ ap (λ image. cond (leb (length image) most) (accepted image [] (record_of ∷ [])) (refused ImageTooLong 0 [] (record_of ∷ []))) (image_comes (address_in (line_of i) []))
        ∙ ap (λ b. cond b (accepted (bytes_of (encoded i)) [] (record_of ∷ [])) (refused ImageTooLong 0 [] (record_of ∷ []))) (at_most 2 most k)
