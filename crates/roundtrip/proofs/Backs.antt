-- A listed word's line, assembled.
use Rattle.std.proofs.Common.{◌≡◌, ℕ, ◌<◌, ◌≤◌, true, false, cond, leb, List, [], ◌∷◌, ◌++◌, length, take, drop, IsErr, IsErrAnd, Some, None, Ok, Err, Option, Result, refl, ap, ◌∙◌, sym, arith, is_some}
use Rattle.std.proofs.Math.Seq.{take-append_seam}
use Rattle.std.proofs.lemmas.Bool.Decides.{nat_tests}
use Rattle.word.specs.declared.instructions.Instruction.{Instruction}
use Rattle.word.specs.Words.{decoded}
use Rattle.word.proofs.Back.{encodes_back}
use Rattle.lister.specs.declared.listing.Refusal as L
use Rattle.lister.specs.declared.listing.Refusal.TheVariants.{DoesNotFit}
use Rattle.lister.specs.Lines.{line_of}
use Rattle.lister.specs.Answers.{answer_to as listed_to, answer as listed, buffer_for, buffer_after}
use Rattle.syntax.specs.Data.{bytes_of}
use Rattle.assembler.specs.declared.assembling.Assembled.{Assembled}
use Rattle.assembler.specs.declared.assembling.Refused as R
use Rattle.assembler.specs.declared.records.LineRecord.{LineRecord}
use Rattle.assembler.specs.declared.records.LineKind.TheVariants.{Instruction as OfInstruction}
use Rattle.assembler.specs.Placing.{room, start, line_record}
use Rattle.roundtrip.specs.declared.NotBack.{NotBack}
use Rattle.roundtrip.specs.declared.NotBack.TheVariants.{NotValid, Refused}
use Rattle.assembler.specs.Answers.{accepted, assembled, summary, image_in, lines_in, over}
use Rattle.roundtrip.specs.Back.{assembled_line, passed_on, answer_to, answer as answer_for, image_of, image_after, records_of, lines_after, ComesBack}
use Rattle.roundtrip.proofs.Instructions.{Line, lined}
use Rattle.roundtrip.proofs.Images.{text_short, line_comes}

the_line : (w : ℕ) (i : Instruction) → w < 65536 → decoded w ≡ Some i → Line i
the_line w i small is = lined i (encodes_back w i small is).1

-- 16 bytes are room for every line
fits : (w : ℕ) (i : Instruction) (buffer : List ℕ) → w < 65536 → decoded w ≡ Some i → length buffer ≡ 16 → leb (length (line_of i)) (length buffer) ≡ true
fits w i buffer small is long = at_most (length (line_of i)) (length buffer) (let t = text_short i (the_line w i small is) in omega arith)
  where
    at_most : (m n : ℕ) → m ≤ n → leb m n ≡ true
    at_most m n h = grind (arith, nat_tests)

-- so that only a word that is not valid is not listed
pub not_listed : (w : ℕ) (buffer : List ℕ) (f : L.Refusal) → w < 65536 → length buffer ≡ 16 → Err f ≡ listed w buffer → decoded w ≡ None
not_listed w buffer f small long e = by (decoded w) refl e
  where
    by : (o : Option Instruction) → decoded w ≡ o → Err f ≡ listed_to o buffer → o ≡ None
    by None is e = refl
    by (Some i) is e =
        let g : ◌≡◌ {A = Result ℕ L.Refusal} (Err f) (Ok (length (line_of i))) = e ∙ ap (λ b. cond b (Ok (length (line_of i))) (Err DoesNotFit)) (fits w i buffer small is long) in
        cc

-- A text of so many bytes that is the line of a word's instruction.
pub record Listed (w n : ℕ) (text : List ℕ) : Type 0 where
  pub instruction : Instruction
  pub is : decoded w ≡ Some instruction
  pub line : text ≡ line_of instruction
  pub long : n ≡ length text

pub listed_line : (w : ℕ) (buffer after : List ℕ) (n : ℕ) → w < 65536 → length buffer ≡ 16 → Ok n ≡ listed w buffer → after ≡ buffer_after w buffer
    → Listed w n (take n after)
listed_line w buffer after n small long e f = by (decoded w) refl e f
  where
    front : (xs ys : List ℕ) (m : ℕ) → m ≡ length xs → take m (xs ++ ys) ≡ xs
    front xs ys m h = ap (λ k. take k (xs ++ ys)) h ∙ take-append_seam xs ys

    by : (o : Option Instruction) → decoded w ≡ o → Ok n ≡ listed_to o buffer → after ≡ buffer_for o buffer → Listed w n (take n after)
    by None is e f = cc
    by (Some i) is e f =
        let t = fits w i buffer small is long in
        let g : ◌≡◌ {A = Result ℕ L.Refusal} (Ok n) (Ok (length (line_of i))) = e ∙ ap (λ b. cond b (Ok (length (line_of i))) (Err DoesNotFit)) t in
        let m : n ≡ length (line_of i) = cc in
        let now : after ≡ line_of i ++ drop (length (line_of i)) buffer = f ∙ ap (λ b. cond b (line_of i ++ drop (length (line_of i)) buffer) buffer) t in
        let line : take n after ≡ line_of i = ap (take n) now ∙ front (line_of i) (drop (length (line_of i)) buffer) n m in
        record { instruction = i; is = is; line = line; long = m ∙ sym (ap length line) }

-- What is promised of a word, with what its call answers and leaves in the lent memory.
pub record Kept (w : ℕ) (before after : List ℕ) (free filled : List LineRecord) (r : Result Assembled NotBack) : Type 0 where
  pub answer : r ≡ answer_for w before free
  pub image : after ≡ image_after w before free
  pub lines : filled ≡ lines_after w before free
  pub back : ComesBack w before free r after filled

pub invalid : (w : ℕ) (image : List ℕ) (lines : List LineRecord) → decoded w ≡ None → Kept w image image lines lines (Err NotValid)
invalid w image lines none = record {
  answer = sym (ap (answer_to (length lines) (length image)) none);
  image = sym (ap (λ o. over (image_of (length lines) (length image) o) image) none);
  lines = sym (ap (λ o. over (records_of (length lines) (length image) o) lines) none);
  back = λ valid k h. let z : false ≡ true = sym (ap is_some none) ∙ valid in cc;
}

pub passed : (w n : ℕ) (text image image' : List ℕ) (lines lines' : List LineRecord) (r : Result Assembled R.Refused) → w < 65536 → Listed w n text
    → r ≡ summary (assembled (room 0 (length lines)) (length image) text)
    → image' ≡ over (image_in (assembled (room 0 (length lines)) (length image) text)) image
    → lines' ≡ over (lines_in (assembled (room 0 (length lines)) (length image) text)) lines
    → Kept w image image' lines lines' (passed_on r)
passed w n text image image' lines lines' r small listed x y z = record {
  answer = ap passed_on (x ∙ ap summary same) ∙ sym (ap (answer_to (length lines) (length image)) listed.is);
  image = y ∙ ap (λ a. over (image_in a) image) same ∙ sym (ap (λ o. over (image_of (length lines) (length image) o) image) listed.is);
  lines = z ∙ ap (λ a. over (lines_in a) lines) same ∙ sym (ap (λ o. over (records_of (length lines) (length image) o) lines) listed.is);
  back = back;
}
  where
    same : assembled (room 0 (length lines)) (length image) text ≡ assembled_line (length lines) (length image) listed.instruction
    same = ap (assembled (room 0 (length lines)) (length image)) listed.line

    back : ComesBack w image lines (passed_on r) image' lines'
    back valid k h =
        let codec = encodes_back w listed.instruction small listed.is in
        let line = lined listed.instruction codec.1 in
        let comes = same ∙ line_comes listed.instruction line (length lines) (length image) h k ∙ ap (λ n. accepted (bytes_of n) [] (line_record start 1 OfInstruction ∷ [])) codec.0 in (
          ap passed_on (x ∙ ap summary comes),
          y ∙ ap (λ a. over (image_in a) image) comes,
          z ∙ ap (λ a. over (lines_in a) lines) comes,
        )

-- a refusal of the assembler, passed on
pub passed_err : (r : Result Assembled NotBack) (f : R.Refused) → (IsErr r) × (IsErrAnd r (λ e. e ≡ Refused f)) → r ≡ Err (Refused f)
passed_err (Ok a) f h = cc
passed_err (Err e) f h = ap Err h.1
