-- Every address of an accepted text is below the ports.
use Rattle.std.proofs.Common.{◌≡◌, ℕ, ◌+◌, ◌*◌, ◌/◌, ◌<◌, ◌≤◌, min, Bool, true, false, cond, leb, ltb, List, [], ◌∷◌, ◌++◌, length, is_some, Some, None, Ok, Err, Option, Result, refl, sym, ap, subst, arith}
use Rattle.std.specs.List.{All}
use Rattle.std.proofs.lemmas.List.Elements.{All-nil, All-push, All-weaker}
use Rattle.std.proofs.lemmas.Bool.Decides.{nat_tests}
use Rattle.syntax.specs.declared.statements.LineFault.{LineFault}
use Rattle.syntax.specs.Cuts.{lines}
use Rattle.syntax.specs.Data.{Datum, data_in, data_bytes}
use Rattle.syntax.specs.Rows.{Row}
use Rattle.syntax.specs.Statements.{Statement, empty, labelled, code, statement_in}
use Rattle.assembler.specs.declared.records.LabelRecord.{LabelRecord}
use Rattle.assembler.specs.declared.records.LineRecord.{LineRecord}
use Rattle.assembler.specs.declared.records.LineKind.{LineKind}
use Rattle.assembler.specs.declared.records.LineKind.TheVariants.{Instruction, Data}
use Rattle.assembler.specs.declared.records.Refusal.{Refusal}
use Rattle.assembler.specs.declared.records.Refusal.TheVariants.{LabelTwice, NoLabelRecord, NoLineRecord, ImageTooLong, TextTooLong, TooManyLines}
use Rattle.assembler.specs.Expansions.{word_count}
use Rattle.assembler.specs.Placing.{Room, Placing, Course, Whole, Stopped, behind, start, label_record, line_record, label_named, place_code, place_data, place_rest, place_label, place_statement, place_line, place}
use Rattle.assembler.specs.Images.{address_in, first_undefined, image_of}
use Rattle.assembler.specs.Answers.{accepted, refused, named, passed, of_lines}
use Rattle.assembler.specs.Laws.{AddressesFit}
use Rattle.assembler.proofs.Bounds.{line_moves}
use Rattle.assembler.proofs.Cutting.{bytes_with_ends, bytes_bound}
use Rattle.assembler.proofs.Lengths.{image_long}

never : {X : Type 0} → ◌≡◌ {A = ℕ} 0 1 → X
never z = absurd (omega arith)

-- No label lies behind the next address, and no line's words end behind it.
record Fits (s : Placing) : Type 0 where
  labels : All (λ r. r.address ≤ s.address) s.labels
  lines : All (λ r. r.address + 2 * r.words ≤ s.address) s.lines

-- Records that stand so before an address.
abbrev Labels : ℕ → List LabelRecord → Type 0
Labels a rs = All (λ r. r.address ≤ a) rs

abbrev Lines : ℕ → List LineRecord → Type 0
Lines a rs = All (λ r. r.address + 2 * r.words ≤ a) rs

fits_on : (s s' : Placing) (bytes memory : ℕ) (labels : List LabelRecord) (lines : List LineRecord)
    → Labels (s.address + memory) labels → Lines (s.address + memory) lines
    → ◌≡◌ {A = Result Placing Refusal} (Ok (behind s bytes memory labels lines)) (Ok s') → Fits s'
fits_on s s' bytes memory labels lines h k e =
    let is : behind s bytes memory labels lines ≡ s' = cc in
    subst Fits is (record { labels = h; lines = k })

module _ (s : Placing) (fits : Fits s) (m : ℕ) where
  labels_kept : Labels (s.address + m) s.labels
  labels_kept = All-weaker (λ r. r.address ≤ s.address) (λ r. r.address ≤ s.address + m) (λ r h. omega arith) s.labels fits.labels

  labels_more : (n : List ℕ) → Labels (s.address + m) (s.labels ++ (label_record s n ∷ []))
  labels_more n = All-push (λ r. r.address ≤ s.address + m) s.labels (label_record s n) labels_kept (omega arith)

  lines_kept : Lines (s.address + m) s.lines
  lines_kept = All-weaker (λ r. r.address + 2 * r.words ≤ s.address) (λ r. r.address + 2 * r.words ≤ s.address + m) (λ r h. omega arith) s.lines fits.lines

  lines_more : (words : ℕ) (kind : LineKind) → 2 * words ≤ m → Lines (s.address + m) (s.lines ++ (line_record s words kind ∷ []))
  lines_more words kind h = All-push (λ r. r.address + 2 * r.words ≤ s.address + m) s.lines (line_record s words kind) lines_kept (omega arith)

module _ (free : Room) (s s' : Placing) (fits : Fits s) (bytes : ℕ) where
  code_fits : (r : Row) → place_code free s bytes r ≡ Ok s' → Fits s'
  code_fits r e = by (ltb (length s.lines) free.lines) e
    where
      by : (b : Bool) → cond b (Ok (behind s bytes (2 * word_count r) s.labels (s.lines ++ (line_record s (word_count r) Instruction ∷ [])))) (Err NoLineRecord) ≡ Ok s' → Fits s'
      by true e = fits_on s s' bytes (2 * word_count r) _ _ (labels_kept s fits (2 * word_count r)) (lines_more s fits (2 * word_count r) (word_count r) Instruction (omega arith)) e
      by false e = never cc

  data_fits : (n : List ℕ) (d : Option Datum) → place_data free s bytes n d ≡ Ok s' → Fits s'
  data_fits n None e = never cc
  data_fits n (Some d) e = by (ltb (length s.lines) free.lines) e
    where
      by : (b : Bool) → cond b (Ok (behind s bytes (length (data_bytes d)) (s.labels ++ (label_record s n ∷ [])) (s.lines ++ (line_record s (length (data_bytes d) / 2) Data ∷ [])))) (Err NoLineRecord) ≡ Ok s' → Fits s'
      by true e = fits_on s s' bytes (length (data_bytes d)) _ _ (labels_more s fits (length (data_bytes d)) n) (lines_more s fits (length (data_bytes d)) (length (data_bytes d) / 2) Data (omega arith)) e
      by false e = never cc

  rest_fits : (n : List ℕ) (rest : Option (List ℕ)) → place_rest free s bytes n rest ≡ Ok s' → Fits s'
  rest_fits n None e = fits_on s s' bytes 0 _ _ (labels_more s fits 0 n) (lines_kept s fits 0) e
  rest_fits n (Some t) e = data_fits n (data_in t) e

  label_fits : (text n : List ℕ) (rest : Option (List ℕ)) → place_label free text s bytes n rest ≡ Ok s' → Fits s'
  label_fits text n rest e = by (is_some (label_named text n s.labels)) (ltb (length s.labels) (min 256 free.labels)) e
    where
      by : (a b : Bool) → cond a (Err LabelTwice) (cond b (place_rest free s bytes n rest) (Err NoLabelRecord)) ≡ Ok s' → Fits s'
      by true b e = never cc
      by false true e = rest_fits n rest e
      by false false e = never cc

line_fits : (free : Room) (text : List ℕ) (s s' : Placing) (l : List ℕ) → Fits s → place_line free text s l ≡ Ok s' → Fits s'
line_fits free text s s' l fits e = by (statement_in l) e
  where
    by : (r : Result Statement LineFault) → place_statement free text s (length l) r ≡ Ok s' → Fits s'
    by (Err f) e = never cc
    by (Ok empty) e = fits_on s s' (length l) 0 _ _ (labels_kept s fits 0) (lines_kept s fits 0) e
    by (Ok (labelled n rest)) e = label_fits free s s' fits (length l) text n rest e
    by (Ok (code r)) e = code_fits free s s' fits (length l) r e

-- How far placing all of some lines leads.
record Led (s s' : Placing) (ls : List (List ℕ)) : Type 0 where
  fits : Fits s'
  line : s'.line ≡ s.line + length ls
  place : s'.place ≡ s.place + bytes_with_ends ls
  address : s'.address + 6 * s.line + s.place ≤ s.address + 6 * s'.line + s'.place

led : (free : Room) (text : List ℕ) (s s' : Placing) (ls : List (List ℕ)) → Fits s → place free text s ls ≡ Whole s' → Led s s' ls
led free text s s' [] fits e =
    let is : s ≡ s' = cc in
    subst (λ x. Led s x []) is (record { fits = fits; line = omega arith; place = omega arith; address = omega arith })
led free text s s' (l ∷ ls) fits e = by (λ x f. led free text x s' ls f) (place_line free text s l) refl e
  where
    by : ((x : Placing) → Fits x → place free text x ls ≡ Whole s' → Led x s' ls)
        → (r : Result Placing Refusal) → place_line free text s l ≡ r → elim r [ Ok x ↦ place free text x ls | Err f ↦ Stopped s f ] ≡ Whole s' → Led s s' (l ∷ ls)
    by later (Err f) is e = never cc
    by later (Ok x) is e =
        let m = line_moves free text s x l is in
        let p = m.place in
        let n = m.line in
        let a = m.address in
        let h = later x (line_fits free text s x l fits is) e in
        let hp = h.place in
        let hn = h.line in
        let ha = h.address in
        let k : length (l ∷ ls) ≡ 1 + length ls = omega arith in
        record { fits = h.fits; line = omega arith; place = omega arith; address = omega arith }

start_fits : Fits start
start_fits = record { labels = All-nil (λ r. r.address ≤ 0); lines = All-nil (λ r. r.address + 2 * r.words ≤ 0) }

pub addresses_fit : AddressesFit
addresses_fit free most text image labels records e = by_length (leb (length text) 32768) refl e
  where
    by_size : (s : Placing) (im : List ℕ) (b : Bool) → cond b (accepted im s.labels s.lines) (refused ImageTooLong 0 s.labels s.lines) ≡ accepted image labels records → (image ≡ im) × (labels ≡ s.labels) × (records ≡ s.lines)
    by_size s im true e = (cc, cc, cc)
    by_size s im false e = never cc

    by_names : (s : Placing) (o : Option ℕ) → named most text s o ≡ accepted image labels records
        → (image ≡ image_of (address_in text s.labels) (lines text)) × (labels ≡ s.labels) × (records ≡ s.lines)
    by_names s (Some n) e = never cc
    by_names s None e = by_size s (image_of (address_in text s.labels) (lines text)) (leb (length (image_of (address_in text s.labels) (lines text))) most) e

    by_course : length text ≤ 32768 → length (lines text) ≤ 2048 → (c : Course) → place free text start (lines text) ≡ c → passed most text c ≡ accepted image labels records
        → (length image < 61440) × (All (λ r. r.address < 61440) labels) × (All (λ r. r.address + 2 * r.words < 61440) records)
    by_course h k (Stopped s f) is e = never cc
    by_course h k (Whole s) is e =
        let (x, y, z) = by_names s (first_undefined text s.labels (lines text)) e in
        let l = led free text start s (lines text) start_fits is in
        let n = l.line in
        let p = l.place in
        let a = l.address in
        let b = bytes_bound text in
        let low : s.address < 61440 = omega arith in
        let long = image_long (address_in text s.labels) free text start s (lines text) is in
        let size = ap length x in (
          omega arith,
          subst (All (λ r. r.address < 61440)) (sym y) (All-weaker (λ r. r.address ≤ s.address) (λ r. r.address < 61440) (λ r h. omega arith) s.labels l.fits.labels),
          subst (All (λ r. r.address + 2 * r.words < 61440)) (sym z) (All-weaker (λ r. r.address + 2 * r.words ≤ s.address) (λ r. r.address + 2 * r.words < 61440) (λ r h. omega arith) s.lines l.fits.lines),
        )

    by_lines : length text ≤ 32768 → (b : Bool) → leb (length (lines text)) 2048 ≡ b → cond b (passed most text (place free text start (lines text))) (refused TooManyLines 2049 [] []) ≡ accepted image labels records
        → (length image < 61440) × (All (λ r. r.address < 61440) labels) × (All (λ r. r.address + 2 * r.words < 61440) records)
    by_lines h true is e = by_course h (grind (arith, nat_tests)) (place free text start (lines text)) refl e
    by_lines h false is e = never cc

    by_length : (b : Bool) → leb (length text) 32768 ≡ b → cond b (of_lines free most text) (refused TextTooLong 0 [] []) ≡ accepted image labels records
        → (length image < 61440) × (All (λ r. r.address < 61440) labels) × (All (λ r. r.address + 2 * r.words < 61440) records)
    by_length true is e = by_lines (grind (arith, nat_tests)) (leb (length (lines text)) 2048) refl e
    by_length false is e = never cc
