-- What is printed for a text.
use Rattle.std.specs.Prelude.{ℕ, List, [], ◌∷◌, ◌++◌, codes, decimal, Ok, Err, Result}
use Rattle.std.specs.declared.vec.Vec.{Vec}
use Rattle.hex.specs.Hex.{encode_lower}
use Rattle.assembler.specs.declared.records.Refusal.{Refusal}
use Rattle.assembler.specs.Placing.{number_of, room}
use Rattle.assembler.specs.Answers.{Answer, accepted, refused, assembled}

-- The words of an image, high byte first: four lowercase hexadecimal digits and LF each.
abbrev pub word_lines : List ℕ → List ℕ
word_lines [] = []
word_lines (b ∷ []) = []
word_lines (high ∷ low ∷ bs) = encode_lower (high ∷ low ∷ []) ++ (codes "\n" ++ word_lines bs)

-- A refusal by its number, with the number of the line.
abbrev pub refusal_line : Refusal → ℕ → List ℕ
refusal_line f line = codes "refused " ++ (decimal (number_of f) ++ (codes " line " ++ (decimal line ++ codes "\n")))

-- The words of an accepted text, or the line for a refused one.
abbrev pub printed_for : Answer → Result (List ℕ) (List ℕ)
printed_for (accepted image labels lines) = Ok (word_lines image)
printed_for (refused f line labels lines) = Err (refusal_line f line)

-- What is printed for a text, with 256 label records, 2,048 line records and 65,536 bytes for the image.
abbrev pub printed : List ℕ → Result (List ℕ) (List ℕ)
printed text = printed_for (assembled (room 256 2048) 65536 text)

-- The bytes on either side of what the program answers.
abbrev pub bytes_of : {A : Type 0} → Result (Vec ℕ A) (Vec ℕ A) → Result (List ℕ) (List ℕ)
bytes_of (Ok v) = Ok v.items
bytes_of (Err v) = Err v.items
