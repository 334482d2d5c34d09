-- Characters, as bytes.
use Prim.Native.String.{String}
use Rattle.std.specs.Prelude.{ℕ, Bool, ◌&&◌, ◌||◌, codes, ◌==◌, nat_le, slice_index}
use Rattle.syntax.specs.declared.cuts.Separator.{Separator}
use Rattle.syntax.specs.declared.cuts.Separator.TheVariants.{LineFeed, Blank, Space, Comma, Quote}

-- The byte of a character.
abbrev pub byte : String → ℕ
byte s = slice_index (codes s) 0

abbrev pub is : String → ℕ → Bool
is s c = c == byte s

-- Is a byte one of those from a to b?
abbrev pub from : String → String → ℕ → Bool
from a b c = nat_le (byte a) c && nat_le c (byte b)

-- What ends lines, a line's first word, numbers of data, operands, and a string.
abbrev pub parts : Separator → ℕ → Bool
parts LineFeed c = is "\n" c
parts Blank c = is " " c || is "\t" c
parts Space c = is " " c
parts Comma c = is "," c
parts Quote c = is "\"" c
