-- Mnemonics: those of words, and those that are short for words.
use Rattle.std.specs.Prelude.{ℕ, Bool, cond, List, [], ◌∷◌, map, Some, None, codes, Option}
use Rattle.std.specs.Str.{bytes_eq}
use Rattle.word.specs.declared.instructions.Operation.{Operation}
use Rattle.word.specs.Table.{named}
use Rattle.syntax.specs.declared.mnemonics.Pseudo.{Pseudo}
use Rattle.syntax.specs.declared.mnemonics.Pseudo.TheVariants.{Nop, Lsl, Not, Neg, Ldi, Lsrm, Asrm, Lslm}
use Rattle.syntax.specs.declared.mnemonics.Mnemonic.{Mnemonic}
use Rattle.syntax.specs.declared.mnemonics.Mnemonic.TheVariants.{OfWord, OfPseudo}
use Rattle.syntax.specs.declared.mnemonics.PseudoName.{PseudoName}

-- The text of each.
abbrev pub pseudo_text : Pseudo → List ℕ
pseudo_text Nop = codes "nop"
pseudo_text Lsl = codes "lsl"
pseudo_text Not = codes "not"
pseudo_text Neg = codes "neg"
pseudo_text Ldi = codes "ldi"
pseudo_text Lsrm = codes "lsrm"
pseudo_text Asrm = codes "asrm"
pseudo_text Lslm = codes "lslm"

abbrev pub pseudos : List Pseudo
pseudos = Nop ∷ Lsl ∷ Not ∷ Neg ∷ Ldi ∷ Lsrm ∷ Asrm ∷ Lslm ∷ []

-- One with its text.
pub record Entry : Type 0 where
  pub pseudo : Pseudo
  pub text : List ℕ

abbrev pub entry : Pseudo → Entry
entry p = record { pseudo = p; text = pseudo_text p }

abbrev pub entries : List Entry
entries = map entry pseudos

-- What an entry of the program's table says.
abbrev pub entry_in : PseudoName → Entry
entry_in p = record { pseudo = p.pseudo; text = p.text.now }

-- The one with this text.
abbrev pub is_text : List ℕ → Entry → Bool
is_text t e = bytes_eq e.text t

-- The first that a test takes.
abbrev pub first : (Entry → Bool) → List Entry → Option Pseudo
first p [] = None
first p (e ∷ es) = cond (p e) (Some e.pseudo) (first p es)

-- The short mnemonic with this text.
abbrev pub pseudo_named : List ℕ → Option Pseudo
pseudo_named t = first (is_text t) entries

-- A word's mnemonic, else a short one.
abbrev pub or_pseudo : Option Operation → Option Pseudo → Option Mnemonic
or_pseudo (Some x) p = Some (OfWord x)
or_pseudo None (Some p) = Some (OfPseudo p)
or_pseudo None None = None

-- The mnemonic with this text.
abbrev pub mnemonic_in : List ℕ → Option Mnemonic
mnemonic_in t = or_pseudo (named t) (pseudo_named t)
