-- How long the parts of a line are.
use Rattle.std.proofs.Common.{◌≡◌, ℕ, suc, ◌≤◌, Bool, true, false, cond, not, ◌&&◌, leb, List, [], ◌∷◌, length, is_some, IfOk, Some, None, Ok, Err, Option, Result, sym, refl, ap, subst, arith}
use Rattle.std.specs.List.{list_all}
use Rattle.std.proofs.lemmas.Bool.Decides.{nat_tests}
use Rattle.word.proofs.Lookups.{both}
use Rattle.syntax.specs.declared.cuts.Separator.{Separator}
use Rattle.syntax.specs.declared.cuts.Separator.TheVariants.{Blank}
use Rattle.syntax.specs.declared.mnemonics.Mnemonic.{Mnemonic}
use Rattle.syntax.specs.declared.rows.InstructionFault.{InstructionFault}
use Rattle.syntax.specs.declared.statements.Beginning.{Beginning}
use Rattle.syntax.specs.declared.statements.Beginning.TheVariants.{Semicolon, Tab, Space, Other}
use Rattle.syntax.specs.declared.statements.LineFault.{LineFault}
use Rattle.syntax.specs.declared.statements.LineFault.TheVariants.{BadCharacters, BadLabel}
use Rattle.syntax.specs.declared.statements.Statement as Code
use Rattle.syntax.specs.Characters.{parts}
use Rattle.syntax.specs.Cuts.{before, behind}
use Rattle.syntax.specs.Names.{begins, goes_on, has_name_form, is_name, register_in}
use Rattle.syntax.specs.Numbers.{number}
use Rattle.syntax.specs.Mnemonics.{mnemonic_in}
use Rattle.syntax.specs.Operands.{Operands, operands_by}
use Rattle.syntax.specs.Rows.{Row, row_of, judged, mapped_ok}
use Rattle.syntax.specs.Statements.{Statement, empty, labelled, code, label, is_plain, is_clean, with_mnemonic, beginning, kind_of, kind_by, with_row, said_by, statement_in, statement_of}
use Rattle.syntax.specs.Bounds.{RestShort, Short}

name_short : (t : List ℕ) → is_name t ≡ true → length t ≤ 32
name_short [] h = omega arith
name_short (c ∷ cs) h =
    let a = both (has_name_form (c ∷ cs)) (not (is_some (register_in (c ∷ cs)))) h in
    let b = both (begins c) (list_all goes_on cs && leb (length cs) 31) a.0 in
    let d = both (list_all goes_on cs) (leb (length cs) 31) b.1 in
    let small : length cs ≤ 31 = grind (arith, nat_tests) in
    let x : length (c ∷ cs) ≡ suc (length cs) = refl in
    omega arith

behind_short : (s : Separator) (xs ys : List ℕ) → behind s xs ≡ Some ys → length ys ≤ length xs
behind_short s [] ys e = grind arith
behind_short s (b ∷ bs) ys e = by (parts s b) (behind_short s bs ys) e
  where
    by : (v : Bool) → (behind s bs ≡ Some ys → length ys ≤ length bs) → cond v (Some bs) (behind s bs) ≡ Some ys → length ys ≤ length (b ∷ bs)
    by true later e = let n : bs ≡ ys = cc in let l = ap length n in let x : length (b ∷ bs) ≡ suc (length bs) = refl in omega arith
    by false later e = let ih = later e in let x : length (b ∷ bs) ≡ suc (length bs) = refl in omega arith

rest_short : (l : List ℕ) (o : Option (List ℕ)) → behind Blank l ≡ o → RestShort (length l) o
rest_short l None e = tt
rest_short l (Some t) e = behind_short Blank l t e

row_short : (m : ℕ) (r : Result Row InstructionFault) (s : Statement) → with_row r ≡ Ok s → Short m s
row_short n (Ok r) s e = let is : code r ≡ s = cc in subst (Short n) is tt
row_short n (Err f) s e = grind arith

instruction_short : (n : ℕ) (m : Option Mnemonic) (os : Option Operands) (s : Statement) → said_by (with_mnemonic m os) ≡ Ok s → Short n s
instruction_short n None os s e = grind arith
instruction_short n (Some m) None s e = grind arith
instruction_short n (Some m) (Some os) s e = row_short n (judged (row_of m os)) s e

label_short : (l : List ℕ) (b : Bool) (s : Statement) → is_name (before Blank l) ≡ b
    → said_by (cond b (Ok (label (before Blank l) (behind Blank l))) (Err BadLabel)) ≡ Ok s → Short (length l) s
label_short l true s n e =
    let is : labelled (before Blank l) (behind Blank l) ≡ s = cc in
    subst (Short (length l)) is (name_short (before Blank l) n, rest_short l (behind Blank l) refl)
label_short l false s n e = grind arith

kind_short : (l : List ℕ) (s : Statement) → said_by (kind_by number l) ≡ Ok s → Short (length l) s
kind_short [] s e = let is : empty ≡ s = cc in subst (Short 0) is tt
kind_short (c ∷ cs) s e = by (beginning c) e
  where
    by : (b : Beginning) → said_by (kind_of number b c cs) ≡ Ok s → Short (length (c ∷ cs)) s
    by Semicolon e = let is : empty ≡ s = cc in subst (Short (length (c ∷ cs))) is tt
    by Tab e = instruction_short (length (c ∷ cs)) (mnemonic_in (before Blank cs)) (operands_by number (behind Blank cs)) s e
    by Space e = grind arith
    by Other e = label_short (c ∷ cs) (is_name (before Blank (c ∷ cs))) s refl e

pub statement_short : (l : List ℕ) (s : Statement) → statement_in l ≡ Ok s → (length l ≤ 120) × Short (length l) s
statement_short l s e = by (is_clean l) refl e
  where
    by : (b : Bool) → is_clean l ≡ b → said_by (cond b (kind_by number l) (Err BadCharacters)) ≡ Ok s → (length l ≤ 120) × Short (length l) s
    by true c e =
        let p = both (leb (length l) 120) (list_all is_plain l) c in
        let h : length l ≤ 120 = grind (arith, nat_tests) in
        (h, kind_short l s e)
    by false c e = grind arith

pub read_short : (l : List ℕ) (r : Result Code.Statement LineFault) → mapped_ok statement_of r ≡ statement_in l
    → IfOk r (λ s. (length l ≤ 120) × Short (length l) (statement_of s))
read_short l (Ok s) e = statement_short l (statement_of s) (sym e)
read_short l (Err f) e = tt
