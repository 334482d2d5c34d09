-- Operands as the lister writes them are read as what they are.
use Rattle.std.proofs.Common.{◌≡◌, ℕ, zero, suc, ◌+◌, ◌-◌, ◌<◌, ◌≤◌, Bool, true, false, cond, ◌&&◌, leb, List, [], ◌∷◌, length, ℤ, pos, negsuc, Some, None, Option, refl, ap, ◌∙◌, arith, eqb, ltb}
use Rattle.std.specs.List.{list_all}
use Rattle.std.proofs.lemmas.Bool.Decides.{nat_tests}
use Rattle.std.specs.Fmt.{digits}
use Rattle.word.specs.declared.registers.Register.{Register}
use Rattle.word.specs.declared.table.Extension.{Extension}
use Rattle.word.specs.declared.table.Extension.TheVariants.{ZeroExtended, SignExtended}
use Rattle.word.proofs.Numbered.{same-register}
use Rattle.lister.specs.Lines.{register_text, immediate_text}
use Rattle.syntax.specs.declared.cuts.Separator.TheVariants.{Comma}
use Rattle.syntax.specs.Operands.{Operand, register, numeral, name, operand_in}
use Rattle.syntax.specs.Rows.{fits_byte}
use Rattle.syntax.specs.Statements.{is_plain}
use Rattle.assembler.specs.Expansions.{byte_of}
use Rattle.roundtrip.proofs.Cuts.{is_free, both}

-- A text that reads as this operand, in a line with commas.
pub record Reads (t : List ℕ) (o : Operand) : Type 0 where
  pub plain : list_all is_plain t ≡ true
  pub free : is_free Comma t ≡ true
  pub short : length t ≤ 4
  pub operand : operand_in t ≡ Some o

-- What is tested of all numbers below a bound.
abbrev all_below : (ℕ → Bool) → ℕ → Bool
all_below p zero = true
all_below p (suc m) = p m && all_below p m

each_below : (p : ℕ → Bool) (m : ℕ) → all_below p m ≡ true → (n : ℕ) → n < m → p n ≡ true
each_below p zero e n h = absurd (omega arith)
each_below p (suc m) e n h = by (eqb n m) refl (both (p m) (all_below p m) e) (λ f k. each_below p m f n k)
  where
    by : (b : Bool) → eqb n m ≡ b → (p m ≡ true) × (all_below p m ≡ true) → (all_below p m ≡ true → n < m → p n ≡ true) → p n ≡ true
    by true t all below = let k : n ≡ m = grind (arith, nat_tests) in ap p k ∙ all.0
    by false t all below = below all.1 (grind (arith, nat_tests))

-- Registers, by their numbers.
abbrev is_register : ℕ → Option Operand → Bool
is_register n (Some (register r)) = eqb r.number n
is_register n (Some (numeral z)) = false
is_register n (Some (name t)) = false
is_register n None = false

abbrev register_bytes : ℕ → List ℕ
register_bytes n = 114 ∷ (48 + n) ∷ []

abbrev register_reads : ℕ → Bool
register_reads n =
    is_register n (operand_in (register_bytes n)) && (list_all is_plain (register_bytes n) && is_free Comma (register_bytes n))

the_register : (r : Register) (o : Option Operand) → is_register r.number o ≡ true → o ≡ Some (register r)
the_register r None e = cc
the_register r (Some (numeral z)) e = cc
the_register r (Some (name t)) e = cc
the_register r (Some (register s)) e = ap (λ x. Some (register x)) (same-register s r (grind (arith, nat_tests)))

pub register-back : (r : Register) → Reads (register_text r) (register r)
register-back r =
    let t = each_below register_reads 8 refl r.number r.small in
    let a = both (is_register r.number (operand_in (register_text r))) (list_all is_plain (register_text r) && is_free Comma (register_text r)) t in
    let b = both (list_all is_plain (register_text r)) (is_free Comma (register_text r)) a.1 in
    record { plain = b.0; free = b.1; short = omega arith; operand = the_register r (operand_in (register_text r)) a.0 }

-- The number that a byte stands for.
abbrev pub value : Option Extension → ℕ → ℤ
value None n = pos n
value (Some ZeroExtended) n = pos n
value (Some SignExtended) n = cond (ltb n 128) (pos n) (negsuc (255 - n))

abbrev same : ℤ → ℤ → Bool
same (pos m) (pos n) = eqb m n
same (pos m) (negsuc n) = false
same (negsuc m) (pos n) = false
same (negsuc m) (negsuc n) = eqb m n

same_is : (y z : ℤ) → same y z ≡ true → y ≡ z
same_is (pos m) (pos n) e = let k : m ≡ n = grind (arith, nat_tests) in ap pos k
same_is (pos m) (negsuc n) e = cc
same_is (negsuc m) (pos n) e = cc
same_is (negsuc m) (negsuc n) e = let k : m ≡ n = grind (arith, nat_tests) in ap negsuc k

abbrev is_numeral : ℤ → Option Operand → Bool
is_numeral z (Some (numeral y)) = same y z
is_numeral z (Some (register r)) = false
is_numeral z (Some (name t)) = false
is_numeral z None = false

the_numeral : (z : ℤ) (o : Option Operand) → is_numeral z o ≡ true → o ≡ Some (numeral z)
the_numeral z None e = cc
the_numeral z (Some (register r)) e = cc
the_numeral z (Some (name t)) e = cc
the_numeral z (Some (numeral y)) e = ap (λ x. Some (numeral x)) (same_is y z e)

-- An immediate is read as its number, which is in the range of its extension and has its byte.
abbrev immediate_reads : Extension → ℕ → Bool
immediate_reads e n =
    is_numeral (value (Some e) n) (operand_in (immediate_text (Some e) n))
    && (list_all is_plain (immediate_text (Some e) n)
    && (is_free Comma (immediate_text (Some e) n)
    && (leb (length (immediate_text (Some e) n)) 4
    && (fits_byte (Some e) (value (Some e) n) && eqb (byte_of (value (Some e) n)) n))))

all_read : (e : Extension) → all_below (immediate_reads e) 256 ≡ true
unfolding digits
all_read ZeroExtended = refl
all_read SignExtended = refl

pub record ReadsByte (e : Extension) (n : ℕ) : Type 0 where
  pub reads : Reads (immediate_text (Some e) n) (numeral (value (Some e) n))
  pub range : fits_byte (Some e) (value (Some e) n) ≡ true
  pub byte : byte_of (value (Some e) n) ≡ n

pub immediate-back : (e : Extension) (n : ℕ) → n < 256 → ReadsByte e n
immediate-back e n h =
    let t : List ℕ = immediate_text (Some e) n in
    let z : ℤ = value (Some e) n in
    let a = both _ _ (each_below (immediate_reads e) 256 (all_read e) n h) in
    let b = both _ _ a.1 in
    let c = both _ _ b.1 in
    let d = both _ _ c.1 in
    let f = both _ _ d.1 in
    record {
      reads = record { plain = b.0; free = c.0; short = short (length t) d.0; operand = the_numeral z (operand_in t) a.0 };
      range = f.0;
      byte = is_byte (byte_of z) f.1;
    }
  where
    short : (k : ℕ) → leb k 4 ≡ true → k ≤ 4
    short k e = grind (arith, nat_tests)

    is_byte : (k : ℕ) → eqb k n ≡ true → k ≡ n
    is_byte k e = grind (arith, nat_tests)
