-- A word and its instruction say the same.
use Rattle.std.proofs.Common.{◌≡◌, ℕ, ◌+◌, ◌*◌, ◌/◌, ◌%◌, ◌<◌, Bool, true, false, cond, ◌&&◌, eqb, Some, None, Option, sym, refl, ap, ◌∙◌, subst, arith}
use Rattle.std.proofs.lemmas.Bool.Decides.{nat_tests}
use Rattle.std.proofs.lemmas.Nat.{mod-mul-add}
use Rattle.std.proofs.lemmas.Bool.{cond-true, cond-false, ne_eqb, eq-eqb}
use Rattle.word.specs.declared.registers.Register.{Register}
use Rattle.word.specs.declared.instructions.Operation.{Operation}
use Rattle.word.specs.declared.instructions.Operation.TheVariants.{Computes, Shifts, Loads, Stores, Branches, LoadsRegister, LoadsConstant, Halts}
use Rattle.word.specs.declared.instructions.Instruction.{Instruction}
use Rattle.word.specs.declared.instructions.Instruction.TheVariants.{Compute, ComputeImmediate, Shift, Load, Store, Branch, BranchImmediate, LoadRegister, LoadConstant, Halt}
use Rattle.word.specs.declared.instructions.Fields.TheVariants.{Registers, Immediate}
use Rattle.word.specs.Registers.{register}
use Rattle.word.specs.Table.{row, coded, immediately_coded}
use Rattle.word.specs.Words.{register_word, immediate_word, fields, packed, encoded, is_zero, keeps_zero, with_registers, with_immediate, of_registers, of_immediate, decoded}
use Rattle.word.specs.Laws.{ByteIn, HasByte, DecodesBack, EncodesBack}
use Rattle.word.proofs.Numbered.{same-register}
use Rattle.word.proofs.Lookups.{both, codes_of, opcode_of, placed, shape_of, shaped, computes_found, branches_found}

-- the register in a word's field
in_field : (n q : ℕ) (r : Register) → n ≡ q * 8 + r.number → register n ≡ r
in_field n q r e = same-register (register n) r (ap (λ m. m % 8) e ∙ mod-mul-add q 8 r.number r.small)

-- a word's fields are those it was packed from
module _ (o : ℕ) (rst : Register) (ho : o < 16) where
  registers-fields : (rsa rsb : Register) (p : ℕ) → p < 4
      → decoded (register_word o rst rsa rsb p) ≡ of_registers (coded o p) rst rsa rsb
  registers-fields rsa rsb p hp =
      let w : ℕ = register_word o rst rsa rsb p in
      let ha = rst.small in
      let hb = rsa.small in
      let hc = rsb.small in
      let imm : w / 2048 % 2 ≡ 0 = omega arith in
      let opcode : w / 4096 ≡ o = omega arith in
      let op2 : w % 4 ≡ p = omega arith in
      let d = in_field (w / 256) (o * 2) rst (omega arith) in
      let a = in_field (w / 32) (o * 16 + rst.number) rsa (omega arith) in
      let b = in_field (w / 4) (o * 128 + rst.number * 8 + rsa.number) rsb (omega arith) in
      cond-true _ _ _ (eq-eqb _ 0 imm) ∙ (λ k. of_registers (coded (opcode k) (op2 k)) (d k) (a k) (b k))

  immediate-fields : (n : ℕ) → n < 256 → decoded (immediate_word o rst n) ≡ of_immediate (immediately_coded o) rst n
  immediate-fields n hn =
      let w : ℕ = immediate_word o rst n in
      let ha = rst.small in
      let imm : w / 2048 % 2 ≡ 0 → ⊥ = λ e. omega arith in
      let opcode : w / 4096 ≡ o = omega arith in
      let low : w % 256 ≡ n = omega arith in
      let d = in_field (w / 256) (o * 2 + 1) rst (omega arith) in
      cond-false _ _ _ (ne_eqb _ 0 imm) ∙ (λ k. of_immediate (immediately_coded (opcode k)) (d k) (low k))

  registers_fit_lem : (rsa rsb : Register) (p : ℕ) → p < 4 → register_word o rst rsa rsb p < 65536
  registers_fit_lem rsa rsb p hp = let ha = rst.small in let hb = rsa.small in let hc = rsb.small in omega arith

  immediate-fits : (n : ℕ) → n < 256 → immediate_word o rst n < 65536
  immediate-fits n hn = let ha = rst.small in omega arith

registers-back : (x : Operation) (rst rsa rsb : Register) (i : Instruction)
    → cond (keeps_zero (shape_of x) rst rsa rsb) (with_registers x rst rsa rsb) None ≡ Some i
    → (decoded (packed (Registers x rst rsa rsb)) ≡ Some i) × (packed (Registers x rst rsa rsb) < 65536)
registers-back x rst rsa rsb i e =
    let at = placed x in (
      registers-fields (row x).opcode rst at.opcode-fits rsa rsb (row x).op2 at.op2-fits
          ∙ ap (λ o. of_registers o rst rsa rsb) at.found
          ∙ ap (λ s. cond (keeps_zero s rst rsa rsb) (with_registers x rst rsa rsb) None) (shaped x)
          ∙ e,
      registers_fit_lem (row x).opcode rst at.opcode-fits rsa rsb (row x).op2 at.op2-fits,
    )

immediate-back : (x : Operation) (rst : Register) (n : ℕ) (i : Instruction) → immediately_coded (row x).opcode ≡ Some x
    → with_immediate x rst n ≡ Some i → n < 256
    → (decoded (packed (Immediate x rst n)) ≡ Some i) × (packed (Immediate x rst n) < 65536)
immediate-back x rst n i found e hn =
    let at = placed x in (
      immediate-fields (row x).opcode rst at.opcode-fits n hn ∙ ap (λ o. of_immediate o rst n) found ∙ e,
      immediate-fits (row x).opcode rst at.opcode-fits n hn,
    )

pub decodes-back : DecodesBack
decodes-back (Compute c target left right) h = registers-back (Computes c) target left right _ refl
decodes-back (ComputeImmediate c r n) h = immediate-back (Computes c) r n _ (computes_found c) refl h
decodes-back (Shift s target source) h = registers-back (Shifts s) target source (register 0) _ refl
decodes-back (Load w target address) h = registers-back (Loads w) target (register 0) address _ refl
decodes-back (Store w source address) h = registers-back (Stores w) (register 0) source address _ refl
decodes-back (Branch c tested target) h = registers-back (Branches c) (register 0) tested target _ refl
decodes-back (BranchImmediate c tested n) h = immediate-back (Branches c) tested n _ (branches_found c) refl h
decodes-back (LoadRegister r n) h = immediate-back LoadsRegister r n _ refl refl h
decodes-back (LoadConstant r n) h = immediate-back LoadsConstant r n _ refl refl h
decodes-back Halt h = registers-back Halts (register 0) (register 0) (register 0) _ refl

-- a field that must be 0 holds register 0
zero-register : (r : Register) → is_zero r ≡ true → register 0 ≡ r
zero-register r e = same-register (register 0) r (grind (arith, nat_tests))

-- an instruction made of fields has those fields
module _ (rst rsa rsb : Register) (i : Instruction) where
  same-fields : (x : Operation) → keeps_zero (shape_of x) rst rsa rsb ≡ true → with_registers x rst rsa rsb ≡ Some i
      → fields i ≡ Registers x rst rsa rsb
  same-fields (Computes c) z e = let s : Compute c rst rsa rsb ≡ i = cc in ap fields (sym s)
  same-fields (Shifts s) z e =
      let t : Shift s rst rsa ≡ i = cc in ap fields (sym t) ∙ ap (λ r. Registers (Shifts s) rst rsa r) (zero-register rsb z)
  same-fields (Loads w) z e =
      let t : Load w rst rsb ≡ i = cc in ap fields (sym t) ∙ ap (λ r. Registers (Loads w) rst r rsb) (zero-register rsa z)
  same-fields (Stores w) z e =
      let t : Store w rsa rsb ≡ i = cc in ap fields (sym t) ∙ ap (λ r. Registers (Stores w) r rsa rsb) (zero-register rst z)
  same-fields (Branches c) z e =
      let t : Branch c rsa rsb ≡ i = cc in ap fields (sym t) ∙ ap (λ r. Registers (Branches c) r rsa rsb) (zero-register rst z)
  same-fields LoadsRegister z e = absurd (let n : ◌≡◌ {A = ℕ} 0 1 = cc in omega arith)
  same-fields LoadsConstant z e = absurd (let n : ◌≡◌ {A = ℕ} 0 1 = cc in omega arith)
  same-fields Halts z e =
      let t : Halt ≡ i = cc in
      let p = both (is_zero rst) (is_zero rsa && is_zero rsb) z in
      let q = both (is_zero rsa) (is_zero rsb) p.1 in
      ap fields (sym t) ∙ (λ k. Registers Halts (zero-register rst p.0 k) (zero-register rsa q.0 k) (zero-register rsb q.1 k))

same-immediate : (x : Operation) (rst : Register) (n : ℕ) (i : Instruction) → with_immediate x rst n ≡ Some i
    → fields i ≡ Immediate x rst n
same-immediate (Computes c) rst n i e = let s : ComputeImmediate c rst n ≡ i = cc in ap fields (sym s)
same-immediate (Shifts s) rst n i e = absurd (let z : ◌≡◌ {A = ℕ} 0 1 = cc in omega arith)
same-immediate (Loads w) rst n i e = absurd (let z : ◌≡◌ {A = ℕ} 0 1 = cc in omega arith)
same-immediate (Stores w) rst n i e = absurd (let z : ◌≡◌ {A = ℕ} 0 1 = cc in omega arith)
same-immediate (Branches c) rst n i e = let s : BranchImmediate c rst n ≡ i = cc in ap fields (sym s)
same-immediate LoadsRegister rst n i e = let s : LoadRegister rst n ≡ i = cc in ap fields (sym s)
same-immediate LoadsConstant rst n i e = let s : LoadConstant rst n ≡ i = cc in ap fields (sym s)
same-immediate Halts rst n i e = absurd (let z : ◌≡◌ {A = ℕ} 0 1 = cc in omega arith)

module _ (w : ℕ) (i : Instruction) where
  forth_registers : (o : Option Operation) → w / 2048 % 2 ≡ 0 → coded (w / 4096) (w % 4) ≡ o
      → of_registers o (register (w / 256)) (register (w / 32)) (register (w / 4)) ≡ Some i → (encoded i ≡ w) × HasByte i
  forth_registers None imm found e = absurd (let z : ◌≡◌ {A = ℕ} 0 1 = cc in omega arith)
  forth_registers (Some x) imm found e = by (keeps_zero (row x).shape (register (w / 256)) (register (w / 32)) (register (w / 4))) refl e
    where
      by : (b : Bool) → keeps_zero (row x).shape (register (w / 256)) (register (w / 32)) (register (w / 4)) ≡ b
          → cond b (with_registers x (register (w / 256)) (register (w / 32)) (register (w / 4))) None ≡ Some i
          → (encoded i ≡ w) × HasByte i
      by true z f =
          let zeros = sym (ap (λ s. keeps_zero s (register (w / 256)) (register (w / 32)) (register (w / 4))) (shaped x)) ∙ z in
          let same = same-fields (register (w / 256)) (register (w / 32)) (register (w / 4)) i x zeros f in
          let t = codes_of (w / 4096) (w % 4) x found in
          (ap packed same ∙ omega (arith, t.0, t.1), subst ByteIn (sym same) tt)
      by false z f = absurd (let n : ◌≡◌ {A = ℕ} 0 1 = cc in omega arith)

  forth_immediate : (o : Option Operation) → (w / 2048 % 2 ≡ 0 → ⊥) → immediately_coded (w / 4096) ≡ o
      → of_immediate o (register (w / 256)) (w % 256) ≡ Some i → (encoded i ≡ w) × HasByte i
  forth_immediate None imm found e = absurd (let z : ◌≡◌ {A = ℕ} 0 1 = cc in omega arith)
  forth_immediate (Some x) imm found e =
      let same = same-immediate x (register (w / 256)) (w % 256) i e in
      let low : w % 256 < 256 = omega arith in
      (ap packed same ∙ omega (arith, opcode_of (w / 4096) x found), subst ByteIn (sym same) low)

pub encodes_back : EncodesBack
encodes_back w i small e = by (eqb (w / 2048 % 2) 0) refl e
  where
    by : (b : Bool) → eqb (w / 2048 % 2) 0 ≡ b
        → cond b (of_registers (coded (w / 4096) (w % 4)) (register (w / 256)) (register (w / 32)) (register (w / 4))) (of_immediate (immediately_coded (w / 4096)) (register (w / 256)) (w % 256)) ≡ Some i
        → (encoded i ≡ w) × HasByte i
    by true t f = forth_registers w i _ (grind (arith, nat_tests)) refl f
    by false t f = forth_immediate w i _ (λ z. grind (arith, nat_tests)) refl f
