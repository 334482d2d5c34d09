-- Each row keeps what it owes.
use Rattle.std.proofs.Common.{◌≡◌, ℕ, suc, ◌+◌, ◌-◌, ◌*◌, ◌/◌, ◌%◌, ◌^◌, ◌<◌, Bool, true, false, cond, eqb, ltb, ◌≢◌, List, [], ◌∷◌, Some, sym, refl, ap, ◌∙◌, arith, eq-eqb, ne_eqb, eqb-true, ltb-true, ltb-false, lt-ltb, le-ltb}
use native.Mathlib.Nat.{div-div-eq-div-mul, pow-succ'}
use Rattle.std.proofs.Math.Path.{fun_ext}
use Rattle.std.proofs.lemmas.Bool.{eqb-false}
use Rattle.std.proofs.lemmas.Nat.{mul-mod_first}
use Rattle.std.specs.Prelude.{ℤ, pos, negsuc, not}
use Rattle.std.specs.Int.Bits.{bit_xor, xor_self}
use Rattle.word.specs.declared.registers.Register.{Register}
use Rattle.word.specs.declared.instructions.Computation.TheVariants.{Xor, Sub}
use Rattle.word.specs.declared.instructions.Shift.TheVariants.{Lsr, Asr}
use Rattle.word.specs.declared.instructions.Width.{Width}
use Rattle.word.specs.declared.instructions.Width.TheVariants.{Byte, Word}
use Rattle.word.specs.declared.instructions.Condition.{Condition}
use Rattle.word.specs.declared.instructions.Condition.TheVariants.{NotZero}
use Rattle.word.specs.declared.instructions.Operation.{Operation}
use Rattle.word.specs.declared.instructions.Operation.TheVariants.{Computes, Shifts, Loads, Stores, Branches, LoadsRegister, LoadsConstant, Halts}
use Rattle.word.specs.declared.instructions.Instruction.{Instruction}
use Rattle.word.specs.declared.instructions.Instruction.TheVariants.{Compute, ComputeImmediate, Load, Store, Branch, BranchImmediate, LoadConstant}
use Rattle.word.specs.Words.{is_zero, with_registers, with_immediate}
use Rattle.word.specs.Laws.{HasByte}
use Rattle.word.specs.Arithmetic.{sign_extend, low_byte, is_taken}
use Rattle.bus.specs.Meaning.{Meaning}
use Rattle.bus.specs.Calls.{load_byte, load_word, store_byte, store_word}
use Rattle.machine.specs.Machine.{Done, Refused, Quiet, Asks, outcome}
use Rattle.machine.specs.Board.{OfWord, placed}
use Rattle.machine.specs.Rules.{led, went, after, Plain, Straight, Loop, Looped}
use Rattle.machine.proofs.ReadyMade.{rules}
use Rattle.board.specs.Core.{Registers, Core, get, put, holds, with_register, with_next}
use Rattle.board.specs.Step.{OddTarget, goes_on, accesses, loaded, stored, goes_to, branches, results, act}
use Rattle.board.specs.Viking.{viking}
use Rattle.board.specs.VikingLaws.{viking_laws}
use Rattle.board.specs.CoreFits.{holds_fits}
use Rattle.syntax.specs.Rows.{Value, Row, registers, immediate, negation, constant, load_from, store_to, branch_to, long_shift, in_range, registers_fit, zero as at}
use Rattle.syntax.specs.declared.rows.LongShift.{LongShift}
use Rattle.syntax.specs.declared.rows.LongShift.TheVariants.{Logical, Arithmetic, Leftward}
use Rattle.assembler.specs.Expansions.{byte_of, shift_once, ldi as ldi_words}
use Rattle.reading.specs.Strokes.{LineOutcome, on, past, loads, stores, places, shifted, stroke, cost}
use Rattle.reading.specs.Lines.{line, RowsKeep}
use Rattle.reading.proofs.Puts.{put_put, put_swap, get_same, get_other}

core_path : (g h : Registers) (m n : ℕ) → g ≡ h → m ≡ n → ◌≡◌ {A = Core} (record { registers = g; next = m }) (record { registers = h; next = n })
core_path g h m n p q = rw (p, q)

did : (c d : Core) (b : Meaning) → c ≡ d → ◌≡◌ {A = LineOutcome} (Done c b []) (Done d b [])
did c d b e = ap (λ x. Done x b []) e

-- lines of one word
byte_small : (z : ℤ) → byte_of z < 256
byte_small (pos n) = omega arith
byte_small (negsuc n) = omega arith

registers_line : (v : ℕ) (x : Operation) (a b c : Register) (i : Instruction) → with_registers x a b c ≡ Some i → HasByte i → Straight viking (line v (registers x a b c))
registers_line v x a b c i e h = rw e (record { front = []; last = i; spelled = refl; valid = (h, tt); plain = tt; counts = λ c. refl; strikes = λ c g room here b s. refl })

never : {X : Type 0} → false ≡ true → X
never e = cc

one_registers : (v : ℕ) (x : Operation) (a b c : Register) → registers_fit (registers x a b c) ≡ true → Straight viking (line v (registers x a b c))
one_registers v (Computes k) a b c fit = registers_line v (Computes k) a b c _ refl tt
one_registers v (Shifts k) a b c fit = registers_line v (Shifts k) a b c _ refl tt
one_registers v (Loads w) a b c fit = registers_line v (Loads w) a b c _ refl tt
one_registers v (Stores w) a b c fit = registers_line v (Stores w) a b c _ refl tt
one_registers v (Branches k) a b c fit = registers_line v (Branches k) a b c _ refl tt
one_registers v LoadsRegister a b c fit = never fit
one_registers v LoadsConstant a b c fit = never fit
one_registers v Halts a b c fit = registers_line v Halts a b c _ refl tt

immediate_line : (v : ℕ) (x : Operation) (r : Register) (z : ℤ) (i : Instruction) → with_immediate x r (byte_of z) ≡ Some i → HasByte i → Straight viking (line v (immediate x r z))
immediate_line v x r z i e h = rw e (record { front = []; last = i; spelled = refl; valid = (h, tt); plain = tt; counts = λ c. refl; strikes = λ c g room here b s. refl })

one_immediate : (v : ℕ) (x : Operation) (r : Register) (z : ℤ) → in_range (immediate x r z) ≡ true → Straight viking (line v (immediate x r z))
one_immediate v (Computes k) r z fit = immediate_line v (Computes k) r z _ refl (byte_small z)
one_immediate v (Shifts Lsr) r z fit = never fit
one_immediate v (Shifts Asr) r z fit = never fit
one_immediate v (Loads Byte) r z fit = never fit
one_immediate v (Loads Word) r z fit = never fit
one_immediate v (Stores Byte) r z fit = never fit
one_immediate v (Stores Word) r z fit = never fit
one_immediate v (Branches k) r z fit = immediate_line v (Branches k) r z _ refl (byte_small z)
one_immediate v LoadsRegister r z fit = immediate_line v LoadsRegister r z _ refl (byte_small z)
one_immediate v LoadsConstant r z fit = immediate_line v LoadsConstant r z _ refl (byte_small z)
one_immediate v Halts r z fit = never fit

-- different registers
differ : (n m : ℕ) → not (eqb n m) ≡ true → n ≢ m
differ n m h e = never (sym (ap not (eq-eqb n m e)) ∙ h)

-- next addresses
on_step : (n : ℕ) (c : Core) → ((c.next + 2 * n) % 65536 + 2) % 65536 ≡ (c.next + 2 * suc n) % 65536
on_step n c = omega arith

goes_plain : (a : ℕ) → a + 2 < 65536 → (a + 2) % 65536 ≡ a + 2
goes_plain a h = omega arith

-- neg
neg_line : (v : ℕ) (r : Register) → registers_fit (negation r) ≡ true → Straight viking (line v (negation r))
neg_line v r fit = record {
  front = Compute Xor at at at ∷ [];
  last = Compute Sub r at r;
  spelled = refl;
  valid = (tt, (tt, tt));
  plain = ((λ c g room. (refl, goes_plain c.next room)), tt);
  counts = λ c. refl;
  strikes = λ c g room here b s. did _ _ b (core_path _ _ _ _ (made c) (on_step 1 c));
}
  where
    made : (c : Core) →
        put r.number ((bit_xor (holds c at) (holds c at) + (65536 - get r.number (put 0 (bit_xor (holds c at) (holds c at)) c.registers))) % 65536) (put 0 (bit_xor (holds c at) (holds c at)) c.registers) ≡
        put r.number ((0 + (65536 - holds c r)) % 65536) (put 0 0 c.registers)
    made c =
        ap (λ x. put r.number ((x + (65536 - get r.number (put 0 x c.registers))) % 65536) (put 0 x c.registers)) (xor_self (holds c at)) ∙
        ap (λ y. put r.number ((0 + (65536 - y)) % 65536) (put 0 0 c.registers)) (get_other r.number 0 0 c.registers (differ r.number 0 fit))

-- ldi
ldi_after : (r : Register) (v : ℕ) → v < 65536 → (c : Core) → after viking (ldi_words r v) c ≡ past 2 (with_register c r v)
ldi_after r v h c = core_path _ _ _ _ (ap (λ n. put r.number n (put r.number x c.registers)) z ∙ put_put r.number v x c.registers) (on_step 1 c)
  where
    x : ℕ
    x = (256 * holds c r + v / 256) % 65536

    value : (y : ℕ) → y ≡ x → (256 * y + v % 256) % 65536 ≡ v
    value y e = small (holds c r) y e
      where
        small : (k y : ℕ) → y ≡ (256 * k + v / 256) % 65536 → (256 * y + v % 256) % 65536 ≡ v
        small k y e = omega arith

    z : (256 * get r.number (put r.number x c.registers) + v % 256) % 65536 ≡ v
    z = value (get r.number (put r.number x c.registers)) (get_same r.number x c.registers r.small)

ldc_plain : (r : Register) (n : ℕ) → Plain viking (LoadConstant r n)
ldc_plain r n c g room = (refl, goes_plain c.next room)

ldi_line : (v : ℕ) (r : Register) (w : Value) → v < 65536 → Straight viking (line v (constant r w))
ldi_line v r w h = record {
  front = LoadConstant r (v / 256) ∷ [];
  last = LoadConstant r (v % 256);
  spelled = refl;
  valid = (omega arith, (omega arith, tt));
  plain = (ldc_plain r (v / 256), tt);
  counts = λ c. refl;
  strikes = λ c g room here b s. did _ _ b (ldi_after r v h c);
}

-- a word behind ldi at,c
by_at : (v : ℕ) (l : Row) (i : Instruction) → v < 65536 → (line v l).words ≡ LoadConstant at (v / 256) ∷ LoadConstant at (v % 256) ∷ i ∷ [] → HasByte i
    → ((c : Core) → cost l c ≡ 3) → ((c : Core) (b : Meaning) → placed (on 2 c) (outcome (act i (past 2 (with_register c at v))) b) ≡ stroke v l c b)
    → Straight viking (line v l)
by_at v l i h spells byte costs strikes = record {
  front = ldi_words at v;
  last = i;
  spelled = spells;
  valid = rw spells (omega arith, (omega arith, (byte, tt)));
  plain = (ldc_plain at (v / 256), (ldc_plain at (v % 256), tt));
  counts = costs;
  strikes = λ c g room here b s. ap (λ x. placed x.next (outcome (act i x) b)) (ldi_after at v h c) ∙ strikes c b;
}

-- loads
loads_on : (r : Register) (v : ℕ) (c : Core) (x : ℕ) → results (past 2 (with_register c at v)) r x ≡ loads r v c x
loads_on r v c x = core_path _ _ _ _ refl (on_step 2 c)

load_line : (v : ℕ) (w : Width) (r : Register) (z : Value) → v < 65536 → Straight viking (line v (load_from w r z))
load_line v Byte r z h = by_at v (load_from Byte r z) (Load Byte r at) h refl tt (λ c. refl)
    (λ c b. ap (λ f. placed (on 2 c) (loaded f (load_byte b v))) (fun_ext (λ x. loads_on r v c (sign_extend x))))
load_line v Word r z h = by_at v (load_from Word r z) (Load Word r at) h refl tt (λ c. refl)
    (λ c b. ap (λ f. placed (on 2 c) (accesses v (loaded f (load_word b v)))) (fun_ext (λ x. loads_on r v c x)))

-- stores
stores_on : (v : ℕ) (c : Core) → goes_on (past 2 (with_register c at v)) ≡ stores v c
stores_on v c = core_path _ _ _ _ refl (on_step 2 c)

holds_behind : (r : Register) (v : ℕ) (c : Core) → not (is_zero r) ≡ true → holds (past 2 (with_register c at v)) r ≡ holds c r
holds_behind r v c fit = get_other r.number 0 v c.registers (differ r.number 0 fit)

store_line : (v : ℕ) (w : Width) (r : Register) (z : Value) → v < 65536 → registers_fit (store_to w r z) ≡ true → Straight viking (line v (store_to w r z))
store_line v Byte r z h fit = by_at v (store_to Byte r z) (Store Byte r at) h refl tt (λ c. refl)
    (λ c b. ap (λ x. placed (on 2 c) (stored x (v ∷ []) (store_byte b v (low_byte (holds (past 2 (with_register c at v)) r))))) (stores_on v c) ∙
    ap (λ y. placed (on 2 c) (stored (stores v c) (v ∷ []) (store_byte b v (low_byte y)))) (holds_behind r v c fit))
store_line v Word r z h fit = by_at v (store_to Word r z) (Store Word r at) h refl tt (λ c. refl)
    (λ c b. ap (λ x. placed (on 2 c) (accesses v (stored x (v ∷ (v + 1) ∷ []) (store_word b v (holds (past 2 (with_register c at v)) r))))) (stores_on v c) ∙
    ap (λ y. placed (on 2 c) (accesses v (stored (stores v c) (v ∷ (v + 1) ∷ []) (store_word b v y)))) (holds_behind r v c fit))

-- branches to names
branch_line : (v : ℕ) (x : Condition) (r : Register) (t : List ℕ) → v < 65536 → registers_fit (branch_to x r t) ≡ true → Straight viking (line v (branch_to x r t))
branch_line v x r t h fit = by_at v (branch_to x r t) (Branch x r at) h refl tt (λ c. refl)
    (λ c b. ap (λ y. placed (on 2 c) (outcome (branches (past 2 (with_register c at v)) (is_taken x y) v) b)) (holds_behind r v c fit) ∙
    goes c b (is_taken x (holds c r)) (eqb (v % 2) 0))
  where
    goes : (c : Core) (b : Meaning) (taken even : Bool) →
        placed (on 2 c) (outcome (cond taken (cond even (Quiet (with_next (past 2 (with_register c at v)) v)) (Asks (λ b. Refused OddTarget))) (Quiet (goes_on (past 2 (with_register c at v))))) b) ≡
        cond taken (cond even (Done (with_next (with_register c at v) v) b []) (Refused (OfWord (on 2 c) OddTarget))) (Done (past 3 (with_register c at v)) b [])
    goes c b true true = refl
    goes c b true false = refl
    goes c b false even = did _ _ b (stores_on v c)

-- long shifts: one turn of the loop
abbrev once : LongShift → ℕ → ℕ
once Logical a = a / 2
once Arithmetic a = cond (ltb a 32768) (a / 2) (0x8000 + a / 2)
once Leftward a = (a + a) % 65536

shift_went : (d : LongShift) (r : Register) (c : Core) → act (shift_once d r) c ≡ Quiet (results c r (once d (holds c r)))
shift_went Logical r c = refl
shift_went Arithmetic r c = refl
shift_went Leftward r c = refl

shift_plain : (d : LongShift) (r : Register) → Plain viking (shift_once d r)
shift_plain Logical r c g room = (refl, goes_plain c.next room)
shift_plain Arithmetic r c g room = (refl, goes_plain c.next room)
shift_plain Leftward r c g room = (refl, goes_plain c.next room)

shift_byte : (d : LongShift) (r : Register) → HasByte (shift_once d r)
shift_byte Logical r = tt
shift_byte Arithmetic r = tt
shift_byte Leftward r = tt

-- one place, and one place more
halves : (k x : ℕ) → x / 2 / 2 ^ k ≡ x / 2 ^ suc k
halves k x = div-div-eq-div-mul x 2 (2 ^ k) ∙ ap (λ y. x / y) (sym (pow-succ' 2 k))

shifted_one : (d : LongShift) (a : ℕ) → a < 65536 → shifted d 1 a ≡ once d a
shifted_one Logical a h = refl
shifted_one Leftward a h = omega arith
shifted_one Arithmetic a h = go (ltb a 32768) refl
  where
    go : (t : Bool) → ltb a 32768 ≡ t → cond t (a / 2) (65535 - (65535 - a) / 2) ≡ cond t (a / 2) (0x8000 + a / 2)
    go true e = refl
    go false e = omega (arith, ltb-false a 32768 e)

shifted_more : (d : LongShift) (k a : ℕ) → a < 65536 → shifted d k (once d a) ≡ shifted d (suc k) a
shifted_more Logical k a h = halves k a
shifted_more Leftward k a h = mul-mod_first (a + a) (2 ^ k) 65536 ∙ ap (λ x. x % 65536) (doubled a (2 ^ k) ∙ ap (λ p. a * p) (sym (pow-succ' 2 k)))
  where
    doubled : (a p : ℕ) → (a + a) * p ≡ a * (2 * p)
    doubled a p = omega arith
shifted_more Arithmetic k a h = go (ltb a 32768) refl
  where
    high : (x : ℕ) → ltb x 32768 ≡ false → cond (ltb x 32768) (x / 2 ^ k) (65535 - (65535 - x) / 2 ^ k) ≡ 65535 - (65535 - x) / 2 ^ k
    high x e = ap (λ t. cond t (x / 2 ^ k) (65535 - (65535 - x) / 2 ^ k)) e

    low : (x : ℕ) → ltb x 32768 ≡ true → cond (ltb x 32768) (x / 2 ^ k) (65535 - (65535 - x) / 2 ^ k) ≡ x / 2 ^ k
    low x e = ap (λ t. cond t (x / 2 ^ k) (65535 - (65535 - x) / 2 ^ k)) e

    flipped : ltb a 32768 ≡ false → 65535 - (0x8000 + a / 2) ≡ (65535 - a) / 2
    flipped e = omega (arith, ltb-false a 32768 e)

    go : (t : Bool) → ltb a 32768 ≡ t → shifted Arithmetic k (cond t (a / 2) (0x8000 + a / 2)) ≡ cond t (a / 2 ^ suc k) (65535 - (65535 - a) / 2 ^ suc k)
    go true e = low (a / 2) (lt-ltb (a / 2) 32768 (omega (arith, ltb-true a 32768 e))) ∙ halves k a
    go false e = high (0x8000 + a / 2) (le-ltb (0x8000 + a / 2) 32768 (omega arith)) ∙
        ap (λ x. 65535 - x) (ap (λ x. x / 2 ^ k) (flipped e) ∙ halves k (65535 - a))

-- one less, and how often a loop turns
abbrev less : ℕ → ℕ
less x = (x + 65535) % 65536

places_less : (x k : ℕ) → places x ≡ suc k → x < 65536 → less x ≡ k
places_less x k e h = go (eqb x 0) refl e
  where
    go : (t : Bool) → eqb x 0 ≡ t → cond t 65536 x ≡ suc k → less x ≡ k
    go true p q = omega (arith, eqb-true x 0 p)
    go false p q = omega arith

places_self : (x k : ℕ) → x ≡ suc k → places x ≡ suc k
places_self x k e = ap (λ t. cond t 65536 x) (ne_eqb x 0 (λ q. omega arith)) ∙ e

places_some : (x : ℕ) → (k : ℕ) × (places x ≡ suc k)
places_some x = go (eqb x 0) refl
  where
    go : (t : Bool) → eqb x 0 ≡ t → (k : ℕ) × (cond t 65536 x ≡ suc k)
    go true e = (65535, refl)
    go false e = (x - 1, omega (arith, eqb-false x 0 e))

abbrev core : Registers → ℕ → Core
core g a = record { registers = g; next = a }

module _ (d : LongShift) (r s : Register) (ne : r.number ≢ s.number) where
  -- the registers after one turn
  abbrev turned : Registers → Registers
  turned g = put s.number (less (get s.number g)) (put r.number (once d (get r.number g)) g)

  -- the registers after k places
  abbrev moved : ℕ → Registers → Registers
  moved k g = put s.number 0 (put r.number (shifted d k (get r.number g)) g)

  turned_s : (g : Registers) → get s.number (turned g) ≡ less (get s.number g)
  turned_s g = get_same s.number (less (get s.number g)) (put r.number (once d (get r.number g)) g) s.small

  turned_r : (g : Registers) → get r.number (turned g) ≡ once d (get r.number g)
  turned_r g = get_other r.number s.number (less (get s.number g)) (put r.number (once d (get r.number g)) g) ne ∙ get_same r.number (once d (get r.number g)) g r.small

  turned_moved : (k : ℕ) (g : Registers) → get r.number g < 65536 → moved k (turned g) ≡ moved (suc k) g
  turned_moved k g small =
      let x : ℕ = shifted d k (get r.number (turned g)) in
      let e : x ≡ shifted d (suc k) (get r.number g) = ap (shifted d k) (turned_r g) ∙ shifted_more d k (get r.number g) small in
      ap (put s.number 0) (put_swap r.number s.number x (less (get s.number g)) (put r.number (once d (get r.number g)) g) ne) ∙
      (put_put s.number 0 (less (get s.number g)) (put r.number x (put r.number (once d (get r.number g)) g)) ∙
      (ap (put s.number 0) (put_put r.number x (once d (get r.number g)) g) ∙ ap (λ v. put s.number 0 (put r.number v g)) e))

  after_body : (c : Core) → c.next + 4 < 65536 → after viking (shift_once d r ∷ ComputeImmediate Sub s 1 ∷ []) c ≡ core (turned c.registers) (c.next + 4)
  after_body c h =
      ap (λ x. went viking (ComputeImmediate Sub s 1) (led c x)) (shift_went d r c) ∙
      core_path _ _ _ _ (ap (λ v. put s.number (less v) (put r.number (once d (get r.number c.registers)) c.registers))
      (get_other s.number r.number (once d (get r.number c.registers)) c.registers (λ e. ne (sym e)))) (omega arith)

  -- the branch at the end of a turn
  branched : (g : Registers) (a : ℕ) (t : Bool) → eqb (less (get s.number g)) 0 ≡ t →
      act (BranchImmediate NotZero s 250) (core (turned g) (a + 4)) ≡ branches (core (turned g) (a + 4)) (not t) ((a + 4 + 2 + 65530) % 65536)
  branched g a t e = ap (λ t. branches (core (turned g) (a + 4)) (not t) ((a + 4 + 2 + 65530) % 65536)) (ap (λ x. eqb x 0) (turned_s g) ∙ e)

  -- taken, it goes back to the first word
  back : (g : Registers) (a : ℕ) → a < 65536 → a % 2 ≡ 0 → goes_to (core (turned g) (a + 4)) ((a + 4 + 2 + 65530) % 65536) ≡ Quiet (core (turned g) a)
  back g a h even =
      let e : (a + 4 + 2 + 65530) % 65536 ≡ a = omega arith in
      ap (goes_to (core (turned g) (a + 4))) e ∙ ap (λ t. cond t (Quiet (core (turned g) a)) (Asks (λ b. Refused OddTarget))) (eq-eqb (a % 2) 0 even)

  abbrev turns : Core → ℕ
  turns c = places (holds c s)

  abbrev whole : Core → Meaning → LineOutcome
  whole c b = Done (core (moved (turns c) c.registers) (on 3 c)) b []

  loop : Loop viking (shift_once d r ∷ ComputeImmediate Sub s 1 ∷ []) (BranchImmediate NotZero s 250) turns whole
  loop = record {
    plain = (shift_plain d r, ((λ c g room. (refl, goes_plain c.next room)), tt));
    ends = λ c g room here t b k.
        (let y : less (get s.number c.registers) ≡ 0 = places_less (get s.number c.registers) 0 t (holds_fits c s g) in
        let x : once d (get r.number c.registers) ≡ shifted d (turns c) (get r.number c.registers) =
        sym (ap (λ n. shifted d n (get r.number c.registers)) t ∙ shifted_one d (get r.number c.registers) (holds_fits c r g)) in
        ap (λ x. placed x.next (outcome (act (BranchImmediate NotZero s 250) x) b)) (after_body c room) ∙
        (ap (λ x. placed (c.next + 4) (outcome x b)) (branched c.registers c.next true (eq-eqb (less (get s.number c.registers)) 0 y)) ∙
        did _ _ b (core_path _ _ _ _ (ap (λ v. put s.number v (put r.number (once d (get r.number c.registers)) c.registers)) y ∙
        ap (λ v. put s.number 0 (put r.number v c.registers)) x) (omega arith))));
    again = λ c k g room here t.
        (let y : less (get s.number c.registers) ≡ suc k = places_less (get s.number c.registers) (suc k) t (holds_fits c s g) in
        let n : turns (core (turned c.registers) c.next) ≡ suc k = places_self (get s.number (turned c.registers)) k (turned_s c.registers ∙ y) in (
          core (turned c.registers) c.next,
          ap (act (BranchImmediate NotZero s 250)) (after_body c room) ∙
              (branched c.registers c.next false (ne_eqb (less (get s.number c.registers)) 0 (λ q. omega arith)) ∙ back c.registers c.next (omega arith) g.next_even),
          refl,
          n,
          λ b k'. did _ _ b (core_path _ _ _ _ (ap (λ m. moved m (turned c.registers)) n ∙
              (turned_moved (suc k) c.registers (holds_fits c r g) ∙ ap (λ m. moved m c.registers) (sym t))) refl),
        ));
  }

long_line : (v : ℕ) (d : LongShift) (r s : Register) → registers_fit (long_shift d r s) ≡ true → Looped viking (line v (long_shift d r s))
long_line v d r s fit = record {
  front = [];
  body = shift_once d r ∷ ComputeImmediate Sub s 1 ∷ [];
  back = BranchImmediate NotZero s 250;
  turns = turns d r s (differ r.number s.number fit);
  whole = whole d r s (differ r.number s.number fit);
  loop = loop d r s (differ r.number s.number fit);
  spelled = refl;
  valid = (shift_byte d r, (omega arith, (omega arith, tt)));
  plain = tt;
  counts = λ c g room here. (let k = places_some (holds c s) in (k.0, k.1, omega (arith, k.1), λ b _. refl));
}

-- every row
pub rows : RowsKeep
rows v (registers x a b c) h ranges fits = (rules viking viking_laws).straight (line v (registers x a b c)) (one_registers v x a b c fits)
rows v (immediate x r z) h ranges fits = (rules viking viking_laws).straight (line v (immediate x r z)) (one_immediate v x r z ranges)
rows v (negation r) h ranges fits = (rules viking viking_laws).straight (line v (negation r)) (neg_line v r fits)
rows v (constant r z) h ranges fits = (rules viking viking_laws).straight (line v (constant r z)) (ldi_line v r z h)
rows v (load_from w r z) h ranges fits = (rules viking viking_laws).straight (line v (load_from w r z)) (load_line v w r z h)
rows v (store_to w r z) h ranges fits = (rules viking viking_laws).straight (line v (store_to w r z)) (store_line v w r z h fits)
rows v (branch_to x r t) h ranges fits = (rules viking viking_laws).straight (line v (branch_to x r t)) (branch_line v x r t h fits)
rows v (long_shift d r s) h ranges fits = (rules viking viking_laws).looped (line v (long_shift d r s)) (long_line v d r s fits)
