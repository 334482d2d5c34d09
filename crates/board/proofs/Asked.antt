-- An odd access is refused before the bus is asked.
use Rattle.std.proofs.Common.{◌≡◌, ℕ, ◌+◌, ◌%◌, ◌≢◌, Bool, true, false, cond, eqb, leb, List, [], ◌∷◌, length, Ok, Err, refl, arith}
use Rattle.word.specs.declared.instructions.Width.TheVariants.{Byte, Word}
use Rattle.word.specs.declared.instructions.Instruction.TheVariants.{Compute, ComputeImmediate, Shift, Load, Store, Branch, BranchImmediate, LoadRegister, LoadConstant, Halt}
use Rattle.word.specs.Arithmetic.{is_taken}
use Rattle.bus.specs.Meaning.{Meaning}
use Rattle.bus.specs.Calls.{OnBus, ask, Way, ToLoad, ToStore, something, wide, goes, low_byte, number_text, Byte as OneByte, Word as OneWord, Width, aligned, questions, receive, input, word_from, send, character, numeric, word_to}
use Rattle.bus.specs.declared.faults.BusFault.{BusFault}
use Rattle.bus.specs.declared.faults.BusFault.TheVariants.{OddAddress, NothingThere, ByteAtPort, WrongWay, NoneWaiting, NoRoom}
use Rattle.machine.specs.Machine.{Refused, Quiet, Asks, outcome}
use Rattle.board.specs.Core.{Core, holds, with_next}
use Rattle.board.specs.Step.{WordOutcome, OddAccess, OddTarget, ByBus, loaded, stored, branches, AskedBefore}

-- an outcome, and a call's, that is not that refusal
abbrev Not : WordOutcome → Type 0
Not o = o ≢ Refused (ByBus OddAddress)

abbrev NotOdd : {V : Type 0} → OnBus V → Type 0
NotOdd o = o ≢ Err OddAddress

ok_other : {V : Type 0} (p : V × Meaning) → NotOdd {V = V} (Ok p)
ok_other p e = let z : ◌≡◌ {A = ℕ} 0 1 = cc in omega arith

err_other : {V : Type 0} (f : BusFault) → f ≢ OddAddress → NotOdd {V = V} (Err f)
err_other f ne e = ne cc

ask_other : {V : Type 0} (t : Bool) (f : BusFault) (further : OnBus V) → f ≢ OddAddress → NotOdd further → NotOdd (ask t f further)
ask_other true f further ne h = h
ask_other false f further ne h = err_other f ne

questions_other : {V : Type 0} (width : Width) (way : Way) (m : Meaning) (a : ℕ) (further : OnBus V) → aligned width a ≡ true → NotOdd further
    → NotOdd (questions width way m a further)
questions_other {V} width way m a further even h = go (aligned width a) even
  where
    inner : NotOdd (ask (something (m.place a)) NothingThere (ask (wide width (m.place a)) ByteAtPort (ask (goes way (m.place a)) WrongWay further)))
    inner =
        ask_other (something (m.place a)) NothingThere _ (λ e. (let z : ◌≡◌ {A = ℕ} 0 1 = cc in omega arith))
        (ask_other (wide width (m.place a)) ByteAtPort _ (λ e. (let z : ◌≡◌ {A = ℕ} 0 1 = cc in omega arith))
        (ask_other (goes way (m.place a)) WrongWay further (λ e. (let z : ◌≡◌ {A = ℕ} 0 1 = cc in omega arith)) h))

    go : (t : Bool) → t ≡ true → NotOdd (ask t OddAddress (ask (something (m.place a)) NothingThere (ask (wide width (m.place a)) ByteAtPort (ask (goes way (m.place a)) WrongWay further))))
    go true e = inner
    go false e = absurd (let z : ◌≡◌ {A = ℕ} 0 1 = cc in omega arith)

receive_other : (m : Meaning) (bytes : List ℕ) → NotOdd (receive m bytes)
receive_other m [] = err_other NoneWaiting (λ e. (let z : ◌≡◌ {A = ℕ} 0 1 = cc in omega arith))
receive_other m (oldest ∷ others) = ok_other _

send_other : (m : Meaning) (text : List ℕ) → NotOdd (send m text)
send_other m text =
    ask_other {V = Unit {0}} (leb (length m.sent + length text) m.most_sent) NoRoom _ (λ e. (let z : ◌≡◌ {A = ℕ} 0 1 = cc in omega arith)) (ok_other _)

either : {V : Type 0} (t : Bool) (o u : OnBus V) → NotOdd o → NotOdd u → NotOdd (cond t o u)
either true o u h k = h
either false o u h k = k

word_from_other : (m : Meaning) (a : ℕ) → NotOdd (word_from m a)
word_from_other m a = either (input (m.place a)) _ _ (receive_other m m.waiting) (ok_other _)

word_to_other : (m : Meaning) (a v : ℕ) → NotOdd (word_to m a v)
word_to_other m a v =
    either (character (m.place a)) _ _ (send_other m (low_byte v ∷ [])) (either (numeric (m.place a)) _ _ (send_other m (number_text v)) (ok_other _))

load_asked : (core : ℕ → Core) (o : OnBus ℕ) → NotOdd o → Not (loaded core o)
load_asked core (Ok p) h e = let z : ◌≡◌ {A = ℕ} 0 1 = cc in omega arith
load_asked core (Err f) h e = h cc

store_asked : (core : Core) (addresses : List ℕ) (o : OnBus (Unit {0})) → NotOdd o → Not (stored core addresses o)
store_asked core addresses (Ok p) h e = let z : ◌≡◌ {A = ℕ} 0 1 = cc in omega arith
store_asked core addresses (Err f) h e = h cc

access_asked : (t : Bool) (further : WordOutcome) → (t ≡ true → Not further) → Not (cond t further (Refused OddAccess))
access_asked true further h = h refl
access_asked false further h = λ e. (let z : ◌≡◌ {A = ℕ} 0 1 = cc in omega arith)

quiet_asked : (d : Core) (b : Meaning) → Not (outcome (Quiet d) b)
quiet_asked d b e = let z : ◌≡◌ {A = ℕ} 0 1 = cc in omega arith

branch_asked : (c : Core) (taken : Bool) (a : ℕ) (b : Meaning) → Not (outcome (branches c taken a) b)
branch_asked c false a b = quiet_asked _ b
branch_asked c true a b = go (eqb (a % 2) 0)
  where
    go : (even : Bool) → Not (outcome (cond even (Quiet (with_next c a)) (Asks (λ b. Refused OddTarget))) b)
    go true = quiet_asked _ b
    go false = λ e. (let z : ◌≡◌ {A = ℕ} 0 1 = cc in omega arith)

pub asked_before : AskedBefore
asked_before (Compute x rst rsa rsb) c b = quiet_asked _ b
asked_before (ComputeImmediate x rst n) c b = quiet_asked _ b
asked_before (Shift x rst rsa) c b = quiet_asked _ b
asked_before (Load Byte rst rsb) c b = load_asked _ _ (questions_other OneByte ToLoad b (holds c rsb) _ refl (ok_other _))
asked_before (Load Word rst rsb) c b =
    access_asked (eqb (holds c rsb % 2) 0) _
    (λ even. load_asked _ _ (questions_other OneWord ToLoad b (holds c rsb) (word_from b (holds c rsb)) even (word_from_other b (holds c rsb))))
asked_before (Store Byte rsa rsb) c b = store_asked _ _ _ (questions_other {V = Unit {0}} OneByte ToStore b (holds c rsb) _ refl (ok_other _))
asked_before (Store Word rsa rsb) c b =
    access_asked (eqb (holds c rsb % 2) 0) _
    (λ even. store_asked _ _ _
    (questions_other OneWord ToStore b (holds c rsb) (word_to b (holds c rsb) (holds c rsa)) even (word_to_other b (holds c rsb) (holds c rsa))))
asked_before (Branch x rsa rsb) c b = branch_asked c (is_taken x (holds c rsa)) _ b
asked_before (BranchImmediate x rst n) c b = branch_asked c (is_taken x (holds c rst)) _ b
asked_before (LoadRegister rst n) c b = quiet_asked _ b
asked_before (LoadConstant rst n) c b = quiet_asked _ b
asked_before Halt c b = λ e. (let z : ◌≡◌ {A = ℕ} 0 1 = cc in omega arith)
