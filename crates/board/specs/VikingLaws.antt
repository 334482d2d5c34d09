-- Nothing of what the Viking is stands here, only the evidence that it keeps the laws of a machine.
use Rattle.std.specs.Prelude.{◌≡◌, ℕ, ◌+◌, ◌*◌, ◌/◌, ◌%◌, ◌<◌, Bool, true, false, cond, List, [], Some, Ok, Err, ◌==◌}
use Rattle.std.proofs.Common.{refl, ◌∙◌, ap, subst, arith, eqb-true}
use Rattle.word.specs.declared.instructions.Width.TheVariants.{Byte, Word}
use Rattle.word.specs.declared.instructions.Operation.TheVariants.{Computes, LoadsRegister}
use Rattle.word.specs.declared.instructions.Instruction.{Instruction}
use Rattle.word.specs.declared.instructions.Instruction.TheVariants.{Compute, ComputeImmediate, Shift, Load, Store, Branch, BranchImmediate, LoadRegister, LoadConstant, Halt}
use Rattle.word.specs.Words.{encoded, decoded}
use Rattle.word.specs.Laws.{HasByte}
use Rattle.word.specs.Arithmetic.{low_byte, is_taken}
use Rattle.word.proofs.Back.{decodes-back}
use Rattle.bus.specs.Meaning.{Meaning}
use Rattle.bus.specs.Calls.{OnBus, load_byte, load_word, store_byte, store_word}
use Rattle.machine.specs.Machine.{Fair, FairAct, Laws, Refused, Quiet, Asks}
use Rattle.board.specs.Core.{Core, holds, with_next, Fits}
use Rattle.board.specs.Step.{WordOutcome, Refusal, OddTarget, loaded, stored, goes_to, branches, act}
use Rattle.board.specs.Viking.{viking}
use Rattle.board.specs.CoreFits.{holds_fits, goes_fits, results_fit, next_fits, compute_fits, shift_fits, sign_fits, immediate_fits}
use Rattle.board.specs.BusFair.{LoadFair, StoreFair, load_byte_fair, load_word_fair, store_byte_fair, store_word_fair, give_fair, take_fair}

-- an instruction comes back from the two bytes of its word
comes_back : (i : Instruction) → HasByte i → viking.decode (viking.high i) (viking.low i) ≡ Some i
comes_back i h = let e : 256 * (encoded i / 256) + encoded i % 256 ≡ encoded i = omega arith in ap decoded e ∙ (decodes-back i h).0

-- a load, a store, an access of a word, a branch
loads : (b : Meaning) (most : ℕ) (core : ℕ → Core) (o : OnBus ℕ) → ((v : ℕ) → v < most → Fits (core v)) → LoadFair b most o → Fair viking b (loaded core o)
loads b most core (Ok p) fits h = (fits p.0 h.0, h.1)
loads b most core (Err f) fits h = tt

stores : (b : Meaning) (core : Core) (addresses : List ℕ) (o : OnBus (Unit {0})) → Fits core → StoreFair b addresses o → Fair viking b (stored core addresses o)
stores b core addresses (Ok p) fits h = (fits, h)
stores b core addresses (Err f) fits h = tt

accessed : (b : Meaning) (t : Bool) (further : WordOutcome) (why : Refusal) → Fair viking b further → Fair viking b (cond t further (Refused why))
accessed b true further why h = h
accessed b false further why h = tt

gone : (c : Core) (a : ℕ) → a < 65536 → Fits c → FairAct viking (goes_to c a)
gone c a small h = go (a % 2 == 0) refl
  where
    go : (t : Bool) → (a % 2 == 0) ≡ t → FairAct viking (cond t (Quiet (with_next c a)) (Asks (λ b. Refused OddTarget)))
    go true even = next_fits c a small (eqb-true (a % 2) 0 even) h
    go false odd = λ b s. tt

branched : (c : Core) (t : Bool) (a : ℕ) → a < 65536 → Fits c → FairAct viking (branches c t a)
branched c true a small h = gone c a small h
branched c false a small h = goes_fits c h

-- what each instruction does is fair
acts : (i : Instruction) (c : Core) → HasByte i → Fits c → FairAct viking (act i c)
acts (Compute x rst rsa rsb) c v h = results_fit c rst _ (compute_fits x _ _ (holds_fits c rsa h) (holds_fits c rsb h)) h
acts (ComputeImmediate x rst n) c v h = results_fit c rst _ (compute_fits x _ _ (holds_fits c rst h) (immediate_fits (Computes x) n v)) h
acts (Shift x rst rsa) c v h = results_fit c rst _ (shift_fits x _ (holds_fits c rsa h)) h
acts (Load Byte rst rsb) c v h = λ b s.
    loads b 256 _ (load_byte b (holds c rsb)) (λ y small. results_fit c rst _ (sign_fits y small) h) (load_byte_fair b (holds c rsb) s)
acts (Load Word rst rsb) c v h = λ b s.
    accessed b (holds c rsb % 2 == 0) _ _
    (loads b 65536 _ (load_word b (holds c rsb)) (λ y small. results_fit c rst y small h) (load_word_fair b (holds c rsb) s))
acts (Store Byte rsa rsb) c v h = λ b s.
    stores b _ _ (store_byte b (holds c rsb) (low_byte (holds c rsa))) (goes_fits c h)
    (store_byte_fair b (holds c rsb) (low_byte (holds c rsa)) (omega arith) s)
acts (Store Word rsa rsb) c v h = λ b s.
    accessed b (holds c rsb % 2 == 0) _ _
    (stores b _ _ (store_word b (holds c rsb) (holds c rsa)) (goes_fits c h) (store_word_fair b (holds c rsb) (holds c rsa) (holds_fits c rsa h) s))
acts (Branch x rsa rsb) c v h = branched c (is_taken x (holds c rsa)) (holds c rsb) (holds_fits c rsb h) h
acts (BranchImmediate x rst n) c v h = branched c (is_taken x (holds c rst)) _ (omega arith) h
acts (LoadRegister rst n) c v h = results_fit c rst _ (immediate_fits LoadsRegister n v) h
acts (LoadConstant rst n) c v h = results_fit c rst _ (omega arith) h
acts Halt c v h = λ b s. h

pub viking_laws : Laws viking
viking_laws = record {
  coded = comes_back;
  acts = acts;
  given = λ b v p s e. subst (StoreFair b []) e (give_fair b (v % 256) (omega arith) s);
  taken = λ b p s e. subst (StoreFair b []) e (take_fair b s);
}
