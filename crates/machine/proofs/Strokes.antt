-- A line's stroke is what its last word does: what follows from the line's obligation and the machine's laws.
use Rattle.std.proofs.Common.{◌≡◌, ℕ, false, List, sym, refl, ap, ◌∙◌, arith}
use Rattle.machine.specs.Machine.{Machine, Laws, Fair, FairAct, Outcome, Done, Halts, Refused, Act, Quiet, Asks, outcome}
use Rattle.machine.specs.Board.{Fault, OfWord, placed}
use Rattle.machine.specs.Obligation.{Does, AllValid}
use Rattle.machine.specs.Calls.{unfetched}
use Rattle.machine.proofs.Inside.{valid-at, insides_fit}

-- what an act comes to
outcome_fair : (M : Machine) (k : Act M.Core M.Bus M.Refusal) → FairAct M k → (b : M.Bus) → M.Sound b → Fair M b (outcome k b)
outcome_fair M (Quiet c) h b s = (h, record { sound = s; same = λ x _. refl })
outcome_fair M (Asks f) h b s = h b s

placed_fair : (M : Machine) (a : ℕ) (b : M.Bus) (o : Outcome M.Core M.Bus M.Refusal) → Fair M b o → Fair M b (placed a o)
placed_fair M a b (Done c b' stores) h = h
placed_fair M a b (Halts c) h = h
placed_fair M a b (Refused why) h = h

-- a word's refusal is neither 23 nor 24
placed-fetched : {C B R : Type 0} (a : ℕ) (o : Outcome C B R) (f : Fault R) → placed a o ≡ Refused f → unfetched f ≡ false
placed-fetched a (Done c b s) f e = let z : ◌≡◌ {A = ℕ} 0 1 = cc in absurd (omega arith)
placed-fetched a (Halts c) f e = let z : ◌≡◌ {A = ℕ} 0 1 = cc in absurd (omega arith)
placed-fetched a (Refused why) f e = let k : OfWord a why ≡ f = cc in ap unfetched (sym k)

module _ (M : Machine) (L : Laws M) (ws : List M.Word) (a : ℕ) (c : M.Core) (cost : ℕ) (stroke : M.Bus → Outcome M.Core M.Bus (Fault M.Refusal))
    (v : AllValid M ws) (d : Does M ws a c cost stroke) (b : M.Bus) (s : M.Sound b) where
  pub stroke_fair : M.Fits c → Fair M b (stroke b)
  stroke_fair g =
      let k = placed_fair M (M.at d.reached) b (outcome (M.act d.last d.reached) b)
      (outcome_fair M (M.act d.last d.reached) (L.acts d.last d.reached (valid-at M ws v a (M.at d.reached) d.last d.stands) (insides_fit M L ws v a d.before c d.reached g d.quietly)) b s) in
      rw (d.strikes b s) at k

  pub stroke-fetched : (f : Fault M.Refusal) → stroke b ≡ Refused f → unfetched f ≡ false
  stroke-fetched f e = placed-fetched (M.at d.reached) (outcome (M.act d.last d.reached) b) f (d.strikes b s ∙ e)
