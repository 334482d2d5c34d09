-- A run in two parts: where the first part ended with its budget spent, the second goes on from what it left, and the words add up.
use Rattle.std.proofs.Common.{◌≡◌, ℕ, zero, suc, ◌+◌, refl, ap, ◌∙◌, add_assoc, suc-add, zero-add, arith}
use Rattle.machine.specs.Machine.{Machine, Outcome, Done, Halts, Refused}
use Rattle.machine.specs.Board.{Fault, End, Halted, Spent, Faulted, Course, behind, Board, step, execute}
use Rattle.machine.proofs.Ticks.{execute_done, execute_halts, execute-refused}

behind-none : {Refusal S : Type 0} (r : Course Refusal S) → r ≡ behind 0 r
behind-none r = rw zero-add

behind_both : {Refusal S : Type 0} (m n : ℕ) (r : Course Refusal S) → behind m (behind n r) ≡ behind (m + n) r
behind_both m n r = rw add_assoc

not_spent : {Refusal : Type 0} (e : End Refusal) → e ≡ Spent → e ≡ Halted → ⊥
not_spent e h k = let z : ◌≡◌ {A = ℕ} 0 1 = cc in omega arith

not_spent_by : {Refusal : Type 0} (e : End Refusal) (f : Fault Refusal) → e ≡ Spent → e ≡ Faulted f → ⊥
not_spent_by e f h k = let z : ◌≡◌ {A = ℕ} 0 1 = cc in omega arith

module _ (M : Machine) where
  -- the first word of the first part
  turn : (m n : ℕ) → ((b : Board M) → (execute M m b).end ≡ Spent → execute M (m + n) b ≡ behind (execute M m b).words (execute M n (execute M m b).left)) →
      (b : Board M) (o : Outcome M.Core M.Bus (Fault M.Refusal)) → step M b.core b.bus ≡ o → (execute M (suc m) b).end ≡ Spent →
      execute M (suc (m + n)) b ≡ behind (execute M (suc m) b).words (execute M n (execute M (suc m) b).left)
  turn m n ih b (Done c s stores) e h =
      let b' : Board M = record { core = c; bus = s; held = b.held; halted = b.halted } in
      let first : execute M (suc m) b ≡ behind 1 (execute M m b') = execute_done M m b c s stores e in
      let spent : (execute M m b').end ≡ Spent = rw first at h in
      rw (first, execute_done M (m + n) b c s stores e)
      (ap (λ r. behind 1 r) (ih b' spent) ∙ behind_both 1 (execute M m b').words (execute M n (execute M m b').left))
  turn m n ih b (Halts c) e h = absurd (not_spent (execute M (suc m) b).end h (ap (λ r. r.end) (execute_halts M m b c e)))
  turn m n ih b (Refused f) e h = absurd (not_spent_by (execute M (suc m) b).end f h (ap (λ r. r.end) (execute-refused M m b f e)))

  pub in_parts : (m n : ℕ) (b : Board M) → (execute M m b).end ≡ Spent → execute M (m + n) b ≡ behind (execute M m b).words (execute M n (execute M m b).left)
  unfolding execute
  in_parts zero n b h = ap (λ k. execute M k b) (zero-add n) ∙ behind-none (execute M n b)
  in_parts (suc m) n b h = ap (λ k. execute M k b) (suc-add m n) ∙ turn m n (in_parts m n) b (step M b.core b.bus) refl h

  -- the same, where the first part is known
  pub goes_on : (m n k : ℕ) (b c : Board M) → execute M m b ≡ record { words = k; end = Spent; left = c } → execute M (m + n) b ≡ behind k (execute M n c)
  goes_on m n k b c e = in_parts m n b (ap (λ r. r.end) e) ∙ ap (λ r. behind r.words (execute M n r.left)) e
