-- A store of a word changes the kind of no address.
use Rattle.std.proofs.Common.{◌≡◌, ℕ, Ok, Err, Result, refl, ap, arith}
use Rattle.std.proofs.lemmas.Bool.Decides.{nat_tests}
use Rattle.bus.specs.Meaning.{Meaning, Place, Cell, Fixed, CharacterPort, NumberPort, InputPort, Nothing, kind, Facts}
use Rattle.bus.specs.Calls.{Comes, store_word}
use Rattle.any_bus.specs.Answers.{SameKinds}
use Rattle.bus.specs.declared.faults.BusFault.{BusFault}

at_place : (m n : Meaning) (a v : ℕ) (u : Unit {0}) (p : Place) → Facts m → m.place a ≡ p → store_word m a v ≡ Ok (u, n) → SameKinds m n
at_place m n a v u (Cell b) facts e h k = let paired = facts.paired a in grind (arith, nat_tests)
at_place m n a v u (Fixed b) facts e h k = grind (arith, nat_tests)
at_place m n a v u CharacterPort facts e h k = grind (arith, nat_tests)
at_place m n a v u NumberPort facts e h k = grind (arith, nat_tests)
at_place m n a v u InputPort facts e h k = grind (arith, nat_tests)
at_place m n a v u Nothing facts e h k = grind (arith, nat_tests)

pub stored_word : (m n : Meaning) (a v : ℕ) (r : Result (Unit {0}) BusFault) → Facts m → Comes (store_word m a v) m r n → SameKinds m n
stored_word m n a v (Ok u) facts h k = at_place m n a v u (m.place a) facts refl h k
stored_word m n a v (Err f) facts h k = ap (λ (x : Meaning). kind (x.place k)) h.1
