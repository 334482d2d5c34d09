-- Nothing of what a bus is stands here, only the evidence that flat memory hands over as a bus, that its meaning keeps the facts of every bus, in parts that other buses use too.
use Rattle.std.specs.Prelude.{◌≡◌, ℕ, ◌+◌, ◌*◌, ◌/◌, ◌%◌, ◌<◌, ◌≤◌, Bool, true, false, cond, List, length, nat_lt, slice_index, refl}
use Rattle.std.proofs.Common.{sym, ap, ◌∙◌, ⊎_elim, arith, ltb-true, ltb-false, lt-ltb, le-ltb}
use Rattle.std.proofs.lemmas.Bool.{cases_lt, cond_both, cond-false}
use Rattle.bus.specs.Sizes.{whole_words}
use Rattle.bus.specs.Meaning.{Place, Cell, Nothing, kind, HoldsByte, Facts}
use Rattle.bus.specs.Flats.{flat, flat_size}

pub byte : (n : ℕ) → n % 256 < 256
byte n = omega arith

-- what holds of both ways of a test
pub holds : (t : Bool) (p q : Place) → HoldsByte p → HoldsByte q → HoldsByte (cond t p q)
holds true p q hp hq = hp
holds false p q hp hq = hq

pub one_kind : (t : Bool) (p q p' q' : Place) → kind p ≡ kind p' → kind q ≡ kind q' → kind (cond t p q) ≡ kind (cond t p' q')
one_kind true p q p' q' hp hq = hp
one_kind false p q p' q' hp hq = hq

-- an even address and the next are both below an even number, or neither is
both_below : (k n : ℕ) → k % 2 ≡ 0 → n % 2 ≡ 0 → nat_lt (k + 1) n ≡ nat_lt k n
both_below k n even whole = ⊎_elim
    (λ l. lt-ltb (k + 1) n (omega arith) ∙ sym (lt-ltb k n l))
    (λ l. le-ltb (k + 1) n (omega arith) ∙ sym (le-ltb k n l))
    (cases_lt k n)

pub one_kind_below : (k n : ℕ) (p q p' q' : Place) → k % 2 ≡ 0 → n % 2 ≡ 0 → kind p ≡ kind p' → kind q ≡ kind q' → kind (cond (nat_lt k n) p q) ≡ kind (cond (nat_lt (k + 1) n) p' q')
one_kind_below k n p q p' q' even whole hp hq =
    one_kind (nat_lt k n) p q p' q' hp hq ∙ ap (λ (t : Bool). kind (cond t p' q')) (sym (both_below k n even whole))

pub past : (k n : ℕ) (p q : Place) → n ≤ k → cond (nat_lt k n) p q ≡ q
past k n p q l = cond-false (nat_lt k n) p q (le-ltb k n l)

pub whole : (most n : ℕ) → most % 2 ≡ 0 → whole_words most n % 2 ≡ 0
whole most n even = cond_both (nat_lt most n) most (n / 2 * 2) (λ x. x % 2 ≡ 0) (λ _. even) (λ _. omega arith)

pub within : (most n : ℕ) → whole_words most n ≤ most
within most n = cond_both (nat_lt most n) most (n / 2 * 2) (λ x. x ≤ most) (λ _. omega arith) (λ e. omega (arith, ltb-false most n e))

pub enough : (most n : ℕ) → whole_words most n ≤ n
enough most n = cond_both (nat_lt most n) most (n / 2 * 2) (λ x. x ≤ n) (λ e. omega (arith, ltb-true most n e)) (λ _. omega arith)

pub flat_facts : (bytes : List ℕ) → Facts (flat bytes)
flat_facts bytes = record {
  paired = λ k even. one_kind_below k (flat_size (length bytes)) _ Nothing _ Nothing even (whole 65536 (length bytes) refl) refl refl;
  ends = λ k out. past k (flat_size (length bytes)) _ Nothing (omega (arith, within 65536 (length bytes)));
  standing = λ k. holds (nat_lt k (flat_size (length bytes))) (Cell (slice_index bytes k % 256)) Nothing (byte (slice_index bytes k)) tt;
  waiting_bytes = tt;
  sent_bytes = tt;
}
