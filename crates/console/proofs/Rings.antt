-- What a push and a pop make of a ring.
use Rattle.std.proofs.Common.{◌≡◌, ℕ, zero, suc, ◌+◌, ◌-◌, ◌%◌, ◌<◌, ◌≤◌, List, [], ◌∷◌, ◌++◌, map, length, get_or, set, sym, refl, ap, ◌∙◌, arith}
use Rattle.std.specs.List.{range_with_len}
use Rattle.std.proofs.lemmas.Bool.Decides.{nat_tests}
use Rattle.std.proofs.lemmas.List.{get_or-set_same, get_or-set_other}
use Rattle.std.proofs.lemmas.List.FromFn.{length-map-range_with_len, map-range_with_len_more}
use Rattle.console.specs.Rings.{turn, at_turn, ring, from, up_to}

pub length-ring : (n : ℕ) (bytes : List ℕ) (f c : ℕ) → length (ring n bytes f c) ≡ c
unfolding ring
length-ring n bytes f c = length-map-range_with_len (at_turn n bytes f) 0 c

same_map : (f g : ℕ → ℕ) (a n : ℕ) → ((k : ℕ) → k < a + n → f k ≡ g k) → map f (range_with_len a n) ≡ map g (range_with_len a n)
same_map f g a zero h = refl
same_map f g a (suc n) h = let e = h a (omega arith) in let r = same_map f g (a + 1) n (λ k l. h k (omega arith)) in cc

shift_map : (f g : ℕ → ℕ) (a n : ℕ) → ((k : ℕ) → k < a + n → f (k + 1) ≡ g k) → map f (range_with_len (a + 1) n) ≡ map g (range_with_len a n)
shift_map f g a zero h = refl
shift_map f g a (suc n) h = let e = h a (omega arith) in let r = shift_map f g (a + 1) n (λ k l. h k (omega arith)) in cc

turn_apart : (n f k c : ℕ) → f < n → k < c → c < n → turn n f k ≡ turn n f c → ⊥
turn_apart n f k c hf hk hc e = grind (arith, nat_tests)

turn_under : (n f c : ℕ) → f < n → c < n → turn n f c < n
turn_under n f c hf hc = grind (arith, nat_tests)

turn-next : (n f k : ℕ) → f < n → k + 1 < n → turn n f (k + 1) ≡ turn n (turn n f 1) k
turn-next n f k hf hk = grind (arith, nat_tests)

pub ring-push : (n : ℕ) (bytes : List ℕ) (f c b : ℕ) → f < n → c < n → length bytes ≡ n → b < 256 → ring n (set bytes (turn n f c) b) f (c + 1) ≡ ring n bytes f c ++ (b ∷ [])
unfolding ring
ring-push n bytes f c b hf hc len hb =
    let new : ℕ → ℕ = at_turn n (set bytes (turn n f c) b) f in
    let old : ℕ → ℕ = at_turn n bytes f in
    let more : map new (range_with_len 0 (c + 1)) ≡ map new (range_with_len 0 c) ++ (new c ∷ []) = map-range_with_len_more new 0 c c (omega arith) in
    let inside : turn n f c < length bytes = rw len (turn_under n f c hf hc) in
    let last : new c ≡ b = ap (λ x. x % 256) (get_or-set_same bytes (turn n f c) b 0 inside) ∙ omega arith in
    let rest : map new (range_with_len 0 c) ≡ map old (range_with_len 0 c) = same_map new old 0 c (λ k l. ap (λ x. x % 256) (get_or-set_other bytes (turn n f c) (turn n f k) b 0 (turn_apart n f k c hf (omega arith) hc))) in
    cc

pub ring-pop : (n : ℕ) (bytes : List ℕ) (f c : ℕ) → f < n → c < n → ring n bytes f (suc c) ≡ (get_or bytes f 0 % 256) ∷ ring n bytes (turn n f 1) c
unfolding ring
ring-pop n bytes f c hf hc =
    let first : turn n f 0 ≡ f = grind (arith, nat_tests) in
    let rest : map (at_turn n bytes f) (range_with_len (0 + 1) c) ≡ map (at_turn n bytes (turn n f 1)) (range_with_len 0 c) =
    shift_map (at_turn n bytes f) (at_turn n bytes (turn n f 1)) 0 c (λ k l. ap (λ i. get_or bytes i 0 % 256) (turn-next n f k hf (omega arith))) in
    let head : at_turn n bytes f 0 ≡ get_or bytes f 0 % 256 = ap (λ i. get_or bytes i 0 % 256) first in
    cc

pub ring_popped : (n : ℕ) (bytes : List ℕ) (f c : ℕ) → f < n → c ≤ n → 0 < c → get_or bytes f 0 < 256 → ring n bytes f c ≡ get_or bytes f 0 ∷ ring n bytes (turn n f 1) (c - 1)
ring_popped n bytes f (suc c) hf hc some byte =
    let same : get_or bytes f 0 % 256 ≡ get_or bytes f 0 = omega arith in
    let less : suc c - 1 ≡ c = omega arith in
    let e = ring-pop n bytes f c hf (omega arith) in
    cc
ring_popped n bytes f zero hf hc some byte = absurd (omega arith)

-- the same, of a first place and a count that may be past the ring
pub held-push : (n : ℕ) (bytes : List ℕ) (f c f' c' b : ℕ) → f' ≡ from n f → c' ≡ up_to n c → length (ring n bytes (from n f) (up_to n c)) < n → length bytes ≡ n → b < 256 →
    ring n (set bytes (turn n f' c') b) (from n f') (up_to n (c' + 1)) ≡ ring n bytes (from n f) (up_to n c) ++ (b ∷ [])
held-push n bytes f c f' c' b p q room len hb =
    let size = length-ring n bytes (from n f) (up_to n c) in
    let under : c' < n = omega (arith, size) in
    let inside : f' < n = grind (arith, nat_tests) in
    let e : from n f' ≡ f' = grind (arith, nat_tests) in
    let g : up_to n (c' + 1) ≡ c' + 1 = grind (arith, nat_tests) in
    let r = ring-push n bytes f' c' b inside under len hb in
    cc

pub held-pop : (n : ℕ) (bytes : List ℕ) (f c f' c' : ℕ) → f' ≡ from n f → c' ≡ up_to n c → 0 < c' → get_or bytes f' 0 < 256 →
    ring n bytes (from n f) (up_to n c) ≡ get_or bytes f' 0 ∷ ring n bytes (from n (turn n f' 1)) (up_to n (c' - 1))
held-pop n bytes f c f' c' p q some byte =
    let most : c' ≤ n = grind (arith, nat_tests) in
    let inside : f' < n = grind (arith, nat_tests) in
    let next : turn n f' 1 < n = grind (arith, nat_tests) in
    let e : from n (turn n f' 1) ≡ turn n f' 1 = grind (arith, nat_tests) in
    let g : up_to n (c' - 1) ≡ c' - 1 = grind (arith, nat_tests) in
    let r = ring_popped n bytes f' c' inside most some byte in
    cc

pub held_none : (n : ℕ) (bytes : List ℕ) (f c : ℕ) → 0 ≡ up_to n c → ring n bytes (from n f) (up_to n c) ≡ []
unfolding ring
held_none n bytes f c e = rw (sym e)

pub capped : (n c r : ℕ) → r ≡ up_to n c → r ≤ n
capped n c r e = grind (arith, nat_tests)
