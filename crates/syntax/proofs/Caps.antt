-- A number read with a bound.
use Rattle.std.proofs.Common.{◌≡◌, ℕ, ◌+◌, ◌*◌, ◌<◌, ◌≤◌, min, true, false, cond, ltb, List, [], ◌∷◌, length, get_or, drop, Some, None, Option, sym, refl, ap, ◌∙◌, ◌⊎◌, ⊎_elim, mul-le-mul_right, le-mul_of_pos_right, arith}
use Rattle.std.proofs.lemmas.List.{at_drop_more, at_drop_all}
use Rattle.std.proofs.lemmas.Bool.Decides.{nat_tests}
use Rattle.std.proofs.lemmas.Bool.{cases_lt}
use Rattle.std.specs.Char.{digit_value}
use Rattle.std.specs.Option.{SomeIff}
use Rattle.syntax.specs.Numbers.{worth, digits_after, bound, capped}

cap_step : (base n w : ℕ) → 0 < base → min bound (min bound n * base + w) ≡ min bound (n * base + w)
cap_step base n w h =
    ⊎_elim
    (λ small. let e : min bound n ≡ n = omega arith in ap (λ m. min bound (m * base + w)) e)
    (λ large.
    let e : min bound n ≡ bound = omega arith in
    ap (λ m. min bound (m * base + w)) e ∙ omega (arith, le-mul_of_pos_right bound h, mul-le-mul_right base large))
    (cases_lt n bound)

-- a bound on the way changes nothing that the bound leaves
capped-on : (base n : ℕ) (cs : List ℕ) → 0 < base → capped (digits_after base (min bound n) cs) ≡ capped (digits_after base n cs)
capped-on base n [] h = ap Some (omega arith)
capped-on base n (c ∷ cs) h =
    elim (ltb (worth c) base) as (λ t. capped (cond t (digits_after base (min bound n * base + worth c) cs) None) ≡ capped (cond t (digits_after base (n * base + worth c) cs) None)) [
      | true ↦
          sym (capped-on base (min bound n * base + worth c) cs h)
          ∙ ap (λ m. capped (digits_after base m cs)) (cap_step base n (worth c) h)
          ∙ capped-on base (n * base + worth c) cs h
      | false ↦ refl
    ]

-- a digit of a base
abbrev pub digit_in : ℕ → ℕ → Option ℕ
digit_in base c = cond (ltb (worth c) base) (Some (worth c)) None

-- in a base up to 16, `to_digit` gives what the digit is worth
worth-value : (c : ℕ) → (digit_value c ≡ worth c) ⊎ ((16 ≤ digit_value c) × (16 ≤ worth c))
worth-value c = grind (arith, nat_tests)

pub digit-in : (base c : ℕ) (o : Option ℕ) → base ≤ 16 → SomeIff o (digit_value c < base) (digit_value c) → o ≡ digit_in base c
digit-in base c None h e = by (worth c) (worth-value c)
  where
    by : (w : ℕ) → (digit_value c ≡ w) ⊎ ((16 ≤ digit_value c) × (16 ≤ w)) → None ≡ cond (ltb w base) (Some w) None
    by w v = grind (arith, nat_tests)
digit-in base c (Some d) h e = by (worth c) (worth-value c)
  where
    by : (w : ℕ) → (digit_value c ≡ w) ⊎ ((16 ≤ digit_value c) × (16 ≤ w)) → Some d ≡ cond (ltb w base) (Some w) None
    by w v = grind (arith, nat_tests)

-- one more digit
pub step : (base n i d : ℕ) (xs : List ℕ) → 0 < base → i < length xs → Some d ≡ digit_in base (get_or xs i 0)
    → capped (digits_after base (min bound (n * base + d)) (drop (i + 1) xs)) ≡ capped (digits_after base n (drop i xs))
step base n i d xs h inside e =
    capped-on base (n * base + d) (drop (i + 1) xs) h ∙ sym (ap capped (at_drop_more (digits_after base n) xs i 0 inside) ∙ same (worth (get_or xs i 0)) e)
  where
    same : (w : ℕ) → Some d ≡ cond (ltb w base) (Some w) None
        → capped (cond (ltb w base) (digits_after base (n * base + w) (drop (i + 1) xs)) None) ≡ capped (digits_after base (n * base + d) (drop (i + 1) xs))
    same w e = grind arith

-- no digit
pub stop : (base n i : ℕ) (xs : List ℕ) → i < length xs → None ≡ digit_in base (get_or xs i 0) → None ≡ capped (digits_after base n (drop i xs))
stop base n i xs inside e = sym (ap capped (at_drop_more (digits_after base n) xs i 0 inside) ∙ none (worth (get_or xs i 0)) e)
  where
    none : (w : ℕ) → None ≡ cond (ltb w base) (Some w) None → capped (cond (ltb w base) (digits_after base (n * base + w) (drop (i + 1) xs)) None) ≡ None
    none w e = grind arith

pub finish : (base n i : ℕ) (xs : List ℕ) → length xs ≤ i → n ≤ bound → Some n ≡ capped (digits_after base n (drop i xs))
finish base n i xs past small = ap Some (omega arith) ∙ sym (ap capped (at_drop_all (digits_after base n) xs i past))
