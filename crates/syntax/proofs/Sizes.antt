-- How much memory data takes.
use Rattle.std.proofs.Common.{◌≡◌, ℕ, suc, ◌+◌, ◌*◌, ◌/◌, ◌%◌, ◌<◌, ◌≤◌, Bool, true, false, cond, eqb, List, [], ◌∷◌, ◌++◌, length, IfSome, Some, None, Option, sym, refl, ap, ◌∙◌, arith, length-append}
use Rattle.std.proofs.lemmas.Bool.Decides.{nat_tests}
use Rattle.word.proofs.Lookups.{both}
use Rattle.syntax.specs.Numbers.{number}
use Rattle.std.specs.Option.{option_map}
use Rattle.syntax.specs.declared.cuts.Separator.{Separator}
use Rattle.syntax.specs.declared.cuts.Separator.TheVariants.{Space, Quote}
use Rattle.syntax.specs.declared.data.Data.{Data}
use Rattle.syntax.specs.Characters.{is, parts}
use Rattle.syntax.specs.Cuts.{front, pieces, before, behind}
use Rattle.syntax.specs.Data.{Datum, string, numbers, text_bytes, number_bytes, data_bytes, bytes_of, value_of, fits, all_fit, closed, string_in, numbers_in, data_in, said_data}
use Rattle.syntax.proofs.Steps.{pieces-cut}

pub text-length : (t : List ℕ) → 2 * (length t / 2 + 1) ≡ length (text_bytes t)
text-length t = by (eqb (length (t ++ (0 ∷ [])) % 2) 0) refl
  where
    by : (b : Bool) → eqb (length (t ++ (0 ∷ [])) % 2) 0 ≡ b
        → 2 * (length t / 2 + 1) ≡ length (cond b (t ++ (0 ∷ [])) ((t ++ (0 ∷ [])) ++ (0 ∷ [])))
    by true e =
        let l : length (t ++ (0 ∷ [])) ≡ length t + 1 = length-append t (0 ∷ []) in
        let even : length (t ++ (0 ∷ [])) % 2 ≡ 0 = grind (arith, nat_tests) in
        omega arith
    by false e =
        let l : length (t ++ (0 ∷ [])) ≡ length t + 1 = length-append t (0 ∷ []) in
        let m : length ((t ++ (0 ∷ [])) ++ (0 ∷ [])) ≡ length (t ++ (0 ∷ [])) + 1 = length-append (t ++ (0 ∷ [])) (0 ∷ []) in
        let odd : length (t ++ (0 ∷ [])) % 2 ≡ 0 → ⊥ = λ z. grind (arith, nat_tests) in
        omega arith

pub number-length : (ps : List (List ℕ)) → 2 * length ps ≡ length (number_bytes ps)
number-length [] = refl
number-length (p ∷ ps) =
    let l : length (bytes_of (value_of (number p)) ++ number_bytes ps) ≡ 2 + length (number_bytes ps) = length-append (bytes_of (value_of (number p))) (number_bytes ps) in
    let ih = number-length ps in
    let s : length (p ∷ ps) ≡ suc (length ps) = refl in
    omega arith

-- pieces with their separators make up the bytes
abbrev spread : List (List ℕ) → ℕ
spread [] = 0
spread (p ∷ ps) = (length p + 1) + spread ps

spread_front : (b : ℕ) (p : List ℕ) (ps : List (List ℕ)) → spread (front b (p ∷ ps)) ≡ 1 + spread (p ∷ ps)
spread_front b p ps = let e : length (b ∷ p) ≡ suc (length p) = refl in omega arith

spread_pieces : (s : Separator) (t : List ℕ) → spread (pieces s t) ≡ length t + 1
spread_pieces s [] = refl
spread_pieces s (b ∷ bs) =
    elim (parts s b) as (λ v. spread (cond v ([] ∷ pieces s bs) (front b (pieces s bs))) ≡ length (b ∷ bs) + 1) [
      | true ↦ let ih = spread_pieces s bs in let e : length (b ∷ bs) ≡ suc (length bs) = refl in omega arith
      | false ↦
          let ih = spread_pieces s bs in
          let e : length (b ∷ bs) ≡ suc (length bs) = refl in
          ap (λ ps. spread (front b ps)) (pieces-cut s bs) ∙ spread_front b _ _ ∙ ap (λ n. 1 + n) (sym (ap spread (pieces-cut s bs))) ∙ omega arith
    ]

-- a number has a byte or more
some_byte : (p : List ℕ) → fits (number p) ≡ true → 0 < length p
some_byte [] h = grind arith
some_byte (c ∷ cs) h = let e : length (c ∷ cs) ≡ suc (length cs) = refl in omega arith

fit_spread : (ps : List (List ℕ)) → all_fit ps ≡ true → 2 * length ps ≤ spread ps
fit_spread [] h = omega arith
fit_spread (p ∷ ps) h =
    let b = both (fits (number p)) (all_fit ps) h in
    let one = some_byte p b.0 in
    let ih = fit_spread ps b.1 in
    let e : length (p ∷ ps) ≡ suc (length ps) = refl in
    omega arith

-- what stands before the only separator, which is last
closed-length : (s : Separator) (cs : List ℕ) → behind s cs ≡ Some [] → length (before s cs) + 1 ≡ length cs
closed-length s [] e = grind arith
closed-length s (b ∷ bs) e = by (parts s b) (closed-length s bs) e
  where
    by : (v : Bool) → (behind s bs ≡ Some [] → length (before s bs) + 1 ≡ length bs) → cond v (Some bs) (behind s bs) ≡ Some []
        → length (cond v [] (b ∷ before s bs)) + 1 ≡ length (b ∷ bs)
    by true later e = let n : bs ≡ [] = cc in ap (λ l. suc (length l)) (sym n)
    by false later e =
        let ih = later e in
        let x : length (b ∷ bs) ≡ suc (length bs) = refl in
        let y : length (b ∷ before s bs) ≡ suc (length (before s bs)) = refl in
        omega arith

-- data takes no more bytes than its text has, and one
pub data-bound : (t : List ℕ) (d : Datum) → data_in t ≡ Some d → length (data_bytes d) ≤ length t + 1
data-bound [] d e = grind arith
data-bound (c ∷ cs) d e = by (is "\"" c) e
  where
    of_string : (o : Option (List ℕ)) → behind Quote cs ≡ o → closed (before Quote cs) o ≡ Some d → length (data_bytes d) ≤ length (c ∷ cs) + 1
    of_string None b e = grind arith
    of_string (Some []) b e =
        let s : string (before Quote cs) ≡ d = cc in
        let l = closed-length Quote cs b in
        let m = text-length (before Quote cs) in
        let x : length (c ∷ cs) ≡ suc (length cs) = refl in
        let y : length (data_bytes d) ≡ length (text_bytes (before Quote cs)) = ap (λ d. length (data_bytes d)) (sym s) in
        omega arith
    of_string (Some (x ∷ xs)) b e = grind arith

    of_numbers : (v : Bool) → all_fit (pieces Space (c ∷ cs)) ≡ v → cond v (Some (numbers (pieces Space (c ∷ cs)))) None ≡ Some d → length (data_bytes d) ≤ length (c ∷ cs) + 1
    of_numbers true f e =
        let s : numbers (pieces Space (c ∷ cs)) ≡ d = cc in
        let l = fit_spread (pieces Space (c ∷ cs)) f in
        let m = spread_pieces Space (c ∷ cs) in
        let n = number-length (pieces Space (c ∷ cs)) in
        let y : length (data_bytes d) ≡ length (number_bytes (pieces Space (c ∷ cs))) = ap (λ d. length (data_bytes d)) (sym s) in
        omega arith
    of_numbers false f e = grind arith

    by : (v : Bool) → cond v (string_in cs) (numbers_in (c ∷ cs)) ≡ Some d → length (data_bytes d) ≤ length (c ∷ cs) + 1
    by true e = of_string (behind Quote cs) refl e
    by false e = of_numbers (all_fit (pieces Space (c ∷ cs))) refl e

pub bound_of : (t : List ℕ) (r : Option Data) → option_map said_data r ≡ data_in t → IfSome r (λ d. length (data_bytes (said_data d)) ≤ length t + 1)
bound_of t None e = tt
bound_of t (Some d) e = data-bound t (said_data d) (sym e)
