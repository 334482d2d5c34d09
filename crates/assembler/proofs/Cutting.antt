-- A text cut behind its first line.
use Rattle.std.proofs.Common.{◌≡◌, ℕ, suc, ◌+◌, ◌<◌, ◌≤◌, Bool, true, false, cond, List, [], ◌∷◌, length, unwrap_or, Some, None, Option, refl, ap, ◌∙◌, arith}
use Rattle.syntax.specs.declared.cuts.Separator.{Separator}
use Rattle.syntax.specs.declared.cuts.Separator.TheVariants.{LineFeed}
use Rattle.syntax.specs.Characters.{parts}
use Rattle.syntax.specs.Cuts.{front, lines, lines_of, before, behind}
use Rattle.syntax.proofs.Steps.{lines_cut}

-- with a separator, what stands on both sides of it
pub cut-length : (s : Separator) (xs ys : List ℕ) → behind s xs ≡ Some ys → length (before s xs) + (length ys + 1) ≡ length xs
cut-length s [] ys e = absurd (let z : ◌≡◌ {A = ℕ} 0 1 = cc in omega arith)
cut-length s (b ∷ bs) ys e = by (parts s b) (cut-length s bs ys) e
  where
    by : (v : Bool) → (behind s bs ≡ Some ys → length (before s bs) + (length ys + 1) ≡ length bs) → cond v (Some bs) (behind s bs) ≡ Some ys
        → length (cond v [] (b ∷ before s bs)) + (length ys + 1) ≡ length (b ∷ bs)
    by true later e =
        let n : bs ≡ ys = cc in
        let l = ap length n in
        let x : length (b ∷ bs) ≡ suc (length bs) = refl in
        omega arith
    by false later e =
        let ih = later e in
        let x : length (b ∷ bs) ≡ suc (length bs) = refl in
        let y : length (b ∷ before s bs) ≡ suc (length (before s bs)) = refl in
        omega arith

-- without one
pub whole_length : (s : Separator) (xs : List ℕ) → length (before s xs) ≤ length xs
whole_length s [] = omega arith
whole_length s (b ∷ bs) =
    elim (parts s b) as (λ v. length (cond v [] (b ∷ before s bs)) ≤ length (b ∷ bs)) [
      | true ↦ let x : length (b ∷ bs) ≡ suc (length bs) = refl in omega arith
      | false ↦
          let ih = whole_length s bs in
          let x : length (b ∷ bs) ≡ suc (length bs) = refl in
          let y : length (b ∷ before s bs) ≡ suc (length (before s bs)) = refl in
          omega arith
    ]

-- the first line, and what stands behind it
module _ (s : Separator) (xs : List ℕ) where
  pub parts_fit : length (before s xs) + length (unwrap_or (behind s xs) []) ≤ length xs
  parts_fit = by (behind s xs) refl
    where
      by : (o : Option (List ℕ)) → behind s xs ≡ o → length (before s xs) + length (unwrap_or o []) ≤ length xs
      by None e = let k = whole_length s xs in omega arith
      by (Some ys) e = let k = cut-length s xs ys e in omega arith

  pub parted_fit : 0 < length (unwrap_or (behind s xs) []) → length (before s xs) + (length (unwrap_or (behind s xs) []) + 1) ≤ length xs
  parted_fit = by (behind s xs) refl
    where
      by : (o : Option (List ℕ)) → behind s xs ≡ o → 0 < length (unwrap_or o []) → length (before s xs) + (length (unwrap_or o []) + 1) ≤ length xs
      by None e h = absurd (omega arith)
      by (Some ys) e h = let k = cut-length s xs ys e in omega arith

  pub rest_shorter : 0 < length xs → length (unwrap_or (behind s xs) []) < length xs
  rest_shorter = by (behind s xs) refl
    where
      by : (o : Option (List ℕ)) → behind s xs ≡ o → 0 < length xs → length (unwrap_or o []) < length xs
      by None e h = h
      by (Some ys) e h = let k = cut-length s xs ys e in omega arith

pub first_line : (xs : List ℕ) → 0 < length xs → lines xs ≡ before LineFeed xs ∷ lines (unwrap_or (behind LineFeed xs) [])
first_line xs h = lines_cut xs h ∙ ap (λ ls. before LineFeed xs ∷ ls) (rest_lines (behind LineFeed xs))
  where
    rest_lines : (o : Option (List ℕ)) → lines_of o ≡ lines (unwrap_or o [])
    rest_lines None = refl
    rest_lines (Some ys) = refl

-- no more lines than bytes
pub lines_bound : (xs : List ℕ) → length (lines xs) ≤ length xs
lines_bound [] = omega arith
lines_bound (b ∷ bs) =
    elim (parts LineFeed b) as (λ v. length (cond v ([] ∷ lines bs) (front b (lines bs))) ≤ length (b ∷ bs)) [
      | true ↦ let ih = lines_bound bs in let x : length (b ∷ bs) ≡ suc (length bs) = refl in let y : length ([] ∷ lines bs) ≡ suc (length (lines bs)) = refl in omega arith
      | false ↦ let ih = lines_bound bs in let k = front_length (lines bs) in let x : length (b ∷ bs) ≡ suc (length bs) = refl in omega arith
    ]
  where
    front_length : (ls : List (List ℕ)) → length (front b ls) ≤ length ls + 1
    front_length [] = omega arith
    front_length (l ∷ ls) = let x : length (l ∷ ls) ≡ suc (length ls) = refl in let y : length (front b (l ∷ ls)) ≡ suc (length ls) = refl in omega arith

-- the bytes of some lines, and one more for each of them
abbrev pub bytes_with_ends : List (List ℕ) → ℕ
bytes_with_ends [] = 0
bytes_with_ends (l ∷ ls) = length l + 1 + bytes_with_ends ls

-- no more than the text has, but for the end that its last line may lack
pub bytes_bound : (xs : List ℕ) → bytes_with_ends (lines xs) ≤ length xs + 1
bytes_bound [] = omega arith
bytes_bound (b ∷ bs) =
    elim (parts LineFeed b) as (λ v. bytes_with_ends (cond v ([] ∷ lines bs) (front b (lines bs))) ≤ length (b ∷ bs) + 1) [
      | true ↦ let ih = bytes_bound bs in let x : length (b ∷ bs) ≡ suc (length bs) = refl in omega arith
      | false ↦ let ih = bytes_bound bs in let k = front_bytes (lines bs) (length bs) ih in let x : length (b ∷ bs) ≡ suc (length bs) = refl in omega arith
    ]
  where
    front_bytes : (ls : List (List ℕ)) (n : ℕ) → bytes_with_ends ls ≤ n + 1 → bytes_with_ends (front b ls) ≤ n + 2
    front_bytes [] n h = omega arith
    front_bytes (l ∷ ls) n h = let x : length (b ∷ l) ≡ suc (length l) = refl in omega arith

-- how much is left behind a cut, with one for the separator
abbrev pub left_of : Option (List ℕ) → ℕ
left_of None = 0
left_of (Some bs) = length bs + 1
