-- Bytes with no separator among them, and what they are cut into.
use Rattle.std.proofs.Common.{◌≡◌, ℕ, Bool, true, false, cond, not, ◌&&◌, List, [], ◌∷◌, ◌++◌, Some, refl, ap, ◌∙◌, arith}
use Rattle.std.specs.List.{list_all}
use Rattle.std.proofs.lemmas.Bool.Decides.{nat_tests}
use Rattle.syntax.specs.declared.cuts.Separator.{Separator}
use Rattle.syntax.specs.declared.cuts.Separator.TheVariants.{LineFeed}
use Rattle.syntax.specs.Characters.{parts}
use Rattle.syntax.specs.Cuts.{front, pieces, lines, before, behind}
use Rattle.syntax.specs.Statements.{is_plain}

-- No byte is this separator.
abbrev pub is_free : Separator → List ℕ → Bool
is_free s xs = list_all (λ c. not (parts s c)) xs

-- both of two tests
pub both : (a b : Bool) → (a && b) ≡ true → (a ≡ true) × (b ≡ true)
both true b e = (refl, e)
both false b e = cc

off : (b : Bool) → not b ≡ true → b ≡ false
off true e = cc
off false e = refl

module _ (s : Separator) (c : ℕ) (ys : List ℕ) (ends : parts s c ≡ true) where
  pub before_cut : (xs : List ℕ) → is_free s xs ≡ true → before s (xs ++ (c ∷ ys)) ≡ xs
  before_cut [] e = ap (λ t. cond t [] (c ∷ before s ys)) ends
  before_cut (x ∷ xs) e =
      let h = both (not (parts s x)) (is_free s xs) e in
      ap (λ t. cond t [] (x ∷ before s (xs ++ (c ∷ ys)))) (off (parts s x) h.0) ∙ ap (λ l. x ∷ l) (before_cut xs h.1)

  pub behind_cut : (xs : List ℕ) → is_free s xs ≡ true → behind s (xs ++ (c ∷ ys)) ≡ Some ys
  behind_cut [] e = ap (λ t. cond t (Some ys) (behind s ys)) ends
  behind_cut (x ∷ xs) e =
      let h = both (not (parts s x)) (is_free s xs) e in
      ap (λ t. cond t (Some (xs ++ (c ∷ ys))) (behind s (xs ++ (c ∷ ys)))) (off (parts s x) h.0) ∙ behind_cut xs h.1

  pub pieces_cut : (xs : List ℕ) → is_free s xs ≡ true → pieces s (xs ++ (c ∷ ys)) ≡ xs ∷ pieces s ys
  pieces_cut [] e = ap (λ t. cond t ([] ∷ pieces s ys) (front c (pieces s ys))) ends
  pieces_cut (x ∷ xs) e =
      let h = both (not (parts s x)) (is_free s xs) e in
      ap (λ t. cond t ([] ∷ pieces s (xs ++ (c ∷ ys))) (front x (pieces s (xs ++ (c ∷ ys))))) (off (parts s x) h.0) ∙ ap (front x) (pieces_cut xs h.1)

pub one_piece : (s : Separator) (xs : List ℕ) → is_free s xs ≡ true → pieces s xs ≡ xs ∷ []
one_piece s [] e = refl
one_piece s (x ∷ xs) e =
    let h = both (not (parts s x)) (is_free s xs) e in
    ap (λ t. cond t ([] ∷ pieces s xs) (front x (pieces s xs))) (off (parts s x) h.0) ∙ ap (front x) (one_piece s xs h.1)

-- no plain byte is LF
plain-byte : (c : ℕ) → is_plain c ≡ true → parts LineFeed c ≡ false
plain-byte c e = grind (arith, nat_tests)

-- plain bytes and LF are one line
pub one_line : (xs : List ℕ) → list_all is_plain xs ≡ true → lines (xs ++ (10 ∷ [])) ≡ xs ∷ []
one_line [] e = refl
one_line (x ∷ xs) e =
    let h = both (is_plain x) (list_all is_plain xs) e in
    ap (λ t. cond t ([] ∷ lines (xs ++ (10 ∷ []))) (front x (lines (xs ++ (10 ∷ []))))) (plain-byte x h.0) ∙ ap (front x) (one_line xs h.1)
