-- Bytes and their first piece.
use Rattle.std.proofs.Common.{◌≡◌, ℕ, suc, ◌+◌, ◌<◌, ◌≤◌, Bool, true, false, cond, not, ltb, List, [], ◌∷◌, length, take, drop, Some, None, sym, refl, ap, subst, ◌∙◌, arith, Bor}
use Rattle.std.specs.List.{position, position_or_len, before_first, slice_split, onto_first}
use Rattle.std.specs.Option.{option_map}
use Rattle.std.specs.Fn.{Mut, CalledAt}
use Rattle.std.specs.Slice.Iter.{split_rest, split_done, split_callee, split_steps}
use Rattle.std.proofs.lemmas.Iterator.{YieldsList}
use Rattle.std.proofs.lemmas.Iterator.Splits.{YieldsList-from_slice_split}
use Rattle.std.proofs.lemmas.List.{take_all}
use Rattle.std.proofs.lemmas.Bool.Decides.{nat_tests}
use Rattle.syntax.specs.declared.cuts.Separator.{Separator}
use Rattle.syntax.specs.declared.cuts.Separator.TheVariants.{LineFeed}
use Rattle.syntax.specs.Characters.{parts}
use Rattle.syntax.specs.Cuts.{front, pieces, pieces_of, lines, lines_of, before, behind}

pub pieces-cut : (s : Separator) (xs : List ℕ) → pieces s xs ≡ before s xs ∷ pieces_of s (behind s xs)
pieces-cut s [] = refl
pieces-cut s (b ∷ bs) =
    elim (parts s b) as (λ t. cond t ([] ∷ pieces s bs) (front b (pieces s bs)) ≡ cond t [] (b ∷ before s bs) ∷ pieces_of s (cond t (Some bs) (behind s bs))) [
      | true ↦ refl
      | false ↦ ap (front b) (pieces-cut s bs)
    ]

pub lines_cut : (xs : List ℕ) → 0 < length xs → lines xs ≡ before LineFeed xs ∷ lines_of (behind LineFeed xs)
lines_cut [] h = absurd (omega arith)
lines_cut (b ∷ []) h =
    elim (parts LineFeed b) as (λ t. cond t ([] ∷ []) ((b ∷ []) ∷ []) ≡ cond t [] (b ∷ []) ∷ lines_of (cond t (Some []) None)) [
      | true ↦ refl
      | false ↦ refl
    ]
lines_cut (b ∷ c ∷ bs) h =
    elim (parts LineFeed b) as (λ t. cond t ([] ∷ lines (c ∷ bs)) (front b (lines (c ∷ bs))) ≡ cond t [] (b ∷ before LineFeed (c ∷ bs)) ∷ lines_of (cond t (Some (c ∷ bs)) (behind LineFeed (c ∷ bs)))) [
      | true ↦ refl
      | false ↦ ap (front b) (lines_cut (c ∷ bs) (omega arith))
    ]

-- the pieces are what a split gives
pieces-split : (s : Separator) (xs : List ℕ) → pieces s xs ≡ slice_split (parts s) xs
pieces-split s [] = refl
pieces-split s (b ∷ bs) = ap (λ ps. cond (parts s b) ([] ∷ ps) (front b ps)) (pieces-split s bs) ∙ ap (cond (parts s b) ([] ∷ slice_split (parts s) bs)) (same (slice_split (parts s) bs))
  where
    same : (ps : List (List ℕ)) → front b ps ≡ onto_first b ps
    same [] = refl
    same (p ∷ ps) = refl

-- a split at a separator yields the pieces; the first three facts are the call's clauses `rest`, `done` and `closure`
pub yields-pieces : {F : Type 0} {f : F} {split : _} (g : Mut F (Bor ℕ × Unit {0}) Bool) (s : Separator) (xs : List ℕ)
    → split_rest split ≡ xs → split_done split ≡ false → split_callee split ≡ f
    → ((x : ℕ) (b : Bool) (q : F) → CalledAt g f x b q → (q ≡ f) × (b ≡ parts s x))
    → YieldsList (split_steps g) (λ x. x.now) split (pieces s xs)
yields-pieces g s xs rest done closure tests =
    subst (YieldsList (split_steps g) (λ x. x.now) _) (sym (pieces-split s xs)) (YieldsList-from_slice_split g (parts s) xs rest done closure tests)

-- a cut by the place of the first separator
module _ (s : Separator) where
  before-first : (xs : List ℕ) → before s xs ≡ before_first (parts s) xs
  before-first [] = refl
  before-first (b ∷ bs) =
      elim (parts s b) as (λ t. cond t [] (b ∷ before s bs) ≡ take (cond (not t) (1 + position_or_len (parts s) bs) 0) (b ∷ bs)) [
        | true ↦ refl
        | false ↦
            let e : suc (position_or_len (parts s) bs) ≡ 1 + position_or_len (parts s) bs = omega arith in
            ap (λ l. b ∷ l) (before-first bs) ∙ ap (λ n. take n (b ∷ bs)) e
      ]

  behind-place : (xs : List ℕ) → behind s xs ≡ option_map (λ i. drop (i + 1) xs) (position (parts s) xs)
  behind-place [] = refl
  behind-place (b ∷ bs) =
      elim (parts s b) as (λ t. cond t (Some bs) (behind s bs) ≡ option_map (λ i. drop (i + 1) (b ∷ bs)) (cond (ltb (cond (not t) (1 + position_or_len (parts s) bs) 0) (length (b ∷ bs))) (Some (cond (not t) (1 + position_or_len (parts s) bs) 0)) None)) [
        | true ↦ first (length bs)
        | false ↦ behind-place bs ∙ later (position_or_len (parts s) bs)
      ]
    where
      first : (n : ℕ) → Some bs ≡ option_map (λ i. drop (i + 1) (b ∷ bs)) (cond (ltb 0 (suc n)) (Some 0) None)
      first n = grind (arith, nat_tests)

      later : (n : ℕ) → option_map (λ i. drop (i + 1) bs) (cond (ltb n (length bs)) (Some n) None) ≡ option_map (λ i. drop (i + 1) (b ∷ bs)) (cond (ltb (1 + n) (length (b ∷ bs))) (Some (1 + n)) None)
      later n = grind (arith, nat_tests)

  pub before_at : (xs : List ℕ) (i : ℕ) → position (parts s) xs ≡ Some i → take i xs ≡ before s xs
  before_at xs i e = ap (λ n. take n xs) (found (position_or_len (parts s) xs) e) ∙ sym (before-first xs)
    where
      found : (n : ℕ) → cond (ltb n (length xs)) (Some n) None ≡ Some i → i ≡ n
      found n e = grind (arith, nat_tests)

  pub behind_at : (xs : List ℕ) (i : ℕ) → position (parts s) xs ≡ Some i → Some (drop (i + 1) xs) ≡ behind s xs
  behind_at xs i e = sym (behind-place xs ∙ ap (option_map (λ i. drop (i + 1) xs)) e)

  pub before_none : (xs : List ℕ) → position (parts s) xs ≡ None → xs ≡ before s xs
  before_none xs e = sym (before-first xs ∙ take_all _ xs (past (position_or_len (parts s) xs) e))
    where
      past : (n : ℕ) → cond (ltb n (length xs)) (Some n) None ≡ None → length xs ≤ n
      past n e = grind (arith, nat_tests)

  pub behind_none : (xs : List ℕ) → position (parts s) xs ≡ None → None ≡ behind s xs
  behind_none xs e = sym (behind-place xs ∙ ap (option_map (λ i. drop (i + 1) xs)) e)
