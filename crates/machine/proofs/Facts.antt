-- Small facts on tests.
use Rattle.std.proofs.Common.{◌≡◌, ℕ, Bool, true, false, ◌||◌, eqb, ◌≢◌, List, [], ◌∷◌, refl, arith, ne_eqb}
use Rattle.std.specs.List.{list_any}

pub true≢false : true ≡ false → ⊥
true≢false e = let z : ◌≡◌ {A = ℕ} 0 1 = cc in omega arith

-- no element passes: neither the first nor one of the others
pub any_not : {A : Type 0} (test : A → Bool) (y : A) (ys : List A) → list_any test (y ∷ ys) ≡ false → (test y ≡ false) × (list_any test ys ≡ false)
any_not test y ys h = go (test y) refl h
  where
    go : (t : Bool) → test y ≡ t → (t || list_any test ys) ≡ false → (test y ≡ false) × (list_any test ys ≡ false)
    go true e q = absurd (true≢false q)
    go false e q = (e, q)

-- what passes a test that no element passes is none of the elements
pub any_apart : (test : ℕ → Bool) (x : ℕ) → test x ≡ true → (ys : List ℕ) → list_any test ys ≡ false → list_any (eqb x) ys ≡ false
any_apart test x i [] h = refl
any_apart test x i (y ∷ ys) h =
    let k = any_not test y ys h in
    let ne : x ≢ y = λ e. (let z : ◌≡◌ {A = ℕ} 0 1 = cc in omega arith) in
    rw (ne_eqb x y ne, list_any) (any_apart test x i ys k.1)
