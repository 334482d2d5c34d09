-- Words of a line that leave the bus alone, one after the other.
use Rattle.std.proofs.Common.{◌≡◌, ℕ, zero, suc, ◌+◌, Bool, true, false, eqb, List, [], ◌∷◌, ◌++◌, Some, None, Option, sym, refl, ap, ◌∙◌, subst, add-zero, add-suc, arith}
use Rattle.machine.specs.Machine.{Machine, Laws, FairAct, Act, Quiet, Asks}
use Rattle.machine.specs.Obligation.{word_at, quiet, and_then, inside, insides, AllValid}

module _ (M : Machine) (ws : List M.Word) (a : ℕ) where
  pub insides-zero : (c : M.Core) → insides M ws a 0 c ≡ Some c
  unfolding insides
  insides-zero c = refl

  pub insides-suc : (n : ℕ) (c : M.Core) → insides M ws a (suc n) c ≡ and_then (insides M ws a n c) (inside M ws a)
  unfolding insides
  insides-suc n c = refl

  -- m words and then n
  pub insides-front : (m n : ℕ) (c : M.Core) → insides M ws a (m + n) c ≡ and_then (insides M ws a m c) (insides M ws a n)
  unfolding insides
  insides-front m zero c = rw add-zero (unit (insides M ws a m c))
    where
      unit : (o : Option M.Core) → o ≡ and_then o (λ x. Some x)
      unit None = refl
      unit (Some x) = refl
  insides-front m (suc n) c = rw add-suc (ap (λ o. and_then o (inside M ws a)) (insides-front m n c) ∙ assoc (insides M ws a m c))
    where
      assoc : (o : Option M.Core) → and_then (and_then o (insides M ws a n)) (inside M ws a) ≡ and_then o (λ x. and_then (insides M ws a n x) (inside M ws a))
      assoc None = refl
      assoc (Some x) = refl

  pub inside-at : (c c' : M.Core) (w : M.Word) → word_at ws a (M.at c) ≡ Some w → M.act w c ≡ Quiet c' → inside M ws a c ≡ Some c'
  unfolding inside
  inside-at c c' w e q = rw (e, q)

  -- what leads to an end leads through every core before it
  pub shorter : (m d : ℕ) (c reached : M.Core) → insides M ws a (m + d) c ≡ Some reached → (x : M.Core) × (insides M ws a m c ≡ Some x)
  shorter m d c reached e = go (insides M ws a m c) refl (sym (insides-front m d c) ∙ e)
    where
      go : (o : Option M.Core) → insides M ws a m c ≡ o → and_then o (insides M ws a d) ≡ Some reached → (x : M.Core) × (insides M ws a m c ≡ Some x)
      go None p q = let z : ◌≡◌ {A = ℕ} 0 1 = cc in absurd (omega arith)
      go (Some x) p q = (x, p)

  -- such a step is a word of the line, and quiet
  pub inside_word : (c c' : M.Core) → inside M ws a c ≡ Some c' → (w : M.Word) × (word_at ws a (M.at c) ≡ Some w) × (M.act w c ≡ Quiet c')
  unfolding inside
  inside_word c c' e = go (word_at ws a (M.at c)) refl e
    where
      here : (w : M.Word) (k : Act M.Core M.Bus M.Refusal) → word_at ws a (M.at c) ≡ Some w → M.act w c ≡ k → quiet k ≡ Some c' →
          (w : M.Word) × (word_at ws a (M.at c) ≡ Some w) × (M.act w c ≡ Quiet c')
      here w (Quiet x) p q h = (w, p, cc)
      here w (Asks f) p q h = let z : ◌≡◌ {A = ℕ} 0 1 = cc in absurd (omega arith)

      go : (o : Option M.Word) → word_at ws a (M.at c) ≡ o → and_then o (λ w. quiet (M.act w c)) ≡ Some c' →
          (w : M.Word) × (word_at ws a (M.at c) ≡ Some w) × (M.act w c ≡ Quiet c')
      go None p q = let z : ◌≡◌ {A = ℕ} 0 1 = cc in absurd (omega arith)
      go (Some w) p q = here w (M.act w c) p refl q

-- each word found in a list of words that can be written can be written
pub valid-at : (M : Machine) (ws : List M.Word) → AllValid M ws → (a x : ℕ) (w : M.Word) → word_at ws a x ≡ Some w → M.Valid w
valid-at M [] h a x w e = let z : ◌≡◌ {A = ℕ} 0 1 = cc in absurd (omega arith)
valid-at M (v ∷ ws) h a x w e = go (eqb x a) (valid-at M ws h.1 (a + 2) x w) e
  where
    go : (t : Bool) → (word_at ws (a + 2) x ≡ Some w → M.Valid w) → elim t [ true ↦ Some v | false ↦ word_at ws (a + 2) x ] ≡ Some w → M.Valid w
    go true ih q = let k : v ≡ w = cc in subst (λ y. M.Valid y) k h.0
    go false ih q = ih q

-- the core fits all along
pub insides_fit : (M : Machine) (L : Laws M) (ws : List M.Word) → AllValid M ws → (a n : ℕ) (c c' : M.Core) → M.Fits c →
    insides M ws a n c ≡ Some c' → M.Fits c'
unfolding insides
insides_fit M L ws v a zero c c' g e = let k : c ≡ c' = cc in rw (← k) g
insides_fit M L ws v a (suc n) c c' g e = go (λ x. insides_fit M L ws v a n c x g) (insides M ws a n c) refl e
  where
    go : ((x : M.Core) → insides M ws a n c ≡ Some x → M.Fits x) → (o : Option M.Core) → insides M ws a n c ≡ o → and_then o (inside M ws a) ≡ Some c' → M.Fits c'
    go ih None p q = let z : ◌≡◌ {A = ℕ} 0 1 = cc in absurd (omega arith)
    go ih (Some x) p q =
        let t = inside_word M ws a x c' q in
        let h : FairAct M (M.act t.0 x) = L.acts t.0 x (valid-at M ws v a (M.at x) t.0 t.1) (ih x p) in
        rw t.2 at h

-- the words of two lists, one behind the other
pub valid-left : (M : Machine) (vs ws : List M.Word) → AllValid M (vs ++ ws) → AllValid M vs
valid-left M [] ws h = tt
valid-left M (v ∷ vs) ws h = (h.0, valid-left M vs ws h.1)

pub valid_right : (M : Machine) (vs ws : List M.Word) → AllValid M (vs ++ ws) → AllValid M ws
valid_right M [] ws h = h
valid_right M (v ∷ vs) ws h = valid_right M vs ws h.1
