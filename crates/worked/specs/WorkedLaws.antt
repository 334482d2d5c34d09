-- The worked machine keeps the laws of a machine.
use Rattle.std.specs.Prelude.{◌≡◌, ℕ, zero, suc, ◌+◌, ◌-◌, ◌*◌, ◌/◌, ◌%◌, ◌^◌, ◌<◌, Bool, true, false, not, ◌≢◌, List, [], ◌∷◌, ◌++◌, length, get_or, Some, None, Ok, Err, Result, ◌==◌, nat_eq, nat_lt, slice_index_or}
use Rattle.std.specs.List.{list_any, range_with_len}
use Rattle.std.proofs.Math.Path.{refl, fun_ext}
use Rattle.std.proofs.Common.{sym, ◌∙◌, ap, ap₂, arith, eqb-true, eq-eqb, ne_eqb}
use Rattle.std.proofs.lemmas.Bool.{eqb-false}
use Rattle.machine.specs.Machine.{Shows, Fair, FairAct, Laws}
use Rattle.worked.specs.Worked.{Size, Two, Four, width, modulus, Registers, put, Core, Place, Cell, Fixed, CharacterPort, InputPort, Nothing, Bus, Refusal, shown, byte_at, over, writes, gathered, parts, on_waiting, on_sent, peek, given, give, oldest, take, received, sends, even, load_from, load, store_to, store, Word, Ldc, Lsr, Sub, Bez, Bnz, Ldw, Stw, Hcf, fields, Valid, table, decode, branch, loaded, stored, act, Fits, Bytes, Sound, worked}
use Rattle.machine.proofs.Facts.{any_not}

-- registers
pub put_same : (r v : ℕ) (g : Registers) → put r v g r ≡ v
unfolding put
put_same r v g = rw (eq-eqb r r refl, put)

pub put_other : (r v : ℕ) (g : Registers) (q : ℕ) → q ≢ r → put r v g q ≡ g q
unfolding put
put_other r v g q ne = rw (ne_eqb q r ne, put)

-- a fact of `put r v g q`, by cases
pub put_case : (P : ℕ → Type 0) (r v : ℕ) (g : Registers) (q : ℕ) → (q ≡ r → P v) → (q ≢ r → P (g q)) → P (put r v g q)
unfolding put
put_case P r v g q y n = go (q == r) refl
  where
    go : (t : Bool) → (q == r) ≡ t → P (elim t [ true ↦ v | false ↦ g q ])
    go true e = y (eqb-true q r e)
    go false e = n (eqb-false q r e)

pub put_put : (r v x : ℕ) (g : Registers) → put r v (put r x g) ≡ put r v g
put_put r v x g =
    fun_ext (λ q. put_case (λ z. z ≡ put r v g q) r v (put r x g) q
    (λ e. rw e (sym (put_same r v g)))
    (λ n. put_other r x g q n ∙ sym (put_other r v g q n)))

pub put_swap : (r s v x : ℕ) (g : Registers) → r ≢ s → put r v (put s x g) ≡ put s x (put r v g)
put_swap r s v x g ne =
    fun_ext (λ q. put_case (λ z. z ≡ put s x (put r v g) q) r v (put s x g) q
    (λ e. rw e (sym (put_other s x (put r v g) r ne ∙ put_same r v g)))
    (λ n. put_case (λ z. z ≡ put s x (put r v g) q) s x g q
    (λ e. rw e (sym (put_same s x (put r v g))))
    (λ m. sym (put_other s x (put r v g) q m ∙ put_other r v g q n))))

pub put_self : (r : ℕ) (g : Registers) → put r (g r) g ≡ g
put_self r g = fun_ext (λ q. put_case (λ x. x ≡ g q) r (g r) g q (λ e. rw e) (λ n. refl))

-- arithmetic below the modulus
pub small : (z : Size) (x : ℕ) → x % modulus z < modulus z
small Two x = omega arith
small Four x = omega arith

pub below : (z : Size) (x : ℕ) → x < modulus z → x % modulus z ≡ x
below Two x h = omega arith
below Four x h = omega arith

pub twice : (z : Size) (x y : ℕ) → (x % modulus z + y) % modulus z ≡ (x + y) % modulus z
twice Two x y = omega arith
twice Four x y = omega arith

-- a word and its two bytes
decode_head : (op r n : ℕ) → r < 8 → decode (op * 8 + r) n ≡ slice_index_or (table r n) op None
decode_head op r n h =
    let p : (op * 8 + r) % 8 ≡ r = omega arith in
    let q : (op * 8 + r) / 8 ≡ op = omega arith in
    ap₂ (λ x y. get_or (table x n) y None) p q

decodes : (w : Word) → Valid w → decode ((fields w).0 * 8 + (fields w).1) (fields w).2 ≡ Some w
decodes (Ldc r n) h = decode_head 0 r n h.0
decodes (Lsr r s) h = decode_head 1 r s h.0
decodes (Sub r n) h = decode_head 2 r n h.0
decodes (Bez r n) h = decode_head 3 r n h.0
decodes (Bnz r n) h = decode_head 4 r n h.0
decodes (Ldw r s) h = decode_head 5 r s h.0
decodes (Stw r s) h = decode_head 6 r s h.0
decodes Hcf h = refl

-- places
over_small : (p : Place) (v : ℕ) → byte_at p < 256 → v < 256 → byte_at (over p v) < 256
over_small (Cell x) v h k = k
over_small (Fixed x) v h k = h
over_small CharacterPort v h k = h
over_small InputPort v h k = h
over_small Nothing v h k = h

writes_small : (m : ℕ → Place) (n v a x : ℕ) → byte_at (m x) < 256 → byte_at (writes m a (parts n v) x) < 256
unfolding writes
writes_small m zero v a x h = h
writes_small m (suc n) v a x h = go (writes_small m n v (a + 1) x h) (x == a)
  where
    go : byte_at (writes m (a + 1) (parts n v) x) < 256 → (t : Bool) → byte_at (elim t [ true ↦ over (m x) (v / 256 ^ n % 256) | false ↦ writes m (a + 1) (parts n v) x ]) < 256
    go ih true = over_small (m x) (v / 256 ^ n % 256) h (omega arith)
    go ih false = ih

writes_other : (m : ℕ → Place) (n v a x : ℕ) → list_any (nat_eq x) (range_with_len a n) ≡ false → writes m a (parts n v) x ≡ m x
unfolding writes
writes_other m zero v a x h = refl
writes_other m (suc n) v a x h =
    let k = any_not (nat_eq x) a (range_with_len (a + 1) n) h in
    rw (k.0, writes) (writes_other m n v (a + 1) x k.1)

gathered_small : (z : Size) (m : ℕ → Place) (a : ℕ) → ((x : ℕ) → byte_at (m x) < 256) → gathered m a (width z) 0 < modulus z
gathered_small Two m a h = omega (arith, h a, h (a + 1))
gathered_small Four m a h = omega (arith, h a, h (a + 1), h (a + 1 + 1), h (a + 1 + 1 + 1))

bytes_more : (vs : List ℕ) (v : ℕ) → Bytes vs → v < 256 → Bytes (vs ++ (v ∷ []))
bytes_more [] v h k = (k, tt)
bytes_more (x ∷ vs) v h k = (h.0, bytes_more vs v h.1 k)

-- give and take
gives : (b : Bus) (v : ℕ) (p : Unit {0} × Bus) → Sound b → give b v ≡ Ok p → Shows (worked Two) b p.1 []
unfolding give
gives b v p s e = go (nat_lt (length b.waiting) b.max_waiting) e
  where
    go : (t : Bool) → given b v t ≡ Ok p → Shows (worked Two) b p.1 []
    go true q =
        let r : ◌≡◌ {A = Unit {0} × Bus} (tt, on_waiting b (b.waiting ++ ((v % 256) ∷ []))) p = cc in
        let k : on_waiting b (b.waiting ++ ((v % 256) ∷ [])) ≡ p.1 = ap (λ t. t.1) r in
        rw (← k) (record { sound = record { places = s.places; waits = bytes_more b.waiting (v % 256) s.waits (omega arith) }; same = λ x _. refl })
    go false q = let z : ◌≡◌ {A = ℕ} 0 1 = cc in absurd (omega arith)

takes : (b : Bus) (p : ℕ × Bus) → Sound b → take b ≡ Ok p → Shows (worked Two) b p.1 []
unfolding take
takes b p s e = go b.sent e
  where
    go : (vs : List ℕ) → oldest b vs ≡ Ok p → Shows (worked Two) b p.1 []
    go [] q = let z : ◌≡◌ {A = ℕ} 0 1 = cc in absurd (omega arith)
    go (y ∷ vs) q =
        let r : ◌≡◌ {A = ℕ × Bus} (y, on_sent b vs) p = cc in
        let k : on_sent b vs ≡ p.1 = ap (λ t. t.1) r in
        rw (← k) (record { sound = record { places = s.places; waits = s.waits }; same = λ x _. refl })

module _ (z : Size) where
  put_fits : (r v : ℕ) (g : Registers) → v < modulus z → ((q : ℕ) → g q < modulus z) → (q : ℕ) → put r v g q < modulus z
  put_fits r v g h good q = put_case (λ y. y < modulus z) r v g q (λ _. h) (λ _. good q)

  -- a load's value fits, and it changes no place
  abbrev LoadFair : Bus → Result (ℕ × Bus) Refusal → Type 0
  LoadFair b (Ok p) = (p.0 < modulus z) × Sound p.1 × ((x : ℕ) → peek p.1 x ≡ peek b x)
  LoadFair b (Err why) = Unit {0}

  byte_fits : (v : ℕ) → v < 256 → v < modulus z
  byte_fits v h = go z
    where
      go : (z : Size) → v < modulus z
      go Two = omega arith
      go Four = omega arith

  load_fair : (b : Bus) → Sound b → (a : ℕ) → LoadFair b (load z b a)
  unfolding load
  load_fair b s a = aligned (a % width z == 0)
    where
      receives : (vs : List ℕ) → Bytes vs → LoadFair b (received b vs)
      receives [] h = tt
      receives (v ∷ vs) h = (byte_fits v h.0, record { places = s.places; waits = h.1 }, λ x. refl)

      from : (p : Place) → LoadFair b (load_from z b a p)
      from (Cell v) = (gathered_small z b.place a s.places, s, λ x. refl)
      from (Fixed v) = (gathered_small z b.place a s.places, s, λ x. refl)
      from CharacterPort = tt
      from InputPort = receives b.waiting s.waits
      from Nothing = tt

      aligned : (t : Bool) → LoadFair b (even t (load_from z b a (b.place a)))
      aligned true = from (b.place a)
      aligned false = tt

  abbrev StoreFair : Bus → ℕ → Result Bus Refusal → Type 0
  StoreFair b a (Ok b') = Shows (worked z) b b' (range_with_len a (width z))
  StoreFair b a (Err why) = Unit {0}

  store_fair : (b : Bus) → Sound b → (a v : ℕ) → StoreFair b a (store z b a v)
  unfolding store
  store_fair b s a v = aligned (a % width z == 0)
    where
      sent : (t : Bool) → StoreFair b a (sends b v t)
      sent true = record { sound = record { places = s.places; waits = s.waits }; same = λ x _. refl }
      sent false = tt

      to : (p : Place) → StoreFair b a (store_to z b a v p)
      to (Cell y) = record {
        sound = record { places = λ x. writes_small b.place (width z) v a x (s.places x); waits = s.waits };
        same = λ x h. ap shown (writes_other b.place (width z) v a x h);
      }
      to (Fixed y) = tt
      to CharacterPort = sent (nat_lt (length b.sent) b.max_sent)
      to InputPort = tt
      to Nothing = tt

      aligned : (t : Bool) → StoreFair b a (even t (store_to z b a v (b.place a)))
      aligned true = to (b.place a)
      aligned false = tt

  branch_fits : (c : Core) (t : Bool) (x : ℕ) → Fits z c → Fits z (branch z c t x)
  branch_fits c true x g = g
  branch_fits c false x g = g

  acts : (w : Word) (c : Core) → Valid w → Fits z c → FairAct (worked z) (act z w c)
  acts (Ldc r n) c v g = put_fits r _ c.regs (small z _) g
  acts (Lsr r s) c v g = put_fits r _ c.regs (omega (arith, g s)) g
  acts (Sub r n) c v g = put_fits r _ c.regs (small z _) g
  acts (Bez r n) c v g = branch_fits c (c.regs r == 0) (c.next + 2 + n) g
  acts (Bnz r n) c v g = branch_fits c (not (c.regs r == 0)) (c.next + 2 + (modulus z - n)) g
  acts (Ldw r s) c v g = λ b k. go b k (load z b (c.regs s)) (load_fair b k (c.regs s))
    where
      go : (b : Bus) → Sound b → (o : Result (ℕ × Bus) Refusal) → LoadFair b o → Fair (worked z) b (loaded z r c o)
      go b k (Ok p) h = (put_fits r p.0 c.regs h.0 g, record { sound = h.1; same = λ x _. h.2 x })
      go b k (Err why) h = tt
  acts (Stw r s) c v g = λ b k. go b (store z b (c.regs s) (c.regs r)) (store_fair b k (c.regs s) (c.regs r))
    where
      go : (b : Bus) (o : Result Bus Refusal) → StoreFair b (c.regs s) o → Fair (worked z) b (stored z c (c.regs s) o)
      go b (Ok b') h = (g, h)
      go b (Err why) h = tt
  acts Hcf c v g = λ b k. g

pub worked_laws : (z : Size) → Laws (worked z)
worked_laws z =
    record {
      coded = decodes;
      acts = acts z;
      given = λ b v p s e. (let h = gives b v p s e in record { sound = h.sound; same = h.same });
      taken = λ b p s e. (let h = takes b p s e in record { sound = h.sound; same = h.same });
    }
