-- Each kind of line of the worked machine keeps what it owes, at both sizes.
use Rattle.std.proofs.Common.{◌≡◌, ℕ, zero, suc, ◌+◌, ◌-◌, ◌*◌, ◌/◌, ◌%◌, ◌^◌, ◌<◌, Bool, true, false, eqb, ◌≢◌, List, [], ◌∷◌, ◌++◌, length, Ok, Err, Result, sym, refl, ap, ◌∙◌, add-zero, arith, eq-eqb, ne_eqb, eqb-true}
use native.Mathlib.Nat.{div-div-eq-div-mul, pow-succ'}
use Rattle.std.proofs.lemmas.Bool.{eqb-false}
use Rattle.std.specs.Prelude.{not}
use Rattle.std.specs.List.{range_with_len}
use Rattle.machine.specs.Machine.{Outcome, Done, Quiet, outcome}
use Rattle.machine.specs.Board.{Fault, placed}
use Rattle.machine.specs.Obligation.{AllValid, Owes}
use Rattle.machine.specs.Rules.{after, AllPlain, Straight, Loop, Looped, Guarded}
use Rattle.worked.specs.Worked.{Size, Two, Four, width, modulus, Registers, put, Core, Bus, Refusal, parts, load, store, Word, Ldc, Lsr, Sub, Bez, Bnz, Ldw, Stw, Valid, on, past, sets, branch, loaded, stored, act, worked, Row, One, Ldi, LdwAt, StwAt, Lsrm, LsrmOrNone, at, ldcs, ldi, shift_loop, turns, load_stroke, store_stroke, shifted, stroke, Proper, line}
use Rattle.machine.proofs.ReadyMade.{rules}
use Rattle.worked.specs.WorkedLaws.{put_same, put_other, put_put, put_swap, put_self, small, below, twice, worked_laws}

core_path : (g h : Registers) (m n : ℕ) → g ≡ h → m ≡ n → ◌≡◌ {A = Core} (record { regs = g; next = m }) (record { regs = h; next = n })
core_path g h m n p q = rw (p, q)

did : (c d : Core) (b : Bus) → c ≡ d → ◌≡◌ {A = Outcome Core Bus (Fault Refusal)} (Done c b []) (Done d b [])
did c d b e = ap (λ x. Done x b []) e

parts-length : (k n : ℕ) → length (parts k n) ≡ k
parts-length zero n = refl
parts-length (suc k) n = ap suc (parts-length k n)

ldcs-length : (r k n : ℕ) → length (ldcs r (parts k n)) ≡ k
ldcs-length r zero n = refl
ldcs-length r (suc k) n = ap suc (ldcs-length r k n)

-- `ldc` after `ldc`
module _ (z : Size) where
  -- the number that they make
  abbrev fold : List ℕ → ℕ → ℕ
  fold [] x = x
  fold (v ∷ vs) x = fold vs ((256 * x + v) % modulus z)

  step-on : (k : ℕ) (c : Core) → ((c.next + 2) % modulus z + 2 * k) % modulus z ≡ (c.next + 2 * suc k) % modulus z
  step-on k c = let e : c.next + 2 + 2 * k ≡ c.next + 2 * suc k = omega arith in twice z (c.next + 2) (2 * k) ∙ ap (λ x. x % modulus z) e

  on_step : (k : ℕ) (c : Core) → ((c.next + 2 * k) % modulus z + 2) % modulus z ≡ (c.next + 2 * suc k) % modulus z
  on_step k c = let e : c.next + 2 * k + 2 ≡ c.next + 2 * suc k = omega arith in twice z (c.next + 2 * k) 2 ∙ ap (λ x. x % modulus z) e

  ldcs-plain : (r : ℕ) (vs : List ℕ) → AllPlain (worked z) (ldcs r vs)
  ldcs-plain r [] = tt
  ldcs-plain r (v ∷ vs) = ((λ c g h. (refl, below z (c.next + 2) h)), ldcs-plain r vs)

  ldcs-after : (r : ℕ) (vs : List ℕ) (c : Core) → c.next < modulus z → after (worked z) (ldcs r vs) c ≡ past z (put r (fold vs (c.regs r)) c.regs) (length vs) c
  ldcs-after r [] c h = sym (core_path _ _ _ _ (put_self r c.regs) (rw add-zero (below z c.next h)))
  ldcs-after r (v ∷ vs) c h =
      let x : ℕ = (256 * c.regs r + v) % modulus z in
      ldcs-after r vs (sets z r x c) (small z (c.next + 2)) ∙
      core_path _ _ _ _ (put_put r _ x c.regs ∙ ap (λ y. put r (fold vs y) c.regs) (put_same r x c.regs)) (step-on (length vs) c)

  ldcs-valid : (r : ℕ) → r < 8 → (w : Word) → Valid w → (k n : ℕ) → AllValid (worked z) (ldcs r (parts k n) ++ (w ∷ []))
  ldcs-valid r h w v zero n = (v, tt)
  ldcs-valid r h w v (suc k) n = ((h, omega arith), ldcs-valid r h w v k n)

fold_parts : (z : Size) (n x : ℕ) → n < modulus z → fold z (parts (width z) n) x ≡ n
fold_parts Two n x h = omega arith
fold_parts Four n x h = omega arith

module _ (z : Size) where
  ldi-after : (r n : ℕ) → n < modulus z → (c : Core) → c.next < modulus z → after (worked z) (ldi z r n) c ≡ past z (put r n c.regs) (width z) c
  ldi-after r n h c k =
      ldcs-after z r (parts (width z) n) c k ∙
      core_path _ _ _ _ (ap (λ v. put r v c.regs) (fold_parts z n (c.regs r) h)) (ap (λ m. (c.next + 2 * m) % modulus z) (parts-length (width z) n))

  one : (w : Word) → Valid w → Straight (worked z) (line z (One w))
  one w h = record { front = []; last = w; spelled = refl; valid = (h, tt); plain = tt; counts = λ c. refl; strikes = λ c g room at b s. refl }

  ldw : (r n : ℕ) → r < 8 → n < modulus z → Straight (worked z) (line z (LdwAt r n))
  ldw r n hr h =
      record {
        front = ldi z at n;
        last = Ldw r at;
        spelled = refl;
        valid = ldcs-valid z at (omega arith) (Ldw r at) (hr, omega arith) (width z) n;
        plain = ldcs-plain z at (parts (width z) n);
        counts = λ c. ap suc (sym (ldcs-length at (width z) n));
        strikes = λ c g room here b s. ap (λ x. placed x.next (loaded z r x (load z b (x.regs at)))) (ldi-after at n h c (omega arith)) ∙
            rw (put_same at n c.regs) (loads (put at n c.regs) c (load z b n));
      }
    where
      loads : (g : Registers) (c : Core) (o : Result (ℕ × Bus) Refusal) → placed (on z (width z) c) (loaded z r (past z g (width z) c) o) ≡ load_stroke z r g c o
      loads g c (Ok p) = did _ _ p.1 (core_path _ _ _ _ refl (on_step z (width z) c))
      loads g c (Err why) = refl

  stw : (r n : ℕ) → 0 < r → r < 8 → n < modulus z → Straight (worked z) (line z (StwAt r n))
  stw r n pos hr h =
      record {
        front = ldi z at n;
        last = Stw r at;
        spelled = refl;
        valid = ldcs-valid z at (omega arith) (Stw r at) (hr, omega arith) (width z) n;
        plain = ldcs-plain z at (parts (width z) n);
        counts = λ c. ap suc (sym (ldcs-length at (width z) n));
        strikes = λ c g room here b s. ap (λ x. placed x.next (stored z x (x.regs at) (store z b (x.regs at) (x.regs r)))) (ldi-after at n h c (omega arith)) ∙
            rw (put_same at n c.regs, put_other at n c.regs r (λ e. omega arith)) (stores (put at n c.regs) c (store z b n (c.regs r)));
      }
    where
      stores : (g : Registers) (c : Core) (o : Result Bus Refusal) → placed (on z (width z) c) (stored z (past z g (width z) c) n o) ≡ store_stroke z g c n o
      stores g c (Ok b) = ap (λ m. Done (record { regs = g; next = m }) b (range_with_len n (width z))) (on_step z (width z) c)
      stores g c (Err why) = refl

-- `ldi` itself ends in an `ldc`
ldi-line : (z : Size) (r n : ℕ) → r < 8 → n < modulus z → Straight (worked z) (line z (Ldi r n))
ldi-line Two r n hr h =
    record {
      front = ldcs r ((n / 256 % 256) ∷ []);
      last = Ldc r (n / 1 % 256);
      spelled = refl;
      valid = ((hr, omega arith), ((hr, omega arith), tt));
      plain = ldcs-plain Two r ((n / 256 % 256) ∷ []);
      counts = λ c. refl;
      strikes = λ c g room here b s. did _ _ b (ldi-after Two r n h c (omega arith));
    }
ldi-line Four r n hr h =
    record {
      front = ldcs r ((n / 16777216 % 256) ∷ ((n / 65536 % 256) ∷ ((n / 256 % 256) ∷ [])));
      last = Ldc r (n / 1 % 256);
      spelled = refl;
      valid = ((hr, omega arith), ((hr, omega arith), ((hr, omega arith), ((hr, omega arith), tt))));
      plain = ldcs-plain Four r ((n / 16777216 % 256) ∷ ((n / 65536 % 256) ∷ ((n / 256 % 256) ∷ [])));
      counts = λ c. refl;
      strikes = λ c g room here b s. did _ _ b (ldi-after Four r n h c (omega arith));
    }

-- one less, and how often a loop turns
unfoldable less : Size → ℕ → ℕ
less z x = (x + (modulus z - 1)) % modulus z

turns_less : (z : Size) (x k : ℕ) → turns z x ≡ suc k → x < modulus z → less z x ≡ k
unfolding less
turns_less z x k e h = cases z (eqb x 0) refl e h
  where
    cases : (z : Size) (t : Bool) → eqb x 0 ≡ t → elim t [ true ↦ modulus z | false ↦ x ] ≡ suc k → x < modulus z → less z x ≡ k
    cases Two true q p h = omega (arith, eqb-true x 0 q)
    cases Four true q p h = omega (arith, eqb-true x 0 q)
    cases Two false q p h = omega arith
    cases Four false q p h = omega arith

self_less : (z : Size) (x k : ℕ) → x ≡ suc k → x < modulus z → less z x ≡ k
unfolding less
self_less Two x k e h = omega arith
self_less Four x k e h = omega arith

turns_self : (z : Size) (x k : ℕ) → x ≡ suc k → turns z x ≡ suc k
turns_self z x k e = ap (λ t. elim t [ true ↦ modulus z | false ↦ x ]) (ne_eqb x 0 (λ q. omega arith)) ∙ e

turns_some : (z : Size) (x : ℕ) → (k : ℕ) × (turns z x ≡ suc k)
turns_some z x = cases z (eqb x 0) refl
  where
    cases : (z : Size) (t : Bool) → eqb x 0 ≡ t → (k : ℕ) × (elim t [ true ↦ modulus z | false ↦ x ] ≡ suc k)
    cases Two true e = (65535, refl)
    cases Four true e = (4294967295, refl)
    cases Two false e = (x - 1, omega (arith, eqb-false x 0 e))
    cases Four false e = (x - 1, omega (arith, eqb-false x 0 e))

six_back : (z : Size) (a : ℕ) → a < modulus z → (a + 4 + 2 + (modulus z - 6)) % modulus z ≡ a
six_back Two a h = omega arith
six_back Four a h = omega arith

halves : (k x : ℕ) → x / 2 / 2 ^ k ≡ x / 2 ^ suc k
halves k x = div-div-eq-div-mul x 2 (2 ^ k) ∙ ap (λ y. x / y) (sym (pow-succ' 2 k))

-- the loop of a shift, where count says how often it turns
module _ (z : Size) (r s : ℕ) (ne : r ≢ s) (count : ℕ → ℕ) (count_less : (x k : ℕ) → count x ≡ suc k → x < modulus z → less z x ≡ k)
    (count-self : (x k : ℕ) → x ≡ suc k → count x ≡ suc k) where
  abbrev body : List Word
  body = Lsr r r ∷ (Sub s 1 ∷ [])

  -- the registers after one turn
  abbrev turned : Registers → Registers
  turned g = put s (less z (g s)) (put r (g r / 2) g)

  turned_s : (g : Registers) → turned g s ≡ less z (g s)
  turned_s g = put_same s (less z (g s)) (put r (g r / 2) g)

  turned_r : (g : Registers) → turned g r ≡ g r / 2
  turned_r g = put_other s (less z (g s)) (put r (g r / 2) g) r ne ∙ put_same r (g r / 2) g

  turned_shifted : (k : ℕ) (g : Registers) → shifted z r s k (turned g) ≡ shifted z r s (suc k) g
  turned_shifted k g =
      let x : ℕ = turned g r / 2 ^ k in
      let t : ℕ = less z (g s) in
      let e : x ≡ g r / 2 ^ suc k = ap (λ y. y / 2 ^ k) (turned_r g) ∙ halves k (g r) in
      ap (put s 0) (put_swap r s x t (put r (g r / 2) g) ne) ∙
      (put_put s 0 t (put r x (put r (g r / 2) g)) ∙
      (ap (put s 0) (put_put r x (g r / 2) g) ∙ ap (λ v. put s 0 (put r v g)) e))

  abbrev core : Registers → ℕ → Core
  core g a = record { regs = g; next = a }

  after-body : (c : Core) → c.next + 4 < modulus z → after (worked z) body c ≡ core (turned c.regs) (c.next + 4)
  unfolding less
  after-body c h =
      let e : ((c.next + 2) % modulus z + 2) % modulus z ≡ c.next + 4 = step-on z 1 c ∙ below z (c.next + 4) h in
      core_path _ _ _ _ (ap (λ v. put s ((v + (modulus z - 1)) % modulus z) (put r (c.regs r / 2) c.regs)) (put_other r (c.regs r / 2) c.regs s (λ e. ne (sym e)))) e

  -- the branch at the end of a turn
  branched : (g : Registers) (a : ℕ) (t : Bool) → eqb (less z (g s)) 0 ≡ t →
      act z (Bnz s 6) (core (turned g) (a + 4)) ≡ Quiet (branch z (core (turned g) (a + 4)) (not t) (a + 4 + 2 + (modulus z - 6)))
  branched g a t e = ap (λ t. Quiet (branch z (core (turned g) (a + 4)) (not t) (a + 4 + 2 + (modulus z - 6)))) (ap (λ x. eqb x 0) (turned_s g) ∙ e)

  loop : Loop (worked z) body (Bnz s 6) (λ c. count (c.regs s)) (λ c b. Done (past z (shifted z r s (count (c.regs s)) c.regs) 3 c) b [])
  loop =
      record {
        plain = ((λ c g h. (refl, below z (c.next + 2) h)), ((λ c g h. (refl, below z (c.next + 2) h)), tt));
        ends = λ c g room here t b k.
            (let y : less z (c.regs s) ≡ 0 = count_less (c.regs s) 0 t (g s) in
            let six : c.next + 4 + 2 ≡ c.next + 6 = omega arith in
            ap (λ x. placed x.next (outcome (act z (Bnz s 6) x) b)) (after-body c room) ∙
            (ap (λ x. placed (c.next + 4) (outcome x b)) (branched c.regs c.next true (eq-eqb (less z (c.regs s)) 0 y)) ∙
            did _ _ b (core_path _ _ _ _ (ap (λ v. put s v (put r (c.regs r / 2) c.regs)) y ∙ ap (λ k. shifted z r s k c.regs) (sym t)) (ap (λ x. x % modulus z) six))));
        again = λ c k g room here t.
            (let y : less z (c.regs s) ≡ suc k = count_less (c.regs s) (suc k) t (g s) in
            let c' : Core = core (turned c.regs) c.next in
            let n : count (turned c.regs s) ≡ suc k = count-self (turned c.regs s) k (turned_s c.regs ∙ y) in (
              c',
              ap (act z (Bnz s 6)) (after-body c room) ∙
                  (branched c.regs c.next false (ne_eqb (less z (c.regs s)) 0 (λ q. omega arith)) ∙ ap Quiet (core_path _ _ _ _ refl (six_back z c.next (omega arith)))),
              refl,
              n,
              λ b k'. did _ _ b (core_path _ _ _ _ (ap (λ m. shifted z r s m (turned c.regs)) n ∙ (turned_shifted (suc k) c.regs ∙ ap (λ m. shifted z r s m c.regs) (sym t))) refl),
            ));
      }

module _ (z : Size) (r s : ℕ) (hr : r < 8) (hs : s < 8) (ne : r ≢ s) where
  loop-valid : AllValid (worked z) (shift_loop r s)
  loop-valid = ((hr, omega arith), ((hs, omega arith), ((hs, omega arith), tt)))

  lsrm : Looped (worked z) (line z (Lsrm r s))
  lsrm =
      record {
        front = [];
        body = Lsr r r ∷ (Sub s 1 ∷ []);
        back = Bnz s 6;
        turns = λ c. turns z (c.regs s);
        whole = stroke z (Lsrm r s);
        loop = loop z r s ne (turns z) (turns_less z) (turns_self z);
        spelled = refl;
        valid = loop-valid;
        plain = tt;
        counts = λ c g room here. (let k = turns_some z (c.regs s) in (k.0, k.1, omega (arith, k.1), λ b _. refl));
      }

  -- the registers, where nothing turns
  shifted_none : (g : Registers) → g s ≡ 0 → shifted z r s 0 g ≡ g
  shifted_none g e =
      let h : g r / 2 ^ 0 ≡ g r = omega arith in
      ap (put s 0) (ap (λ v. put r v g) h ∙ put_self r g) ∙ (ap (λ v. put s v g) (sym e) ∙ put_self s g)

  lsrm_or-none : Guarded (worked z) (line z (LsrmOrNone r s))
  lsrm_or-none =
      record {
        guard = Bez s 6;
        body = Lsr r r ∷ (Sub s 1 ∷ []);
        back = Bnz s 6;
        turns = λ c. c.regs s;
        whole = λ c b. Done (past z (shifted z r s (c.regs s) c.regs) 3 c) b [];
        loop = loop z r s ne (λ x. x) (self_less z) (λ x k e. e);
        spelled = refl;
        valid = ((hs, omega arith), loop-valid);
        skips = λ c g room t. (
          omega arith,
          λ b _. ap (λ x. placed c.next (outcome (Quiet (branch z c x (c.next + 2 + 6))) b)) (eq-eqb (c.regs s) 0 t) ∙
              did _ _ b (core_path _ _ _ _ (sym (ap (λ n. shifted z r s n c.regs) t ∙ shifted_none c.regs t)) (ap (λ x. x % modulus z) (eight c.next))),
        );
        enters = λ c k g room t.
            (let e : (c.next + 2) % modulus z ≡ c.next + 2 = below z (c.next + 2) (omega arith) in (
              past z c.regs 1 c,
              ap (λ x. Quiet (branch z c x (c.next + 2 + 6))) (ne_eqb (c.regs s) 0 (λ q. omega arith)),
              e,
              t,
              omega arith,
              λ b _. did _ _ b (core_path _ _ _ _ refl (twice z (c.next + 2) 6 ∙ ap (λ x. x % modulus z) (eight c.next))),
            ));
      }
    where
      eight : (a : ℕ) → a + 2 + 6 ≡ a + 2 * 4
      eight a = omega arith

-- every kind of line
pub rows : (z : Size) (k : Row) → Proper z k → Owes (worked z) (line z k)
rows z (One w) v = (rules (worked z) (worked_laws z)).straight (line z (One w)) (one z w v)
rows z (Ldi r n) v = (rules (worked z) (worked_laws z)).straight (line z (Ldi r n)) (ldi-line z r n v.0 v.1)
rows z (LdwAt r n) v = (rules (worked z) (worked_laws z)).straight (line z (LdwAt r n)) (ldw z r n v.0 v.1)
rows z (StwAt r n) v = (rules (worked z) (worked_laws z)).straight (line z (StwAt r n)) (stw z r n v.0 v.1 v.2)
rows z (Lsrm r s) v = (rules (worked z) (worked_laws z)).looped (line z (Lsrm r s)) (lsrm z r s v.0 v.1 v.2)
rows z (LsrmOrNone r s) v = (rules (worked z) (worked_laws z)).guarded (line z (LsrmOrNone r s)) (lsrm_or-none z r s v.0 v.1 v.2)
