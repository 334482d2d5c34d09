-- One run: the board, word by word, in step with the reading, tick by tick.
use Rattle.std.proofs.Common.{◌≡◌, ℕ, zero, suc, ◌+◌, ◌-◌, ◌<◌, ◌≤◌, Bool, true, false, ◌||◌, ltb, List, [], length, Some, None, Option, sym, refl, ap, ◌∙◌, subst, le_refl, arith, ltb-false, ltb-true}
use Rattle.std.specs.List.{list_any}
use Rattle.machine.specs.Machine.{Machine, Laws, Fair, Outcome, Done, Halts, Refused, outcome}
use Rattle.machine.specs.Board.{Fault, placed, Spent, Course, behind, Board, step, execute}
use Rattle.machine.specs.Program.{Line, Item, image, in_line}
use Rattle.machine.specs.Obligation.{word_at, insides, inside, and_then, Does, AllValid, Keeps}
use Rattle.machine.specs.Reading.{Reading, current, spending, struck, stopped}
use Rattle.machine.specs.Calls.{unfetched, end_unfetched}
use Rattle.machine.proofs.Facts.{true≢false}
use Rattle.machine.proofs.Inside.{insides-zero, insides-suc, shorter, inside_word}
use Rattle.machine.proofs.Placed.{LinesStand, line_does, line-valid, steps, still_stand}
use Rattle.machine.proofs.Strokes.{stroke_fair, stroke-fetched}
use Rattle.machine.proofs.Ticks.{tick, tick_over, tick_spend, tick_done, tick_halts, tick_refused, execute_done, execute_halts, execute-refused}
use Rattle.machine.proofs.ByTicks.{current-line, InOrder}

-- at a line: the board has executed the first u words of it
pub record At (M : Machine) (r : Reading M) (b : Board M) (l : Line M) : Type 0 where
  pub fewer : r.u < l.cost r.core
  pub mid : insides M l.words (M.at r.core) r.u r.core ≡ Some b.core

-- what holds between reading and board while the reading is not over
pub record Rel (M : Machine) (p : List (Item M)) (r : Reading M) (b : Board M) : Type 0 where
  pub bus : b.bus ≡ r.bus
  pub held : b.held ≡ false
  pub halted : b.halted ≡ r.halted
  pub fits : M.Fits r.core
  pub sound : M.Sound r.bus
  pub stands : r.stored ≡ false → LinesStand M p r.bus
  pub line : (l : Line M) → current M p r ≡ Some l → At M r b l
  pub none : current M p r ≡ None → (r.u ≡ 0) × (r.core ≡ b.core)

pub in_order : (M : Machine) (p : List (Item M)) (r : Reading M) (b : Board M) → Rel M p r b → InOrder M p r
in_order M p r b h = record { fits = h.fits; sound = h.sound; fewer = λ l e. (h.line l e).fewer }

-- with no line begun, the cores are equal
pub at_rest : (M : Machine) (p : List (Item M)) (r : Reading M) (b : Board M) → Rel M p r b → r.u ≡ 0 → r.core ≡ b.core
at_rest M p r b h e = go (current M p r) refl
  where
    go : (o : Option (Line M)) → current M p r ≡ o → r.core ≡ b.core
    go None k = (h.none k).1
    go (Some l) k =
        let m : insides M l.words (M.at r.core) 0 r.core ≡ Some b.core =
        subst (λ n. insides M l.words (M.at r.core) n r.core ≡ Some b.core) e (h.line l k).mid in
        let z : insides M l.words (M.at r.core) 0 r.core ≡ Some r.core = insides-zero M l.words (M.at r.core) r.core in
        cc

-- what a run leaves on either side, and says
pub record Post (M : Machine) (p : List (Item M)) (t : Course M.Refusal (Reading M)) (s : Course M.Refusal (Board M)) : Type 0 where
  pub least : t.words ≤ s.words
  pub words : t.left.over ≡ false → t.words ≡ s.words
  pub end : t.left.over ≡ false → t.end ≡ s.end
  pub fetched : t.left.over ≡ false → end_unfetched s.end ≡ false
  pub rel : t.left.over ≡ false → Rel M p t.left s.left
  pub over : t.left.over ≡ true → t.end ≡ Spent

onward : (M : Machine) (p : List (Item M)) (t : Course M.Refusal (Reading M)) (s : Course M.Refusal (Board M)) → Post M p t s → Post M p (behind 1 t) (behind 1 s)
onward M p t s h =
    record { least = omega arith; words = λ e. ap (λ n. 1 + n) (h.words e); end = h.end; fetched = h.fetched; rel = h.rel; over = h.over }

clash : (M : Machine) (p : List (Item M)) (r : Reading M) (l : Line M) → current M p r ≡ None → current M p r ≡ Some l → ⊥
clash M p r l e k = let z : ◌≡◌ {A = ℕ} 0 1 = cc in omega arith

not_hit : (s h : Bool) → (s || h) ≡ false → h ≡ false
not_hit true h e = absurd (true≢false e)
not_hit false h e = e

module _ (M : Machine) (L : Laws M) (p : List (Item M)) (keeps : Keeps M p) (room : length (image M p) ≤ M.limit) where
  -- where no line is begun
  pub fresh : (r : Reading M) (b : Board M) → r.u ≡ 0 → b.bus ≡ r.bus → b.held ≡ false → b.halted ≡ r.halted → b.core ≡ r.core → M.Fits r.core → M.Sound r.bus →
      (r.stored ≡ false → LinesStand M p r.bus) → Rel M p r b
  fresh r b u e held h c g s st =
      record {
        bus = e;
        held = held;
        halted = h;
        fits = g;
        sound = s;
        stands = st;
        line = λ l at. (let d = line_does M p keeps room r.core l (current-line M p r l at).1 g in
            record { fewer = omega (arith, d.counts); mid = rw (u, c) (insides-zero M l.words (M.at r.core) r.core) });
        none = λ _. (u, sym c);
      }

  module _ (r : Reading M) (b : Board M) (l : Line M) (e : current M p r ≡ Some l) (h : Rel M p r b) where
    abbrev a : ℕ
    a = M.at r.core

    owed : Does M l.words a r.core (l.cost r.core) (l.stroke r.core)
    owed = line_does M p keeps room r.core l (current-line M p r l e).1 h.fits

    valid : AllValid M l.words
    valid = line-valid M p keeps a l (current-line M p r l e).1

    standing : LinesStand M p b.bus
    standing = rw h.bus (h.stands (current-line M p r l e).0)

    -- a word before the last
    quietly : suc r.u < l.cost r.core → (x : M.Core) × (step M b.core b.bus ≡ Done x b.bus []) ×
        (insides M l.words a (suc r.u) r.core ≡ Some x)
    quietly k =
        let s = owed in
        let n : s.before ≡ suc r.u + (s.before - suc r.u) = omega (arith, s.counts) in
        let x = shorter M l.words a (suc r.u) (s.before - suc r.u) r.core s.reached (rw n at s.quietly) in
        let two : and_then (insides M l.words a r.u r.core) (inside M l.words a) ≡ Some x.0 = sym (insides-suc M l.words a r.u r.core) ∙ x.1 in
        let one : inside M l.words a b.core ≡ Some x.0 = rw (h.line l e).mid at two in
        let w = inside_word M l.words a b.core x.0 one in
        (x.0, steps M L p keeps b.bus standing a b.core l w.0 (current-line M p r l e).1 w.1 ∙ ap (λ k. placed (M.at b.core) (outcome k b.bus)) w.2, x.1)

    -- the last word
    finally : l.cost r.core ≤ suc r.u → step M b.core b.bus ≡ l.stroke r.core r.bus
    finally k =
        let s = owed in
        let n : s.before ≡ r.u = omega (arith, s.counts, (h.line l e).fewer) in
        let th : insides M l.words a r.u r.core ≡ Some s.reached = rw n at s.quietly in
        let m : s.reached ≡ b.core = cc (th, (h.line l e).mid) in
        let la : word_at l.words a (M.at b.core) ≡ Some s.last = rw m at s.stands in
        let o : placed (M.at b.core) (outcome (M.act s.last b.core) r.bus) ≡ l.stroke r.core r.bus = rw m at (s.strikes r.bus h.sound) in
        steps M L p keeps b.bus standing a b.core l s.last (current-line M p r l e).1 la ∙
        (ap (λ x. placed (M.at b.core) (outcome (M.act s.last b.core) x)) h.bus ∙ o)

    fair : Fair M r.bus (l.stroke r.core r.bus)
    fair = stroke_fair M L l.words a r.core (l.cost r.core) (l.stroke r.core) valid owed r.bus h.sound h.fits

    fetched : (f : Fault M.Refusal) → l.stroke r.core r.bus ≡ Refused f → unfetched f ≡ false
    fetched = stroke-fetched M L l.words a r.core (l.cost r.core) (l.stroke r.core) valid owed r.bus h.sound

  module _ (n : ℕ) (ih : (r : Reading M) (b : Board M) → r.over ≡ false → Rel M p r b → Post M p (tick M p n r) (execute M n b)) (r : Reading M) (b : Board M)
      (on : r.over ≡ false) (h : Rel M p r b) where
    -- without a line to execute the reading is over, whatever the board does
    over : current M p r ≡ None → Post M p (tick M p (suc n) r) (execute M (suc n) b)
    over e =
        rw (tick_over M p n r e) (record {
          least = omega arith;
          words = λ k. absurd (true≢false k);
          end = λ k. absurd (true≢false k);
          fetched = λ k. absurd (true≢false k);
          rel = λ k. absurd (true≢false k);
          over = λ _. refl;
        })

    module _ (l : Line M) (e : current M p r ≡ Some l) where
      spends : ltb (suc r.u) (l.cost r.core) ≡ true → Post M p (tick M p (suc n) r) (execute M (suc n) b)
      unfolding current
      spends k =
          let x = quietly r b l e h (ltb-true (suc r.u) (l.cost r.core) k) in
          let b' : Board M = record { core = x.0; bus = b.bus; held = b.held; halted = b.halted } in
          let r' : Reading M = spending M p r (suc r.u) in
          let at : At M r' b' l = record { fewer = ltb-true (suc r.u) (l.cost r.core) k; mid = x.2 } in
          let rel : Rel M p r' b' =
          record {
            bus = h.bus;
            held = h.held;
            halted = h.halted;
            fits = h.fits;
            sound = h.sound;
            stands = h.stands;
            line = λ l' e'. (let q : l ≡ l' = cc in subst (λ y. At M r' b' y) q at);
            none = λ e'. absurd (clash M p r l e' e);
          } in
          rw (tick_spend M p n r l e k, execute_done M n b x.0 b.bus [] x.1) (onward M p (tick M p n r') (execute M n b') (ih r' b' on rel))

      strikes : ltb (suc r.u) (l.cost r.core) ≡ false → Post M p (tick M p (suc n) r) (execute M (suc n) b)
      strikes k = go (l.stroke r.core r.bus) refl
        where
          s : step M b.core b.bus ≡ l.stroke r.core r.bus
          s = finally r b l e h (ltb-false (suc r.u) (l.cost r.core) k)

          fine : Fair M r.bus (l.stroke r.core r.bus)
          fine = fair r b l e h

          go : (o : Outcome M.Core M.Bus (Fault M.Refusal)) → l.stroke r.core r.bus ≡ o → Post M p (tick M p (suc n) r) (execute M (suc n) b)
          go (Done c' s' stores) q =
              let b' : Board M = record { core = c'; bus = s'; held = b.held; halted = b.halted } in
              let r' : Reading M = struck M p r c' s' stores in
              let g : Fair M {Why = Fault M.Refusal} r.bus (Done c' s' stores) = rw q at fine in
              rw (tick_done M p n r l e k c' s' stores q, execute_done M n b c' s' stores (s ∙ q))
              (onward M p (tick M p n r') (execute M n b')
              (ih r' b' on (fresh r' b' refl refl h.held h.halted refl g.0 g.1.sound
              (λ z. still_stand M p r.bus s' stores (h.stands (current-line M p r l e).0) g.1 (not_hit r.stored (list_any (in_line M p 0) stores) z)))))
          go (Halts c') q =
              let b' : Board M = record { core = c'; bus = b.bus; held = b.held; halted = true } in
              let g : Fair M {Why = Fault M.Refusal} r.bus (Halts c') = rw q at fine in
              rw (tick_halts M p n r l e k c' q, execute_halts M n b c' (s ∙ q))
              (record {
                least = le_refl 1;
                words = λ _. refl;
                end = λ _. refl;
                fetched = λ _. refl;
                rel = λ _. fresh (stopped M p r c') b' refl h.bus h.held refl refl g h.sound h.stands;
                over = λ k. absurd (true≢false (sym k ∙ on));
              })
          go (Refused x) q =
              rw (tick_refused M p n r l e k x q, execute-refused M n b x (s ∙ q))
              (record {
                least = le_refl 0;
                words = λ _. refl;
                end = λ _. refl;
                fetched = λ _. fetched r b l e h x q;
                rel = λ _. h;
                over = λ k. absurd (true≢false (sym k ∙ on));
              })

    turn : (o : Option (Line M)) → current M p r ≡ o → Post M p (tick M p (suc n) r) (execute M (suc n) b)
    turn None e = over e
    turn (Some l) e = go (ltb (suc r.u) (l.cost r.core)) refl
      where
        go : (t : Bool) → ltb (suc r.u) (l.cost r.core) ≡ t → Post M p (tick M p (suc n) r) (execute M (suc n) b)
        go true k = spends l e k
        go false k = strikes l e k

  pub in_step : (n : ℕ) (r : Reading M) (b : Board M) → r.over ≡ false → Rel M p r b → Post M p (tick M p n r) (execute M n b)
  unfolding tick execute
  in_step zero r b on h =
      record { least = le_refl 0; words = λ _. refl; end = λ _. refl; fetched = λ _. refl; rel = λ _. h; over = λ k. absurd (true≢false (sym k ∙ on)) }
  in_step (suc n) r b on h = turn n (in_step n) r b on h (current M p r) refl
