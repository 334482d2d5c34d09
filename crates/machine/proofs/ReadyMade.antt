-- The ready-made rules: straight lines, loops, and loops behind a word that may skip them.
use Rattle.std.proofs.Common.{◌≡◌, ℕ, zero, suc, ◌+◌, ◌*◌, ◌<◌, ◌≤◌, List, [], ◌∷◌, ◌++◌, length, Some, sym, refl, ap, ◌∙◌, subst, append_assoc, arith, length-append, eq-eqb, ne_eqb}
use Rattle.machine.specs.Machine.{Machine, Laws, FairAct, Quiet}
use Rattle.machine.specs.Program.{Line}
use Rattle.machine.specs.Obligation.{word_at, and_then, inside, insides, Does, AllValid, Owes}
use Rattle.machine.specs.Rules.{went, after, AllPlain, Stroke, Same, word_stroke, Straight, Loop, Looped, Guarded, Rules}
use Rattle.machine.proofs.Inside.{insides-zero, insides-suc, insides-front, inside-at, insides_fit, valid-left, valid_right}

word_at-behind : {V : Type 0} (done rest : List V) (w : V) (a x : ℕ) → x ≡ a + 2 * length done → word_at (done ++ (w ∷ rest)) a x ≡ Some w
word_at-behind [] rest w a x e = rw (eq-eqb x a (omega arith), word_at)
word_at-behind (v ∷ done) rest w a x e = rw (ne_eqb x a (λ k. omega arith), word_at) (word_at-behind done rest w (a + 2) x (omega arith))

module _ (M : Machine) (L : Laws M) where
  -- a core after a quiet word fits
  fits_on : (w : M.Word) (c c' : M.Core) → M.Valid w → M.Fits c → M.act w c ≡ Quiet c' → M.Fits c'
  fits_on w c c' v g e = let h : FairAct M (M.act w c) = L.acts w c v g in rw e at h

  module _ (ws : List M.Word) (a : ℕ) where
    -- the first word executed is the last
    pub at_once : (c : M.Core) (w : M.Word) (stroke : Stroke M) → word_at ws a (M.at c) ≡ Some w → Same M (word_stroke M w c) stroke → Does M ws a c 1 stroke
    at_once c w stroke e s = record { before = 0; counts = refl; reached = c; quietly = insides-zero M ws a c; last = w; stands = e; strikes = s }

    -- quiet words in front
    pub behind-quiet : (n : ℕ) (c c' : M.Core) (cost : ℕ) (stroke : Stroke M) → insides M ws a n c ≡ Some c' → Does M ws a c' cost stroke → Does M ws a c (n + cost) stroke
    behind-quiet n c c' cost stroke e d =
        record {
          before = n + d.before;
          counts = omega (arith, d.counts);
          reached = d.reached;
          quietly = insides-front M ws a n d.before c ∙ (ap (λ o. and_then o (insides M ws a d.before)) e ∙ d.quietly);
          last = d.last;
          stands = d.stands;
          strikes = d.strikes;
        }

    -- the same at an equal cost, with an equal stroke
    pub alike : (c : M.Core) (cost cost' : ℕ) (stroke stroke' : Stroke M) → cost' ≡ cost → Same M stroke stroke' → Does M ws a c cost stroke → Does M ws a c cost' stroke'
    alike c cost cost' stroke stroke' e s d =
        record {
          before = d.before;
          counts = e ∙ d.counts;
          reached = d.reached;
          quietly = d.quietly;
          last = d.last;
          stands = d.stands;
          strikes = λ b k. d.strikes b k ∙ s b k;
        }

    pub one_inside : (c c' : M.Core) (w : M.Word) → word_at ws a (M.at c) ≡ Some w → M.act w c ≡ Quiet c' → insides M ws a 1 c ≡ Some c'
    one_inside c c' w e q = insides-suc M ws a 0 c ∙ (ap (λ o. and_then o (inside M ws a)) (insides-zero M ws a c) ∙ inside-at M ws a c c' w e q)

  -- plain words, one behind the other
  at_after : (front : List M.Word) → AllValid M front → (c : M.Core) → M.Fits c → M.at c + 2 * length front < M.limit → AllPlain M front → M.at (after M front c) ≡ M.at c + 2 * length front
  at_after [] v c g room h = omega arith
  at_after (w ∷ front) v c g room h =
      let k = h.0 c g (omega arith) in
      omega (arith, at_after front v.1 (went M w c) (fits_on w c (went M w c) v.0 g k.0) (omega arith) h.1)

  plainly : (done front rest : List M.Word) → AllValid M front → (a : ℕ) (c : M.Core) → M.Fits c → M.at c ≡ a + 2 * length done → M.at c + 2 * length front < M.limit → AllPlain M front →
      insides M (done ++ (front ++ rest)) a (length front) c ≡ Some (after M front c)
  plainly done [] rest v a c g e room h = insides-zero M (done ++ rest) a c
  plainly done (w ∷ front) rest v a c g e room h =
      let ws : List M.Word = done ++ (w ∷ (front ++ rest)) in
      let p = h.0 c g (omega arith) in
      let n : suc (length front) ≡ 1 + length front = omega arith in
      let one : insides M ws a 1 c ≡ Some (went M w c) = one_inside ws a c (went M w c) w (word_at-behind done (front ++ rest) w a (M.at c) e) p.0 in
      let k : length (done ++ (w ∷ [])) ≡ length done + 1 = length-append done (w ∷ []) in
      let ih = plainly (done ++ (w ∷ [])) front rest v.1 a (went M w c) (fits_on w c (went M w c) v.0 g p.0) (omega arith) (omega arith) h.1 in
      subst (λ k. insides M ws a k c ≡ Some (after M front (went M w c))) (sym n)
      (insides-front M ws a 1 (length front) c ∙ (ap (λ o. and_then o (insides M ws a (length front))) one ∙ (rw append_assoc at ih)))

  straight : (l : Line M) → Straight M l → Owes M l
  straight l s =
      record {
        valid = s.valid;
        does = λ c g fits.
            (let n : length l.words ≡ length s.front + 1 = ap length s.spelled ∙ length-append s.front (s.last ∷ []) in
            let room : M.at c + 2 * length s.front < M.limit = omega arith in
            let v : AllValid M s.front = valid-left M s.front (s.last ∷ []) (subst (AllValid M) s.spelled s.valid) in
            let at = at_after s.front v c g room s.plain in
            let ws : List M.Word = s.front ++ (s.last ∷ []) in
            let last : Does M ws (M.at c) (after M s.front c) 1 (l.stroke c) =
            at_once ws (M.at c) (after M s.front c) s.last (l.stroke c) (word_at-behind s.front [] s.last (M.at c) (M.at (after M s.front c)) at) (s.strikes c g room at) in
            let all : Does M ws (M.at c) c (length s.front + 1) (l.stroke c) =
            behind-quiet ws (M.at c) (length s.front) c (after M s.front c) 1 (l.stroke c) (plainly [] s.front (s.last ∷ []) v (M.at c) c g (omega arith) room s.plain) last in
            subst (λ v. Does M v (M.at c) c (l.cost c) (l.stroke c)) (sym s.spelled)
            (alike ws (M.at c) c (length s.front + 1) (l.cost c) (l.stroke c) (l.stroke c) (omega (arith, s.counts c)) (λ b _. refl) all));
      }

  module _ (front body : List M.Word) (back : M.Word) (turns : M.Core → ℕ) (whole : M.Core → Stroke M) (loop : Loop M body back turns whole)
      (v : AllValid M (front ++ (body ++ (back ∷ [])))) (a : ℕ) where
    abbrev ws : List M.Word
    ws = front ++ (body ++ (back ∷ []))

    body-valid : AllValid M body
    body-valid = valid-left M body (back ∷ []) (valid_right M front (body ++ (back ∷ [])) v)

    -- the word that goes back
    back_at : (x : ℕ) → x ≡ a + 2 * length front + 2 * length body → word_at ws a x ≡ Some back
    back_at x e =
        subst (λ v. word_at v a x ≡ Some back) (append_assoc front body (back ∷ []))
        (word_at-behind (front ++ body) [] back a x (omega (arith, length-append front body)))

    -- a loop with suc k turns yet to make
    turning : (k : ℕ) (c : M.Core) → M.Fits c → M.at c ≡ a + 2 * length front → M.at c + 2 * length body < M.limit → turns c ≡ suc k →
        Does M ws a c (suc (length body) * suc k) (whole c)
    turning zero c g e room t =
        let at = at_after body body-valid c g room loop.plain in
        let last = at_once ws a (after M body c) back (whole c) (back_at (M.at (after M body c)) (omega arith)) (loop.ends c g room at t) in
        alike ws a c (length body + 1) (suc (length body) * 1) (whole c) (whole c) (omega arith) (λ b _. refl)
        (behind-quiet ws a (length body) c (after M body c) 1 (whole c) (plainly front body (back ∷ []) body-valid a c g e room loop.plain) last)
    turning (suc k) c g e room t =
        let at = at_after body body-valid c g room loop.plain in
        let once = loop.again c k g room at t in
        let c' = once.0 in
        let through = plainly front body (back ∷ []) body-valid a c g e room loop.plain in
        let n : suc (length body) ≡ length body + 1 = omega arith in
        let one = one_inside ws a (after M body c) c' back (back_at (M.at (after M body c)) (omega arith)) once.1 in
        let turn : insides M ws a (suc (length body)) c ≡ Some c' =
        subst (λ m. insides M ws a m c ≡ Some c') (sym n) (insides-front M ws a (length body) 1 c ∙ (ap (λ o. and_then o (insides M ws a 1)) through ∙ one)) in
        let at' = once.2 in
        let rest = turning k c' (insides_fit M L ws v a (suc (length body)) c c' g turn) (omega arith) (omega arith) once.3 in
        alike ws a c (suc (length body) + suc (length body) * suc k) (suc (length body) * suc (suc k)) (whole c') (whole c) (omega arith) once.4
        (behind-quiet ws a (suc (length body)) c c' (suc (length body) * suc k) (whole c') turn rest)

  looped : (l : Line M) → Looped M l → Owes M l
  looped l s =
      record {
        valid = s.valid;
        does = λ c g fits.
            (let m : length (s.front ++ (s.body ++ (s.back ∷ []))) ≡ length s.front + (length s.body + 1) =
            length-append s.front (s.body ++ (s.back ∷ [])) ∙ ap (λ y. length s.front + y) (length-append s.body (s.back ∷ [])) in
            let n : length l.words ≡ length s.front + (length s.body + 1) = ap length s.spelled ∙ m in
            let room : M.at c + 2 * length s.front < M.limit = omega arith in
            let ws : List M.Word = s.front ++ (s.body ++ (s.back ∷ [])) in
            let v : AllValid M ws = subst (AllValid M) s.spelled s.valid in
            let vf = valid-left M s.front (s.body ++ (s.back ∷ [])) v in
            let at = at_after s.front vf c g room s.plain in
            let c' = after M s.front c in
            let front = plainly [] s.front (s.body ++ (s.back ∷ [])) vf (M.at c) c g (omega arith) room s.plain in
            let k = s.counts c g room at in
            let rest = turning s.front s.body s.back s.turns s.whole s.loop v (M.at c) k.0 c' (insides_fit M L ws v (M.at c) (length s.front) c c' g front) at (omega arith) k.1 in
            subst (λ v. Does M v (M.at c) c (l.cost c) (l.stroke c)) (sym s.spelled)
            (alike ws (M.at c) c (length s.front + suc (length s.body) * suc k.0) (l.cost c) (s.whole c') (l.stroke c) k.2 k.3
            (behind-quiet ws (M.at c) (length s.front) c c' (suc (length s.body) * suc k.0) (s.whole c') front rest)));
      }

  guarded : (l : Line M) → Guarded M l → Owes M l
  guarded l s = record { valid = s.valid; does = λ c g fits. go c g (room c fits) (s.turns c) refl }
    where
      room : (c : M.Core) → M.at c + 2 * length l.words ≤ M.limit → M.at c + 2 * suc (length s.body) < M.limit
      room c fits =
          let n : length l.words ≡ suc (length s.body + 1) = ap length s.spelled ∙ ap suc (length-append s.body (s.back ∷ [])) in
          omega arith

      first : (c : M.Core) → word_at (s.guard ∷ (s.body ++ (s.back ∷ []))) (M.at c) (M.at c) ≡ Some s.guard
      first c = word_at-behind [] (s.body ++ (s.back ∷ [])) s.guard (M.at c) (M.at c) (omega arith)

      go : (c : M.Core) → M.Fits c → M.at c + 2 * suc (length s.body) < M.limit → (n : ℕ) → s.turns c ≡ n → Does M l.words (M.at c) c (l.cost c) (l.stroke c)
      go c g r zero t =
          let k = s.skips c g r t in
          let ws : List M.Word = s.guard ∷ (s.body ++ (s.back ∷ [])) in
          subst (λ v. Does M v (M.at c) c (l.cost c) (l.stroke c)) (sym s.spelled)
          (alike ws (M.at c) c 1 (l.cost c) (l.stroke c) (l.stroke c) k.0 (λ b _. refl) (at_once ws (M.at c) c s.guard (l.stroke c) (first c) k.1))
      go c g r (suc n) t =
          let k = s.enters c n g r t in
          let ws : List M.Word = s.guard ∷ (s.body ++ (s.back ∷ [])) in
          let v : AllValid M ws = subst (AllValid M) s.spelled s.valid in
          let at = k.2 in
          let rest = turning (s.guard ∷ []) s.body s.back s.turns s.whole s.loop v (M.at c) n k.0 (fits_on s.guard c k.0 v.0 g k.1) at (omega arith) k.3 in
          subst (λ v. Does M v (M.at c) c (l.cost c) (l.stroke c)) (sym s.spelled)
          (alike ws (M.at c) c (1 + suc (length s.body) * suc n) (l.cost c) (s.whole k.0) (l.stroke c) k.4 k.5
          (behind-quiet ws (M.at c) 1 c k.0 (suc (length s.body) * suc n) (s.whole k.0) (one_inside ws (M.at c) c k.0 s.guard (first c) k.1) rest))

  pub rules : Rules M
  rules = record { straight = straight; looped = looped; guarded = guarded }
