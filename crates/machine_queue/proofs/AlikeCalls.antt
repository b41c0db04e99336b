-- A call of R, and a serve of R, in two runs of R alone that serve it at different times.
use Rattle.std.specs.Prelude.{◌≡◌, false, ℕ}
use Rattle.std.proofs.Math.Path.{refl, ap, sym}
use Rattle.std.proofs.Common.{◌∙◌, arith, eq-eqb}
use mathlib.Core.List.{List, [], ◌∷◌, ◌++◌, append-nil}
use Rattle.std.proofs.Math.Option.{Option, none, some}
use Rattle.std.proofs.Math.Bool.{true}
use Rattle.machine.specs.Slots.{lookup}
use Rattle.machine.specs.Timeline.{Scan}
use Rattle.machine.specs.Machine.{CallOutcome, Stays, Retires, Leaves, Closes, Machine, Reading, Slots, Open, Closed, CallAnswer, Effect, target_without, reading_without, call_decided, request_called, as_list, concerns, observed}
use Rattle.machine.proofs.SimulationRelation.{alone_slots, SameSkip, SameSlot, Readings, BothInHeader, InOwnRecord, InOthersRecord, StepTogether, alone_found, alone_absent}
use Rattle.machine_queue.specs.Waiting.{Queue, NotHeldUp, CallAlike, CallLeaving, ServeLive, ServeLeaving, Waiting, is_leaving, waits_in, core_of, HeardAnswer, HeardLeaving, heard_at, heard_in, heard_all, written_all, written_in, SameSave, SaveNone, SaveSame, SaveFirst, SaveSecond, NoneHeldUp}
use Rattle.machine_queue.proofs.AlikeRelation.{Idle, Gone, GoneQuite, GoneSoon, Alike, BothNone, BothLive, BothGone, heard, written, StepOfR, alone_inj, save_same, nothing_said, idle_without}
use Rattle.machine_queue.proofs.AlikeBytes.{true_not_false, step_of, both_none}

module _ (M : Machine) (Q : Queue M) (L : Waiting M Q) (R : ℕ) where
  open M use {clean, Request, Argument, Answer, on_call, when_inactive}
  open Q use {Atom, core, leaving, waits, Sound, keeps, is_serve, said, wrote, is_held_up}

  -- ---- what an answer shows
  pub answer_writes : (a : Argument) (x : Answer) (v w : Option Request) → written M Q R (as_list M (some (CallAnswer R a x v w))) ≡ wrote a x
  unfolding observed concerns as_list written_all written_in
  answer_writes a x v w = rw (eq-eqb R R refl) (append-nil _)

  pub answer_heard : (a : Argument) (x : Answer) (v w : Option Request) → is_serve a ≡ false → heard M Q R (as_list M (some (CallAnswer R a x v w))) ≡ heard_at M Q (is_leaving M Q v) a x v w ∷ []
  unfolding observed concerns as_list heard_all heard_in
  answer_heard a x v w s = rw (eq-eqb R R refl, s)

  pub serve_unheard : (a : Argument) (x : Answer) (v w : Option Request) → is_serve a ≡ true → heard M Q R (as_list M (some (CallAnswer R a x v w))) ≡ []
  unfolding observed concerns as_list heard_all heard_in
  serve_unheard a x v w s = rw (eq-eqb R R refl, s)

  -- no call was refused because of what waits
  pub not_held_up : (n : ℕ) (o : CallOutcome Request Answer) (r : Request) (a : Argument) (T : Slots M) (F : Reading M) → NoneHeldUp M Q (observed M R (as_list M (call_decided M o 0 r R a T F).1)) → NotHeldUp M Q o
  unfolding call_decided observed concerns as_list
  not_held_up n (Stays q x) r a T F h = (rw (eq-eqb R R refl) at h).0
  not_held_up n (Retires q x) r a T F h = (rw (eq-eqb R R refl) at h).0
  not_held_up n (Leaves x) r a T F h = (rw (eq-eqb R R refl) at h).0
  not_held_up n (Closes x) r a T F h = (rw (eq-eqb R R refl) at h).0

  -- ---- a call that is no serve
  -- the rest of a record of R is skipped
  pub idle_after : {T : Slots M} {l : List ℕ} {r : Request} {m : Scan} {F F' : Reading M} → Readings M R T l (some r) m F F' → Idle M Q R (reading_without M 0 F')
  unfolding reading_without target_without
  idle_after (BothInHeader k e) = tt
  idle_after (InOwnRecord SameSkip) = tt
  idle_after (InOwnRecord (SameSlot e)) = tt
  idle_after (InOthersRecord h) = tt

  module _ (n : ℕ) (a : Argument) where
    -- the effect of the call in a run of R alone
    abbrev pub called_in : Option Request → Reading M → Effect M
    called_in v F = request_called M (lookup R (alone_slots M R n v)) R a (alone_slots M R n v) F

    -- what is heard of the call, where R is not leaving before it
    same_live : {r q r' q' : Request} {z z' : Answer} → core r ≡ core q → core r' ≡ core q' → z ≡ z' → leaving r ≡ false → leaving q ≡ false
        → heard_at M Q (is_leaving M Q (some r)) a z (some r) (some r') ∷ [] ≡ heard_at M Q (is_leaving M Q (some q)) a z' (some q) (some q') ∷ []
    unfolding heard_at is_leaving core_of
    same_live e c d i j = simp (i, j, e, c, d)

    same_left : {r q : Request} {z z' : Answer} → core r ≡ core q → z ≡ z' → leaving r ≡ false → leaving q ≡ false
        → heard_at M Q (is_leaving M Q (some r)) a z (some r) none ∷ [] ≡ heard_at M Q (is_leaving M Q (some q)) a z' (some q) none ∷ []
    unfolding heard_at is_leaving core_of
    same_left e d i j = simp (i, j, e, d)

    -- R is not leaving in either run
    live_decided : {T : Slots M} {l : List ℕ} {m : Scan} {F F' : Reading M} (r q : Request) (x y : CallOutcome Request Answer) → is_serve a ≡ false → core r ≡ core q
        → leaving r ≡ false → leaving q ≡ false → Readings M R T l (some r) m F F' → CallAlike M Q a r q x y
        → ((call_decided M x 0 r R a (alone_slots M R n (some r)) F').0 ≡ Closed → ⊥)
        → ((r' : Request) → (call_decided M x 0 r R a (alone_slots M R n (some r)) F').0 ≡ Open (alone_slots M R n (some r')) (reading_without M 0 F') → Sound r' → leaving r' ≡ true → keeps (core r') ≡ true)
        → StepOfR M Q R (some r) (some q) n (call_decided M x 0 r R a (alone_slots M R n (some r)) F') (call_decided M y 0 q R a (alone_slots M R n (some q)) F')
    unfolding call_decided waits_in
    live_decided r q (Stays r' z) (Stays q' z') s e i j f h o k =
        step_of M Q L R (BothLive h.6 h.7 h.0 h.2 h.3)
        (save_same M Q R (answer_heard a z (some r) (some r') s ∙ same_live e h.0 h.1 i j ∙ sym (answer_heard a z' (some q) (some q') s)))
        (said a (core r)) (rw (answer_writes a z (some r) (some r')) h.4) (rw (answer_writes a z' (some q) (some q'), e) h.5)
    live_decided r q (Retires r' z) (Retires q' z') s e i j f h o k =
        let kr = k r' refl h.6 h.2 in
        let kq : keeps (core q') ≡ true = rw (← h.0) kr in
        step_of M Q L R (BothGone (GoneSoon h.6 h.2 kr) (GoneSoon h.7 h.3 kq) (idle_after f))
        (save_same M Q R (answer_heard a z (some r) (some r') s ∙ same_live e h.0 h.1 i j ∙ sym (answer_heard a z' (some q) (some q') s)))
        (said a (core r)) (rw (answer_writes a z (some r) (some r')) h.4) (rw (answer_writes a z' (some q) (some q'), e) h.5)
    live_decided r q (Leaves z) (Leaves z') s e i j f h o k =
        step_of M Q L R {v' = none} {w' = none} BothNone
        (save_same M Q R (answer_heard a z (some r) none s ∙ same_left e h.0 i j ∙ sym (answer_heard a z' (some q) none s)))
        (said a (core r)) (rw (answer_writes a z (some r) none) h.1) (rw (answer_writes a z' (some q) none, e) h.2)
    live_decided r q (Closes z) (Closes z') s e i j f h o k = absurd (o refl)
    live_decided r q (Stays r' z) (Retires q' z') s e i j f h o k = absurd h
    live_decided r q (Stays r' z) (Leaves z') s e i j f h o k = absurd h
    live_decided r q (Stays r' z) (Closes z') s e i j f h o k = absurd h
    live_decided r q (Retires r' z) (Stays q' z') s e i j f h o k = absurd h
    live_decided r q (Retires r' z) (Leaves z') s e i j f h o k = absurd h
    live_decided r q (Retires r' z) (Closes z') s e i j f h o k = absurd h
    live_decided r q (Leaves z) (Stays q' z') s e i j f h o k = absurd h
    live_decided r q (Leaves z) (Retires q' z') s e i j f h o k = absurd h
    live_decided r q (Leaves z) (Closes z') s e i j f h o k = absurd h
    live_decided r q (Closes z) (Stays q' z') s e i j f h o k = absurd h
    live_decided r q (Closes z) (Retires q' z') s e i j f h o k = absurd h
    live_decided r q (Closes z) (Leaves z') s e i j f h o k = absurd h

    live_call : {T : Slots M} {l : List ℕ} {m : Scan} {F F' : Reading M} (r q : Request) → is_serve a ≡ false → Sound r → Sound q → core r ≡ core q → leaving r ≡ false → leaving q ≡ false
        → Readings M R T l (some r) m F F'
        → NoneHeldUp M Q (observed M R (as_list M (called_in (some r) F').1)) → NoneHeldUp M Q (observed M R (as_list M (called_in (some q) F').1))
        → ((called_in (some r) F').0 ≡ Closed → ⊥)
        → ((r' : Request) → (called_in (some r) F').0 ≡ Open (alone_slots M R n (some r')) (reading_without M 0 F') → Sound r' → leaving r' ≡ true → keeps (core r') ≡ true)
        → StepOfR M Q R (some r) (some q) n (called_in (some r) F') (called_in (some q) F')
    unfolding request_called
    live_call {F' = F'} r q s sr sq e i j f hr hq o k =
        let xr = not_held_up n (on_call a r) r a (alone_slots M R n (some r)) F' (rw (alone_found M R n r) at hr) in
        let xq = not_held_up n (on_call a q) q a (alone_slots M R n (some q)) F' (rw (alone_found M R n q) at hq) in
        rw (alone_found M R n r, alone_found M R n q)
        (live_decided r q (on_call a r) (on_call a q) s e i j f (L.call_alike a r q s sr sq e i j xr xq) (rw (alone_found M R n r) at o) (rw (alone_found M R n r) at k))

    -- R is gone: a call changes nothing
    pub record CallOfGone (v : Option Request) (F : Reading M) : Type 0 where
      pub answer : Answer
      pub is_called : called_in v F ≡ (Open (alone_slots M R n v) F, some (CallAnswer R a answer v v))
      pub silent : wrote a answer ≡ []

    leaving_decided : (r : Request) (F : Reading M) (x : CallOutcome Request Answer) → CallLeaving M Q a r x → (z : Answer) × (call_decided M x 0 r R a (alone_slots M R n (some r)) F ≡ (Open (alone_slots M R n (some r)) F, some (CallAnswer R a z (some r) (some r)))) × (wrote a z ≡ [])
    unfolding call_decided
    leaving_decided r F (Stays q z) h = (z, rw h.0, h.1)
    leaving_decided r F (Retires q z) h = absurd h
    leaving_decided r F (Leaves z) h = absurd h
    leaving_decided r F (Closes z) h = absurd h

    -- a call of a request that is leaving changes nothing
    pub leaving_call : (r : Request) (F : Reading M) → is_serve a ≡ false → Sound r → leaving r ≡ true → CallOfGone (some r) F
    unfolding request_called
    leaving_call r F s sr x =
        let d = leaving_decided r F (on_call a r) (L.call_leaving a r s sr x) in
        record { answer = d.0; is_called = rw (alone_found M R n r) d.1; silent = d.2 }

    pub none_called : (F : Reading M) → called_in none F ≡ (Open (alone_slots M R n none) F, some (CallAnswer R a (when_inactive a) none none))
    unfolding request_called
    none_called F = rw (alone_absent M R n)

    -- both effects, where neither changes
    gone_step : (v w : Option Request) (x y : Answer) (F : Reading M) → Alike M Q R F v w → wrote a x ≡ [] → wrote a y ≡ []
        → SameSave M Q (heard M Q R (as_list M (some (CallAnswer R a x v v)))) (heard M Q R (as_list M (some (CallAnswer R a y w w))))
        → StepOfR M Q R v w n (Open (alone_slots M R n v) F, some (CallAnswer R a x v v)) (Open (alone_slots M R n w) F, some (CallAnswer R a y w w))
    gone_step v w x y F h p q s =
        step_of M Q L R h s [] (rw (answer_writes a x v v, p) (nothing_said M Q R _)) (rw (answer_writes a y w w, q) (nothing_said M Q R _))

    heard_none : (x : Answer) → is_serve a ≡ false → heard M Q R (as_list M (some (CallAnswer R a x none none))) ≡ HeardAnswer a x none none ∷ []
    unfolding is_leaving heard_at core_of
    heard_none x s = answer_heard a x none none s

    heard_leaving : (x : Answer) (r : Request) → is_serve a ≡ false → leaving r ≡ true → heard M Q R (as_list M (some (CallAnswer R a x (some r) (some r)))) ≡ HeardLeaving a ∷ []
    unfolding is_leaving heard_at
    heard_leaving x r s e = answer_heard a x (some r) (some r) s ∙ rw e

    gone_call : {v w : Option Request} (F : Reading M) → is_serve a ≡ false → Gone M Q R v → Gone M Q R w → Idle M Q R F → StepOfR M Q R v w n (called_in v F) (called_in w F)
    gone_call F s GoneQuite GoneQuite i =
        rw (none_called F) (gone_step none none _ _ F BothNone (L.inactive_writes a) (L.inactive_writes a) (save_same M Q R refl))
    gone_call F s GoneQuite (GoneSoon {r = q} sq y k) i =
        let c = leaving_call q F s sq y in
        rw (none_called F, c.is_called) (gone_step none (some q) _ _ F (BothGone GoneQuite (GoneSoon sq y k) i) (L.inactive_writes a) c.silent (rw (heard_none (when_inactive a) s, heard_leaving c.answer q s y) (SaveSecond SaveNone)))
    gone_call F s (GoneSoon {r = r} sr x k) GoneQuite i =
        let c = leaving_call r F s sr x in
        rw (none_called F, c.is_called) (gone_step (some r) none _ _ F (BothGone (GoneSoon sr x k) GoneQuite i) c.silent (L.inactive_writes a) (rw (heard_none (when_inactive a) s, heard_leaving c.answer r s x) (SaveFirst SaveNone)))
    gone_call F s (GoneSoon {r = r} sr x k) (GoneSoon {r = q} sq y j) i =
        let c = leaving_call r F s sr x in
        let d = leaving_call q F s sq y in
        rw (c.is_called, d.is_called) (gone_step (some r) (some q) _ _ F (BothGone (GoneSoon sr x k) (GoneSoon sq y j) i) c.silent d.silent (rw (heard_leaving c.answer r s x, heard_leaving d.answer q s y) (SaveSame SaveNone)))

    -- R in any way
    pub call_of_r : {T : Slots M} {v w : Option Request} {l : List ℕ} {m m' : Scan} {F F' : Reading M} {A : Effect M} → is_serve a ≡ false → Readings M R T l v m F F' → Alike M Q R F' v w
        → NoneHeldUp M Q (observed M R (as_list M (called_in v F').1)) → NoneHeldUp M Q (observed M R (as_list M (called_in w F').1))
        → (g : StepTogether M R v n l m' A (called_in v F'))
        → ((r' : Request) → g.request ≡ some r' → Sound r' → leaving r' ≡ true → keeps (core r') ≡ true)
        → StepOfR M Q R v w n (called_in v F') (called_in w F')
    call_of_r s f BothNone hr hq g k = both_none M Q L R g
    call_of_r {F' = F'} s f (BothLive {r = r} {q = q} sr sq e i j) hr hq g k =
        live_call r q s sr sq e i j f hr hq (λ d. let z : ◌≡◌ {A = ℕ} 0 1 = cc g.is_alone in omega arith)
        (λ r' d. k r' (alone_inj M Q R n g.request (some r') g.alone_reading (reading_without M 0 F') (sym g.is_alone ∙ d)).0)
    call_of_r {F' = F'} s f (BothGone x y i) hr hq g k = gone_call F' s x y i

    -- ---- a serve
    -- What a serve leaves of R in one run of R alone: still alike to whatever it was alike to.
    pub record ServeOfOne (v : Option Request) (F : Reading M) : Type 0 where
      pub request : Option Request
      pub is_served_lem : (called_in v F).0 ≡ Open (alone_slots M R n request) F
      pub unheard : heard M Q R (as_list M (called_in v F).1) ≡ []
      pub accounts : waits_in M Q v ++ [] ≡ written M Q R (as_list M (called_in v F).1) ++ waits_in M Q request
      pub first_alike : (w : Option Request) → Alike M Q R F v w → Alike M Q R F request w
      pub second_alike : (w : Option Request) → Alike M Q R F w v → Alike M Q R F w request

    -- the same of an outcome
    record ServeDecided (r : Request) (F : Reading M) (x : CallOutcome Request Answer) : Type 0 where
      request : Option Request
      is_served_lem : (call_decided M x 0 r R a (alone_slots M R n (some r)) F).0 ≡ Open (alone_slots M R n request) F
      unheard : heard M Q R (as_list M (call_decided M x 0 r R a (alone_slots M R n (some r)) F).1) ≡ []
      accounts : waits_in M Q (some r) ++ [] ≡ written M Q R (as_list M (call_decided M x 0 r R a (alone_slots M R n (some r)) F).1) ++ waits_in M Q request
      first_alike : (w : Option Request) → Alike M Q R F (some r) w → Alike M Q R F request w
      second_alike : (w : Option Request) → Alike M Q R F w (some r) → Alike M Q R F w request

    live_first : {r q : Request} (F : Reading M) (w : Option Request) → Sound q → core q ≡ core r → leaving q ≡ false → leaving r ≡ false → Alike M Q R F (some r) w → Alike M Q R F (some q) w
    live_first F w sq e x y (BothLive sr sw d i j) = BothLive sq sw (e ∙ d) x j
    live_first F w sq e x y (BothGone (GoneSoon sr z k) j i) = absurd (true_not_false M Q L R (sym z ∙ y))

    live_second : {r q : Request} (F : Reading M) (w : Option Request) → Sound q → core q ≡ core r → leaving q ≡ false → leaving r ≡ false → Alike M Q R F w (some r) → Alike M Q R F w (some q)
    live_second F w sq e x y (BothLive sw sr d i j) = BothLive sw sq (d ∙ sym e) i x
    live_second F w sq e x y (BothGone j (GoneSoon sr z k) i) = absurd (true_not_false M Q L R (sym z ∙ y))

    serve_decided_live : (r : Request) (F : Reading M) (x : CallOutcome Request Answer) → is_serve a ≡ true → leaving r ≡ false → ServeLive M Q a r x → ServeDecided r F x
    unfolding call_decided waits_in
    serve_decided_live r F (Stays q z) s y h = record {
      request = some q;
      is_served_lem = refl;
      unheard = serve_unheard a z (some r) (some q) s;
      accounts = append-nil (waits r) ∙ h.2 ∙ ap (λ l. l ++ waits q) (sym (answer_writes a z (some r) (some q)));
      first_alike = λ w. live_first F w h.3 h.0 h.1 y;
      second_alike = λ w. live_second F w h.3 h.0 h.1 y;
    }
    serve_decided_live r F (Retires q z) s y h = absurd h
    serve_decided_live r F (Leaves z) s y h = absurd h
    serve_decided_live r F (Closes z) s y h = absurd h

    gone_first : {r : Request} {v : Option Request} (F : Reading M) (w : Option Request) → leaving r ≡ true → Idle M Q R F → (keeps (core r) ≡ true → Gone M Q R v) → Alike M Q R F (some r) w → Alike M Q R F v w
    gone_first F w x i f (BothLive sr sq d y j) = absurd (true_not_false M Q L R (sym x ∙ y))
    gone_first F w x i f (BothGone (GoneSoon sr z k) j _) = BothGone (f k) j i

    gone_second : {r : Request} {v : Option Request} (F : Reading M) (w : Option Request) → leaving r ≡ true → Idle M Q R F → (keeps (core r) ≡ true → Gone M Q R v) → Alike M Q R F w (some r) → Alike M Q R F w v
    gone_second F w x i f (BothLive sr sq d y j) = absurd (true_not_false M Q L R (sym x ∙ j))
    gone_second F w x i f (BothGone j (GoneSoon sr z k) _) = BothGone j (f k) i

    serve_decided_leaving : (r : Request) (F : Reading M) (x : CallOutcome Request Answer) → is_serve a ≡ true → leaving r ≡ true → keeps (core r) ≡ true → Idle M Q R F → ServeLeaving M Q a r x → ServeDecided r F x
    unfolding call_decided waits_in
    serve_decided_leaving r F (Stays q z) s y k i h = record {
      request = some q;
      is_served_lem = refl;
      unheard = serve_unheard a z (some r) (some q) s;
      accounts = append-nil (waits r) ∙ h.2 ∙ ap (λ l. l ++ waits q) (sym (answer_writes a z (some r) (some q)));
      first_alike = λ w. gone_first F w y i (λ j. GoneSoon h.3 h.1 (ap keeps h.0 ∙ j));
      second_alike = λ w. gone_second F w y i (λ j. GoneSoon h.3 h.1 (ap keeps h.0 ∙ j));
    }
    serve_decided_leaving r F (Retires q z) s y k i h = absurd h
    serve_decided_leaving r F (Leaves z) s y k i h = record {
      request = none;
      is_served_lem = ap (λ f. Open (alone_slots M R n none) f) (idle_without M Q R 0 F i);
      unheard = serve_unheard a z (some r) none s;
      accounts = ap (λ l. l ++ []) (h.1 ∙ sym (answer_writes a z (some r) none));
      first_alike = λ w. gone_first F w y i (λ j. GoneQuite);
      second_alike = λ w. gone_second F w y i (λ j. GoneQuite);
    }
    serve_decided_leaving r F (Closes z) s y k i h = absurd (true_not_false M Q L R (sym k ∙ h))

    serve_found : (r : Request) (F : Reading M) → ServeDecided r F (on_call a r) → ServeOfOne (some r) F
    unfolding request_called
    serve_found r F d = record {
      request = d.request;
      is_served_lem = rw (alone_found M R n r) d.is_served_lem;
      unheard = rw (alone_found M R n r) d.unheard;
      accounts = rw (alone_found M R n r) d.accounts;
      first_alike = d.first_alike;
      second_alike = d.second_alike;
    }

    serve_none : (F : Reading M) → is_serve a ≡ true → ServeOfOne none F
    serve_none F s = record {
      request = none;
      is_served_lem = ap (λ x. x.0) (none_called F);
      unheard = rw (none_called F) (serve_unheard a (when_inactive a) none none s);
      accounts = rw (none_called F, answer_writes a (when_inactive a) none none, L.inactive_writes a) (nothing_said M Q R _);
      first_alike = λ w h. h;
      second_alike = λ w h. h;
    }

    serve_live : (r : Request) (F : Reading M) → is_serve a ≡ true → Sound r → leaving r ≡ false → ServeOfOne (some r) F
    serve_live r F s sr x = serve_found r F (serve_decided_live r F (on_call a r) s x (L.serve_live a r s sr x))

    serve_gone : {v : Option Request} (F : Reading M) → is_serve a ≡ true → Gone M Q R v → Idle M Q R F → ServeOfOne v F
    serve_gone F s GoneQuite i = serve_none F s
    serve_gone F s (GoneSoon {r = r} sr x k) i = serve_found r F (serve_decided_leaving r F (on_call a r) s x k i (L.serve_leaving a r s sr x))

    -- a serve in the first run alone
    pub serve_first : {v w : Option Request} (F : Reading M) → is_serve a ≡ true → Alike M Q R F v w → ServeOfOne v F
    serve_first F s BothNone = serve_none F s
    serve_first F s (BothLive {r = r} sr sq e x y) = serve_live r F s sr x
    serve_first F s (BothGone x y i) = serve_gone F s x i

    -- a serve in the second run alone
    pub serve_second : {v w : Option Request} (F : Reading M) → is_serve a ≡ true → Alike M Q R F w v → ServeOfOne v F
    serve_second F s BothNone = serve_none F s
    serve_second F s (BothLive {q = q} sr sq e x y) = serve_live q F s sq y
    serve_second F s (BothGone x y i) = serve_gone F s y i
