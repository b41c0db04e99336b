-- One request: the rules of the plain receiver and those of the stepping one tell the same and leave the same request.
use Rattle.std.specs.Prelude.{ℕ, ◌+◌, ◌≤◌, ◌≡◌, true, take, drop, ltb, eqb, if◌then◌else◌}
use Rattle.std.proofs.Math.Path.{refl, sym, ap, ap₂, subst}
use Rattle.std.proofs.Common.{◌∙◌, length-take}
use Rattle.std.proofs.Math.Bool.{false}
use mathlib.Core.List.{List, [], ◌∷◌, ◌++◌, append-nil}
use Rattle.std.proofs.Math.Option.{none}
use native.Mathlib.Omega.{arith}
use Rattle.std.proofs.Math.ListN.{length, length-append, length-replicate}
use Rattle.std.proofs.Math.Seq.{take_at, take-length}
use borrow.Author.Tests.{ltb-false, eqb-true}
use Rattle.wire.specs.Test.{by_test}
use Rattle.wire.proofs.BufferLaws.{copied_room, put_length}
use Rattle.pair_list.specs.List.{well_formed, broken_at}
use Rattle.pair_repeats.specs.Repeats.{repeats}
use Rattle.stated_length.specs.Stated.{stated_in}
use Rattle.machine.specs.Cause.{Cause, Plain, At}
use Rattle.connection.specs.declared.request.Role.{Role}
use Rattle.connection.specs.declared.request.Turn.{Turn}
use Rattle.connection.specs.declared.request.Due.{Due}
use Rattle.connection.specs.declared.request.Shown.{Shown as Counts}
use Rattle.connection.specs.declared.event.Measure.{Measure}
use Rattle.connection.specs.Event.{Event}
use Rattle.connection.specs.Sizes.{AREA}
use Rattle.connection.specs.Codes.{role_number}
use Rattle.connection.specs.Request as R
use Rattle.connection.specs.Request.{Held, Ruled, ruled, is_spent, turn_type, after_params, after_stdin, in_turn, is_input, on_content, showed}
use Rattle.connection.specs.Bytewise.{Note, Told, Shown, showing, notes}
use Rattle.connection.proofs.Laws.CuttingContent.{grown_room}
use Rattle.plain.specs.Plain as P
use Rattle.plain.specs.Plain.{Request as PlainRequest, Change}
use Rattle.plain_agrees.specs.Agreement.{close_of_event, close_in}
use Rattle.plain_agrees.proofs.Counts.{SameCount, nothing_counted, none_shown, more_shown, same_measure}
use Rattle.plain_agrees.proofs.Requests.{SameRequest}

-- ---- what is told
-- Bytes are shown the same.
pub same_bytes_lem : (id stream : ℕ) (x : List ℕ) → showing id stream x ≡ P.bytes id stream x
unfolding showing P.bytes
same_bytes_lem id stream [] = refl
same_bytes_lem id stream (b ∷ x) = ap (λ (l : List Note). Shown id stream b ∷ l) (same_bytes_lem id stream x)

-- No close is told among them.
bytes_close_none : (id stream : ℕ) (x : List ℕ) → close_in (P.bytes id stream x) ≡ none
unfolding close_in P.bytes
bytes_close_none id stream [] = refl
bytes_close_none id stream (b ∷ x) = bytes_close_none id stream x

-- ---- a header and its content, for one request
abbrev pub held_after : Ruled → List ℕ → Held
held_after l [] = l.held
held_after l (b ∷ x) = (on_content l.due (b ∷ x) l.held).held

abbrev pub notes_after : Ruled → List ℕ → List Note
notes_after l [] = notes l.event []
notes_after l (b ∷ x) = notes l.event [] ++ notes (on_content l.due (b ∷ x) l.held).event (b ∷ x)

-- The same request after both, and the same told, which is no close.
pub record SameChange (c : Change) (l : Ruled) (x : List ℕ) : Type 0 where
  pub request : SameRequest c.request (held_after l x)
  pub told : notes_after l x ≡ c.events
  pub no_close : close_in c.events ≡ none

-- an event after which the content is skipped
skips : (c : Change) (h : Held) (e : Event) (x : List ℕ) → SameRequest c.request h → notes e [] ≡ c.events
    → close_in c.events ≡ none → SameChange c (ruled h Due.Skip e) x
skips c h e [] l t n = record { request = l; told = t; no_close = n }
skips c h e (b ∷ x) l t n = record { request = l; told = append-nil (notes e []) ∙ t; no_close = n }

-- the turn after PARAMS, and after STDIN
next_params : (role : Role) → turn_type (after_params role) ≡ P.next_turn (role_number role) P.PARAMS
unfolding P.next_turn
next_params Role.Responder = refl
next_params Role.Authorizer = refl
next_params Role.Filter = refl

next_stdin : (role : Role) → turn_type (after_stdin role) ≡ P.next_turn (role_number role) P.STDIN
unfolding P.next_turn
next_stdin Role.Responder = refl
next_stdin Role.Authorizer = refl
next_stdin Role.Filter = refl

module _ (r : PlainRequest) (h : Held) (l : SameRequest r h) where
  abbrev turn : Turn
  turn = h.request.state.turn

  abbrev counts : Counts
  counts = h.request.state.shown

  -- the counts in the turn that it is
  in_this_turn : (t : Turn) → turn ≡ t → SameCount t counts r.shown
  in_this_turn t now = subst (λ (u : Turn). SameCount u counts r.shown) now l.shown

  -- After a fault both have no list and nothing shown.
  faults : (cause : Cause) (x : List ℕ) → SameChange (P.fault r cause) (R.faulted h cause) x
  unfolding P.fault R.faulted R.with_life close_in
  faults cause x =
      skips _ _ _ x
      (record {
        id = l.id;
        role = l.role;
        turn = l.turn;
        spent = refl;
        list = refl;
        long = refl;
        area = length-replicate (length h.area) 0 ∙ l.area;
        shown = none_shown turn;
      })
      (ap (λ i. Told (Event.Fault i cause) ∷ []) l.id) refl

  aborts : (x : List ℕ) → SameChange (P.abort r) (R.aborted h) x
  unfolding P.abort R.aborted R.with_life close_in
  aborts x =
      skips _ _ _ x
      (record {
        id = l.id;
        role = l.role;
        turn = l.turn;
        spent = refl;
        list = l.list;
        long = l.long;
        area = l.area;
        shown = l.shown;
      })
      (ap (λ i. Told (Event.Abort i) ∷ []) l.id) refl

  -- A stream ends: the turn moves on, and of the stream whose turn comes nothing was shown.
  turns : (live : r.spent ≡ false) (t : Turn) (e e' : Event) (x : List ℕ)
      → turn_type t ≡ P.next_turn r.role r.turn → SameCount t counts 0 → notes e [] ≡ Told e' ∷ []
      → close_of_event e' ≡ none → SameChange (P.ends r e') (R.turned h t e) x
  unfolding P.ends R.turned R.with_turn close_in
  turns live t e e' x k c n o =
      skips _ _ e x
      (record {
        id = l.id;
        role = l.role;
        turn = k;
        spent = l.spent ∙ live;
        list = l.list;
        long = l.long;
        area = l.area;
        shown = c;
      })
      n (rw o refl)

  -- ---- rule 8
  -- Content of PARAMS is appended to the list, which is the front of the area.
  grows : (live : r.spent ≡ false) (x : List ℕ) → h.request.length + length x ≤ AREA
      → SameChange (P.keep r x) (ruled h Due.Params Event.None) x
  unfolding P.keep close_in
  grows live [] room =
      record {
        request = record {
          id = l.id;
          role = l.role;
          turn = l.turn;
          spent = l.spent ∙ live;
          list = l.list ∙ sym (append-nil r.list);
          long = l.long ∙ ap length (sym (append-nil r.list));
          area = l.area;
          shown = l.shown;
        };
        told = refl;
        no_close = refl;
      }
  grows live (b ∷ x) room =
      let n = h.request.length in
      let y = b ∷ x in
      let fits : n + length y ≤ length h.area = omega (arith, l.area) in
      let k : length (take n h.area ++ y) ≡ n + length y =
      length-append (take n h.area) y ∙ ap (λ m. m + length y) (length-take n h.area ∙ omega (arith, l.area)) in
      let area = copied_room h.area n y fits in
      record {
        request =
            rw (grown_room h y room)
            (record {
              id = l.id;
              role = l.role;
              turn = l.turn;
              spent = l.spent ∙ live;
              list =
                  ap (take (n + length y)) area
                  ∙ take_at (take n h.area ++ y) (drop (n + length y) h.area) (n + length y) k
                  ∙ ap (λ u. u ++ y) l.list;
              long = ap (λ m. m + length y) l.long ∙ sym (length-append r.list y);
              area = ap length area ∙ put_length h.area n y fits ∙ l.area;
              shown = l.shown;
            });
        told = refl;
        no_close = refl;
      }

  -- the counts at the end of PARAMS: nothing was shown
  after_params_lem : SameCount Turn.Params counts r.shown → (role : Role) → SameCount (after_params role) counts 0
  after_params_lem c Role.Responder = (c.0 ∙ sym nothing_counted, c.1)
  after_params_lem c Role.Authorizer = tt
  after_params_lem c Role.Filter = (c.0 ∙ sym nothing_counted, c.1)

  ends_params : (live : r.spent ≡ false) → turn ≡ Turn.Params → (x : List ℕ)
      → SameChange (P.params_end r) (R.params_ended h) x
  unfolding P.params_end R.params_ended R.params_fault
  ends_params live now x =
      let four : r.turn ≡ P.PARAMS = sym l.turn ∙ ap turn_type now in
      by_test (well_formed r.list)
      (λ w.
      by_test (repeats r.list)
      (λ d. simp (l.list, w, d) (faults (Plain 26) x))
      (λ d. simp (l.list, w, d)
      (turns live (after_params h.request.state.role) (Event.Ready h.request.id h.request.length)
      (Event.Ready r.id (length r.list)) x
      (next_params h.request.state.role ∙ ap₂ P.next_turn l.role (sym four))
      (after_params_lem (in_this_turn Turn.Params now) h.request.state.role)
      (ap₂ (λ (i n : ℕ). Told (Event.Ready i n) ∷ []) l.id l.long) refl)))
      (λ w. simp (l.list, w) (faults (At 25 (broken_at r.list)) x))

  params : (live : r.spent ≡ false) → turn ≡ Turn.Params → (n : ℕ) (x : List ℕ) → length x ≤ n
      → SameChange (P.on_params r n x) (R.on_params n h) x
  unfolding P.on_params R.on_params
  params live now n x room =
      by_test (ltb AREA (length r.list + n))
      (λ e. simp (l.long, e) (faults (Plain 24) x))
      (λ e.
      by_test (eqb n 0)
      (λ z. simp (l.long, e, z) (ends_params live now x))
      (λ z. simp (l.long, e, z) (grows live x (omega (arith, l.long, ltb-false AREA (length r.list + n) e)))))

  -- ---- rule 9
  -- Content of STDIN or DATA is shown, and counted in both.
  shows : (live : r.spent ≡ false) (kind : ℕ) (due : Due) → ((b : ℕ) (x : List ℕ) → on_content due (b ∷ x) h
      ≡ record { held = showed due (length (b ∷ x)) h; event = Event.Data h.request.id kind (length (b ∷ x)) })
      → ((n : ℕ) → SameCount turn (R.shown_more due n counts) (r.shown + n))
      → (x : List ℕ) → SameChange (P.show r kind x) (ruled h due Event.None) x
  unfolding P.show P.bytes close_in
  shows live kind due f c [] =
      let z : r.shown ≡ r.shown + 0 = omega arith in
      record {
        request = record {
          id = l.id;
          role = l.role;
          turn = l.turn;
          spent = l.spent ∙ live;
          list = l.list;
          long = l.long;
          area = l.area;
          shown = subst (λ (n : ℕ). SameCount turn counts n) z l.shown;
        };
        told = refl;
        no_close = refl;
      }
  shows live kind due f c (b ∷ x) =
      let n = length (b ∷ x) in
      record {
        request =
            rw (f b x)
            (record {
              id = l.id;
              role = l.role;
              turn = l.turn;
              spent = l.spent ∙ live;
              list = l.list;
              long = l.long;
              area = l.area;
              shown = c n;
            });
        told =
            rw (f b x)
            (ap₂ (λ (i : ℕ) (u : List ℕ). showing i kind u) l.id (take-length (b ∷ x))
            ∙ same_bytes_lem r.id kind (b ∷ x));
        no_close = bytes_close_none r.id kind x;
      }

  -- the counts at the end of STDIN: nothing was shown of DATA
  after_stdin_lem : SameCount Turn.Stdin counts r.shown → (role : Role) → SameCount (after_stdin role) counts 0
  after_stdin_lem c Role.Responder = tt
  after_stdin_lem c Role.Authorizer = tt
  after_stdin_lem c Role.Filter = c.1 ∙ sym nothing_counted

  stdin : (live : r.spent ≡ false) → turn ≡ Turn.Stdin → (n : ℕ) (x : List ℕ)
      → SameChange (P.on_body r P.STDIN n x) (R.on_stdin n h) x
  unfolding P.on_body P.measure R.on_stdin
  stdin live now n x =
      let five : r.turn ≡ P.STDIN = sym l.turn ∙ ap turn_type now in
      let c = in_this_turn Turn.Stdin now in
      let m : R.stdin_measure h ≡ P.measure r P.STDIN =
      ap₂ (λ (k : ℕ) (u : List ℕ). R.measured k (stated_in u R.CONTENT_LENGTH)) c.0 l.list
      ∙ same_measure r.shown r.list R.CONTENT_LENGTH in
      by_test (eqb n 0)
      (λ z. simp z
      (turns live (after_stdin h.request.state.role) (Event.End h.request.id P.STDIN (R.stdin_measure h))
      (Event.End r.id P.STDIN (P.measure r P.STDIN)) x
      (next_stdin h.request.state.role ∙ ap₂ P.next_turn l.role (sym five))
      (after_stdin_lem c h.request.state.role)
      (ap₂ (λ (i : ℕ) (w : Measure). Told (Event.End i P.STDIN w) ∷ []) l.id m) refl))
      (λ z. simp z
      (shows live P.STDIN Due.Stdin (λ b y. refl)
      (λ k. rw now (more_shown counts.stdin r.shown k c.0, c.1)) x))

  body : (live : r.spent ≡ false) → turn ≡ Turn.Data → (n : ℕ) (x : List ℕ)
      → SameChange (P.on_body r P.DATA n x) (R.on_data n h) x
  unfolding P.on_body P.measure P.next_turn R.on_data
  body live now n x =
      let eight : r.turn ≡ P.DATA = sym l.turn ∙ ap turn_type now in
      let c = in_this_turn Turn.Data now in
      let m : R.data_measure h ≡ P.measure r P.DATA =
      ap₂ (λ (k : ℕ) (u : List ℕ). R.measured k (stated_in u R.DATA_LENGTH)) c l.list
      ∙ same_measure r.shown r.list R.DATA_LENGTH in
      by_test (eqb n 0)
      (λ z. simp z
      (turns live Turn.Done (Event.End h.request.id P.DATA (R.data_measure h))
      (Event.End r.id P.DATA (P.measure r P.DATA)) x
      (ap (P.next_turn r.role) (sym eight)) tt
      (ap₂ (λ (i : ℕ) (w : Measure). Told (Event.End i P.DATA w) ∷ []) l.id m) refl))
      (λ z. simp z
      (shows live P.DATA Due.Data (λ b y. refl) (λ k. rw now (more_shown counts.«data» r.shown k c)) x))

  -- ---- rule 7
  in_its_turn : (live : r.spent ≡ false) (kind n : ℕ) (x : List ℕ) → length x ≤ n → kind ≡ r.turn → is_input kind ≡ true
      → (t : Turn) → turn ≡ t
      → SameChange (if eqb kind P.PARAMS then P.on_params r n x else P.on_body r kind n x) (in_turn t n h) x
  in_its_turn live kind n x room k i Turn.Params e =
      let m : kind ≡ P.PARAMS = k ∙ sym l.turn ∙ ap turn_type e in rw m (params live e n x room)
  in_its_turn live kind n x room k i Turn.Stdin e =
      let m : kind ≡ P.STDIN = k ∙ sym l.turn ∙ ap turn_type e in rw m (stdin live e n x)
  in_its_turn live kind n x room k i Turn.Data e =
      let m : kind ≡ P.DATA = k ∙ sym l.turn ∙ ap turn_type e in rw m (body live e n x)
  in_its_turn live kind n x room k i Turn.Done e =
      let m : kind ≡ 0 = k ∙ sym l.turn ∙ ap turn_type e in
      let no : false ≡ true = ap is_input (sym m) ∙ i in
      let z : ◌≡◌ {A = ℕ} 0 1 = cc no in
      absurd (omega arith)

  -- ---- rules 6 to 10
  pub lives : (live : r.spent ≡ false) (kind n : ℕ) (x : List ℕ) → length x ≤ n
      → SameChange (P.on_live r kind n x) (R.on_header kind n h) x
  unfolding P.on_live P.on_stream R.on_header R.on_live R.on_input
  lives live kind n x room =
      let alive : is_spent h.request.state.life ≡ false = l.spent ∙ live in
      by_test (eqb kind P.BEGIN) (λ a. simp (alive, a) (faults (Plain 21) x))
      (λ a.
      by_test (eqb kind P.ABORT) (λ b. simp (alive, a, b) (aborts x))
      (λ b.
      by_test (is_input kind)
      (λ i.
      by_test (eqb kind r.turn)
      (λ e. simp (alive, a, b, i, l.turn, e)
      (in_its_turn live kind n x room (eqb-true kind r.turn e) i turn refl))
      (λ e. simp (alive, a, b, i, l.turn, e) (faults (Plain 22) x)))
      (λ i. simp (alive, a, b, i) (faults (Plain 23) x))))
