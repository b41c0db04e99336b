-- The quick ways are steps.
use Rattle.connection.specs.Slots.{Slot}
use Rattle.std.specs.Prelude.{ℕ, ◌+◌, ◌≤◌, ◌<◌, min, ◌≡◌, refl, true, false, List, length, take, drop, get_or, ltb, eqb, Some, None}
use Rattle.std.proofs.Common.{sym, ap, ◌∙◌, arith, length-take-le, get_or-take, ltb-true, leb-true, eqb-true, ne_eqb, eq-eqb}
use Rattle.std.proofs.Math.ListN.{get_or-append}
use Rattle.std.proofs.lemmas.List.{set-get_or}
use Rattle.wire.specs.Test.{by_test}
use Rattle.record.specs.Names.{VERSION}
use Rattle.record.specs.Header.{header_of}
use Rattle.record.specs.declared.header.Header.{Header}
use Rattle.record_reader.specs.Position.{held_and, after_header, in_header, advanced}
use Rattle.record_reader.specs.declared.Position.{Position}
use Rattle.record_reader.specs.declared.Phase.{Phase}
use Rattle.slot_word.proofs.WordLaws.{mark_same}
use Rattle.connection.specs.declared.event.Stream.{Stream}
use Rattle.connection.specs.declared.request.Turn.{Turn}
use Rattle.connection.specs.declared.request.Due.{Due}
use Rattle.connection.specs.declared.state.Table.{Table}
use Rattle.connection.specs.declared.state.Target.{Target}
use Rattle.connection.specs.declared.state.Frame.{Frame}
use Rattle.connection.specs.declared.event.Event.{Event as CodeEvent}
use Rattle.connection.specs.Event.{Event}
use Rattle.connection.specs.Decision.{open_state}
use Rattle.connection.specs.Codes.{stream_type, stream_due}
use Rattle.connection.specs.Request.{counts_on, is_spent, turn_type, on_stdin, on_data, on_input, on_live, on_header, Held, ruled}
use Rattle.connection.specs.Slots.{no_standing, standing_of, request_at, put_request, held_at, find, on_slot}
use Rattle.connection.proofs.Laws.SlotsLaws.{put_same, area_put_same, find_at}
use Rattle.connection.specs.Fits.{InUse, Aimed}
use Rattle.connection.specs.Fits.{HeaderFits}
use Rattle.connection.proofs.Laws.StateShape.{aimed_if}
use Rattle.connection.proofs.Laws.Progress.{less_content, in_content, in_header_lem, in_whole}
use Rattle.connection.specs.Step.{Left, open_with, frame_after, frame_within, target_if, reads, leaves, due_to, rules, on_active, judged, of_request, on_target, advances}
use Rattle.conn_content.proofs.Laws.{stream_shown}
use Rattle.conn_quick.specs.Quick.{is_stream, is_shown, slot_of, stream_of, stream_to, goes_to, headed_to, is_headed}
use Rattle.conn_quick.specs.Passes.{counted_at, Passes}

-- ---- content of STDIN or DATA
-- The request with the bytes counted, put back: its counts alone change.
counts_put : (t : Table) (i : ℕ) (due : Due) (n : ℕ) → counted_at t i due n ≡ put_request t i (counts_on due n (request_at t i))
unfolding put_request request_at
counts_put t i due n =
    rw (
      set-get_or t.ids i 0,
      set-get_or t.lengths i 0,
      set-get_or t.standings i no_standing,
      mark_same i t.keep,
      mark_same i t.out_ended,
      mark_same i t.err_used,
      mark_same i t.err_ended,
    )

-- what n bytes of a stream leave that are shown
abbrev shows_of : Stream → ℕ → ℕ → Table → Frame → List ℕ → List ℕ → Position → Left
shows_of stream i n t f g s p =
    record {
      conn = open_with (counted_at t i (stream_due stream) n) (frame_within f p f.gathered f.body);
      gathered = g;
      store = s;
      event = Event.Data (get_or t.ids i 0) (stream_type stream) n;
    }

stream_shows : (stream : Stream) (i : ℕ) (t : Table) (f : Frame) (g s bytes : List ℕ) (p : Position)
    → shows_of stream i (length bytes) t f g s p ≡ of_request (open_state t f g) s (stream_due stream) i bytes p
unfolding request_at
stream_shows stream i t f g s bytes p =
    ap
    (λ (u : Table). record {
      conn = open_with u (frame_within f p f.gathered f.body);
      gathered = g;
      store = s;
      event = Event.Data (get_or t.ids i 0) (stream_type stream) (length bytes);
    })
    (counts_put t i (stream_due stream) (length bytes))
    ∙ stream_shown stream t f g s i bytes p

-- It is what the target does with them.
shown_target : (target : Target) (t : Table) (f : Frame) (g s bytes : List ℕ) (p : Position) → is_stream target ≡ true
    → shows_of (stream_of target) (slot_of target) (length bytes) t f g s p ≡ on_target target (open_state t f g) s bytes p
shown_target Target.Skip t f g s bytes p h = let z : ◌≡◌ {A = ℕ} 0 1 = cc in absurd (omega arith)
shown_target (Target.Begin id) t f g s bytes p h = let z : ◌≡◌ {A = ℕ} 0 1 = cc in absurd (omega arith)
shown_target Target.Query t f g s bytes p h = let z : ◌≡◌ {A = ℕ} 0 1 = cc in absurd (omega arith)
shown_target (Target.Params i) t f g s bytes p h = let z : ◌≡◌ {A = ℕ} 0 1 = cc in absurd (omega arith)
shown_target (Target.Stdin i) t f g s bytes p h = stream_shows Stream.Stdin i t f g s bytes p
shown_target (Target.Data i) t f g s bytes p h = stream_shows Stream.Data i t f g s bytes p

-- A step shows as much of it as the piece has.
pub content_shown : (t : Table) (f : Frame) (g s piece : List ℕ) → is_shown f.position.content f.target ≡ true
    → (let a = advanced f.position piece in
    leaves a.used (shows_of (stream_of f.target) (slot_of f.target) a.used t f g s a.position) ≡ advances (open_state t f g) s piece a)
unfolding advances
content_shown t f g s piece e =
    by_test (ltb 0 f.position.content)
    (λ l.
    let n = min f.position.content (length piece) in
    let q = less_content f.position n in
    let used : length (take n piece) ≡ n = length-take-le n piece (omega arith) in
    rw (in_content f.position piece (ltb-true 0 f.position.content l))
    (ap (λ (m : ℕ). leaves n (shows_of (stream_of f.target) (slot_of f.target) m t f g s q)) (sym used)
    ∙ ap (leaves n) (shown_target f.target t f g s (take n piece) q (simp l at e))))
    (λ l. let z : ◌≡◌ {A = ℕ} 0 1 = cc (simp l at e) in absurd (omega arith))

-- ---- a header that goes on with STDIN or DATA
-- a piece that begins with a header
pub headed : (p : Position) (n : ℕ) → is_headed p n ≡ true → (p.content ≡ 0) × (p.padding ≡ 0) × (p.held ≡ 0) × (8 ≤ n)
headed p n e =
    by_test (eqb p.content 0)
    (λ a. by_test (eqb p.padding 0)
    (λ b. by_test (eqb p.held 0)
    (λ c. (eqb-true p.content 0 a, eqb-true p.padding 0 b, eqb-true p.held 0 c, leb-true 8 n (simp (a, b, c) at e)))
    (λ c. let z : ◌≡◌ {A = ℕ} 0 1 = cc (simp (a, b, c) at e) in absurd (omega arith)))
    (λ b. let z : ◌≡◌ {A = ℕ} 0 1 = cc (simp (a, b) at e) in absurd (omega arith)))
    (λ a. let z : ◌≡◌ {A = ℕ} 0 1 = cc (simp a at e) in absurd (omega arith))

-- its bytes are the first of the piece
first_byte : (header piece : List ℕ) (k : ℕ) → 8 ≤ length piece → k < 8 → get_or (held_and 0 header 8 piece) k 0 ≡ get_or piece k 0
first_byte header piece k l h =
    let n : length (take 8 piece) ≡ 8 = length-take-le 8 piece l in
    get_or-append (take 8 piece) (drop (0 + length (take 8 piece)) header) 0 k (omega arith) ∙ get_or-take 8 piece k 0 h

header_first : (header piece : List ℕ) → 8 ≤ length piece → header_of (held_and 0 header 8 piece) ≡ header_of piece
unfolding header_of
header_first header piece l =
    rw (
      first_byte header piece 0 l (omega arith),
      first_byte header piece 1 l (omega arith),
      first_byte header piece 2 l (omega arith),
      first_byte header piece 3 l (omega arith),
      first_byte header piece 4 l (omega arith),
      first_byte header piece 5 l (omega arith),
      first_byte header piece 6 l (omega arith),
    )

-- so the reader takes it whole
header_read : (p : Position) (piece : List ℕ) → is_headed p (length piece) ≡ true
    → advanced p piece ≡ record { used = 8; phase = Phase.Whole (header_of piece); position = after_header (header_of piece) }
header_read p piece e =
    let h = headed p (length piece) e in
    in_header_lem p piece h.0 h.1
    ∙ ap (λ (k : ℕ). in_header k p.header piece) h.2
    ∙ in_whole 0 p.header piece (omega arith) (omega (arith, h.3))
    ∙ ap (λ (a : Header). record { used = 8; phase = Phase.Whole a; position = after_header a }) (header_first p.header piece h.3)

-- where its content goes, its request being in slot i
pub headed_at : (t : Table) (h : Header) (i : ℕ) → h.version ≡ VERSION → (h.id ≡ 0 → ⊥) → (h.content ≡ 0 → ⊥) → find t h.id ≡ Some i
    → headed_to t h ≡ goes_to (get_or t.standings i no_standing) h.kind i
unfolding headed_to request_at
headed_at t h i v d n e = simp (eq-eqb h.version VERSION v, ne_eqb h.id 0 d, ne_eqb h.content 0 n, e)

-- what is due to the request whose turn it is
abbrev due_of : Turn → Due
due_of Turn.Params = Due.Skip
due_of Turn.Stdin = Due.Stdin
due_of Turn.Data = Due.Data
due_of Turn.Done = Due.Skip

-- A header that goes on with a stream: what it says, and the request that it is for.
record Streams (t : Table) (h : Header) (i : ℕ) : Type 0 where
  version : eqb h.version VERSION ≡ true
  id : eqb h.id 0 ≡ false
  content : eqb h.content 0 ≡ false
  slot : find t h.id ≡ Some i
  live : is_spent (request_at t i).state.life ≡ false
  kind : h.kind ≡ turn_type (request_at t i).state.turn
  turn : is_stream (stream_to (request_at t i).state.turn i) ≡ true
  target : headed_to t h ≡ stream_to (request_at t i).state.turn i

-- Where the target is a stream, it is one.
streams : (t : Table) (h : Header) → is_stream (headed_to t h) ≡ true → (i : ℕ) × Streams t h i
unfolding headed_to
streams t h e =
    by_test (eqb h.version VERSION)
    (λ a. by_test (eqb h.id 0)
    (λ b. let z : ◌≡◌ {A = ℕ} 0 1 = cc (simp (a, b) at e) in absurd (omega arith))
    (λ b. by_test (eqb h.content 0)
    (λ c. let z : ◌≡◌ {A = ℕ} 0 1 = cc (simp (a, b, c) at e) in absurd (omega arith))
    (λ c. found a b c (find t h.id) refl (simp (a, b, c) at e))))
    (λ a. let z : ◌≡◌ {A = ℕ} 0 1 = cc (simp a at e) in absurd (omega arith))
  where
    found : eqb h.version VERSION ≡ true → eqb h.id 0 ≡ false → eqb h.content 0 ≡ false
        → (w : Slot) → find t h.id ≡ w → is_stream (on_slot w (λ i. goes_to (standing_of (request_at t i).state) h.kind i) Target.Skip) ≡ true
        → (i : ℕ) × Streams t h i
    found a b c None s e' = let z : ◌≡◌ {A = ℕ} 0 1 = cc in absurd (omega arith)
    found a b c (Some i) s e' =
        let m = (request_at t i).state in
        by_test (is_spent m.life)
        (λ l. let z : ◌≡◌ {A = ℕ} 0 1 = cc (simp l at e') in absurd (omega arith))
        (λ l. by_test (eqb h.kind (turn_type m.turn))
        (λ k. (
          i,
          record {
            version = a;
            id = b;
            content = c;
            slot = s;
            live = l;
            kind = eqb-true h.kind (turn_type m.turn) k;
            turn = simp (l, k) at e';
            target = simp (a, b, c, s, l, k);
          },
        ))
        (λ k. let z : ◌≡◌ {A = ℕ} 0 1 = cc (simp (l, k) at e') in absurd (omega arith)))

-- what it does to that request: nothing, and its content is due
stream_rules : (w : Turn) (kind n i : ℕ) (h : Held) → is_spent h.request.state.life ≡ false → h.request.state.turn ≡ w → kind ≡ turn_type w → eqb n 0 ≡ false
    → is_stream (stream_to w i) ≡ true → on_header kind n h ≡ ruled h (due_of w) Event.None
unfolding on_header on_live on_input on_stdin on_data
stream_rules Turn.Params kind n i h l t k c e = let z : ◌≡◌ {A = ℕ} 0 1 = cc in absurd (omega arith)
stream_rules Turn.Stdin kind n i h l t k c e = simp (l, t, k, c)
stream_rules Turn.Data kind n i h l t k c e = simp (l, t, k, c)
stream_rules Turn.Done kind n i h l t k c e = let z : ◌≡◌ {A = ℕ} 0 1 = cc in absurd (omega arith)

-- where that content goes
stream_due_lem : (w : Turn) (i : ℕ) → due_to (due_of w) i ≡ stream_to w i
stream_due_lem Turn.Params i = refl
stream_due_lem Turn.Stdin i = refl
stream_due_lem Turn.Data i = refl
stream_due_lem Turn.Done i = refl

-- which is a slot in use
stream_aimed : (w : Turn) (i : ℕ) (t : Table) (gathered left : ℕ) → InUse t i → Aimed (stream_to w i) t gathered left
stream_aimed Turn.Params i t gathered left u = tt
stream_aimed Turn.Stdin i t gathered left u = u
stream_aimed Turn.Data i t gathered left u = u
stream_aimed Turn.Done i t gathered left u = tt

-- so the rules leave all but the frame
stream_judged : (t : Table) (f : Frame) (g s : List ℕ) (h : Header) → is_stream (headed_to t h) ≡ true
    → judged (open_state t f g) s h ≡ reads (open_state t f g) s (frame_after h (headed_to t h)) Event.None
unfolding judged on_active
stream_judged t f g s h e =
    let x = streams t h e in
    let i = x.0 in
    let k = x.1 in
    let w = (request_at t i).state.turn in
    let r = stream_rules w h.kind h.content i (held_at t s i) k.live refl k.kind k.content k.turn in
    simp (k.version, k.id, k.slot)
    (ap (rules (open_state t f g) s h i) r
    ∙ rw (put_same t i, area_put_same s i, k.target, stream_due_lem w i))

-- and so does its step
header_passes : (t : Table) (f : Frame) (g s piece : List ℕ) → is_headed f.position (length piece) ≡ true → is_stream (headed_to t (header_of piece)) ≡ true
    → leaves 8 (reads (open_state t f g) s (frame_after (header_of piece) (headed_to t (header_of piece))) Event.None)
    ≡ advances (open_state t f g) s piece (advanced f.position piece)
unfolding advances
header_passes t f g s piece a e =
    rw (header_read f.position piece a) (ap (leaves 8) (sym (stream_judged t f g s (header_of piece) e)))

-- The target fits the table.
header_aimed : (t : Table) (h : Header) → is_stream (headed_to t h) ≡ true → Aimed (target_if h.content (headed_to t h)) t 0 h.content
header_aimed t h e =
    let x = streams t h e in
    let u = find_at t h.id x.0 x.1.slot in
    aimed_if h.content 0 (headed_to t h) t
    (λ _. rw x.1.target (stream_aimed (request_at t x.0).state.turn x.0 t 0 h.content (record { low = u.low; slot_taken = u.slot_taken })))

-- Such a header passes: its step leaves the frame after it, in shape.
pub header_passed : (t : Table) (f : Frame) (piece : List ℕ) (h : Header) (target : Target) (after : Frame) → is_headed f.position (length piece) ≡ true → h ≡ header_of piece
    → target ≡ headed_to t h → is_stream target ≡ true → HeaderFits h → after ≡ frame_after h target
    → Passes (record { used = 8; event = CodeEvent.Nothing; frame = after }) t f piece
header_passed t f piece h target after a b d e fits q =
    let s : is_stream (headed_to t h) ≡ true = rw (← d) e in
    let whole : after ≡ frame_after (header_of piece) (headed_to t (header_of piece)) = q ∙ rw (d, b) in
    let s' : is_stream (headed_to t (header_of piece)) ≡ true = rw (← b) s in
    record {
      same = λ g st. rw whole (header_passes t f g st piece a s');
      position = rw q (record { held = omega arith; content = fits.content; padding = fits.padding });
      target = rw (q, d) (header_aimed t h s);
    }
