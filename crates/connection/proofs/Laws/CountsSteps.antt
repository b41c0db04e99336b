-- After a step the counts of R's request are those before it, changed by what the step tells of R.
use Rattle.std.specs.Prelude.{◌≡◌, refl, List, [], ◌∷◌, ◌++◌, map, Bool, true, ℕ, suc, ◌+◌, ◌<◌, min, length, take, eqb, leb, Some, None}
use Rattle.std.proofs.Common.{ap, ap₂, sym, ◌∙◌, subst, arith, take_all, length-take-le, eqb-true, eq-eqb, ne_eqb}
use Rattle.std.proofs.lemmas.Bool.{eqb-false}
use Rattle.wire.specs.Test.{by_test}
use Rattle.record.specs.Names.{STDIN, DATA}
use Rattle.record_reader.specs.declared.Position.{Position}
use Rattle.connection.specs.declared.request.Request.{Request}
use Rattle.connection.specs.declared.request.Role.{Role}
use Rattle.connection.specs.declared.request.Due.{Due}
use Rattle.connection.specs.declared.request.Shown.{Shown}
use Rattle.connection.specs.declared.state.Table.{Table}
use Rattle.connection.specs.declared.state.Target.{Target}
use Rattle.connection.specs.declared.state.Conn.{Conn}
use Rattle.connection.specs.Sizes.{SLOTS, AREA}
use Rattle.connection.specs.Event.{Event}
use Rattle.connection.specs.Codes.{role_number}
use Rattle.connection.specs.Request.{Held, Ruled, with_turn, with_life, counted, shown_more, showed, faulted, aborted, turned, on_header, grown, on_content, opened}
use Rattle.connection.specs.Slots.{request_at, held_at, put_request, take_slot, free_slot_of, find}
use Rattle.connection.specs.Step.{State, Left, due_to, closes, on_active, of_request, on_target, Stepped, leaves, advances, stepped}
use Rattle.connection.specs.Bytewise.{Note, showing, notes}
use Rattle.connection.specs.Run.{Observed, Heard}
use Rattle.connection.specs.Counts.{count_after, shown_in}
use Rattle.connection.proofs.Laws.SlotsLaws.{Sized, Holds, Distinct, request_of_put, request_of_other, find_put, request_of_take, other_of_take, taken_of_take_other, find_at, only_slot}
use Rattle.connection.specs.Fits.{Aimed}
use Rattle.connection.proofs.Laws.ShapeLaws.{shaped}
use Rattle.connection.proofs.Laws.Counting.{counted_twice}
use Rattle.connection.proofs.Laws.Progress.{Fits, fits_admitted, in_content, less_content, step_nothing, step_advances, step_uses_some}
use Rattle.connection.proofs.Laws.Ways.{Nameless, Way, concerned, by_way}
use Rattle.connection.proofs.Laws.Rules.{by_rule}
use Rattle.connection.proofs.Laws.Spent.{due_use}

-- ---- counts over what is observed
-- Two lists, one after the other.
pub shown_append : (R stream n : ℕ) (x y : List Observed) → shown_in R stream n (x ++ y) ≡ shown_in R stream (shown_in R stream n x) y
unfolding shown_in
shown_append R stream n [] y = refl
shown_append R stream n (o ∷ x) y = shown_append R stream (count_after R stream n o) x y

-- Both counts after what is observed.
abbrev pub shown_after : ℕ → Shown → List Observed → Shown
shown_after R c os = record { stdin = shown_in R STDIN c.stdin os; «data» = shown_in R DATA c.«data» os }

-- what is observed of a step with that event and those bytes
abbrev pub heard_of : Event → List ℕ → List Observed
heard_of e x = map Heard (notes e x)

-- One byte that is shown: of another request, of R's other stream, of that stream of R.
byte_other : (R stream n id s b : ℕ) → (id ≡ R → ⊥) → count_after R stream n (Heard (Note.Shown id s b)) ≡ n
byte_other R stream n id s b ne = rw (ne_eqb id R ne)

byte_beside : (R stream n s b : ℕ) → (s ≡ stream → ⊥) → count_after R stream n (Heard (Note.Shown R s b)) ≡ n
byte_beside R stream n s b ne = rw (eq-eqb R R refl, ne_eqb s stream ne)

byte_own : (R stream n b : ℕ) → count_after R stream n (Heard (Note.Shown R stream b)) ≡ counted n 1
byte_own R stream n b = rw (eq-eqb R R refl, eq-eqb stream stream refl)

-- Bytes of another request, and of R's other stream, count nothing.
shown_other : (R stream n id s : ℕ) (x : List ℕ) → (id ≡ R → ⊥) → shown_in R stream n (map Heard (showing id s x)) ≡ n
unfolding shown_in showing
shown_other R stream n id s [] ne = refl
shown_other R stream n id s (b ∷ x) ne = shown_other R stream (count_after R stream n (Heard (Note.Shown id s b))) id s x ne ∙ byte_other R stream n id s b ne

shown_beside : (R stream n s : ℕ) (x : List ℕ) → (s ≡ stream → ⊥) → shown_in R stream n (map Heard (showing R s x)) ≡ n
unfolding shown_in showing
shown_beside R stream n s [] ne = refl
shown_beside R stream n s (b ∷ x) ne = shown_beside R stream (count_after R stream n (Heard (Note.Shown R s b))) s x ne ∙ byte_beside R stream n s b ne

-- Bytes of that stream of R are counted one by one, as they are at once; first after k others.
shown_more_lem : (R stream n k : ℕ) (x : List ℕ) → shown_in R stream (counted n k) (map Heard (showing R stream x)) ≡ counted n (k + length x)
unfolding shown_in showing
shown_more_lem R stream n k [] = let z : k ≡ k + 0 = omega arith in ap (counted n) z
shown_more_lem R stream n k (b ∷ x) =
    let z : k + 1 + length x ≡ k + suc (length x) = omega arith in
    ap (λ c. shown_in R stream c (map Heard (showing R stream x))) (byte_own R stream (counted n k) b ∙ counted_twice n k 1)
    ∙ shown_more_lem R stream n (k + 1) x
    ∙ ap (counted n) z

shown_own : (R stream n : ℕ) (x : List ℕ) → 0 < length x → shown_in R stream n (map Heard (showing R stream x)) ≡ counted n (length x)
unfolding shown_in showing
shown_own R stream n [] some = absurd (omega arith)
shown_own R stream n (b ∷ x) some =
    let z : 1 + length x ≡ suc (length x) = omega arith in
    ap (λ c. shown_in R stream c (map Heard (showing R stream x))) (byte_own R stream n b) ∙ shown_more_lem R stream n 1 x ∙ ap (counted n) z

-- An event of no active request counts nothing.
nameless_counts : (R : ℕ) (c : Shown) (t : Table) (e : Event) (x : List ℕ) → Nameless t e → shown_after R c (heard_of e x) ≡ c
unfolding shown_in
nameless_counts R c t Event.None x q = refl
nameless_counts R c t (Event.Refuse id status) x q = refl
nameless_counts R c t (Event.Query conns reqs mpxs) x q = refl
nameless_counts R c t (Event.Unknown kind) x q = refl
nameless_counts R c t (Event.Open _ _ _) x q = elim q [ ]
nameless_counts R c t (Event.Ready _ _) x q = elim q [ ]
nameless_counts R c t (Event.Data _ _ _) x q = elim q [ ]
nameless_counts R c t (Event.End _ _ _) x q = elim q [ ]
nameless_counts R c t (Event.Abort _) x q = elim q [ ]
nameless_counts R c t (Event.Fault _ _) x q = elim q [ ]
nameless_counts R c t (Event.Closed _) x q = elim q [ ]

-- ---- the rules of one request
-- A request h becomes q, and this is observed. The id stays. If the request is R's, its counts are changed by what is
-- observed; if not, what is observed changes no count of R.
record Counts (R : ℕ) (h q : Held) (seen : List Observed) : Type 0 where
  id : q.request.id ≡ h.request.id
  own : h.request.id ≡ R → q.request.state.shown ≡ shown_after R h.request.state.shown seen
  other : (h.request.id ≡ R → ⊥) → (c : Shown) → shown_after R c seen ≡ c

-- a header: a fault of R sets both counts to 0, and nothing else changes one
header_counts : (R kind n : ℕ) (h : Held) (x : List ℕ) → Counts R h (on_header kind n h).held (heard_of (on_header kind n h).event x)
unfolding faulted aborted turned with_turn with_life shown_in
header_counts R kind n h x =
    by_rule (λ (r : Ruled). Counts R h r.held (heard_of r.event x)) h
    (λ d. record { id = refl; own = λ e. refl; other = λ e c. refl })
    (λ cause fault. record { id = refl; own = λ e. rw (eq-eqb h.request.id R e); other = λ e c. rw (ne_eqb h.request.id R e) })
    (record { id = refl; own = λ e. refl; other = λ e c. refl })
    (λ t. record { id = refl; own = λ e. refl; other = λ e c. refl })
    (λ t s m. record { id = refl; own = λ e. refl; other = λ e c. refl })
    kind n

-- the bytes x of a stream of R, shown: its count grows by them
abbrev Grows : ℕ → Due → ℕ → List ℕ → Type 0
Grows R due stream x = (c : Shown) → shown_more due (length x) c ≡ shown_after R c (map Heard (showing R stream x))

stdin_grows : (R : ℕ) (x : List ℕ) → 0 < length x → Grows R Due.Stdin STDIN x
stdin_grows R x some c =
    sym (ap₂ (λ n k. record { stdin = n; «data» = k }) (shown_own R STDIN c.stdin x some) (shown_beside R DATA c.«data» STDIN x (λ z. omega arith)))

data_grows : (R : ℕ) (x : List ℕ) → 0 < length x → Grows R Due.Data DATA x
data_grows R x some c =
    sym (ap₂ (λ n k. record { stdin = n; «data» = k }) (shown_beside R STDIN c.stdin DATA x (λ z. omega arith)) (shown_own R DATA c.«data» x some))

stream_counts : (R : ℕ) (due : Due) (stream : ℕ) (bytes x : List ℕ) (h : Held) → Grows R due stream x → length bytes ≡ length x
    → Counts R h (showed due (length bytes) h) (heard_of (Event.Data h.request.id stream (length bytes)) x)
stream_counts R due stream bytes x h grows e =
    let all : take (length bytes) x ≡ x = take_all (length bytes) x (omega arith) in
    rw (all, e)
    (record {
      id = refl;
      own = λ is. grows h.request.state.shown ∙ ap (λ id. shown_after R h.request.state.shown (map Heard (showing id stream x))) (sym is);
      other = λ ne c. ap₂ (λ n k. record { stdin = n; «data» = k }) (shown_other R STDIN c.stdin h.request.id stream x ne) (shown_other R DATA c.«data» h.request.id stream x ne);
    })

-- content over the bytes x that a step used: STDIN and DATA of R are counted
content_counts : (R : ℕ) (due : Due) (bytes x : List ℕ) (h : Held) → (on_content due bytes h).event ≡ (on_content due x h).event → 0 < length x
    → Counts R h (on_content due bytes h).held (heard_of (on_content due bytes h).event x)
unfolding grown shown_in
content_counts R Due.Skip bytes x h e some = record { id = refl; own = λ e. refl; other = λ e c. refl }
content_counts R Due.Params bytes x h e some =
    by_test (leb (h.request.length + length bytes) AREA)
    (λ t. simp t (record { id = refl; own = λ e. refl; other = λ e c. refl }))
    (λ t. simp t (record { id = refl; own = λ e. refl; other = λ e c. refl }))
content_counts R Due.Stdin bytes x h e some = stream_counts R Due.Stdin STDIN bytes x h (stdin_grows R x some) (cc)
content_counts R Due.Data bytes x h e some = stream_counts R Due.Data DATA bytes x h (data_grows R x some) (cc)

-- ---- the slots
-- The counts of R, where a slot holds it.
abbrev pub CountsIn : ℕ → Shown → Table → Type 0
CountsIn R c t = (i : ℕ) → find t R ≡ Some i → (request_at t i).state.shown ≡ c

-- The same of a connection, while it is open.
abbrev pub CountsOf : ℕ → Shown → Conn → Type 0
CountsOf R c conn = conn.«open» ≡ true → CountsIn R c conn.table

-- A request put into slot j, with the id of the one that it held.
pub put_counts : (R : ℕ) (c d : Shown) (t : Table) (j : ℕ) (r : Request) → Sized t → CountsIn R c t → r.id ≡ (request_at t j).id
    → (find t R ≡ Some j → r.state.shown ≡ d) → ((find t R ≡ Some j → ⊥) → c ≡ d) → CountsIn R d (put_request t j r)
put_counts R c d t j r sized counts id own other i f =
    let found : find t R ≡ Some i = sym (find_put t j r R id) ∙ f in
    by_test (eqb i j)
    (λ e.
    let q : i ≡ j = eqb-true i j e in
    subst (λ k. (request_at (put_request t k r) i).state.shown ≡ d) q
    (ap (λ (x : Request). x.state.shown) (request_of_put t i r sized (find_at t R i found).low) ∙ own (rw (← q) found)))
    (λ e.
    let ne = eqb-false i j e in
    ap (λ (x : Request). x.state.shown) (request_of_other t j i r ne) ∙ counts i found ∙ other (λ g. ne (cc (found, g))))

-- An id that is not active takes the free slot k: it opens with no bytes shown.
take_counts : (R : ℕ) (c : Shown) (t : Table) (id : ℕ) (role : Role) (keep : Bool) (x : List ℕ) → Sized t → Distinct t → free_slot_of t < SLOTS → find t id ≡ None → CountsIn R c t
    → CountsIn R (shown_after R c (heard_of (Event.Open id (role_number role) keep) x)) (take_slot t (free_slot_of t) (opened id role keep))
unfolding opened shown_in request_at
take_counts R c t id role keep x sized distinct low idle counts i f =
    by_test (eqb i k) (λ e. taken_now (eqb-true i k e)) (λ e. taken_before (eqb-false i k e))
  where
    k : ℕ
    k = free_slot_of t

    r : Request
    r = opened id role keep

    d : Shown
    d = shown_after R c (heard_of (Event.Open id (role_number role) keep) x)

    own : Holds (take_slot t k r) R i
    own = find_at (take_slot t k r) R i f

    taken_now : i ≡ k → (request_at (take_slot t k r) i).state.shown ≡ d
    taken_now q =
        let here = subst (λ n. request_at (take_slot t k r) n ≡ r) (sym q) (request_of_take t k r sized low) in
        let same : id ≡ R = ap (λ (x : Request). x.id) (sym here) ∙ own.has_id in
        ap (λ (x : Request). x.state.shown) here ∙ rw (eq-eqb id R same)

    taken_before : (i ≡ k → ⊥) → (request_at (take_slot t k r) i).state.shown ≡ d
    taken_before ne =
        let kept = other_of_take t k i r ne in
        let found : find t R ≡ Some i =
        only_slot t distinct R i
        (record { low = own.low; slot_taken = sym (taken_of_take_other t k i r ne) ∙ own.slot_taken; has_id = ap (λ (x : Request). x.id) (sym kept) ∙ own.has_id }) in
        let apart : id ≡ R → ⊥ = λ q. let z : ◌≡◌ {A = ℕ} 0 1 = cc (idle, ap (λ n. find t n) q, found) in omega arith in
        ap (λ (x : Request). x.state.shown) kept ∙ counts i found ∙ rw (ne_eqb id R apart)

-- ---- a step
-- content is due to a target: what a step over it comes to
content_step : (st : State) (store piece : List ℕ) (target : Target) → Fits st.conn store → 0 < length piece → st.conn.frame.target ≡ target → 0 < st.conn.frame.position.content
    → (n : ℕ) × (q : Position) × (stepped st store piece ≡ leaves n (on_target target st store (take n piece) q))
unfolding advances
content_step st store piece target fits many aim some =
    let p = st.conn.frame.position in
    let n = min p.content (length piece) in
    (n, less_content p n, step_advances st store piece (fits_admitted st.conn store fits) many ∙ rw (in_content p piece some, aim))

-- Content of a request tells of the bytes that the step used.
fed_same : (st : State) (store piece : List ℕ) (due : Due) (i : ℕ) (bytes : List ℕ) (p : Position) (used : ℕ) → Fits st.conn store → 0 < length piece
    → st.conn.frame.target ≡ due_to due i → 0 < st.conn.frame.position.content → leaves used (of_request st store due i bytes p) ≡ stepped st store piece
    → (on_content due bytes (held_at st.conn.table store i)).event ≡ (on_content due (take used piece) (held_at st.conn.table store i)).event
unfolding of_request
fed_same st store piece Due.Skip i bytes p used fits many aim some e = refl
fed_same st store piece Due.Params i bytes p used fits many aim some e = refl
fed_same st store piece Due.Stdin i bytes p used fits many aim some e =
    let k = content_step st store piece (Target.Stdin i) fits many aim some in
    ap (λ (s : Stepped). s.event) (e ∙ k.2) ∙ ap (λ n. (on_content Due.Stdin (take n piece) (held_at st.conn.table store i)).event) (sym (ap (λ (s : Stepped). s.used) (e ∙ k.2)))
fed_same st store piece Due.Data i bytes p used fits many aim some e =
    let k = content_step st store piece (Target.Data i) fits many aim some in
    ap (λ (s : Stepped). s.event) (e ∙ k.2) ∙ ap (λ n. (on_content Due.Data (take n piece) (held_at st.conn.table store i)).event) (sym (ap (λ (s : Stepped). s.used) (e ∙ k.2)))

-- The counts of R after a step are c, changed by what the step tells over the bytes that it used.
abbrev pub Follows : ℕ → Shown → List ℕ → Stepped → Type 0
Follows R c piece s = CountsOf R (shown_after R c (heard_of s.event (take s.used piece))) s.state.conn

-- one over a piece that is not empty
some_counts : (R : ℕ) (c : Shown) (st : State) (store piece : List ℕ) → 0 < length piece → Sized st.conn.table → CountsOf R c st.conn → Follows R c piece (stepped st store piece)
unfolding closes on_active of_request shown_in request_at
some_counts R c st store piece many sized counts =
    by_way (λ (s : Stepped). s ≡ stepped st store piece → Follows R c piece s) st store piece (λ n e. counts) go refl
  where
    t : Table
    t = st.conn.table

    -- the request of slot j is put back
    puts : (j : ℕ) (q : Held) (seen : List Observed) → CountsIn R c t → ((request_at t j).id ≡ R → find t R ≡ Some j) → Counts R (held_at t store j) q seen
        → CountsIn R (shown_after R c seen) (put_request t j q.request)
    puts j q seen now mine w =
        put_counts R c (shown_after R c seen) t j q.request sized now w.id
        (λ f. w.own (find_at t R j f).has_id ∙ ap (λ d. shown_after R d seen) (now j f))
        (λ f. sym (w.other (λ e. f (mine e)) c))

    -- content of the request of slot j; no other slot has its id
    feeds : (due : Due) (j : ℕ) (bytes : List ℕ) (p : Position) (used : ℕ) → (due ≡ Due.Skip → ⊥) → Fits st.conn store → st.conn.frame.target ≡ due_to due j
        → 0 < st.conn.frame.position.content → leaves used (of_request st store due j bytes p) ≡ stepped st store piece → Follows R c piece (leaves used (of_request st store due j bytes p))
    feeds due j bytes p used skip fits aim some same o =
        let u = ap (λ (s : Stepped). s.used) same in
        let w = step_uses_some st store piece fits.shape fits.is_open fits.size many in
        let n : length (take used piece) ≡ used = length-take-le used piece (omega arith) in
        let s = shaped st.conn fits.shape in
        let x = due_use due j t _ _ skip (subst (λ w. Aimed w t st.conn.frame.gathered st.conn.frame.position.content) aim s.target) in
        puts j _ _ (counts fits.is_open) (λ q. only_slot t s.table.distinct R j (record { low = x.low; slot_taken = x.slot_taken; has_id = q }))
        (content_counts R due bytes (take used piece) (held_at t store j) (fed_same st store piece due j bytes p used fits many aim some same) (omega arith))

    go : Fits st.conn store → (used : ℕ) (l : Left) → Way st store (concerned st piece) l → leaves used l ≡ stepped st store piece → Follows R c piece (leaves used l)
    go fits used _ (Way.Reads g f e q) same o = subst (λ d. CountsIn R d t) (sym (nameless_counts R c t e (take used piece) q)) (counts fits.is_open)
    go fits used _ (Way.Closes g n k) same o = let z : ◌≡◌ {A = ℕ} 0 1 = cc in absurd (omega arith)
    go fits used _ (Way.Rules h j k e) same o =
        puts j _ _ (counts fits.is_open) (λ q. subst (λ n. find t n ≡ Some j) (sym (find_at t h.id j e).has_id ∙ q) e)
        (header_counts R h.kind h.content (held_at t store j) (take used piece))
    go fits used _ (Way.Feeds Due.Skip j bytes p k low aim some) same o = let now = counts fits.is_open in put_counts R c c t j (request_at t j) sized now refl (now j) (λ f. refl)
    go fits used _ (Way.Feeds Due.Params j bytes p k low aim some) same o = feeds Due.Params j bytes p used (λ x. let z : ◌≡◌ {A = ℕ} 0 1 = cc in omega arith) fits aim some same o
    go fits used _ (Way.Feeds Due.Stdin j bytes p k low aim some) same o = feeds Due.Stdin j bytes p used (λ x. let z : ◌≡◌ {A = ℕ} 0 1 = cc in omega arith) fits aim some same o
    go fits used _ (Way.Feeds Due.Data j bytes p k low aim some) same o = feeds Due.Data j bytes p used (λ x. let z : ◌≡◌ {A = ℕ} 0 1 = cc in omega arith) fits aim some same o
    go fits used _ (Way.Takes id role keep f k low idle) same o =
        take_counts R c t id role keep (take used piece) sized (shaped st.conn fits.shape).table.distinct low idle (counts fits.is_open)

-- any step
pub step_counts : (R : ℕ) (c : Shown) (st : State) (store piece : List ℕ) → Sized st.conn.table → CountsOf R c st.conn → Follows R c piece (stepped st store piece)
unfolding shown_in
step_counts R c st store [] sized counts = rw (step_nothing st store) counts
step_counts R c st store (b ∷ piece) sized counts = some_counts R c st store (b ∷ piece) (omega arith) sized counts
