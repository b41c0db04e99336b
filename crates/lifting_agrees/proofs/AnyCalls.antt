-- Any calls, with pieces and buffers of any length: what was written and what waits is the copy of what was used, and
-- the verdict is that of what was used.
use Rattle.std.specs.Prelude.{ℕ, ◌+◌, ◌-◌, ◌≤◌, ◌<◌, ◌≡◌, refl, Bool, true, false, ltb, leb, if◌then◌else◌}
use Rattle.std.proofs.Math.Path.{sym, ap, ap₂, subst, subst₂}
use Rattle.std.proofs.Common.{◌∙◌, inl, arith, take-append-drop, take_all, take_at, take-take, drop-drop, length-take-le, ltb-true, ltb-false, leb-true, leb-false, eq-eqb, ne_eqb}
use mathlib.Core.List.{List, [], ◌∷◌, ◌++◌, append-nil, append_assoc}
use Rattle.std.proofs.Math.ListN.{length, take, drop, length-take}
use Rattle.wire.specs.Test.{by_test}
use Rattle.wire.specs.Buffer.{put_at}
use Rattle.connection.specs.Sizes.{QUERY, STORE}
use Rattle.connection.specs.Step.{stepped, started}
use Rattle.connection.specs.Run.{start_of}
use Rattle.wire.proofs.Bytes.{AllBytes, take_bytes}
use Rattle.record_reader.specs.declared.Position.{Position}
use Rattle.record_reader.specs.Position.{between_records, after}
use Rattle.plain_agrees.specs.Agreement.{is_between}
use Rattle.lifting.specs.Lift.{Clean, Cut, lift_of, copy_of, verdict_of}
use Rattle.lifting.specs.Call.{Lifting, Lifted, LiftStarted, fresh_lifting, start_refusal, lift_started, waiting_bytes, with_waiting, header_written, copies_content, offered, after_bytes, reads_on, stands, lifted, verdict_now}
use Rattle.lifting_agrees.specs.Statement.{Call, Outcome, all_lifted, PiecesAreBytes, lift_run}
use Rattle.lifting_agrees.proofs.CallLaws.{admitted, call_writes, call_reads, call_stands, waiting_length}
use Rattle.lifting_agrees.proofs.Replay.{replay_start}
use Rattle.lifting_agrees.proofs.Reading.{Reading, Stands}
use Rattle.lifting_agrees.proofs.OneStep.{Known}
use Rattle.lifting_agrees.proofs.ReadStep.{read_step}

-- ---- lists
-- the first ones, by their number
first_by_length : (n : ℕ) (u : List ℕ) → take (length (take n u)) u ≡ take n u
first_by_length n u =
    by_test (leb n (length u)) (λ t. ap (λ (k : ℕ). take k u) (length-take-le n u (leb-true n (length u) t)))
    (λ t.
    let all = take_all n u (omega (arith, leb-false n (length u) t)) in
    ap (λ (v : List ℕ). take (length v) u) all ∙ take_all (length u) u (omega arith) ∙ sym all)

-- the first ones, and those after them
first_and_rest : (n : ℕ) (u : List ℕ) → take n u ++ drop (length (take n u)) u ≡ u
first_and_rest n u =
    ap (λ (v : List ℕ). v ++ drop (length (take n u)) u) (sym (first_by_length n u))
    ∙ take-append-drop (length (take n u)) u

-- bytes put at the start of a buffer
put_first : (buffer y : List ℕ) → take (length y) (put_at buffer 0 y) ≡ y
put_first buffer y = take_at y (drop (0 + length y) buffer) (length y) refl

-- what is offered, of which the first n are used
offered_bytes : (c : Bool) (room : ℕ) (piece : List ℕ) → AllBytes piece
    → AllBytes (if c then take room piece else piece)
offered_bytes true room piece all = take_bytes room piece all
offered_bytes false room piece all = all

offered_first : (c : Bool) (room : ℕ) (piece : List ℕ) (n : ℕ)
    → take (length (take n (if c then take room piece else piece))) piece
    ≡ take n (if c then take room piece else piece)
offered_first true room piece n =
    let u = take room piece in
    let k = length (take n u) in
    sym (take-take k room piece (omega (arith, length-take n u, length-take room piece))) ∙ first_by_length n u
offered_first false room piece n = first_by_length n piece

-- what is written of bytes that are content
written_first : (c : Bool) (buffer y : List ℕ)
    → take (if c then length y else 0) (if c then put_at buffer 0 y else buffer) ≡ (if c then y else [])
written_first true buffer y = put_first buffer y
written_first false buffer y = refl

-- ---- one call
-- where it leads
abbrev outcome_of : Outcome → List ℕ → Lifted → Outcome
outcome_of o piece r =
    record {
      used = o.used ++ take r.used piece;
      written = o.written ++ take r.written r.buffer;
      lifting = r.lifting;
      store = r.store;
    }

-- another number of bytes waits, and it stands where it stood
waits_on : (R : ℕ) (x : List ℕ) (l : Lifting) (n : ℕ) → Stands R x l → Stands R x (with_waiting l n)
waits_on R x l n (r, unfinished) =
    let next : Reading R x (with_waiting l n) = record {
      before = r.before;
      part = r.part;
      joined = r.joined;
      requests = r.requests;
      begun = r.begun;
      copy = r.copy;
      goes = r.goes;
      position = r.position;
      begun_before_lem = r.begun_before_lem;
      begun_now = r.begun_now;
      copied = r.copied;
      start = r.start;
    } in
    (next, unfinished)

module _ (gathered store : List ℕ) (R : ℕ) (o : Outcome) (a : Known gathered store R o) where
  abbrev l : Lifting
  l = o.lifting

  -- What waits is written as far as there is room.
  after_writes : (piece buffer : List ℕ)
      → Known gathered store R (outcome_of o piece (header_written l o.store buffer))
  unfolding header_written verdict_now
  after_writes piece buffer =
      let w = waiting_bytes l in
      let bytes = take (length buffer) w in
      let k = length bytes in
      let m = length w - k in
      let n = waiting_length l a.eight in
      let few : k ≤ length w = omega (arith, length-take (length buffer) w) in
      let place : 8 - m ≡ 8 - l.waiting + k = omega (arith, a.few) in
      let rest : drop (8 - m) l.header ≡ drop k w =
      ap (λ (i : ℕ). drop i l.header) place ∙ sym (drop-drop k (8 - l.waiting) l.header) in
      subst
      (λ (u : List ℕ).
      Known gathered store R
      (record {
        used = u;
        written = o.written ++ take k (put_at buffer 0 bytes);
        lifting = with_waiting l m;
        store = o.store;
      }))
      (sym (append-nil o.used))
      (record {
        replayed = a.replayed;
        id = a.id;
        eight = a.eight;
        few = omega (arith, a.few);
        counted = a.counted;
        written =
            ap₂ (λ (u v : List ℕ). o.written ++ u ++ v) (put_first buffer bytes) rest
            ∙ append_assoc o.written bytes (drop k w)
            ∙ ap (λ (u : List ℕ). o.written ++ u) (first_and_rest (length buffer) w)
            ∙ a.written;
        verdict = a.verdict;
        stands = λ still. waits_on R o.used l m (a.stands still);
      })

  -- Nothing changes.
  after_stands : (piece buffer : List ℕ) → Known gathered store R (outcome_of o piece (stands 0 l o.store buffer))
  after_stands piece buffer =
      subst
      (λ (u : List ℕ).
      Known gathered store R
      (record { used = u; written = o.written ++ []; lifting = l; store = o.store }))
      (sym (append-nil o.used))
      (subst
      (λ (u : List ℕ).
      Known gathered store R (record { used = o.used; written = u; lifting = l; store = o.store }))
      (sym (append-nil o.written)) a)

  -- A step of the receiver.
  after_reads : (piece buffer : List ℕ) → length gathered ≡ QUERY → length store ≡ STORE → 0 < R
      → l.state.conn.«open» ≡ true → l.waiting ≡ 0 → AllBytes piece
      → Known gathered store R (outcome_of o piece (reads_on l o.store piece buffer))
  unfolding reads_on
  after_reads piece buffer g full positive is_open idle all =
      let bytes = offered l piece (length buffer) in
      let s = stepped l.state o.store bytes in
      let y = take s.used bytes in
      subst₂
      (λ (u v : List ℕ).
      Known gathered store R
      (record { used = o.used ++ u; written = o.written ++ v; lifting = after_bytes l s y; store = s.store }))
      (sym (offered_first (copies_content l) (length buffer) piece s.used))
      (sym (written_first (copies_content l) buffer y))
      (read_step
      (record {
        gathered_size = g;
        store_size = full;
        some_id = positive;
        known = a;
        is_open = is_open;
        idle = idle;
        are_bytes = offered_bytes (copies_content l) (length buffer) piece all;
      }))

  -- Any call.
  after_call : (piece buffer : List ℕ) → length gathered ≡ QUERY → length store ≡ STORE → 0 < R → AllBytes piece
      → Known gathered store R (outcome_of o piece (lifted l o.store piece buffer))
  after_call piece buffer g full positive all =
      let z = a.replayed.steady in
      let admits = admitted l o.store
      (record { size = z.sizes.full; shape = z.shape; some_id = λ e. omega (arith, a.id) }) in
      by_test (ltb 0 l.waiting)
      (λ t.
      rw (call_writes l o.store piece buffer admits (ltb-true 0 l.waiting t)) (after_writes piece buffer))
      (λ t.
      let idle : l.waiting ≡ 0 = omega (arith, ltb-false 0 l.waiting t) in
      by_test l.state.conn.«open»
      (λ still.
      rw (call_reads l o.store piece buffer admits idle still)
      (after_reads piece buffer g full positive still idle all))
      (λ shut. rw (call_stands l o.store piece buffer admits idle shut) (after_stands piece buffer)))

-- ---- the start
lift_starts : (gathered store : List ℕ) (R : ℕ) → length store ≡ STORE → 0 < R
    → lift_started gathered store R
    ≡ record {
      refusal = 0;
      lifting = fresh_lifting (started gathered store).state R;
      store = (started gathered store).store;
    }
unfolding lift_started start_refusal
lift_starts gathered store R full positive =
    simp (eq-eqb (length store) STORE full, ne_eqb R 0 (λ z. omega arith))

start_position : (gathered store : List ℕ) → length store ≡ STORE
    → (started gathered store).state.conn.frame.position ≡ between_records
unfolding started
start_position gathered store full = simp (eq-eqb (length store) STORE full)

after_fresh : (gathered store : List ℕ) (R : ℕ) → length gathered ≡ QUERY → length store ≡ STORE
    → Known gathered store R
    (record {
      used = [];
      written = [];
      lifting = fresh_lifting (started gathered store).state R;
      store = (started gathered store).store;
    })
unfolding start_of verdict_now lift_of after
after_fresh gathered store R g full =
    let p = start_position gathered store full in
    record {
      replayed = replay_start gathered store g full;
      id = refl;
      eight = refl;
      few = omega arith;
      counted = refl;
      written = refl;
      verdict = ap (λ (q : Position). if is_between q then Clean else Cut) p;
      stands = λ still. let r : Reading R [] (fresh_lifting (started gathered store).state R) = record {
        before = [];
        part = [];
        joined = refl;
        requests = [];
        begun = false;
        copy = [];
        goes = λ y. refl;
        position = p;
        begun_before_lem = λ short. refl;
        begun_now = λ long. absurd (omega arith);
        copied = λ long. absurd (omega arith);
        start = λ some. absurd (omega arith);
      } in
          (r, inl (omega arith));
    }

-- ---- all calls
after_calls : (gathered store : List ℕ) (R : ℕ) → length gathered ≡ QUERY → length store ≡ STORE → 0 < R
    → (cs : List Call) → PiecesAreBytes cs → (o : Outcome) → Known gathered store R o
    → Known gathered store R (all_lifted o cs)
unfolding all_lifted
after_calls gathered store R g full positive [] all o a = a
after_calls gathered store R g full positive (c ∷ cs) (one, all) o a =
    after_calls gathered store R g full positive cs all _
    (after_call gathered store R o a c.piece c.buffer g full positive one)

pub any_calls : (gathered store : List ℕ) (R : ℕ) (cs : List Call) → length gathered ≡ QUERY → length store ≡ STORE
    → 0 < R → PiecesAreBytes cs
    → ((lift_run gathered store R cs).written ++ waiting_bytes (lift_run gathered store R cs).lifting
    ≡ copy_of R (lift_run gathered store R cs).used)
    × (verdict_now (lift_run gathered store R cs).lifting ≡ verdict_of (lift_run gathered store R cs).used)
any_calls gathered store R cs g full positive all =
    let first =
    subst
    (λ (r : LiftStarted).
    Known gathered store R (record { used = []; written = []; lifting = r.lifting; store = r.store }))
    (sym (lift_starts gathered store R full positive)) (after_fresh gathered store R g full) in
    let a = after_calls gathered store R g full positive cs all _ first in
    (a.written, a.verdict)
