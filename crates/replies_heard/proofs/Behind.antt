-- The server's end and the wire: what it comes to once it has read all that is on it. Bytes that are written go behind,
-- and a step takes some off. Nothing here speaks of a station.
use Rattle.std.specs.Prelude.{ℕ, ◌≤◌, ◌≡◌, true, List, [], ◌∷◌, ◌++◌, length, take, drop}
use Rattle.std.proofs.Common.{sym, ap, ap₂, ◌∙◌, arith, length-take, take-append-drop, take-take}
use Rattle.wire.specs.Buffer.{zeros}
use Rattle.wire.proofs.Bytes.{AllBytes, take_bytes, drop_bytes, append_bytes}
use Rattle.connection.specs.declared.state.Table.{Table}
use Rattle.connection.specs.Sizes.{QUERY}
use Rattle.connection.specs.Slots.{no_requests}
use Rattle.record_rules.specs.Rules.{Reader, Run, and_then, by_byte, step, used}
use Rattle.record_rules.proofs.Laws.{Fit, step_by_byte, by_byte_append, by_byte_none, open_before, uses, step_none}
use Rattle.server.specs.Event.{Note, notes}
use Rattle.server.specs.Step.{State, state_at, idle, stepped, started, rules}
use Rattle.server.proofs.Laws.{Ready, lawful}
use Rattle.server.proofs.Stepping.{Good, reader_of, Came, reads, step_good, start_good}
use Rattle.server.proofs.WrittenBytes.{no_bytes}
use Rattle.server.proofs.Meaning.{ends, Heard}

-- Once it has read the wire, the server's end stands between two records with that table and those lent bytes, and has
-- heard what is left to hear.
pub record Behind (server : State) (wire : List ℕ) (left : List Note) (t : Table) (v : List ℕ) : Type 0 where
  pub good : Good server
  pub bytes : AllBytes wire
  pub reads_on_lem : by_byte rules (reader_of server) wire ≡ ends t v left
  pub ready : Ready (idle t true v) 0

module _ (server : State) (wire : List ℕ) (left : List Note) (t : Table) (v : List ℕ) (i : Behind server wire left t v) where
  -- It is open while it would be open behind the wire.
  pub server_open : server.server.«open» ≡ true
  server_open = open_before rules lawful wire (reader_of server) (ap (λ (r : Run rules). r.reader.inner.«open») i.reads_on_lem)

  -- With the wire empty nothing is left to hear.
  pub nothing_left : wire ≡ [] → left ≡ []
  nothing_left e =
      sym (ap (λ (r : Run rules). r.notes) (sym (by_byte_none rules lawful (reader_of server)) ∙ ap (by_byte rules (reader_of server)) (sym e) ∙ i.reads_on_lem))

  -- More is written.
  pub written_behind : (x : List ℕ) (u : Table) (w : List ℕ) (l : List Note) → AllBytes x → Heard t v x u w l → Behind server (wire ++ x) (left ++ l) u w
  written_behind x u w l ok k =
      record {
        good = i.good;
        bytes = append_bytes wire x i.bytes ok;
        reads_on_lem =
            by_byte_append rules lawful wire (reader_of server) x
            ∙ ap (λ (r : Run rules). and_then rules r (λ c. by_byte rules c x)) i.reads_on_lem
            ∙ ap (λ (r : Run rules). record { reader = r.reader; notes = left ++ r.notes }) k.same;
        ready = k.ready;
      }

-- ---- the server's end reads
used_few : (a : Reader rules) (x : List ℕ) → Fit rules lawful a → a.inner.«open» ≡ true → used rules a x ≤ length x
used_few a [] fit o = rw (step_none rules lawful a).1 (omega arith)
used_few a (b ∷ x) fit o = (uses rules lawful a (b ∷ x) fit o (omega arith)).1

-- a step over the first bytes of some bytes, and then the rest
split : (a : Reader rules) (w : List ℕ) (n : ℕ) → Fit rules lawful a → a.inner.«open» ≡ true
    → by_byte rules a w ≡ and_then rules (step rules a (take n w)) (λ c. by_byte rules c (drop (used rules a (take n w)) w))
split a w n fit o =
    let x = take n w in
    let m = used rules a x in
    let t : take m x ≡ take m w = take-take m n w (omega (arith, used_few a x fit o, length-take n w)) in
    ap (by_byte rules a) (sym (take-append-drop m w))
    ∙ by_byte_append rules lawful (take m w) a (drop m w)
    ∙ ap (λ (r : Run rules). and_then rules r (λ c. by_byte rules c (drop m w))) (ap (by_byte rules a) (sym t) ∙ sym (step_by_byte rules lawful a x fit))

-- a step over the first n bytes of the wire: what is left to hear then
pub record ReadsOn (server : State) (wire : List ℕ) (left : List Note) (t : Table) (v : List ℕ) (n : ℕ) : Type 0 where
  pub left' : List Note
  pub told : left ≡ notes (stepped server (take n wire)).event (take (stepped server (take n wire)).used (take n wire)) (stepped server (take n wire)).state.values ++ left'
  pub admitted : (stepped server (take n wire)).refusal ≡ 0
  pub behind : Behind (stepped server (take n wire)).state (drop (stepped server (take n wire)).used wire) left' t v

pub server_reads : (server : State) (wire : List ℕ) (left : List Note) (t : Table) (v : List ℕ) (n : ℕ) → Behind server wire left t v → ReadsOn server wire left t v n
server_reads server w left t v n i =
    let a = reader_of server in
    let x = take n w in
    let o = server_open server w left t v i in
    let k = reads server x i.good o in
    let r = step rules a x in
    let rest = drop (used rules a x) w in
    let state : (stepped server x).state ≡ state_at r.reader.position r.reader.inner = ap (λ (c : Came). c.state) k.same in
    let all : and_then rules r (λ c. by_byte rules c rest) ≡ ends t v left = sym (split a w n i.good.fit o) ∙ i.reads_on_lem in
    let next = by_byte rules r.reader rest in
    let next-is : next ≡ ends t v next.notes = ap (λ (c : Reader rules). record { reader = c; notes = next.notes }) (ap (λ (q : Run rules). q.reader) all) in
    record {
      left' = next.notes;
      told = sym (ap (λ (q : Run rules). q.notes) all) ∙ ap (λ (l : List Note). l ++ next.notes) (sym (ap (λ (c : Came). c.notes) k.same));
      admitted = k.admitted;
      behind = record {
        good = step_good server x i.good (take_bytes n w i.bytes);
        bytes = drop_bytes (stepped server x).used w i.bytes;
        reads_on_lem = ap₂ (λ (c : State) (m : ℕ). by_byte rules (reader_of c) (drop m w)) state k.used_same ∙ next-is;
        ready = i.ready;
      };
    }

-- ---- a server's end as it starts
pub fresh_behind : (values : List ℕ) → length values ≡ QUERY → Behind (started values) [] [] no_requests (zeros (length values))
unfolding started
fresh_behind values hv =
    let good = start_good values hv in
    record { good = good; bytes = no_bytes; reads_on_lem = by_byte_none rules lawful (reader_of (started values)); ready = good.fit.ready }
