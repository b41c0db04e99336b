-- END among what is written in a turn, and closes in it.
use Rattle.std.specs.Prelude.{◌≡◌, refl, List, [], ◌∷◌, ◌++◌, map, Bool, true, false, ℕ, ◌<◌, length, eqb}
use Rattle.std.proofs.Math.Path.{ap}
use Rattle.std.proofs.Common.{◌∙◌}
use Rattle.wire.specs.Test.{by_test}
use Rattle.record.specs.Names.{END_REQUEST}
use Rattle.record_writer.specs.Written.{record_bytes}
use Rattle.connection.specs.declared.answer.Output.{Output}
use Rattle.connection.specs.Codes.{output_type}
use Rattle.connection.specs.Slots.{request_at}
use Rattle.connection.specs.Calls as C
use Rattle.connection.specs.Run.{Memory}
use Rattle.queue_slot.specs.Atoms.{Atom, ByteOn, EndOf, EndRequest, end_waits, stream_atoms, record_atoms}
use Rattle.queue_slot.proofs.AtomLaws.{atoms_one, output_atoms}
use Rattle.queue.specs.Calls.{QueueMemory, conn_of, or, served_last, released_slot, PumpedRecord, pump_slot, turned}
use Rattle.queue_link.proofs.LinkedWritten.{read_of, if_own, own_one}
use Rattle.queue_runs.proofs.Changes.{Serving, Goes, Ends, serving, turn_keeps}

-- ---- END among what is written
-- END among atoms is in the first part of them, or in the second.
pub end_either : (l k : List Atom) → end_waits (l ++ k) ≡ or (end_waits l) (end_waits k)
unfolding end_waits
end_either [] k = refl
end_either (ByteOn o b ∷ l) k = end_either l k
end_either (EndOf o ∷ l) k = end_either l k
end_either (EndRequest c ∷ l) k = refl

-- What is said on a stream is not END.
pub no_end : (o : Output) (x : List ℕ) → end_waits (stream_atoms o x) ≡ false
unfolding end_waits
no_end o [] = refl
no_end o (b ∷ x) = go x
  where
    go : (y : List ℕ) → end_waits (map (ByteOn o) y) ≡ false
    go [] = refl
    go (c ∷ y) = go y

-- ---- closes in a turn
-- A closed connection stays closed through a record.
pub closed_record : (m : QueueMemory) (i : ℕ) (p : PumpedRecord) → (conn_of m).«open» ≡ false → Serving m i p → (conn_of p.left).«open» ≡ false
unfolding C.released
closed_record m i p c (Goes e) = ap (λ (x : Memory). x.state.conn.«open») e ∙ c
closed_record m i p c (Ends status) = go (request_at (conn_of m).table i).state.keep
  where
    go : (b : Bool) → (conn_of (released_slot (served_last m i) i b)).«open» ≡ false
    go true = c
    go false = refl

-- It does through a turn.
pub closed_turn : (k : ℕ) (m : QueueMemory) → (conn_of m).«open» ≡ false → (conn_of (turned k m).left).«open» ≡ false
closed_turn k m c = turn_keeps (λ q. (conn_of q).«open» ≡ false) (λ q i low w d. closed_record q i (pump_slot q i) d (serving q i)) k m c

-- ---- what records say of R
module _ (R : ℕ) where
  -- a record of a stream has no END
  pub stream_read : (o : Output) (id : ℕ) (x : List ℕ) → id < 65536 → length x < 65536 → end_waits (read_of R (record_bytes (output_type o) id x)) ≡ false
  unfolding end_waits
  stream_read o id x hi hx =
      ap end_waits (own_one R (output_type o) id x hi hx ∙ ap (if_own R id) (atoms_one (output_type o) id x hx ∙ output_atoms o x))
      ∙ by_test (eqb id R) (λ e. rw e (no_end o x)) (λ e. rw e)

  -- END is R's where its id is R
  pub end_read : (id : ℕ) (x : List ℕ) → id < 65536 → length x < 65536 → end_waits (read_of R (record_bytes END_REQUEST id x)) ≡ eqb id R
  unfolding end_waits record_atoms
  end_read id x hi hx =
      ap end_waits (own_one R END_REQUEST id x hi hx ∙ ap (if_own R id) (atoms_one END_REQUEST id x hx))
      ∙ by_test (eqb id R) (λ e. rw e) (λ e. rw e)
