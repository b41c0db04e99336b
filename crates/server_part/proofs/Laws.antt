-- What holds of a part as it is written.
use Rattle.std.specs.Prelude.{ℕ, ◌≡◌, refl, Bool, true, false, not, List, length, ltb, Ok, Err, Result}
use Rattle.std.proofs.Common.{ap, ◌∙◌}
use Rattle.wire.specs.Test.{by_test}
use Rattle.record.specs.Names.{PARAMS}
use Rattle.record_writer.specs.Written.{stream_bytes, stream_fits}
use Rattle.pairs.specs.Pair.{pair_bytes}
use Rattle.pair_writer.specs.Write.{Written, MAX_WRITTEN, answered}
use Rattle.pair_stream.specs.Stream.{pair_streamed}
use Rattle.connection.specs.declared.request.Request.{Request}
use Rattle.connection.specs.Sizes.{CHUNK}
use Rattle.connection.specs.Request.{with_state}
use Rattle.connection.specs.RequestCalls.{Writing, writes}
use Rattle.server.specs.declared.state.Input.{Input}
use Rattle.server.specs.declared.answer.ServerRefusal.{ServerRefusal}
use Rattle.server.specs.Codes.{refusal_number}
use Rattle.server.specs.Calls.{Part, APair, part_bytes, state_after, too_long, own_refusal}
use Rattle.server.specs.Answer.{refusal_some}
use Rattle.server_admit.proofs.Room.{Filled, stream_room}
use Rattle.server_part.specs.Answer.{out_of_turn, late, wrote_of, said_by, part_in}
use Rattle.pair_writer.specs.declared.PairRefusal.{PairRefusal}

-- ---- the rows
module _ (r : Request) (part : Part) (l : List ℕ) where
  abbrev pub short : Bool
  short = ltb (length l) (length (part_bytes r.id part))

  -- a part that they refuse writes nothing
  refused_by_lem : (why : ServerRefusal) → own_refusal r part (length l) ≡ refusal_number why → said_by (record { wrote = Err why; request = r }) l ≡ part_in r part l
  unfolding part_in writes
  refused_by_lem why e = rw e (simp (refusal_some why))

  pub part_late : late r part ≡ true → said_by (record { wrote = Err ServerRefusal.OutOfTurn; request = r }) l ≡ part_in r part l
  part_late e = refused_by_lem ServerRefusal.OutOfTurn (simp e)

  pub part_long : late r part ≡ false → too_long part ≡ true → said_by (record { wrote = Err ServerRefusal.TooLong; request = r }) l ≡ part_in r part l
  part_long e t = refused_by_lem ServerRefusal.TooLong (simp (e, t))

  pub part_short : late r part ≡ false → too_long part ≡ false → short ≡ true → said_by (record { wrote = Err ServerRefusal.NoRoom; request = r }) l ≡ part_in r part l
  part_short e t s = refused_by_lem ServerRefusal.NoRoom (simp (e, t, s))

  -- one that they let through fills the buffer's start
  pub part_wrote : {n : ℕ} {l' : List ℕ} {after : Request} → late r part ≡ false → too_long part ≡ false → short ≡ false → Filled l (part_bytes r.id part) n l'
      → after ≡ with_state r (state_after r.state part)
      → said_by (record { wrote = Ok n; request = after }) l' ≡ part_in r part l
  unfolding part_in writes
  part_wrote e t s f a = rw (f.count, f.put, a) (simp (e, t, s))

-- ---- a pair
-- what writing it comes to, as a request's
abbrev writing_by : Request → Written → Writing
writing_by r w = record { refusal = w.refusal; written = w.bytes; request = r; buffer = w.buffer }

answer_read : (r : Request) (w : Result ℕ PairRefusal) (l : List ℕ) → said_by (record { wrote = wrote_of w; request = r }) l ≡ writing_by r (answered w l)
answer_read r (Ok n) l = refl
answer_read r (Err PairRefusal.TooLong) l = refl
answer_read r (Err PairRefusal.NoRoom) l = refl

-- its rows 8 and 6 are those of the part
pair_rows : (r : Request) (name value l : List ℕ) → out_of_turn r.state Input.Params ≡ false
    → writing_by r (pair_streamed l PARAMS r.id name value CHUNK) ≡ part_in r (APair name value) l
unfolding pair_streamed part_in writes
pair_rows r name value l e =
    let x = pair_bytes name value in
    by_test (ltb MAX_WRITTEN (length name))
    (λ n. simp (e, n))
    (λ n.
    by_test (ltb MAX_WRITTEN (length value))
    (λ v. simp (e, n, v))
    (λ v.
    by_test (ltb (length l) (length (stream_bytes CHUNK PARAMS r.id x)))
    (λ s. let f : stream_fits CHUNK (length x) 0 (length l) ≡ false = stream_room PARAMS r.id x (length l) ∙ ap not s in simp (e, n, v, s, f))
    (λ s. let f : stream_fits CHUNK (length x) 0 (length l) ≡ true = stream_room PARAMS r.id x (length l) ∙ ap not s in simp (e, n, v, s, f))))

pub pair_said : (r : Request) (name value l : List ℕ) (w : Result ℕ PairRefusal) {x : (Result ℕ ServerRefusal)} {l' : List ℕ} → out_of_turn r.state Input.Params ≡ false
    → answered w l' ≡ pair_streamed l PARAMS r.id name value CHUNK → x ≡ wrote_of w
    → said_by (record { wrote = x; request = r }) l' ≡ part_in r (APair name value) l
pair_said r name value l w {x} {l'} e f ex =
    ap (λ (y : Result ℕ ServerRefusal). said_by (record { wrote = y; request = r }) l') ex ∙ answer_read r w l' ∙ ap (writing_by r) f ∙ pair_rows r name value l e
