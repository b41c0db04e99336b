-- What a station with a queue writes, the web server's end hears as it was meant: in any pieces, with its own calls in
-- between, and without refusal.
use Rattle.std.specs.Prelude.{◌≡◌, List, [], ◌∷◌, ◌++◌, length}
use Rattle.std.proofs.Common.{sym, ap, ◌∙◌, ⊎_elim, append-nil, append_assoc}
use mathlib.Core.List.Memᴰ
use Rattle.wire.specs.Buffer.{zeros}
use Rattle.connection.specs.Slots.{no_requests}
use Rattle.server.specs.Event.{Note}
use Rattle.queue.specs.Run.{final_queue, QueueRun, beginning}
use Rattle.queue_theorem.proofs.Theorem.{start_fine}
use Rattle.queue_runs.proofs.Closing.{closed_keeps_nothing}
use Rattle.replies_heard.proofs.Behind.{server_open, nothing_left, fresh_behind}
use Rattle.replies_heard.proofs.JointTheorem.{fresh_station}
use Rattle.queue_heard.specs.Joint.{Joint, JointMove, after, heard_at, meant_at, ending, heard, meant, AllFair, NeverRefused, Lent, fresh, WritingsAreHeard}
use Rattle.queue_heard.proofs.Sends.{none_agree}
use Rattle.queue_heard.proofs.Together.{Together, moves_on}

-- ---- any moves, from where something is left to hear
record Goes (j : Joint) (xs : List JointMove) (left : List Note) : Type 0 where
  pub rest : List Note
  pub in_order : heard j xs ++ rest ≡ left ++ meant j xs
  pub admitted : NeverRefused j xs
  pub together : Together (ending j xs) rest

goes : (xs : List JointMove) (j : Joint) (left : List Note) → Together j left → AllFair j xs → Goes j xs left
unfolding heard meant ending
goes [] j left i f = record { rest = left; in_order = sym (append-nil left); admitted = tt; together = i }
goes (x ∷ xs) j left i f =
    let k = moves_on x j left i f.0 in
    let g = goes xs (after j x) k.left' k.together f.1 in
    let h = heard_at j x in
    let m = meant (after j x) xs in
    record {
      rest = g.rest;
      in_order =
          append_assoc h (heard (after j x) xs) g.rest
          ∙ ap (λ (l : List Note). h ++ l) g.in_order
          ∙ sym (append_assoc h k.left' m)
          ∙ ap (λ (l : List Note). l ++ m) k.told
          ∙ append_assoc left (meant_at j x) m;
      admitted = (k.admitted, g.admitted);
      together = g.together;
    }

-- ---- both ends fresh
-- the station's start, as that of a run without operations
abbrev started : Lent → QueueRun
started l =
    record {
      gathered = l.gathered;
      store = l.store;
      queue = l.queue;
      marks = l.marks;
      operations = [];
      gathered_size = l.gathered_size;
      store_size = l.store_size;
      queue_size = l.queue_size;
      marks_size = l.marks_size;
      pieces = tt;
    }

pub fresh_together : (l : Lent) → Together (fresh l) []
unfolding final_queue
fresh_together l =
    record {
      fine = start_fine (started l);
      nothing = closed_keeps_nothing (started l);
      table = no_requests;
      values = zeros (length l.values);
      behind = fresh_behind l.values l.values_size;
      agree = none_agree (beginning (started l)) no_requests (fresh_station l.gathered l.store l.store_size);
      rests = λ id p. ⊎_elim (λ w. absurd (Memᴰ.not-nil w)) (λ w. absurd (Memᴰ.not-nil w)) p;
      apart = λ id w. absurd (Memᴰ.not-nil w);
    }

pub writings_are_heard : WritingsAreHeard
writings_are_heard l xs f =
    let j = fresh l in
    let g = goes xs j [] (fresh_together l) f in
    let e = ending j xs in
    let k = g.together in
    record {
      rest = g.rest;
      in_order = g.in_order;
      all = λ w. sym (append-nil (heard j xs)) ∙ ap (λ (l : List Note). heard j xs ++ l) (sym (nothing_left e.server e.wire g.rest k.table k.values k.behind w)) ∙ g.in_order;
      admitted = g.admitted;
      still_open = server_open e.server e.wire g.rest k.table k.values k.behind;
    }
