-- What the station says, the web server's end hears as it was meant: in any pieces, with its own calls in between, and
-- without refusal.
use Rattle.std.specs.Prelude.{ℕ, ◌≡◌, refl, List, [], ◌∷◌, ◌++◌, length}
use Rattle.std.proofs.Common.{sym, ap, ◌∙◌, subst, ⊎_elim, append-nil, append_assoc, eq-eqb}
use mathlib.Core.List.Memᴰ
use Rattle.wire.specs.Buffer.{zeros}
use Rattle.connection.specs.declared.state.Table.{Table}
use Rattle.connection.specs.Sizes.{QUERY, STORE}
use Rattle.connection.specs.Slots.{no_requests}
use Rattle.connection.specs.Step.{started as stationStarted}
use Rattle.connection.specs.Run.{start_of}
use Rattle.connection.proofs.Runs.LinkingRuns.{start_steady}
use Rattle.server.specs.Event.{Note}
use Rattle.replies_heard.proofs.Agree.{OpenWith, Each, each_none}
use Rattle.replies_heard.proofs.Behind.{server_open, nothing_left, fresh_behind}
use Rattle.replies_heard.specs.Joint.{Joint, JointMove, Station, Reads, Opens, Writes, Asks, after, heard_at, meant_at, ending, heard, meant, AllFair, NeverRefused, fresh, RepliesAreHeard}
use Rattle.replies_heard.proofs.Together.{Together, station_moves, server_reads, server_opens, server_writes, server_asks}

-- ---- any moves, from where something is left to hear
record Goes (j : Joint) (xs : List JointMove) (left : List Note) : Type 0 where
  pub rest : List Note
  pub in_order : heard j xs ++ rest ≡ left ++ meant j xs
  pub admitted : NeverRefused j xs
  pub together : Together (ending j xs) rest

-- a move of which nothing is heard or meant comes first
goes_on_lem : (x : JointMove) (j : Joint) (xs : List JointMove) (left : List Note) → Goes (after j x) xs left → heard_at j x ≡ [] → meant_at j x ≡ [] → NeverRefused j (x ∷ xs) → Goes j (x ∷ xs) left
unfolding heard meant ending
goes_on_lem x j xs left g h m n =
    record {
      rest = g.rest;
      in_order = ap (λ (l : List Note). (l ++ heard (after j x) xs) ++ g.rest) h ∙ g.in_order ∙ sym (ap (λ (l : List Note). left ++ (l ++ meant (after j x) xs)) m);
      admitted = n;
      together = g.together;
    }

goes : (xs : List JointMove) (j : Joint) (left : List Note) → Together j left → AllFair j xs → Goes j xs left
unfolding heard meant ending
goes [] j left i f = record { rest = left; in_order = sym (append-nil left); admitted = tt; together = i }
goes (Station m ∷ xs) j left i f =
    let g = goes xs (after j (Station m)) (left ++ meant_at j (Station m)) (station_moves j left m i f.0) f.1 in
    record { rest = g.rest; in_order = g.in_order ∙ append_assoc left (meant_at j (Station m)) (meant (after j (Station m)) xs); admitted = (tt, g.admitted); together = g.together }
goes (Reads n ∷ xs) j left i f =
    let k = server_reads j left n i in
    let h = heard_at j (Reads n) in
    let g = goes xs (after j (Reads n)) k.left' k.together f.1 in
    record {
      rest = g.rest;
      in_order =
          append_assoc h (heard (after j (Reads n)) xs) g.rest
          ∙ ap (λ (l : List Note). h ++ l) g.in_order
          ∙ sym (append_assoc h k.left' (meant (after j (Reads n)) xs))
          ∙ ap (λ (l : List Note). l ++ meant (after j (Reads n)) xs) (sym k.told);
      admitted = (k.admitted, g.admitted);
      together = g.together;
    }
goes (Opens id role keep buffer ∷ xs) j left i f =
    let g = goes xs (after j (Opens id role keep buffer)) left (server_opens j left id role keep buffer i) f.1 in
    goes_on_lem (Opens id role keep buffer) j xs left g refl refl (tt, g.admitted)
goes (Writes id p buffer ∷ xs) j left i f =
    let g = goes xs (after j (Writes id p buffer)) left (server_writes j left id p buffer i) f.1 in
    goes_on_lem (Writes id p buffer) j xs left g refl refl (tt, g.admitted)
goes (Asks list buffer ∷ xs) j left i f =
    let g = goes xs (after j (Asks list buffer)) left (server_asks j left list buffer i) f.1 in
    goes_on_lem (Asks list buffer) j xs left g refl refl (tt, g.admitted)

-- ---- both ends fresh
pub fresh_station : (gathered store : List ℕ) → length store ≡ STORE → (start_of gathered store).state.conn.table ≡ no_requests
unfolding start_of stationStarted
fresh_station gathered store s = simp (eq-eqb (length store) STORE s)

fresh_together : (gathered store values : List ℕ) → length gathered ≡ QUERY → length store ≡ STORE → length values ≡ QUERY → Together (fresh gathered store values) []
fresh_together gathered store values hg hs hv =
    record {
      steady = start_steady gathered store hg hs;
      table = no_requests;
      values = zeros (length values);
      behind = fresh_behind values hv;
      agree = subst (λ (s : Table). Each s (λ id i. OpenWith no_requests id)) (sym (fresh_station gathered store hs)) (each_none (λ id i. OpenWith no_requests id));
      rests = λ id p. ⊎_elim (λ w. absurd (Memᴰ.not-nil w)) (λ w. absurd (Memᴰ.not-nil w)) p;
      apart = λ id w. absurd (Memᴰ.not-nil w);
    }

pub replies_are_heard : RepliesAreHeard
replies_are_heard gathered store values xs hg hs hv f =
    let j = fresh gathered store values in
    let g = goes xs j [] (fresh_together gathered store values hg hs hv) f in
    let e = ending j xs in
    let k = g.together in
    record {
      rest = g.rest;
      in_order = g.in_order;
      all = λ w. sym (append-nil (heard j xs)) ∙ ap (λ (l : List Note). heard j xs ++ l) (sym (nothing_left e.server e.wire g.rest k.table k.values k.behind w)) ∙ g.in_order;
      admitted = g.admitted;
      still_open = server_open e.server e.wire g.rest k.table k.values k.behind;
    }
