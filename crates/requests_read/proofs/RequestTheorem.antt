-- A request that the server's end writes in its turns on a fresh connection is read by the station as just that request,
-- in any cutting.
use Rattle.std.specs.Prelude.{ℕ, ◌≤◌, ◌<◌, ◌≡◌, refl, true, List, [], ◌∷◌, ◌++◌, length, eqb, None}
use Rattle.std.proofs.Common.{sym, ap, ◌∙◌, subst, arith, eqb-true, ltb-true, ltb-false}
use Rattle.wire.specs.Test.{by_test}
use Rattle.pair_list.proofs.ReadBackList.{written_contents}
use Rattle.connection.specs.Sizes.{SLOTS}
use Rattle.connection.specs.Codes.{role_number}
use Rattle.connection.specs.Event.{Event}
use Rattle.connection.specs.Request.{opened}
use Rattle.connection.specs.Slots.{no_requests, take_slot, free_slot_of, find}
use Rattle.connection.specs.Step.{State, started}
use Rattle.connection.specs.Bytewise.{Note, Run, by_byte}
use Rattle.connection.proofs.Laws.Cutting.{pieces_by_byte}
use Rattle.meaning.proofs.Theorem.{start_between}
use Rattle.server.specs.Step.{State as ServerState, started as serverStarted}
use Rattle.server.specs.Calls.{Written, begin_bytes, is_role, role_of, part_bytes, open_request}
use Rattle.server.proofs.Stepping.{start_good}
use Rattle.server.proofs.Writing.{with_table, open_written, open_holding}
use Rattle.requests_read.specs.Parts.{SoFar, begun, so_far, all_so_far, part_told, parts_told, ListFits}
use Rattle.requests_read.specs.StationHas.{StationHas}
use Rattle.requests_read.specs.WrittenRequest.{PartCall, lacks, parts_in, short_buffers, parts_of, whole_of, InTurns, bytes_in, called, RequestsAreRead}
use Rattle.requests_read.proofs.PartsLaws.{Possible, possible_begun, possible_part, fits_before}
use Rattle.requests_read.proofs.StationLeads.{Leads, nothing_leads, then_leads}
use Rattle.requests_read.proofs.StationReads.{part_read}
use Rattle.requests_read.proofs.StationOpens.{opens_request, fresh_none, fresh_room, fresh_table}
use Rattle.requests_read.proofs.ServerHas.{ServerHas, front_put, part_leaves, part_lacks, part_writes, part_kept}

-- ---- the calls that write its parts
-- Both ends have the request as it was written so far. The calls are refused where they lack room, and what the others
-- write leads the station on.
record CallsRead (sb : ServerState) (st : State) (store : List ℕ) (id i : ℕ) (s : SoFar) (xs : List PartCall) : Type 0 where
  refusals : (called sb.server id xs).refusals ≡ short_buffers id xs
  leads : Leads st store (called sb.server id xs).bytes id i (all_so_far s (parts_in id xs)) (parts_told id s (parts_in id xs))
  possible : Possible (all_so_far s (parts_in id xs))

calls_read : (xs : List PartCall) (sb : ServerState) (st : State) (store : List ℕ) (id j i : ℕ) (s : SoFar) → id < 65536 → ServerHas sb id j s → StationHas st store id i s → Possible s → InTurns id s xs
    → ListFits (all_so_far s (parts_in id xs)) → CallsRead sb st store id i s xs
unfolding called parts_in short_buffers all_so_far parts_told
calls_read [] sb st store id j i s small server has w turns fits = record { refusals = refl; leads = nothing_leads st store id i s has; possible = w }
calls_read (x ∷ xs) sb st store id j i s small server has w turns fits =
    let p = x.part in
    let live = turns.0 in
    by_test (lacks id x)
    (λ l.
    let e = part_lacks sb id j s p x.buffer server live turns.1 turns.2 (ltb-true (length x.buffer) (length (part_bytes id p)) l) in
    let rest = calls_read xs sb st store id j i s small server has w (rw l at turns.3) (rw l at fits) in
    record { refusals = rw (l, e) (ap (λ (m : List ℕ). 6 ∷ m) rest.refusals); leads = rw (l, e) rest.leads; possible = rw l rest.possible })
    (λ l.
    let ps = parts_in id xs in
    let u = so_far s p in
    let room = ltb-false (length x.buffer) (length (part_bytes id p)) l in
    let fits1 : ListFits (all_so_far u ps) = rw l at fits in
    let e = part_writes sb id j s p x.buffer server live turns.1 turns.2 room in
    let sb1 = part_leaves sb id j s p x.buffer server live turns.1 turns.2 in
    let first = part_read id i small p st store s has live turns.1 turns.2 (fits_before ps u fits1) w in
    let r = by_byte st store (part_bytes id p) in
    let rest = calls_read xs sb1 r.state r.store id j i u small (part_kept sb id j s p x.buffer server live turns.1 turns.2) first.has (possible_part p s turns.2 w) (rw l at turns.3) fits1 in
    let both = then_leads st store (part_bytes id p) (called sb1.server id xs).bytes id i u (all_so_far u ps) (part_told id s p) (parts_told id u ps) first rest.leads in
    record { refusals = rw (l, e) (ap (λ (m : List ℕ). 0 ∷ m) rest.refusals); leads = rw (l, e, front_put (part_bytes id p) x.buffer) both; possible = rw l rest.possible })

-- ---- its opening
-- a known role's number
pub role_number_back : (n : ℕ) → is_role n ≡ true → n ≡ role_number (role_of n)
role_number_back n e =
    by_test (eqb n 1) (λ a. rw a (eqb-true n 1 a))
    (λ a. by_test (eqb n 2) (λ b. rw (a, b) (eqb-true n 2 b))
    (λ b. by_test (eqb n 3) (λ c. rw (a, b, c) (eqb-true n 3 c)) (λ c. let z : ◌≡◌ {A = ℕ} 0 1 = cc (simp (a, b, c) at e) in absurd (omega arith))))

pub fresh_server : (values : List ℕ) → ((serverStarted values).server.table ≡ no_requests) × ((serverStarted values).server.«open» ≡ true)
unfolding serverStarted
fresh_server values = (refl, refl)

pub requests_are_read : RequestsAreRead
requests_are_read q values gathered store pieces k hv hg hs e =
    let id = q.id in
    let role = role_of q.role in
    let s = begun role q.keep in
    let number = role_number_back q.role k.known_role in
    let parts = parts_of q in
    let st = (started gathered store).state in
    let sto = (started gathered store).store in
    let between = start_between gathered store hg hs in
    let t = fresh_table gathered store hs in
    let b = serverStarted values in
    let f = fresh_server values in
    let good = start_good values hv in
    let bnone : find b.server.table id ≡ None = rw f.0 (fresh_none id) in
    let broom : free_slot_of b.server.table < SLOTS = rw f.0 fresh_room in
    let snone : find st.conn.table id ≡ None = rw t (fresh_none id) in
    let sroom : free_slot_of st.conn.table < SLOTS = rw t fresh_room in
    let begin = begin_bytes id (role_number role) q.keep in
    let fits : length begin ≤ length q.buffer = subst (λ (n : ℕ). length (begin_bytes id n q.keep) ≤ length q.buffer) number k.begin_fits in
    let opening =
    ap (λ (n : ℕ). open_request b.server id n q.keep q.buffer) number ∙ open_written b id role q.keep good f.1 k.some_id bnone broom q.buffer fits in
    let sb = with_table b (take_slot b.server.table (free_slot_of b.server.table) (opened id role q.keep)) in
    let more = (called sb.server id q.calls).bytes in
    let server = open_holding b id role q.keep good f.1 k.some_id bnone broom q.buffer in
    let i = free_slot_of st.conn.table in
    let first = opens_request st sto id role q.keep between snone k.some_id sroom k.small_id in
    let a = by_byte st sto begin in
    let calls = calls_read q.calls sb a.state a.store id (free_slot_of b.server.table) i s k.small_id server first.has (possible_begun role q.keep) k.turns k.list in
    let both = then_leads st sto begin more id i s (whole_of q) (Note.Told (Event.Open id (role_number role) q.keep) ∷ []) (parts_told id s parts) first calls.leads in
    let bytes = e ∙ ap (λ (w : Written). bytes_in w ++ (called w.server id q.calls).bytes) opening ∙ ap (λ (x : List ℕ). x ++ more) (front_put begin q.buffer) in
    let fed = pieces_by_byte pieces st sto between.sizes ∙ ap (by_byte st sto) bytes in
    record {
      begins = ap (λ (w : Written). w.refusal) opening;
      only_6 = ap (λ (w : Written). (called w.server id q.calls).refusals) opening ∙ calls.refusals;
      told = ap (λ (r : Run). r.notes) fed ∙ both.told ∙ ap (λ (n : ℕ). Note.Told (Event.Open id n q.keep) ∷ parts_told id s parts) (sym number);
      slot = i;
      has = rw fed both.has;
      pairs = (written_contents (whole_of q).pairs calls.possible.writable).0;
    }
