-- The theorems at work on the runs of `Cases`: the premises of each are met, and so in any cutting the station tells just
-- what is written out there.
use Rattle.std.specs.Prelude.{ℕ, ◌≡◌, refl, true, false, List, [], ◌∷◌}
use Rattle.std.proofs.Common.{sym, ap, ◌∙◌, arith}
use Rattle.wire.specs.Buffer.{zeros}
use Rattle.wire.specs.Compare.{same_bytes}
use Rattle.wire.proofs.CompareLaws.{same_refl}
use Rattle.pair_list.proofs.ReadBackList.{written}
use Rattle.connection.specs.declared.request.Role.{Role}
use Rattle.connection.specs.Sizes.{QUERY, STORE}
use Rattle.connection.specs.Event.{Event}
use Rattle.connection.specs.Request.{CONTENT_LENGTH, DATA_LENGTH}
use Rattle.connection.specs.Step.{started}
use Rattle.connection.specs.Bytewise.{Note, Run, joined}
use Rattle.meaning.proofs.Theorem.{start_between}
use Rattle.server.specs.Calls.{Written}
use Rattle.server.proofs.WrittenBytes.{small_bytes}
use Rattle.requests_read.specs.Parts.{SoFar, begun, so_far, Proper, ListFits}
use Rattle.requests_read.specs.StationHas.{StationHas}
use Rattle.requests_read.specs.WrittenRequest.{WrittenRequest, InItsTurns, bytes_in, station_fed}
use Rattle.requests_read.specs.ManyRequests.{nothing_known, AllFit, fresh}
use Rattle.requests_read.proofs.RequestTheorem.{requests_are_read}
use Rattle.requests_read.proofs.ManyTheorem.{calls_are_read}
use Rattle.requests_read.proofs.QueryTheorem.{names_are_read}
use Rattle.requests_read.proofs.Cases.{computing, SERVER_PORT, SERVER_ADDR, eighty, address, port, addr, quantity, twenty_six, first, first_bytes, first_told, second, second_bytes, second_told, short, short_bytes, short_told, filter, filter_bytes, filter_told, fourth, fourth_bytes, fourth_told, whole_one, asked, asked_bytes, Comes, first_comes, second_comes, short_comes, filter_comes, fourth_comes, asked_comes}

-- a fresh station, fed these pieces
abbrev fed : List (List ℕ) → Run
fed pieces = station_fed (zeros QUERY) (zeros STORE) pieces

-- bytes in any pieces, of which the station tells this
abbrev pub Tells : List ℕ → List Note → Type 0
Tells bytes told = (pieces : List (List ℕ)) → joined pieces ≡ bytes → (fed pieces).notes ≡ told

-- ---- what the premises ask
-- two names that differ
apart : (a b : List ℕ) → same_bytes a b ≡ false → a ≡ b → ⊥
apart a b e f = let z : ◌≡◌ {A = ℕ} 0 1 = cc (sym e ∙ ap (same_bytes a) (sym f) ∙ same_refl a) in omega arith

port_proper : Proper port
port_proper = (small_bytes SERVER_PORT refl, small_bytes eighty refl, omega arith, omega arith)

addr_proper : Proper addr
addr_proper = (small_bytes SERVER_ADDR refl, small_bytes address refl, omega arith, omega arith)

-- ---- one request
from_comes : (q : WrittenRequest) (bytes refusals : List ℕ) (told : List Note) (whole : SoFar) → Comes q bytes refusals told whole → InItsTurns q → Tells bytes told
from_comes q bytes refusals told whole c k pieces e =
    (requests_are_read q (zeros QUERY) (zeros QUERY) (zeros STORE) pieces k refl refl refl (e ∙ sym c.writes)).told ∙ c.tells

pub first_in_turns : InItsTurns first
unfolding computing
first_in_turns =
    record {
      some_id = λ e. omega arith;
      small_id = omega arith;
      known_role = refl;
      begin_fits = omega arith;
      turns = (refl, refl, port_proper, (refl, refl, addr_proper, (refl, refl, tt, (refl, refl, tt, tt))));
      list = (((apart SERVER_PORT SERVER_ADDR refl, tt), (tt, tt)), omega arith);
    }

pub first_flow : Tells first_bytes first_told
first_flow = from_comes first first_bytes _ first_told _ first_comes first_in_turns

pub second_in_turns : InItsTurns second
unfolding computing
second_in_turns =
    record {
      some_id = λ e. omega arith;
      small_id = omega arith;
      known_role = refl;
      begin_fits = omega arith;
      turns = (refl, refl, port_proper, (refl, refl, addr_proper, (refl, refl, tt, (refl, refl, small_bytes quantity refl, (refl, refl, tt, tt)))));
      list = (((apart SERVER_PORT SERVER_ADDR refl, tt), (tt, tt)), omega arith);
    }

pub second_flow : Tells second_bytes second_told
second_flow = from_comes second second_bytes _ second_told _ second_comes second_in_turns

pub short_in_turns : InItsTurns short
unfolding computing
short_in_turns =
    record {
      some_id = λ e. omega arith;
      small_id = omega arith;
      known_role = refl;
      begin_fits = omega arith;
      turns = (
        refl,
        refl,
        (small_bytes CONTENT_LENGTH refl, small_bytes twenty_six refl, omega arith, omega arith),
        (refl, refl, tt, (refl, refl, tt, (refl, refl, small_bytes quantity refl, (refl, refl, tt, (refl, refl, tt, tt))))),
      );
      list = ((tt, tt), omega arith);
    }

pub short_body : Tells short_bytes short_told
short_body = from_comes short short_bytes _ short_told _ short_comes short_in_turns

pub filter_in_turns : InItsTurns filter
unfolding computing
filter_in_turns =
    record {
      some_id = λ e. omega arith;
      small_id = omega arith;
      known_role = refl;
      begin_fits = omega arith;
      turns = (
        refl,
        refl,
        (small_bytes DATA_LENGTH refl, small_bytes (50 ∷ []) refl, omega arith, omega arith),
        (refl, refl, tt, (refl, refl, tt, (refl, refl, small_bytes (7 ∷ []) refl, (refl, refl, small_bytes (8 ∷ []) refl, (refl, refl, tt, tt))))),
      );
      list = ((tt, tt), omega arith);
    }

pub filter_flow : Tells filter_bytes filter_told
filter_flow = from_comes filter filter_bytes _ filter_told _ filter_comes filter_in_turns

-- ---- two requests at once
-- of each call that is let through, bytes and a list that fits
pub fourth_fits : AllFit (fresh (zeros QUERY)) nothing_known fourth
unfolding computing
fourth_fits =
    let s = begun Role.Responder true in
    let one : ListFits (so_far s port) = ((tt, tt), omega arith) in
    let two : ListFits (so_far (so_far s port) addr) = (((apart SERVER_PORT SERVER_ADDR refl, tt), (tt, tt)), omega arith) in
    (omega arith, ((port_proper, one), ((addr_proper, two), ((tt, two), (omega arith, ((port_proper, one), ((addr_proper, two), ((tt, two), ((tt, two), ((tt, two), tt))))))))))

pub fourth_flow : Tells fourth_bytes fourth_told
fourth_flow pieces e =
    (calls_are_read fourth (zeros QUERY) (zeros QUERY) (zeros STORE) pieces refl refl refl fourth_fits (e ∙ sym fourth_comes.writes)).told ∙ fourth_comes.tells

-- and the station has request 2 in its second slot, with just these pairs
pub second_has : (pieces : List (List ℕ)) → joined pieces ≡ fourth_bytes → StationHas (fed pieces).state (fed pieces).store 2 1 whole_one
unfolding computing
second_has pieces e =
    (calls_are_read fourth (zeros QUERY) (zeros QUERY) (zeros STORE) pieces refl refl refl fourth_fits (e ∙ sym fourth_comes.writes)).has 2 refl

-- ---- a question
pub is_asked : Tells asked_bytes (Note.Told (Event.Query true false true) ∷ [])
unfolding computing
is_asked pieces e =
    let st = started (zeros QUERY) (zeros STORE) in
    let w = asked_comes.writes in
    ap (λ (r : Run). r.notes)
    (names_are_read (fresh (zeros QUERY)) asked (zeros 64) st.state st.store pieces (ap (λ (x : Written). x.refusal) w)
    (small_bytes (written asked) refl)
    (start_between (zeros QUERY) (zeros STORE) refl refl) (e ∙ sym (ap bytes_in w)))
    ∙ ap (λ (q : Event). Note.Told q ∷ []) asked_comes.asks
