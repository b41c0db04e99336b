-- The server's end reads the same in every cutting: public steps, from any good state, closed on the way or not.
use Rattle.std.specs.Prelude.{ℕ, zero, suc, ◌≤◌, ◌<◌, ◌≡◌, refl, true, List, [], ◌∷◌, ◌++◌, length, drop}
use Rattle.std.proofs.Common.{sym, ap, ap₂, ◌∙◌}
use Rattle.wire.specs.Test.{by_test}
use Rattle.wire.proofs.Bytes.{AllBytes, drop_bytes}
use Rattle.record_rules.specs.Rules.{step, used, by_byte, fed as fedOf, fed_pieces as fedPiecesOf, joined}
use Rattle.record_rules.proofs.Laws.{step_shut, pieces_by_byte, uses}
use Rattle.server.specs.Step.{State, Stepped, rules, stepped}
use Rattle.server.proofs.Laws.{lawful}
use Rattle.server.proofs.Stepping.{Good, reader_of, Came, came, came_by, reads, closed_stays, step_good}

abbrev pub and_came : Came → (State → Came) → Came
and_came c f = record { state = (f c.state).state; notes = c.notes ++ (f c.state).notes }

-- the bytes in at most k steps, each over all that is left; and pieces one after the other
unfoldable pub fed : ℕ → State → List ℕ → Came
fed zero st bytes = record { state = st; notes = [] }
fed (suc k) st bytes = and_came (came (stepped st bytes) bytes) (λ s. fed k s (drop (stepped st bytes).used bytes))

unfoldable pub fed_pieces : State → List (List ℕ) → Came
fed_pieces st [] = record { state = st; notes = [] }
fed_pieces st (piece ∷ pieces) = and_came (fed (length piece) st piece) (λ s. fed_pieces s pieces)

-- a public step is the reader's, open or closed
pub record StepIs (st : State) (x : List ℕ) : Type 0 where
  pub same : came (stepped st x) x ≡ came_by (step rules (reader_of st) x)
  pub used_same : (stepped st x).used ≡ used rules (reader_of st) x

step_is : (st : State) (x : List ℕ) → Good st → StepIs st x
step_is st x good =
    by_test st.server.«open»
    (λ o. let k = reads st x good o in record { same = k.same; used_same = k.used_same })
    (λ o.
    let e = closed_stays st x good o in
    let k = step_shut rules lawful (reader_of st) x o in
    record { same = ap (λ (s : Stepped). came s x) e ∙ sym (ap came_by k.0); used_same = ap (λ (s : Stepped). s.used) e ∙ sym k.1 })

-- Progress: an open one uses a byte at least, and no more than there are.
pub step_uses : (st : State) (x : List ℕ) → Good st → st.server.«open» ≡ true → 0 < length x → (0 < (stepped st x).used) × ((stepped st x).used ≤ length x)
step_uses st x good o some = rw (step_is st x good).used_same (uses rules lawful (reader_of st) x good.fit o some)

fed_is : (k : ℕ) (st : State) (x : List ℕ) → Good st → AllBytes x → fed k st x ≡ came_by (fedOf rules k (reader_of st) x)
unfolding fed fedOf
fed_is zero st x good all = refl
fed_is (suc k) st x good all =
    let s = stepped st x in
    let i = step_is st x good in
    let r = step rules (reader_of st) x in
    let ih = fed_is k s.state (drop s.used x) (step_good st x good all) (drop_bytes s.used x all) in
    ap (λ (c : Came). record { state = c.state; notes = (came s x).notes ++ c.notes }) ih
    ∙ ap₂ (λ (c : Came) (n : ℕ). and_came c (λ z. came_by (fedOf rules k (reader_of z) (drop n x)))) i.same i.used_same

fed_good : (k : ℕ) (st : State) (x : List ℕ) → Good st → AllBytes x → Good (fed k st x).state
unfolding fed
fed_good zero st x good all = good
fed_good (suc k) st x good all = fed_good k (stepped st x).state (drop (stepped st x).used x) (step_good st x good all) (drop_bytes (stepped st x).used x all)

abbrev pub AllPieces : List (List ℕ) → Type 0
AllPieces [] = Unit {0}
AllPieces (x ∷ pieces) = AllBytes x × AllPieces pieces

pieces_are : (pieces : List (List ℕ)) (st : State) → Good st → AllPieces pieces → fed_pieces st pieces ≡ came_by (fedPiecesOf rules (reader_of st) pieces)
unfolding fed_pieces fedPiecesOf
pieces_are [] st good all = refl
pieces_are (x ∷ pieces) st good all =
    let f = fed (length x) st x in
    let ih = pieces_are pieces f.state (fed_good (length x) st x good all.0) all.1 in
    ap (λ (c : Came). record { state = c.state; notes = f.notes ++ c.notes }) ih
    ∙ ap (λ (c : Came). and_came c (λ z. came_by (fedPiecesOf rules (reader_of z) pieces))) (fed_is (length x) st x good all.0)

-- Two ways to cut the same bytes come to the same state and the same notes.
pub any_cutting : (pieces others : List (List ℕ)) (st : State) → Good st → AllPieces pieces → AllPieces others → joined pieces ≡ joined others → fed_pieces st pieces ≡ fed_pieces st others
any_cutting pieces others st good a b e =
    pieces_are pieces st good a
    ∙ ap came_by (pieces_by_byte rules lawful pieces (reader_of st) good.fit ∙ ap (by_byte rules (reader_of st)) e ∙ sym (pieces_by_byte rules lawful others (reader_of st) good.fit))
    ∙ sym (pieces_are others st good b)
