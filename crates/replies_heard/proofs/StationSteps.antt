-- A step of the station keeps what holds of each active request, if it rests on the ended output streams alone and holds
-- of what the step opens.
use Rattle.connection.specs.Slots.{Slot}
use Rattle.std.specs.Prelude.{ℕ, ◌+◌, ◌<◌, ◌≡◌, Bool, true, false, List, length, leb, if◌then◌else◌}
use Rattle.std.proofs.Math.Path.{refl}
use Rattle.wire.specs.Buffer.{copied}
use Rattle.slot_word.specs.Word.{taken}
use Rattle.slot_word.proofs.WordLaws.{least_free}
use Rattle.connection.specs.declared.request.Due.{Due}
use Rattle.connection.specs.declared.request.RequestState.{RequestState}
use Rattle.connection.specs.declared.state.Table.{Table}
use Rattle.connection.specs.Sizes.{SLOTS, AREA}
use Rattle.connection.specs.Event.{Event}
use Rattle.connection.specs.Codes.{role_number}
use Rattle.connection.specs.Request.{Held, with_turn, with_life, faulted, aborted, turned, on_header, grown, on_content, opened}
use Rattle.connection.specs.Slots.{no_state, held_at, put_request, free_slot_of}
use Rattle.connection.specs.Step.{State, Left, closes, on_active, of_request, stepped}
use Rattle.connection.proofs.Laws.SlotsLaws.{Sized}
use Rattle.connection.proofs.Laws.ShapeLaws.{shaped}
use Rattle.connection.proofs.Laws.Progress.{Fits}
use Rattle.connection.proofs.Laws.Rules.{by_rule}
use Rattle.connection.proofs.Laws.Ways.{Way, concerned, by_way}
use Rattle.replies_heard.proofs.Agree.{SameEnds, OnEnds, Each, each_none, each_put, each_opened}

-- ---- the rules of one request keep its id and its output streams
record KeepsEnds (h k : Held) : Type 0 where
  pub id : k.request.id ≡ h.request.id
  pub ends : SameEnds h.request.state k.request.state

keeps_header : (h : Held) (kind n : ℕ) → KeepsEnds h (on_header kind n h).held
unfolding faulted aborted turned with_turn with_life
keeps_header h =
    by_rule (λ r. KeepsEnds h r.held) h
    (λ d. record { id = refl; ends = record { out = refl; err = refl } })
    (λ cause f. record { id = refl; ends = record { out = refl; err = refl } })
    (record { id = refl; ends = record { out = refl; err = refl } })
    (λ t. record { id = refl; ends = record { out = refl; err = refl } })
    (λ t s m. record { id = refl; ends = record { out = refl; err = refl } })

keeps_content : (h : Held) (due : Due) (x : List ℕ) → KeepsEnds h (on_content due x h).held
unfolding grown
keeps_content h Due.Skip x = record { id = refl; ends = record { out = refl; err = refl } }
keeps_content h Due.Params x = go (leb (h.request.length + length x) AREA)
  where
    go : (b : Bool) → KeepsEnds h (if b then record { request = record { id = h.request.id; length = h.request.length + length x; state = h.request.state }; area = copied h.area h.request.length x } else h)
    go true = record { id = refl; ends = record { out = refl; err = refl } }
    go false = record { id = refl; ends = record { out = refl; err = refl } }
keeps_content h Due.Stdin x = record { id = refl; ends = record { out = refl; err = refl } }
keeps_content h Due.Data x = record { id = refl; ends = record { out = refl; err = refl } }

-- ---- the step
-- what is opened by this event is known, in whichever slot that was free
abbrev pub OpensKnown : Table → (ℕ → ℕ → RequestState → Type 0) → Event → Type 0
OpensKnown s Q e = (id role : ℕ) (keep : Bool) → e ≡ Event.Open id role keep → (i : ℕ) → i < SLOTS → taken i s.occupied ≡ false → Q id i no_state

module _ (st : State) (store : List ℕ) (Q : ℕ → ℕ → RequestState → Type 0) (on : OnEnds Q) (sized : Sized st.conn.table) (a : Each st.conn.table Q) where
  back : (i : ℕ) (h : Held) → KeepsEnds (held_at st.conn.table store i) h → Each (put_request st.conn.table i h.request) Q
  back i h p = each_put Q on st.conn.table i h.request sized p.id p.ends a

  each_way : Fits st.conn store → (k : Slot) (l : Left) → Way st store k l → OpensKnown st.conn.table Q l.event → Each l.conn.table Q
  unfolding closes on_active of_request opened
  each_way fits k l (Way.Reads g f e n) known = a
  each_way fits k l (Way.Closes g cause c) known = each_none Q
  each_way fits k l (Way.Rules h i e f) known =
      back i (on_header h.kind h.content (held_at st.conn.table store i)).held (keeps_header (held_at st.conn.table store i) h.kind h.content)
  each_way fits k l (Way.Feeds due i bytes p e low target some) known =
      back i (on_content due bytes (held_at st.conn.table store i)).held (keeps_content (held_at st.conn.table store i) due bytes)
  each_way fits k l (Way.Takes id role keep f e low none) known =
      let i = free_slot_of st.conn.table in
      each_opened Q st.conn.table i (opened id role keep) sized (shaped st.conn fits.shape).table low
      (on id i no_state (opened id role keep).state (record { out = refl; err = refl }) (known id (role_number role) keep refl i low (least_free SLOTS st.conn.table.occupied low))) a

  -- A step, refused or not.
  pub step_each : (piece : List ℕ) → OpensKnown st.conn.table Q (stepped st store piece).event → Each (stepped st store piece).state.conn.table Q
  step_each piece =
      by_way (λ s. OpensKnown st.conn.table Q s.event → Each s.state.conn.table Q) st store piece (λ n known. a)
      (λ fits used l w known. each_way fits (concerned st piece) l w known)
