-- What is told and answered does to R's parameters what the machine's observations of it do.
use Rattle.std.specs.Prelude.{◌≡◌, Bool, true, false, ℕ, zero, suc, take, eqb, if◌then◌else◌}
use Rattle.std.proofs.Math.Path.{refl, ap, ap₂, sym}
use Rattle.std.proofs.Common.{◌∙◌}
use mathlib.Core.List.{List, [], ◌∷◌, ◌++◌, map, append-nil}
use Rattle.std.proofs.Math.Option.{Option, none, some}
use Rattle.wire.specs.Test.{by_test}
use Rattle.machine.specs.Timeline.{Item, ByteItem, CallItem, Scan, ScanHeader, ScanRest}
use Rattle.machine.specs.Machine.{Observation, RequestEvent, NoticeEvent, CloseEvent, CountAnswer, CallAnswer, as_list}
use Rattle.connection.specs.Event.{Event}
use Rattle.connection.specs.Step.{query_of}
use Rattle.connection.specs.Bytewise.{Note, notes, showing}
use Rattle.connection.specs.Arguments.{Argument, Answer, RepliedWith, Wrote, FinishedWith}
use Rattle.connection.specs.Run.{Observed, Heard, Answered}
use Rattle.connection.specs.History.{History, with_byte, ParamsChange, Keeps, Begins, Ends, Drops, changed, change_of, change_by}
use Rattle.connection.specs.Runs.Receiver.{receiver, QueryWith, UnknownType}
use Rattle.connection.proofs.Runs.Telling.{told, told_all}
use Rattle.connection.proofs.Runs.LinkingStep.{map_append}
use Rattle.connection.specs.Runs.HistoryOnMachine.{is_finish, is_close, empties_any, takes_then, content_by}

-- ---- a list of observations
-- one change, and then another; there is one at most
unfoldable pub change_then : ParamsChange → ParamsChange → ParamsChange
change_then Keeps d = d
change_then Begins d = Begins
change_then Ends d = Ends
change_then Drops d = Drops

pub then_keeps : (c : ParamsChange) → change_then c Keeps ≡ c
unfolding change_then
then_keeps Keeps = refl
then_keeps Begins = refl
then_keeps Ends = refl
then_keeps Drops = refl

then_then : (c d e : ParamsChange) → change_then (change_then c d) e ≡ change_then c (change_then d e)
unfolding change_then
then_then Keeps d e = refl
then_then Begins d e = refl
then_then Ends d e = refl
then_then Drops d e = refl

-- what is kept of the place
pub same_place : (c : ParamsChange) (h : History) → (changed c h).place ≡ h.place
same_place Keeps h = refl
same_place Begins h = refl
same_place Ends h = refl
same_place Drops h = refl

module _ (R : ℕ) where
  -- by one observation
  abbrev pub change_from : Observed → ParamsChange
  change_from (Heard (Note.Told e)) = change_of R e
  change_from (Heard (Note.Shown id stream b)) = Keeps
  change_from (Answered id a n v w) = change_by R id n

  -- by all of them
  unfoldable pub change_seen : List Observed → ParamsChange
  change_seen [] = Keeps
  change_seen (o ∷ os) = change_then (change_from o) (change_seen os)

  pub seen_append : (x y : List Observed) → change_seen (x ++ y) ≡ change_then (change_seen x) (change_seen y)
  unfolding change_seen change_then
  seen_append [] y = refl
  seen_append (o ∷ x) y = ap (change_then (change_from o)) (seen_append x y) ∙ sym (then_then (change_from o) (change_seen x) (change_seen y))

  shown_keeps : (id stream : ℕ) (x : List ℕ) → change_seen (map Heard (showing id stream x)) ≡ Keeps
  unfolding change_seen showing change_then
  shown_keeps id stream [] = refl
  shown_keeps id stream (b ∷ x) = shown_keeps id stream x

  -- An event over any bytes.
  pub event_seen : (e : Event) (x : List ℕ) → change_seen (map Heard (notes e x)) ≡ change_of R e
  unfolding change_seen
  event_seen Event.None x = refl
  event_seen (Event.Open id role keep) x = then_keeps _
  event_seen (Event.Ready id n) x = then_keeps _
  event_seen (Event.Data id stream n) x = shown_keeps id stream (take n x)
  event_seen (Event.End id stream measure) x = then_keeps _
  event_seen (Event.Abort id) x = then_keeps _
  event_seen (Event.Refuse id n) x = then_keeps _
  event_seen (Event.Fault id n) x = then_keeps _
  event_seen (Event.Query conns reqs mpxs) x = then_keeps _
  event_seen (Event.Unknown kind) x = then_keeps _
  event_seen (Event.Closed n) x = then_keeps _

  -- An event that tells what two others tell, of which the first changes nothing, changes what the second does.
  pub event_cut : (e f g : Event) (x y z : List ℕ) → notes e x ≡ notes f y ++ notes g z → change_of R f ≡ Keeps → change_of R g ≡ change_of R e
  unfolding change_then
  event_cut e f g x y z same quiet =
      ap₂ change_then (sym (event_seen f y ∙ quiet)) (sym (event_seen g z)) ∙ sym (seen_append (map Heard (notes f y)) (map Heard (notes g z)))
      ∙ ap (change_seen) (sym (ap (map Heard) same ∙ map_append (notes f y) (notes g z))) ∙ event_seen e x

  -- An answer.
  pub answer_seen : (o : Observed) → change_seen (o ∷ []) ≡ change_from o
  unfolding change_seen
  answer_seen o = then_keeps (change_from o)

  -- ---- what the machine observes
  query_keeps : (list : List ℕ) → change_seen (Heard (Note.Told (query_of list)) ∷ []) ≡ Keeps
  unfolding change_seen query_of change_then
  query_keeps list = refl

  -- This change does to the history what the machine's observation does.
  pub record DoesAs (o : Option (Observation receiver)) (c : ParamsChange) : Type 0 where
    pub takes : (h : History) → takes_then R o h.takes ≡ (changed c h).takes
    pub list : (h : History) → (if empties_any R o then [] else h.parameters) ≡ (changed c h).parameters

  takes_told_lem : (id : ℕ) (e : Event) (h : History)
      → takes_then R (some (RequestEvent id (Note.Told e))) h.takes ≡ (changed (change_seen (told (RequestEvent id (Note.Told e)))) h).takes
  unfolding change_seen change_then
  takes_told_lem id Event.None h = by_test (eqb id R) (λ w. rw w) (λ w. rw w)
  takes_told_lem id (Event.Open j role keep) h = by_test (eqb id R) (λ w. rw w) (λ w. rw w)
  takes_told_lem id (Event.Ready j n) h = by_test (eqb id R) (λ w. rw w) (λ w. rw w)
  takes_told_lem id (Event.Data j stream n) h = by_test (eqb id R) (λ w. rw w) (λ w. rw w)
  takes_told_lem id (Event.End j stream measure) h = by_test (eqb id R) (λ w. rw w) (λ w. rw w)
  takes_told_lem id (Event.Abort j) h = by_test (eqb id R) (λ w. rw w) (λ w. rw w)
  takes_told_lem id (Event.Refuse j n) h = by_test (eqb id R) (λ w. rw w) (λ w. rw w)
  takes_told_lem id (Event.Fault j n) h = by_test (eqb id R) (λ w. rw w) (λ w. rw w)
  takes_told_lem id (Event.Query conns reqs mpxs) h = by_test (eqb id R) (λ w. rw w) (λ w. rw w)
  takes_told_lem id (Event.Unknown kind) h = by_test (eqb id R) (λ w. rw w) (λ w. rw w)
  takes_told_lem id (Event.Closed n) h = by_test (eqb id R) (λ w. rw w) (λ w. rw w)

  list_told : (id : ℕ) (e : Event) (h : History)
      → (if empties_any R (some (RequestEvent id (Note.Told e))) then [] else h.parameters) ≡ (changed (change_seen (told (RequestEvent id (Note.Told e)))) h).parameters
  unfolding change_seen change_then
  list_told id Event.None h = by_test (eqb id R) (λ w. rw w) (λ w. rw w)
  list_told id (Event.Open j role keep) h = by_test (eqb id R) (λ w. rw w) (λ w. rw w)
  list_told id (Event.Ready j n) h = by_test (eqb id R) (λ w. rw w) (λ w. rw w)
  list_told id (Event.Data j stream n) h = by_test (eqb id R) (λ w. rw w) (λ w. rw w)
  list_told id (Event.End j stream measure) h = by_test (eqb id R) (λ w. rw w) (λ w. rw w)
  list_told id (Event.Abort j) h = by_test (eqb id R) (λ w. rw w) (λ w. rw w)
  list_told id (Event.Refuse j n) h = by_test (eqb id R) (λ w. rw w) (λ w. rw w)
  list_told id (Event.Fault j n) h = by_test (eqb id R) (λ w. rw w) (λ w. rw w)
  list_told id (Event.Query conns reqs mpxs) h = by_test (eqb id R) (λ w. rw w) (λ w. rw w)
  list_told id (Event.Unknown kind) h = by_test (eqb id R) (λ w. rw w) (λ w. rw w)
  list_told id (Event.Closed n) h = by_test (eqb id R) (λ w. rw w) (λ w. rw w)

  -- a finish, or any other answer
  takes_finish : (id : ℕ) (done closed : Bool) (h : History)
      → (if done then (if closed then false else if eqb id R then false else h.takes) else h.takes)
      ≡ (changed (if done then (if closed then Drops else if eqb id R then Drops else Keeps) else Keeps) h).takes
  takes_finish id true true h = refl
  takes_finish id true false h = by_test (eqb id R) (λ w. rw w) (λ w. rw w)
  takes_finish id false closed h = refl

  list_finish : (id : ℕ) (done closed : Bool) (h : History)
      → (if (if done then (if closed then true else eqb id R) else false) then [] else h.parameters)
      ≡ (changed (if done then (if closed then Drops else if eqb id R then Drops else Keeps) else Keeps) h).parameters
  list_finish id true true h = refl
  list_finish id true false h = by_test (eqb id R) (λ w. rw w) (λ w. rw w)
  list_finish id false closed h = refl

  takes_answer : (id : ℕ) (n : Answer) (h : History)
      → (if is_finish n then (if is_close n then false else if eqb id R then false else h.takes) else h.takes) ≡ (changed (change_by R id n) h).takes
  takes_answer id (RepliedWith r) h = refl
  takes_answer id (Wrote refusal n buffer) h = refl
  takes_answer id (FinishedWith refusal n closed buffer) h = takes_finish id (eqb refusal 0) closed h

  list_answer : (id : ℕ) (n : Answer) (h : History)
      → (if (if is_finish n then (if is_close n then true else eqb id R) else false) then [] else h.parameters) ≡ (changed (change_by R id n) h).parameters
  list_answer id (RepliedWith r) h = refl
  list_answer id (Wrote refusal n buffer) h = refl
  list_answer id (FinishedWith refusal n closed buffer) h = list_finish id (eqb refusal 0) closed h

  does_one : (o : Observation receiver) → DoesAs (some o) (change_seen (told o))
  unfolding change_seen change_then
  does_one (RequestEvent id (Note.Told e)) = record { takes = takes_told_lem id e; list = list_told id e }
  does_one (RequestEvent id (Note.Shown j stream b)) = record { takes = λ h. by_test (eqb id R) (λ w. rw w) (λ w. rw w); list = λ h. by_test (eqb id R) (λ w. rw w) (λ w. rw w) }
  does_one (NoticeEvent (QueryWith list)) = record { takes = λ h. ap (λ c. (changed c h).takes) (sym (query_keeps list)); list = λ h. ap (λ c. (changed c h).parameters) (sym (query_keeps list)) }
  does_one (NoticeEvent (UnknownType kind)) = record { takes = λ h. refl; list = λ h. refl }
  does_one (CloseEvent n) = record { takes = λ h. refl; list = λ h. refl }
  does_one (CountAnswer T) = record { takes = λ h. refl; list = λ h. refl }
  does_one (CallAnswer id a n v w) =
      record {
        takes = λ h. takes_answer id n h ∙ ap (λ c. (changed c h).takes) (sym (then_keeps (change_by R id n)));
        list = λ h. list_answer id n h ∙ ap (λ c. (changed c h).parameters) (sym (then_keeps (change_by R id n)));
      }

  -- At most one thing is observed of an item.
  pub does_as : (o : Option (Observation receiver)) → DoesAs o (change_seen (told_all (as_list receiver o)))
  unfolding as_list told_all change_seen
  does_as none = record { takes = λ h. refl; list = λ h. refl }
  does_as (some o) = rw (append-nil (told o)) (does_one o)

  -- ---- what an item adds
  -- a byte is used, a call adds nothing
  abbrev pub with_item : History → Item Argument → History
  with_item h (ByteItem b) = with_byte R h b
  with_item h (CallItem c) = h

  pub item_added : (s : Scan) (k : Bool) (l : List ℕ) (x : Item Argument) → l ++ content_by s k x ≡ (with_item (record { place = s; takes = k; parameters = l }) x).parameters
  item_added (ScanHeader g) k l (ByteItem b) = append-nil l
  item_added (ScanHeader g) k l (CallItem c) = append-nil l
  item_added (ScanRest own zero p) k l (ByteItem b) = append-nil l
  item_added (ScanRest own zero p) k l (CallItem c) = append-nil l
  item_added (ScanRest true (suc c) p) true l (ByteItem b) = refl
  item_added (ScanRest true (suc c) p) false l (ByteItem b) = append-nil l
  item_added (ScanRest false (suc c) p) k l (ByteItem b) = append-nil l
  item_added (ScanRest own (suc c) p) k l (CallItem a) = append-nil l
