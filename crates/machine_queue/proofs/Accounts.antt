-- Nothing is lost and nothing comes twice in a call: what waited and what it says is what it writes and what waits
-- then.
use Rattle.std.specs.Prelude.{◌≡◌, Bool, true, false, if◌then◌else◌}
use Rattle.std.proofs.Math.Path.{refl, ap, sym}
use Rattle.std.proofs.Common.{◌∙◌}
use mathlib.Core.List.{List, [], ◌∷◌, ◌++◌, append_assoc, append-nil}
use Rattle.std.proofs.Math.Option.{none, some}
use Rattle.machine.specs.Machine.{CallOutcome, Stays, Retires, Leaves, Closes, Machine, Observation, RequestEvent, NoticeEvent, CloseEvent, CountAnswer, CallAnswer}
use Rattle.machine_queue.specs.Waiting.{Queue, Waiting, CallLeaving, ServeLive, ServeLeaving}

module _ (M : Machine) (Q : Queue M) where
  open M use {Request, Argument, Answer, on_call}
  open Q use {Atom, core, leaving, waits, Sound, is_serve, said, wrote, is_held_up}

  -- ---- what a machine has to show
  -- what a call says that is not refused because of what waits
  abbrev pub said_now : Argument → Request → Answer → List Atom
  said_now a r n = if is_held_up n then [] else said a (core r)

  -- what waited and what it says is what it writes and what waits then
  abbrev pub CallAccounts : Argument → Request → CallOutcome Request Answer → Type 0
  CallAccounts a r (Stays q n) = (waits r ++ said_now a r n ≡ wrote a n ++ waits q) × Sound q
  CallAccounts a r (Retires q n) = (waits r ++ said_now a r n ≡ wrote a n ++ waits q) × Sound q
  CallAccounts a r (Leaves n) = waits r ++ said_now a r n ≡ wrote a n
  CallAccounts a r (Closes n) = Unit {0}

  -- so it is in every call that is no serve, of a request that is not leaving
  abbrev pub Accounting : Type 0
  Accounting = (a : Argument) (r : Request) → is_serve a ≡ false → Sound r → leaving r ≡ false → CallAccounts a r (on_call a r)

  -- ---- what was said
  unfoldable pub said_as : Bool → Bool → Argument → Request → Answer → List Atom
  said_as true l a r n = []
  said_as false true a r n = []
  said_as false false a r n = said_now a r n

  -- what an observation says; serves and calls of a request that is leaving say nothing
  unfoldable pub said_in : Observation M → List Atom
  said_in (RequestEvent id e) = []
  said_in (CallAnswer id a n none w) = []
  said_in (CallAnswer id a n (some r) w) = said_as (is_serve a) (leaving r) a r n
  said_in (NoticeEvent w) = []
  said_in (CloseEvent n) = []
  said_in (CountAnswer n) = []

  -- one after another
  unfoldable pub said_all : List (Observation M) → List Atom
  said_all [] = []
  said_all (o ∷ os) = said_in o ++ said_all os

  -- in two lists
  pub said_append : (xs ys : List (Observation M)) → said_all (xs ++ ys) ≡ said_all xs ++ said_all ys
  unfolding said_all
  said_append [] ys = refl
  said_append (x ∷ xs) ys = ap (λ l. said_in x ++ l) (said_append xs ys) ∙ sym (append_assoc (said_in x) (said_all xs) (said_all ys))

  -- ---- every call
  -- the accounts of a call: is it a serve, is its request leaving?
  abbrev pub AccountsAs : Bool → Bool → Argument → Request → CallOutcome Request Answer → Type 0
  AccountsAs serve left a r (Stays q n) = (waits r ++ said_as serve left a r n ≡ wrote a n ++ waits q) × Sound q
  AccountsAs serve left a r (Retires q n) = (waits r ++ said_as serve left a r n ≡ wrote a n ++ waits q) × Sound q
  AccountsAs serve left a r (Leaves n) = waits r ++ said_as serve left a r n ≡ wrote a n
  AccountsAs serve left a r (Closes n) = Unit {0}

  live_call : (a : Argument) (r : Request) (o : CallOutcome Request Answer) → CallAccounts a r o → AccountsAs false false a r o
  unfolding said_as
  live_call a r (Stays q n) h = h
  live_call a r (Retires q n) h = h
  live_call a r (Leaves n) h = h
  live_call a r (Closes n) h = tt

  leaving_call : (a : Argument) (r : Request) (o : CallOutcome Request Answer) → Sound r → CallLeaving M Q a r o → AccountsAs false true a r o
  unfolding said_as
  leaving_call a r (Stays q n) s h = (rw (h.0, h.1) (append-nil (waits r)), rw h.0 s)
  leaving_call a r (Retires q n) s h = absurd h
  leaving_call a r (Leaves n) s h = absurd h
  leaving_call a r (Closes n) s h = tt

  live_serve : (a : Argument) (r : Request) (o : CallOutcome Request Answer) → ServeLive M Q a r o → AccountsAs true false a r o
  unfolding said_as
  live_serve a r (Stays q n) h = (append-nil (waits r) ∙ h.2, h.3)
  live_serve a r (Retires q n) h = absurd h
  live_serve a r (Leaves n) h = absurd h
  live_serve a r (Closes n) h = tt

  leaving_serve : (a : Argument) (r : Request) (o : CallOutcome Request Answer) → ServeLeaving M Q a r o → AccountsAs true true a r o
  unfolding said_as
  leaving_serve a r (Stays q n) h = (append-nil (waits r) ∙ h.2, h.3)
  leaving_serve a r (Retires q n) h = absurd h
  leaving_serve a r (Leaves n) h = append-nil (waits r) ∙ h.1
  leaving_serve a r (Closes n) h = tt

  -- Every call of a request accounts for it.
  pub every_call : Waiting M Q → Accounting → (a : Argument) (r : Request) → Sound r → AccountsAs (is_serve a) (leaving r) a r (on_call a r)
  every_call L K a r s = go (is_serve a) (leaving r) refl refl
    where
      go : (serve left : Bool) → is_serve a ≡ serve → leaving r ≡ left → AccountsAs serve left a r (on_call a r)
      go false false e l = live_call a r (on_call a r) (K a r e s l)
      go false true e l = leaving_call a r (on_call a r) s (L.call_leaving a r e s l)
      go true false e l = live_serve a r (on_call a r) (L.serve_live a r e s l)
      go true true e l = leaving_serve a r (on_call a r) (L.serve_leaving a r e s l)
