-- A machine of one request of whose output some waits and is written later: what is kept of it, what it has to show,
-- and what two runs are compared by. Definitions only.
use Rattle.std.specs.Prelude.{◌≡◌, List, [], ◌∷◌, ◌++◌, Bool, true, false, ℕ, if◌then◌else◌}
use Rattle.std.proofs.Math.Option.{Option, none, some}
use Rattle.machine.specs.Timeline.{RequestCall, CountCall, Item, ByteItem, CallItem, item_bytes, Scan, scan_next, is_own}
use Rattle.machine.specs.Machine.{HeaderOutcome, Decided, BeginOutcome, Declined, Accepted, CallOutcome, Stays, Retires, Leaves, Closes, Machine, Connection, Observation, RequestEvent, NoticeEvent, CloseEvent, CountAnswer, CallAnswer, on_item, request_in}

-- ---- what waits
-- A request is its core, what of its output waits, oldest first, and whether it is leaving: between its finish and its
-- END.
-- Output is made of atoms: a byte on a stream, the end of a stream, END. To serve is a call by which what waits is
-- written.
pub record Queue (M : Machine) : Type 1 where
  pub Core : Type 0
  pub Atom : Type 0
  pub core : M.Request → Core
  pub leaving : M.Request → Bool
  pub waits : M.Request → List Atom
  -- what its marks say fits together; so it is in every request of a run
  pub Sound : M.Request → Type 0
  -- does the connection stay open at its END?
  pub keeps : Core → Bool
  -- is the call a serve? what a call says, straight out or to wait; what it has written when it gives this answer; is
  -- that the refusal for want of room, or because something waits?
  pub is_serve : M.Argument → Bool
  pub said : M.Argument → Core → List Atom
  pub wrote : M.Argument → M.Answer → List Atom
  pub is_held_up : M.Answer → Bool

-- ---- what it has to show
module _ (M : Machine) (Q : Queue M) where
  open M use {Leftover, clean, Request, Stream, Event, Argument, Answer}
  open Q use {core, leaving, waits, Sound, keeps, said, wrote, is_held_up}

  -- Two requests with one core, neither of them leaving, on one header: nothing waits more or less.
  abbrev pub HeaderAlike : Request → Request → HeaderOutcome Request Stream Event → HeaderOutcome Request Stream Event → Type 0
  HeaderAlike r q (Decided r' e k) (Decided q' e' k') =
      (core r' ≡ core q') × (e ≡ e') × (k ≡ k') × (leaving r' ≡ false) × (leaving q' ≡ false) × (waits r' ≡ waits r) × (waits q' ≡ waits q) × Sound r' × Sound q'

  -- on one content byte
  abbrev pub ByteAlike : Request → Request → Request × Option Event → Request × Option Event → Type 0
  ByteAlike r q x y =
      (core x.0 ≡ core y.0) × (x.1 ≡ y.1) × (leaving x.0 ≡ false) × (leaving y.0 ≡ false) × (waits x.0 ≡ waits r) × (waits y.0 ≡ waits q) × Sound x.0 × Sound y.0

  -- a new request is not leaving, and nothing waits
  abbrev pub BeginWaits : BeginOutcome Leftover Request Event → Type 0
  BeginWaits (Declined e) = Unit {0}
  BeginWaits (Accepted f e) = (leaving (f clean) ≡ false) × (waits (f clean) ≡ []) × Sound (f clean)

  -- the call is not refused because of what waits
  abbrev pub NotHeldUp : CallOutcome Request Answer → Type 0
  NotHeldUp (Stays q n) = is_held_up n ≡ false
  NotHeldUp (Retires q n) = is_held_up n ≡ false
  NotHeldUp (Leaves n) = is_held_up n ≡ false
  NotHeldUp (Closes n) = is_held_up n ≡ false

  -- What waited and what is said is what is written and what waits then.
  abbrev pub Accounts : Argument → Request → Answer → List Q.Atom → Type 0
  Accounts a r n w = waits r ++ said a (core r) ≡ wrote a n ++ w

  -- Two requests with one core, neither of them leaving, on one call that is no serve and that neither refuses because
  -- of what waits.
  abbrev pub CallAlike : Argument → Request → Request → CallOutcome Request Answer → CallOutcome Request Answer → Type 0
  CallAlike a r q (Stays r' n) (Stays q' n') =
      (core r' ≡ core q') × (n ≡ n') × (leaving r' ≡ false) × (leaving q' ≡ false) × Accounts a r n (waits r') × Accounts a q n' (waits q') × Sound r' × Sound q'
  CallAlike a r q (Retires r' n) (Retires q' n') =
      (core r' ≡ core q') × (n ≡ n') × (leaving r' ≡ true) × (leaving q' ≡ true) × Accounts a r n (waits r') × Accounts a q n' (waits q') × Sound r' × Sound q'
  CallAlike a r q (Leaves n) (Leaves n') = (n ≡ n') × Accounts a r n [] × Accounts a q n' []
  CallAlike a r q (Closes n) (Closes n') = Unit {0}
  CallAlike a r q (Stays r' n) (Retires q' n') = ⊥
  CallAlike a r q (Stays r' n) (Leaves n') = ⊥
  CallAlike a r q (Stays r' n) (Closes n') = ⊥
  CallAlike a r q (Retires r' n) (Stays q' n') = ⊥
  CallAlike a r q (Retires r' n) (Leaves n') = ⊥
  CallAlike a r q (Retires r' n) (Closes n') = ⊥
  CallAlike a r q (Leaves n) (Stays q' n') = ⊥
  CallAlike a r q (Leaves n) (Retires q' n') = ⊥
  CallAlike a r q (Leaves n) (Closes n') = ⊥
  CallAlike a r q (Closes n) (Stays q' n') = ⊥
  CallAlike a r q (Closes n) (Retires q' n') = ⊥
  CallAlike a r q (Closes n) (Leaves n') = ⊥

  -- a call of a request that is leaving changes nothing
  abbrev pub CallLeaving : Argument → Request → CallOutcome Request Answer → Type 0
  CallLeaving a r (Stays q n) = (q ≡ r) × (wrote a n ≡ [])
  CallLeaving a r (Retires q n) = ⊥
  CallLeaving a r (Leaves n) = ⊥
  CallLeaving a r (Closes n) = ⊥

  -- a serve writes what waited longest; with END the request leaves
  abbrev pub ServeLive : Argument → Request → CallOutcome Request Answer → Type 0
  ServeLive a r (Stays q n) = (core q ≡ core r) × (leaving q ≡ false) × (waits r ≡ wrote a n ++ waits q) × Sound q
  ServeLive a r (Retires q n) = ⊥
  ServeLive a r (Leaves n) = ⊥
  ServeLive a r (Closes n) = ⊥

  abbrev pub ServeLeaving : Argument → Request → CallOutcome Request Answer → Type 0
  ServeLeaving a r (Stays q n) = (core q ≡ core r) × (leaving q ≡ true) × (waits r ≡ wrote a n ++ waits q) × Sound q
  ServeLeaving a r (Retires q n) = ⊥
  ServeLeaving a r (Leaves n) = (keeps (core r) ≡ true) × (waits r ≡ wrote a n)
  ServeLeaving a r (Closes n) = keeps (core r) ≡ false

-- The laws.
pub record Waiting (M : Machine) (Q : Queue M) : Type 1 where
  pub header_alike : (t c : ℕ) (r q : M.Request) → Q.Sound r → Q.Sound q → Q.core r ≡ Q.core q → Q.leaving r ≡ false → Q.leaving q ≡ false
      → HeaderAlike M Q r q (M.on_header t c r) (M.on_header t c q)
  pub byte_alike : (k : M.Stream) (b : ℕ) (r q : M.Request) → Q.Sound r → Q.Sound q → Q.core r ≡ Q.core q → Q.leaving r ≡ false → Q.leaving q ≡ false
      → ByteAlike M Q r q (M.on_byte k b r) (M.on_byte k b q)
  pub begin_waits : (id : ℕ) (g : List ℕ) → BeginWaits M Q (M.on_begin id g)
  pub call_alike : (a : M.Argument) (r q : M.Request) → Q.is_serve a ≡ false → Q.Sound r → Q.Sound q → Q.core r ≡ Q.core q → Q.leaving r ≡ false → Q.leaving q ≡ false
      → NotHeldUp M Q (M.on_call a r) → NotHeldUp M Q (M.on_call a q)
      → CallAlike M Q a r q (M.on_call a r) (M.on_call a q)
  pub call_leaving : (a : M.Argument) (r : M.Request) → Q.is_serve a ≡ false → Q.Sound r → Q.leaving r ≡ true → CallLeaving M Q a r (M.on_call a r)
  pub serve_live : (a : M.Argument) (r : M.Request) → Q.is_serve a ≡ true → Q.Sound r → Q.leaving r ≡ false → ServeLive M Q a r (M.on_call a r)
  pub serve_leaving : (a : M.Argument) (r : M.Request) → Q.is_serve a ≡ true → Q.Sound r → Q.leaving r ≡ true → ServeLeaving M Q a r (M.on_call a r)
  -- where the id is not active nothing is written, and END waits for a request that is leaving
  pub inactive_writes : (a : M.Argument) → Q.wrote a (M.when_inactive a) ≡ []
  pub leaving_waits : (r : M.Request) → Q.Sound r → Q.leaving r ≡ true → Q.waits r ≡ [] → ⊥

-- ---- what two runs are compared by
module _ (M : Machine) (Q : Queue M) where
  open M use {Request, Event, Argument, Answer, when_inactive}
  open Q use {Core, Atom, core, leaving, waits, is_serve, wrote, is_held_up}

  -- is there a request, and is it leaving?
  unfoldable pub is_leaving : Option Request → Bool
  is_leaving none = false
  is_leaving (some r) = leaving r

  -- what of it waits
  unfoldable pub waits_in : Option Request → List Atom
  waits_in none = []
  waits_in (some r) = waits r

  -- its core
  unfoldable pub core_of : Option Request → Option Core
  core_of none = none
  core_of (some r) = some (core r)

  -- What is told of a request, and what its calls answer, with its core before and after. Of a call between finish and
  -- END neither the answer nor the core is looked at.
  pub data Heard : Type 0 where
    HeardEvent : Event → Heard
    HeardAnswer : Argument → Answer → Option Core → Option Core → Heard
    HeardLeaving : Argument → Heard

  -- a call of a request that is leaving, or of one that is not
  unfoldable pub heard_at : Bool → Argument → Answer → Option Request → Option Request → Heard
  heard_at true a n v w = HeardLeaving a
  heard_at false a n v w = HeardAnswer a n (core_of v) (core_of w)

  -- serves are no calls of the request
  unfoldable pub heard_in : Observation M → List Heard
  heard_in (RequestEvent id e) = HeardEvent e ∷ []
  heard_in (CallAnswer id a n v w) = if is_serve a then [] else heard_at (is_leaving v) a n v w ∷ []
  heard_in (NoticeEvent w) = []
  heard_in (CloseEvent n) = []
  heard_in (CountAnswer n) = []

  -- one after another
  unfoldable pub heard_all : List (Observation M) → List Heard
  heard_all [] = []
  heard_all (o ∷ os) = heard_in o ++ heard_all os

  -- what was written of its output, by its own calls and by serves
  unfoldable pub written_in : Observation M → List Atom
  written_in (RequestEvent id e) = []
  written_in (CallAnswer id a n v w) = wrote a n
  written_in (NoticeEvent w) = []
  written_in (CloseEvent n) = []
  written_in (CountAnswer n) = []

  -- one after another
  unfoldable pub written_all : List (Observation M) → List Atom
  written_all [] = []
  written_all (o ∷ os) = written_in o ++ written_all os

  -- The same, save for calls between finish and END in either run. Where the request is leaving in one run, in the
  -- other it is leaving too, or no longer active.
  pub data SameSave : List Heard → List Heard → Type 0 where
    SaveNone : SameSave [] []
    SaveSame : {x : Heard} {xs ys : List Heard} → SameSave xs ys → SameSave (x ∷ xs) (x ∷ ys)
    SaveFirst : {a : Argument} {xs ys : List Heard} → SameSave xs ys → SameSave (HeardLeaving a ∷ xs) (HeardAnswer a (when_inactive a) none none ∷ ys)
    SaveSecond : {a : Argument} {xs ys : List Heard} → SameSave xs ys → SameSave (HeardAnswer a (when_inactive a) none none ∷ xs) (HeardLeaving a ∷ ys)

  -- a timeline without serves
  unfoldable pub unserved : List (Item Argument) → List (Item Argument)
  unserved [] = []
  unserved (ByteItem b ∷ t) = ByteItem b ∷ unserved t
  unserved (CallItem (RequestCall id a) ∷ t) = if is_serve a then unserved t else CallItem (RequestCall id a) ∷ unserved t
  unserved (CallItem CountCall ∷ t) = CallItem CountCall ∷ unserved t

  -- ---- premises on a run
  -- no byte of R's records comes between a finish of R and its END
  abbrev pub Quiet : ℕ → Connection M → Scan → List (Item Argument) → Type 0
  Quiet R s m [] = Unit {0}
  Quiet R s m (ByteItem b ∷ t) =
      (is_own R m (b ∷ item_bytes t) ≡ true → is_leaving (request_in M R s) ≡ false) × Quiet R (on_item M s (ByteItem b)).0 (scan_next R m b) t
  Quiet R s m (CallItem c ∷ t) = Quiet R (on_item M s (CallItem c)).0 m t

  -- in a run of R's records alone: no byte at all
  abbrev pub QuietAlone : ℕ → Connection M → List (Item Argument) → Type 0
  QuietAlone R s [] = Unit {0}
  QuietAlone R s (ByteItem b ∷ t) = (is_leaving (request_in M R s) ≡ false) × QuietAlone R (on_item M s (ByteItem b)).0 t
  QuietAlone R s (CallItem c ∷ t) = QuietAlone R (on_item M s (CallItem c)).0 t

  -- none of these answers is a refusal because of what waits
  abbrev pub NoneHeldUp : List (Observation M) → Type 0
  NoneHeldUp [] = Unit {0}
  NoneHeldUp (RequestEvent id e ∷ os) = NoneHeldUp os
  NoneHeldUp (CallAnswer id a n v w ∷ os) = (is_held_up n ≡ false) × NoneHeldUp os
  NoneHeldUp (NoticeEvent w ∷ os) = NoneHeldUp os
  NoneHeldUp (CloseEvent n ∷ os) = NoneHeldUp os
  NoneHeldUp (CountAnswer n ∷ os) = NoneHeldUp os
