-- What a machine of one request has to show. Isolation asks nothing of it. `Laws` is asked for shape: what a request
-- decides keeps it in shape. A change of one request has to show again: for a new field, what RequestOk says of it, in
-- header_ok, byte-ok, begin-ok and call_ok; for a new fault, header_ok where a header gives it and byte-ok where
-- content does; for a new call, call_ok; for a new stream, what StreamOk says of it, in header_ok and byte-ok. Nothing
-- else of this crate is touched by any of them.
use Rattle.std.specs.Prelude.{◌≡◌, List, ℕ, suc, ◌≤◌, ◌<◌}
use Rattle.std.proofs.Math.Option.{none, some}
use Rattle.machine.specs.Machine.{HeaderOutcome, Decided, BeginOutcome, Declined, Accepted, CallOutcome, Stays, Retires, Leaves, Closes, InactiveOutcome, WrongBegin, NewBegin, PassedOver, ManagementOutcome, QueryTooLong, Notices, Gathers, Machine}

-- the request after a header is in shape, and so is the content that it takes
abbrev pub HeaderOutcomeOk : {Request Stream Event : Type 0} → (Request → Type 0) → (Stream → ℕ → Request → Type 0) → ℕ → HeaderOutcome Request Stream Event → Type 0
HeaderOutcomeOk RequestOk StreamOk c (Decided q e none) = RequestOk q
HeaderOutcomeOk RequestOk StreamOk c (Decided q e (some k)) = RequestOk q × StreamOk k c q

-- a request that is made of what a free slot keeps is in shape
abbrev pub BeginOutcomeOk : {Leftover Request Event : Type 0} → (Request → Type 0) → (Leftover → Type 0) → BeginOutcome Leftover Request Event → Type 0
BeginOutcomeOk RequestOk LeftoverOk (Declined e) = Unit {0}
BeginOutcomeOk {Leftover} RequestOk LeftoverOk (Accepted f e) = (x : Leftover) → LeftoverOk x → RequestOk (f x)

-- a request that stays is in shape, and content that it was to take it still takes, unless it is skipped from here on
abbrev pub CallOutcomeOk : {Request Stream Answer : Type 0} → (Request → Type 0) → (Stream → ℕ → Request → Type 0) → Request → CallOutcome Request Answer → Type 0
CallOutcomeOk {Stream = Stream} RequestOk StreamOk r (Stays q n) = RequestOk q × ((k : Stream) (c : ℕ) → StreamOk k c r → StreamOk k c q)
CallOutcomeOk RequestOk StreamOk r (Retires q n) = RequestOk q
CallOutcomeOk RequestOk StreamOk r (Leaves n) = Unit {0}
CallOutcomeOk RequestOk StreamOk r (Closes n) = Unit {0}

-- a BEGIN body that is gathered has eight bytes
abbrev pub InactiveOutcomeOk : ℕ → InactiveOutcome → Type 0
InactiveOutcomeOk c WrongBegin = Unit {0}
InactiveOutcomeOk c PassedOver = Unit {0}
InactiveOutcomeOk c NewBegin = c ≡ 8

-- a query that is gathered is within its limit
abbrev pub ManagementOutcomeOk : {Notice : Type 0} → ℕ → ℕ → ManagementOutcome Notice → Type 0
ManagementOutcomeOk limit c QueryTooLong = Unit {0}
ManagementOutcomeOk limit c (Notices w) = Unit {0}
ManagementOutcomeOk limit c Gathers = c ≤ limit

-- The laws of shape.
pub record Laws (M : Machine) : Type 1 where
  -- how many slots there are, and the most content bytes of a query
  pub slot_count : ℕ
  pub query_limit : ℕ
  -- a request that is in shape, what a free slot may keep, and a request that may take so much content for a stream
  pub RequestOk : M.Request → Type 0
  pub LeftoverOk : M.Leftover → Type 0
  pub StreamOk : M.Stream → ℕ → M.Request → Type 0
  -- a clean slot may be kept
  pub clean_ok : LeftoverOk M.clean
  -- a header (type and content length), one content byte, a BEGIN body, a call
  pub header_ok : (t c : ℕ) (r : M.Request) → c ≤ 65535 → RequestOk r → HeaderOutcomeOk RequestOk StreamOk c (M.on_header t c r)
  pub byte_ok : (k : M.Stream) (b c : ℕ) (r : M.Request) → b < 256 → RequestOk r → StreamOk k (suc c) r
      → RequestOk (M.on_byte k b r).0 × StreamOk k c (M.on_byte k b r).0
  pub begin_ok : (id : ℕ) (g : List ℕ) → BeginOutcomeOk RequestOk LeftoverOk (M.on_begin id g)
  pub call_ok : (a : M.Argument) (r : M.Request) → RequestOk r → CallOutcomeOk RequestOk StreamOk r (M.on_call a r)
  -- a header of an id that is not active, a header of id 0
  pub inactive_ok : (t c : ℕ) → InactiveOutcomeOk c (M.on_inactive t c)
  pub management_ok : (t c : ℕ) → ManagementOutcomeOk query_limit c (M.on_management t c)
