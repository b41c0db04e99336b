-- A state in shape: what every state of a run fulfils. Definitions only.
use Rattle.std.specs.Prelude.{◌≡◌, List, [], ◌∷◌, ℕ, ◌+◌, ◌≤◌, ◌<◌, length}
use Rattle.wire.specs.Buffer.{byte_at}
use Rattle.machine.specs.Slots.{SlotState, Vacant, HeldBy, slot_at}
use Rattle.machine.specs.Timeline.{Item, ByteItem, CallItem}
use Rattle.machine.specs.Machine.{Machine, Target, Skip, ToBegin, ToQuery, ToSlot, Reading, AtHeader, PastHeader, Slots, Connection, Open, Closed, Effect}
use Rattle.machine.specs.Laws.{Laws}

-- every element is a byte (after the end of a list there stands 0)
abbrev pub BytesOk : List ℕ → Type 0
BytesOk h = (i : ℕ) → byte_at h i < 256

module _ (M : Machine) where
  -- the bytes of a timeline are bytes
  abbrev pub ItemOk : Item M.Argument → Type 0
  ItemOk (ByteItem b) = b < 256
  ItemOk (CallItem c) = Unit {0}

  -- all of them
  pub data ItemsOk : List (Item M.Argument) → Type 0 where
    ItemsEnd : ItemsOk []
    ItemsMore : {x : Item M.Argument} {t : List (Item M.Argument)} → ItemOk x → ItemsOk t → ItemsOk (x ∷ t)

module _ (M : Machine) (L : Laws M) where
  open M use {Leftover, clean, Request}
  open L use {slot_count, query_limit, RequestOk, LeftoverOk, StreamOk}

  -- ---- slots
  -- a free slot keeps what it may keep; an id that holds one is not 0, and its request is in shape
  abbrev pub SlotOk : SlotState Leftover Request → Type 0
  SlotOk (Vacant x) = LeftoverOk x
  SlotOk (HeldBy id r) = (0 < id) × RequestOk r

  -- no slot is held by the id
  abbrev pub IsAbsent : ℕ → Slots M → Type 0
  IsAbsent id T = (j : ℕ) (r : Request) → slot_at clean T j ≡ HeldBy id r → ⊥

  -- there are as many slots as there should be, each is in shape, and no id holds two
  pub record SlotsOk (T : Slots M) : Type 0 where
    pub size : length T ≡ slot_count
    pub fits : (j : ℕ) → SlotOk (slot_at clean T j)
    pub once : (i j id : ℕ) (r q : Request) → slot_at clean T i ≡ HeldBy id r → slot_at clean T j ≡ HeldBy id q → i ≡ j

  -- ---- where a reader stands
  -- A target with c content bytes left: a BEGIN body becomes eight bytes, for an id that is not 0 and not active; a
  -- query stays within its limit; a stream is of a slot that is held, and its request may take so much.
  abbrev pub TargetOk : Slots M → Target M → ℕ → Type 0
  TargetOk T Skip c = Unit {0}
  TargetOk T (ToBegin id g) c = (length g + c ≡ 8) × (0 < id) × IsAbsent id T
  TargetOk T (ToQuery g) c = length g + c ≤ query_limit
  TargetOk T (ToSlot i k) c = (id : ℕ) × (r : Request) × (slot_at clean T i ≡ HeldBy id r) × StreamOk k c r

  -- past a header: something is left, and no more than a header can say
  pub record RestOk (T : Slots M) (s : Target M) (c p : ℕ) : Type 0 where
    pub some_left : 0 < c + p
    pub content_left : c ≤ 65535
    pub padding_left : p ≤ 255
    pub target_ok : TargetOk T s c

  -- in a header: fewer than eight bytes are in
  abbrev pub ReadingOk : Slots M → Reading M → Type 0
  ReadingOk T (AtHeader h) = (length h < 8) × BytesOk h
  ReadingOk T (PastHeader s c p) = RestOk T s c p

  -- ---- connections
  abbrev pub WellShaped : Connection M → Type 0
  WellShaped Closed = Unit {0}
  WellShaped (Open T F) = SlotsOk T × ReadingOk T F

  -- the state that an item leads to
  abbrev pub EffectOk : Effect M → Type 0
  EffectOk A = WellShaped A.0
