-- A turn goes on: one record more, or nothing waits.
use Rattle.connection.specs.Slots.{Slot}
use Rattle.std.specs.Prelude.{◌≡◌, refl, ℕ, suc, ◌+◌, ◌*◌, ◌-◌, ◌≤◌, ◌<◌, List, [], length, get_or}
use Rattle.std.proofs.Common.{sym, ap, ◌∙◌, subst, arith}
use Rattle.std.proofs.Math.Option.{none, some}
use Rattle.wire.specs.Buffer.{put_at}
use Rattle.wire.proofs.BufferLaws.{put_length}
use Rattle.connection.specs.declared.state.Conn.{Conn}
use Rattle.connection.specs.Sizes.{SLOTS}
use Rattle.queue_slot.specs.Wait.{anything}
use Rattle.queue.specs.Numbers.{NEXT}
use Rattle.queue.specs.Calls.{QueueMemory, lent, wait_at, first_slot, pump_slot, turned, Pumped, pumped_with}
use Rattle.wait_numbers.specs.Slot.{slot_of, next_from}
use Rattle.queue_pump.specs.declared.Turning.{Turning}
use Rattle.queue_pump.specs.Able.{Able, AbleIn, kept_slot}
use Rattle.queue_pump.specs.Coming.{wrote, comes, next_in, first_below, next_below, comes_first, comes_last, comes_none, comes_one}
use Rattle.queue_pump.specs.Serving.{Wrote}
use Rattle.queue_pump.specs.Going.{Going, turning}

-- The slot that the code finds is the one that is served next.
pub next_found : (m : QueueMemory) {first : ℕ} (slot : Slot) → first ≡ first_slot (get_or m.waits NEXT 0)
    → (first < SLOTS → slot_of slot ≡ next_from m.waits first) → slot_of slot ≡ next_in m
unfolding wait_at anything
next_found m {first} slot e f =
    let n = get_or m.waits NEXT 0 in
    f (subst (λ (k : ℕ). k < SLOTS) (sym e) (first_below n)) ∙ ap (next_from m.waits) e

-- From one place of a turn to a later one: what it comes to is the same, and so are the sizes.
pub record Since (t : Turning) (store waits marks queue out : List ℕ) (r : Turning) (store' waits' marks' queue' out' : List ℕ) : Type 0 where
  pub going : Going r store' waits' marks' queue' out'
  pub store_kept : length store' ≡ length store
  pub queue_kept : length queue' ≡ length queue
  pub out_kept : length out' ≡ length out
  pub same : (gathered : List ℕ) → turning t gathered store waits marks queue out ≡ turning r gathered store' waits' marks' queue' out'

-- And less is to come.
pub record Goes (t : Turning) (store waits marks queue out : List ℕ) (r : Turning) (store' waits' marks' queue' out' : List ℕ) : Type 0 where
  pub since : Since t store waits marks queue out r store' waits' marks' queue' out'
  pub less : r.left < t.left

module _ (t : Turning) (store waits marks queue out : List ℕ) (g : Going t store waits marks queue out) (some_left : 0 < t.left) where
  -- the memory, with any gathered bytes
  abbrev here : List ℕ → QueueMemory
  here gathered = lent t.conn gathered store waits marks queue

  -- Nothing waits.
  pub goes_none : ((gathered : List ℕ) → next_in (here gathered) ≡ none)
      → Goes t store waits marks queue out (record { conn = t.conn; records = t.records; bytes = t.bytes; left = 0 }) store waits marks queue out
  goes_none e = record {
    since = record {
      going = record { able = g.able; room = omega (arith, g.room); few = omega (arith, g.few) };
      store_kept = refl;
      queue_kept = refl;
      out_kept = refl;
      same = λ gathered. comes_none t.records t.bytes t.left (here gathered) out (e gathered);
    };
    less = some_left;
  }

  -- One record of slot i.
  pub goes_one : (i : ℕ) {c : Conn} {next : ℕ} {store' waits' marks' queue' out' : List ℕ} → ((gathered : List ℕ) → next_in (here gathered) ≡ some i)
      → ((gathered : List ℕ) → Wrote (pump_slot (here gathered) i) (lent c gathered store' waits' marks' queue') out out' t.bytes next)
      → Goes t store waits marks queue out (record { conn = c; records = t.records + 1; bytes = next; left = t.left - 1 }) store' waits' marks' queue' out'
  goes_one i {c} {next} {store'} {waits'} {marks'} {queue'} {out'} e w =
      let m = here [] in
      let p = pump_slot m i in
      let q = kept_slot m i g.able (next_below m i (e [])) in
      let able : AbleIn (lent c [] store' waits' marks' queue') = subst AbleIn (sym (w []).leaves) q.able in
      let long : length out' ≡ length out = ap length (w []).buffer ∙ put_length out t.bytes p.bytes (omega (arith, g.room, q.short)) in
      let after : t.left ≡ suc (t.left - 1) = omega arith in
      record {
        since = record {
          going = record { able = able; room = omega (arith, g.room, q.short, (w []).place); few = omega (arith, g.few) };
          store_kept = able.store_size ∙ sym g.able.store_size;
          queue_kept = able.queue_size ∙ sym g.able.queue_size;
          out_kept = long;
          same = λ gathered.
              let v = w gathered in
              ap (λ (k : ℕ). comes t.records t.bytes k (here gathered) out) after
              ∙ comes_one t.records t.bytes (t.left - 1) (here gathered) i out g.able (e gathered) (omega (arith, g.room))
              ∙ ap (λ (k : ℕ). comes (t.records + 1) k (t.left - 1) (pump_slot (here gathered) i).left (put_at out t.bytes (pump_slot (here gathered) i).bytes)) (sym v.place)
              ∙ ap (λ (x : List ℕ). comes (t.records + 1) next (t.left - 1) (pump_slot (here gathered) i).left x) (sym v.buffer)
              ∙ ap (λ (x : QueueMemory). comes (t.records + 1) next (t.left - 1) x out') (sym v.leaves);
        };
        less = omega arith;
      }

-- ---- the loop
-- the beginning of a turn
abbrev pub start_of : Conn → ℕ → Turning
start_of c allowance = record { conn = c; records = 0; bytes = 0; left = allowance }

-- A turn begins.
pub since_first : (c : Conn) (store waits marks queue out : List ℕ) (allowance : ℕ) → Able store waits marks queue → 520 * allowance ≤ length out
    → Since (start_of c allowance) store waits marks queue out (start_of c allowance) store waits marks queue out
since_first c store waits marks queue out allowance z h = record {
  going = record { able = z; room = omega arith; few = omega arith };
  store_kept = refl;
  queue_kept = refl;
  out_kept = refl;
  same = λ gathered. refl;
}

-- It goes on.
pub since_next : {t r u : Turning} {a b c d e a' b' c' d' e' a'' b'' c'' d'' e'' : List ℕ} → Since t a b c d e r a' b' c' d' e' → Goes r a' b' c' d' e' u a'' b'' c'' d'' e''
    → Since t a b c d e u a'' b'' c'' d'' e''
since_next s g = record {
  going = g.since.going;
  store_kept = g.since.store_kept ∙ s.store_kept;
  queue_kept = g.since.queue_kept ∙ s.queue_kept;
  out_kept = g.since.out_kept ∙ s.out_kept;
  same = λ gathered. s.same gathered ∙ g.since.same gathered;
}

-- It ends.
pub since_last : (c : Conn) (allowance : ℕ) (store waits marks queue out : List ℕ) (t : Turning) (store' waits' marks' queue' out' : List ℕ) {p : List ℕ → Pumped}
    → Since (start_of c allowance) store waits marks queue out t store' waits' marks' queue' out' → t.left ≤ 0
    → ((gathered : List ℕ) → p gathered ≡ wrote t.records t.bytes (lent t.conn gathered store' waits' marks' queue') out')
    → (gathered : List ℕ) → p gathered ≡ pumped_with (turned allowance (lent c gathered store waits marks queue)) out
since_last c allowance store waits marks queue out t store' waits' marks' queue' out' s z e gathered =
    let m = lent t.conn gathered store' waits' marks' queue' in
    let none_left : 0 ≡ t.left = omega arith in
    e gathered
    ∙ sym (comes_last t.records t.bytes m out')
    ∙ ap (λ (k : ℕ). comes t.records t.bytes k m out') none_left
    ∙ sym (s.same gathered)
    ∙ comes_first allowance (lent c gathered store waits marks queue) out
