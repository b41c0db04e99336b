use Rattle.std.specs.Prelude.{Result, ⊤}
use mathlib.Core.Path.{◌≡◌, sym, ap, ap₂, ◌∙◌}
use mathlib.Core.Bool.{Bool}
use mathlib.Core.List.{List}
use Prim.Native.Nat.{ℕ}
use Rattle.connection.specs.declared.state.Table.{Table}
use Rattle.connection.specs.Sizes.{SLOTS}
use Rattle.connection.proofs.Laws.SlotsLaws.{HoldsFrom}
use Rattle.server.specs.declared.state.Frame.{Frame}
use Rattle.server.specs.Step.{judged}
use Rattle.server.specs.Decision.{inner_in}
use Rattle.server_header.specs.declared.Owner.{Owner}
use Rattle.server_header.specs.Rows.{Seen, checked_header, by_owner, by_check, judged_for}
use Rattle.server_header.proofs.RowLaws.{judged_seen, owner_slot, slot_id}
use Rattle.server_header.proofs.judge.Goals as goal
use Rattle.server.specs.declared.event.ServerClose.{ServerClose}

pub by_owner-requires : goal.by_owner-requires
by_owner-requires c =
    let found : (i : ℕ) → c.owner_of-owner.result ≡ Owner.Request i → HoldsFrom SLOTS c.args.ids.now c.args.w.occupied c.args.h.id 0 i =
    λ i e. let a = c.args in owner_slot a.ids.now a.w.occupied a.h.kind a.h.id i (sym c.owner_of-owner.ensures ∙ e) in
    λ i e. (found i e).high

pub returns-in-Err : goal.returns-in-Err
returns-in-Err c =
    let judged-by : (k : Result ⊤ ServerClose) (t : Table) (f : Frame) (values : List ℕ) → Seen t c.args.ids.now c.args.w → c.check_header.result ≡ k → by_check k (inner_in t f values) (by_owner c.owner_of-owner.result (inner_in t f values) c.args.h.kind c.args.h.content) ≡ judged (inner_in t f values) c.args.h =
    λ k t f values seen e.
    let s = inner_in t f values in
    ap (λ (x : Result ⊤ ServerClose). by_check x s (by_owner c.owner_of-owner.result s c.args.h.kind c.args.h.content))
    (sym e ∙ c.check_header.ensures ∙ ap₂ (λ (r b : Bool). checked_header c.args.h.version r b) c.is_reply.ensures c.is_known.ensures)
    ∙ ap (λ (o : Owner). judged_for o s c.args.h) c.owner_of-owner.ensures
    ∙ judged_seen t f values c.args.ids.now c.args.w c.args.h seen in
    λ t f values seen. c.closing.ensures t f values ∙ judged-by _ t f values seen c.in-Err.is

pub returns-in-Ok : goal.returns-in-Ok
returns-in-Ok c =
    let found : (i : ℕ) → c.owner_of-owner.result ≡ Owner.Request i → HoldsFrom SLOTS c.args.ids.now c.args.w.occupied c.args.h.id 0 i =
    λ i e. let a = c.args in owner_slot a.ids.now a.w.occupied a.h.kind a.h.id i (sym c.owner_of-owner.ensures ∙ e) in
    let judged-by : (k : Result ⊤ ServerClose) (t : Table) (f : Frame) (values : List ℕ) → Seen t c.args.ids.now c.args.w → c.check_header.result ≡ k → by_check k (inner_in t f values) (by_owner c.owner_of-owner.result (inner_in t f values) c.args.h.kind c.args.h.content) ≡ judged (inner_in t f values) c.args.h =
    λ k t f values seen e.
    let s = inner_in t f values in
    ap (λ (x : Result ⊤ ServerClose). by_check x s (by_owner c.owner_of-owner.result s c.args.h.kind c.args.h.content))
    (sym e ∙ c.check_header.ensures ∙ ap₂ (λ (r b : Bool). checked_header c.args.h.version r b) c.is_reply.ensures c.is_known.ensures)
    ∙ ap (λ (o : Owner). judged_for o s c.args.h) c.owner_of-owner.ensures
    ∙ judged_seen t f values c.args.ids.now c.args.w c.args.h seen in
    λ t f values seen.
    c.by_owner.ensures t f values c.args.ids.now seen
    (λ i e. slot_id t c.args.ids.now c.args.w.occupied c.args.h.id i seen.ids (found i e))
    ∙ judged-by _ t f values seen c.in-Ok.is
