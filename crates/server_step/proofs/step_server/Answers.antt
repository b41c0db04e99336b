use mathlib.Core.Path.{◌≡◌, refl, sym, ap, subst, ◌∙◌}
use mathlib.Core.Bool.{Bool, false}
use lib.ListN.{length}
use Rattle.connection.specs.declared.state.Table.{Table}
use Rattle.server.specs.declared.state.Frame.{Frame}
use Rattle.server.specs.declared.decision.Change.{Change}
use Rattle.server.specs.Shape.{in_shape}
use Rattle.server.specs.Step.{Stepped, state_of, stepped}
use Rattle.server_check.proofs.Laws.{shape_of_lem}
use Rattle.connection.specs.Slots.{no_requests}
use Rattle.server_header.specs.declared.Words.{Words}
use Rattle.server_header.specs.Rows.{Seen}
use Rattle.server_step.specs.declared.StepCheck.{StepCheck}
use Rattle.server_step.specs.Outcome.{server_of, server_after, stepped_with, outcome_of}
use Rattle.server_step.specs.Check.{checked_step, by_check, by_check_lem, Reads, check_read}
use Rattle.server_step.proofs.Laws.{shape_fed}
use Rattle.server_step.proofs.step_server.Goals as goal

pub settle-o-requires : goal.settle-o-requires
settle-o-requires c =
    let checked : c.check_step-check.result ≡ checked_step (in_shape c.args.c) c.args.c.«open» (length c.args.piece.now) =
    c.check_step-check.ensures ∙ ap (λ (b : Bool). checked_step b c.args.c.«open» (length c.args.piece.now)) (c.in_shape-fits.ensures ∙ shape_of_lem c.args.c) in
    let reads : c.check_step-check.result ≡ StepCheck.Read → Reads (in_shape c.args.c) c.args.c.«open» =
    λ e.
    check_read (in_shape c.args.c) c.args.c.«open» (length c.args.piece.now) (sym (checked) ∙ e) in
    λ e. shape_fed c.args.c (reads e).shape

pub returns-in-Keep : goal.returns-in-Keep
returns-in-Keep c =
    let checked : c.check_step-check.result ≡ checked_step (in_shape c.args.c) c.args.c.«open» (length c.args.piece.now) =
    c.check_step-check.ensures ∙ ap (λ (b : Bool). checked_step b c.args.c.«open» (length c.args.piece.now)) (c.in_shape-fits.ensures ∙ shape_of_lem c.args.c) in
    let reads : c.check_step-check.result ≡ StepCheck.Read → Reads (in_shape c.args.c) c.args.c.«open» =
    λ e.
    check_read (in_shape c.args.c) c.args.c.«open» (length c.args.piece.now) (sym (checked) ∙ e) in
    let seen : (let t = c.args.c.table in Seen t t.ids c.words_of-w.result) =
    subst (λ (w : Words). Seen c.args.c.table c.args.c.table.ids w) (sym c.words_of-w.ensures) (record { ids = refl; occupied = refl; out_ended_same = refl; err_ended_same = refl }) in
    let said : (s : Stepped) → s ≡ outcome_of c.settle-o.result c.args.c.table c.args.c.«open» c.settle-o.new.values → s ≡ stepped (state_of c.args.c c.args.values.now) c.args.piece.now =
    λ s e.
    e ∙ c.settle-o.ensures c.args.c.table c.args.c.«open» (seen) (λ is. (reads is).reads)
    ∙ ap (λ (x : StepCheck). by_check x c.args.c c.args.values.now c.args.piece.now) (checked)
    ∙ by_check_lem c.args.c c.args.values.now c.args.piece.now in
    said _ (ap (λ (k : Change). stepped_with c.settle-o.result (server_after k c.args.c.table c.args.c.«open» c.settle-o.result.frame) c.settle-o.new.values) (sym c.in-Keep.is))

pub returns-in-EndStream : goal.returns-in-EndStream
returns-in-EndStream c =
    let checked : c.check_step-check.result ≡ checked_step (in_shape c.args.c) c.args.c.«open» (length c.args.piece.now) =
    c.check_step-check.ensures ∙ ap (λ (b : Bool). checked_step b c.args.c.«open» (length c.args.piece.now)) (c.in_shape-fits.ensures ∙ shape_of_lem c.args.c) in
    let reads : c.check_step-check.result ≡ StepCheck.Read → Reads (in_shape c.args.c) c.args.c.«open» =
    λ e.
    check_read (in_shape c.args.c) c.args.c.«open» (length c.args.piece.now) (sym (checked) ∙ e) in
    let seen : (let t = c.args.c.table in Seen t t.ids c.words_of-w.result) =
    subst (λ (w : Words). Seen c.args.c.table c.args.c.table.ids w) (sym c.words_of-w.ensures) (record { ids = refl; occupied = refl; out_ended_same = refl; err_ended_same = refl }) in
    let said : (s : Stepped) → s ≡ outcome_of c.settle-o.result c.args.c.table c.args.c.«open» c.settle-o.new.values → s ≡ stepped (state_of c.args.c c.args.values.now) c.args.piece.now =
    λ s e.
    e ∙ c.settle-o.ensures c.args.c.table c.args.c.«open» (seen) (λ is. (reads is).reads)
    ∙ ap (λ (x : StepCheck). by_check x c.args.c c.args.values.now c.args.piece.now) (checked)
    ∙ by_check_lem c.args.c c.args.values.now c.args.piece.now in
    said _
    (ap (λ (t : Table). stepped_with c.settle-o.result (server_of t c.settle-o.result.frame c.args.c.«open») c.settle-o.new.values) c.end_stream-t.ensures
    ∙ ap (λ (k : Change). stepped_with c.settle-o.result (server_after k c.args.c.table c.args.c.«open» c.settle-o.result.frame) c.settle-o.new.values) (sym c.in-EndStream.is))

pub returns-in-Free : goal.returns-in-Free
returns-in-Free c =
    let checked : c.check_step-check.result ≡ checked_step (in_shape c.args.c) c.args.c.«open» (length c.args.piece.now) =
    c.check_step-check.ensures ∙ ap (λ (b : Bool). checked_step b c.args.c.«open» (length c.args.piece.now)) (c.in_shape-fits.ensures ∙ shape_of_lem c.args.c) in
    let reads : c.check_step-check.result ≡ StepCheck.Read → Reads (in_shape c.args.c) c.args.c.«open» =
    λ e.
    check_read (in_shape c.args.c) c.args.c.«open» (length c.args.piece.now) (sym (checked) ∙ e) in
    let seen : (let t = c.args.c.table in Seen t t.ids c.words_of-w.result) =
    subst (λ (w : Words). Seen c.args.c.table c.args.c.table.ids w) (sym c.words_of-w.ensures) (record { ids = refl; occupied = refl; out_ended_same = refl; err_ended_same = refl }) in
    let said : (s : Stepped) → s ≡ outcome_of c.settle-o.result c.args.c.table c.args.c.«open» c.settle-o.new.values → s ≡ stepped (state_of c.args.c c.args.values.now) c.args.piece.now =
    λ s e.
    e ∙ c.settle-o.ensures c.args.c.table c.args.c.«open» (seen) (λ is. (reads is).reads)
    ∙ ap (λ (x : StepCheck). by_check x c.args.c c.args.values.now c.args.piece.now) (checked)
    ∙ by_check_lem c.args.c c.args.values.now c.args.piece.now in
    said _
    (ap (λ (t : Table). stepped_with c.settle-o.result (server_of t c.settle-o.result.frame c.args.c.«open») c.settle-o.new.values) c.free_request-t.ensures
    ∙ ap (λ (k : Change). stepped_with c.settle-o.result (server_after k c.args.c.table c.args.c.«open» c.settle-o.result.frame) c.settle-o.new.values) (sym c.in-Free.is))

pub returns-in-Close : goal.returns-in-Close
returns-in-Close c =
    let checked : c.check_step-check.result ≡ checked_step (in_shape c.args.c) c.args.c.«open» (length c.args.piece.now) =
    c.check_step-check.ensures ∙ ap (λ (b : Bool). checked_step b c.args.c.«open» (length c.args.piece.now)) (c.in_shape-fits.ensures ∙ shape_of_lem c.args.c) in
    let reads : c.check_step-check.result ≡ StepCheck.Read → Reads (in_shape c.args.c) c.args.c.«open» =
    λ e.
    check_read (in_shape c.args.c) c.args.c.«open» (length c.args.piece.now) (sym (checked) ∙ e) in
    let seen : (let t = c.args.c.table in Seen t t.ids c.words_of-w.result) =
    subst (λ (w : Words). Seen c.args.c.table c.args.c.table.ids w) (sym c.words_of-w.ensures) (record { ids = refl; occupied = refl; out_ended_same = refl; err_ended_same = refl }) in
    let said : (s : Stepped) → s ≡ outcome_of c.settle-o.result c.args.c.table c.args.c.«open» c.settle-o.new.values → s ≡ stepped (state_of c.args.c c.args.values.now) c.args.piece.now =
    λ s e.
    e ∙ c.settle-o.ensures c.args.c.table c.args.c.«open» (seen) (λ is. (reads is).reads)
    ∙ ap (λ (x : StepCheck). by_check x c.args.c c.args.values.now c.args.piece.now) (checked)
    ∙ by_check_lem c.args.c c.args.values.now c.args.piece.now in
    said _
    (ap (λ (t : Table). stepped_with c.settle-o.result (server_of t c.no_frame-frame.result false) c.settle-o.new.values) c.no_requests-t.ensures
    ∙ ap (λ (f : Frame). stepped_with c.settle-o.result (server_of no_requests f false) c.settle-o.new.values) c.no_frame-frame.ensures
    ∙ ap (λ (k : Change). stepped_with c.settle-o.result (server_after k c.args.c.table c.args.c.«open» c.settle-o.result.frame) c.settle-o.new.values) (sym c.in-Close.is))
