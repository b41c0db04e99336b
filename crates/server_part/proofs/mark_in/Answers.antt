use Rattle.std.proofs.Common.{ℕ, List, [], length, ltb, sym, ap, subst, ◌∙◌, arith}
use Rattle.connection.specs.Request.{with_state}
use Rattle.server_admit.proofs.Room.{Filled, record_short, record_enough, record_filled}
use Rattle.server_part.specs.declared.Said.{Said}
use Rattle.server_part.specs.Answer.{said_by}
use Rattle.server_part.proofs.Laws.{part_short, part_wrote}
use Rattle.server_part.proofs.mark_in.Goals as goal

pub returns-then-not-record_fits : goal.returns-then-not-record_fits
returns-then-not-record_fits c =
    λ part in-turn not-long bytes after.
    let l = c.args.out.now in
    let short = record_short c.args.kind c.args.r.id [] (length l) (omega arith) (sym c.record_fits.ensures ∙ c.if-not-record_fits.true) in
    ap (λ (s : Said). said_by s l) c.refused.ensures
    ∙ part_short c.args.r part l in-turn not-long (ap (λ (b : List ℕ). ltb (length l) (length b)) bytes ∙ short)

pub returns : goal.returns
returns c =
    λ part in-turn not-long bytes after.
    let l = c.args.out.now in
    let enough = record_enough c.args.kind c.args.r.id [] (length l) (omega arith) (sym c.record_fits.ensures ∙ c.if-not-record_fits.false) in
    let filled = record_filled l c.args.kind c.args.r.id [] (omega arith) enough c.write_record.ensures in
    part_wrote c.args.r part l in-turn not-long (ap (λ (b : List ℕ). ltb (length l) (length b)) bytes ∙ enough)
    (subst (λ (b : List ℕ). Filled l b c.write_record.result c.write_record.new.out) (sym bytes) filled)
    (ap (with_state c.args.r) after)
