use native.Mathlib.Omega.{arith}
use lib.ListN.{length}
use Rattle.call_finish.proofs.Laws.{first_room, second_room, owed_written}
use Rattle.call_finish.proofs.write_owed.Goals as goal

pub write_end-a-requires : goal.write_end-a-requires
write_end-a-requires c = first_room c.args.r c.args.app_status (length c.args.out.now) c.owes_out.ensures c.requires

pub write_end-b-requires : goal.write_end-b-requires
write_end-b-requires c = second_room c.args.r c.args.app_status (length c.write_end-a.new.out) c.owes_out.ensures c.owes_err.ensures c.write_end-a.ensures.0 (omega (arith, c.requires))

pub returns : goal.returns
returns c = owed_written c.args.r c.args.app_status c.args.out.now c.requires c.owes_out.ensures c.write_end-a.ensures c.owes_err.ensures c.write_end-b.ensures (omega arith) c.end_body-body.ensures c.write_record.ensures
