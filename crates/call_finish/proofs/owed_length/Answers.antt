use Rattle.std.specs.Prelude.{◌≡◌, ◌+◌, ◌*◌, Bool, true, false, if◌then◌else◌}
use Rattle.std.proofs.Common.{refl}
use mir.Val.{bool_byte}
use Rattle.connection.specs.RequestCalls.{owes_out, owes_err}
use Rattle.call_finish.specs.Answer.{owed_length}
use Rattle.call_finish.proofs.owed_length.Goals as goal

counted : (out err : Bool) → 8 * bool_byte out + 8 * bool_byte err + 16 ≡ (if out then (if err then 32 else 24) else (if err then 24 else 16))
counted true true = refl
counted true false = refl
counted false true = refl
counted false false = refl

pub returns : goal.returns
unfolding owed_length
returns c =
    let m = c.args.m in
    simp (c.from.ensures, c.from-2.ensures, c.owes_out.ensures, c.owes_err.ensures) (counted (owes_out m) (owes_err m))
