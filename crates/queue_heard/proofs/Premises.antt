-- The premises of the theorems can be met: they hold of a request that says, finishes and leaves by turns of the pump.
use Rattle.std.specs.Prelude.{refl, [], ◌∷◌}
use Rattle.std.proofs.Common.{arith}
use mathlib.Core.List.Memᴰ
use Rattle.server.proofs.WrittenBytes.{small_bytes}
use Rattle.replies_heard.proofs.Cases.{header, begin}
use Rattle.queue_heard.specs.Joint.{AllFair, Understood}
use Rattle.queue_heard.proofs.Cases.{lent, start, whole, computing}
use Rattle.queue_heard.proofs.JointTheorem.{writings_are_heard}

whole_fair : AllFair start whole
unfolding computing
whole_fair = (tt, ((small_bytes (header 1 1 8) refl, tt), ((small_bytes (begin 1) refl, Memᴰ.head refl), ((small_bytes (header 4 1 0) refl, tt), (((omega arith, small_bytes (104 ∷ 105 ∷ []) refl), tt), (((omega arith, small_bytes (33 ∷ []) refl), tt), (((omega arith, small_bytes (63 ∷ []) refl), tt), ((tt, tt), (tt, (tt, (tt, (((omega arith, omega arith), tt), ((tt, tt), (tt, (tt, (tt, (tt, (tt, (tt, (tt, (tt, (tt, (tt, tt)))))))))))))))))))))))

pub whole_understood : Understood start whole
whole_understood = writings_are_heard lent whole whole_fair
