-- The premises of the theorem can be met: it holds of a request from its opening to its end, and of a refused opening.
use Rattle.std.specs.Prelude.{refl, [], ◌∷◌}
use mathlib.Core.List.Memᴰ
use Rattle.std.proofs.Common.{arith}
use Rattle.wire.specs.Buffer.{zeros}
use Rattle.connection.specs.Sizes.{QUERY, STORE}
use Rattle.server.proofs.WrittenBytes.{small_bytes}
use Rattle.replies_heard.specs.Joint.{AllFair, Understood}
use Rattle.replies_heard.proofs.Cases.{start, header, begin, whole, refusing, computing}
use Rattle.replies_heard.proofs.JointTheorem.{replies_are_heard}

whole_fair : AllFair start whole
unfolding computing
whole_fair = (tt, ((small_bytes (header 1 1 8) refl, tt), ((small_bytes (begin 1) refl, Memᴰ.head refl), (tt, ((small_bytes (header 4 1 0) refl, tt), (((omega arith, small_bytes (104 ∷ 105 ∷ []) refl), tt), (tt, (tt, (tt, (tt, (((omega arith, small_bytes (33 ∷ []) refl), tt), (((omega arith, omega arith), tt), (tt, (tt, (tt, (tt, (tt, (tt, (tt, (tt, (tt, tt)))))))))))))))))))))

refusing_fair : AllFair start refusing
unfolding computing
refusing_fair = (tt, ((small_bytes (header 1 1 8) refl, tt), ((small_bytes (begin 9) refl, tt), (((omega arith, omega arith), Memᴰ.head refl), ((tt, tt), (((omega arith, omega arith), Memᴰ.head refl), ((omega arith, tt), (tt, (tt, (tt, (tt, (tt, (tt, (tt, (tt, ((small_bytes (header 1 1 8) refl, tt), ((small_bytes (begin 1) refl, Memᴰ.head refl), tt)))))))))))))))))

pub whole_understood : Understood start whole
whole_understood = replies_are_heard (zeros QUERY) (zeros STORE) (zeros QUERY) whole refl refl refl whole_fair

pub refusing_understood : Understood start refusing
refusing_understood = replies_are_heard (zeros QUERY) (zeros STORE) (zeros QUERY) refusing refl refl refl refusing_fair
