-- What holds of the numbers.
use Rattle.std.specs.Prelude.{◌≡◌, refl, false, eqb}
use Rattle.connection.specs.declared.answer.Refusal.{Refusal}
use Rattle.connection.specs.Codes.{refusal_number}

-- no refusal has the number 0
pub refusal_some : (why : Refusal) → eqb (refusal_number why) 0 ≡ false
refusal_some Refusal.Closed = refl
refusal_some Refusal.StoreSize = refl
refusal_some Refusal.NotActive = refl
refusal_some Refusal.NotReady = refl
refusal_some Refusal.Ended = refl
refusal_some Refusal.NoRoom = refl
refusal_some Refusal.NoPair = refl
refusal_some Refusal.TooLong = refl
refusal_some Refusal.OutOfShape = refl
refusal_some Refusal.Waiting = refl
