-- Where the list of the request that a call names lies in the store.
use Rattle.std.specs.Prelude.{ℕ, ◌+◌, ◌*◌, ◌-◌, Bool, true, List, take, drop, if◌then◌else◌, Ok, Err, Result}
use Rattle.wire.specs.Test.{◌=?◌}
use Rattle.connection.specs.declared.request.Standing.{Standing}
use Rattle.connection.specs.declared.state.Conn.{Conn}
use Rattle.connection.specs.Sizes.{AREA}
use Rattle.connection.specs.Codes.{refusal_number}
use Rattle.connection.specs.Slots.{request_at}
use Rattle.connection.specs.RequestCalls as Of
use Rattle.connection.specs.Calls.{lent_refusal, slot_of}
use Rattle.connection.specs.declared.answer.Refusal.{Refusal}

-- row 4 is about the standing alone
abbrev pub no_list_of : Standing → Bool
no_list_of s = if Of.in_params s.turn then true else Of.is_faulted s.life

-- Where a request's list lies in the store: the number of the refusal, 0 for none; where it begins and where it ends.
pub record Listing : Type 0 where
  pub refusal : ℕ
  pub from : ℕ
  pub to : ℕ

abbrev pub unlisted : ℕ → Listing
unlisted n = record { refusal = n; from = 0; to = 0 }

abbrev pub listed_by : Result (ℕ × ℕ) Refusal → Listing
listed_by (Ok (a, e)) = record { refusal = 0; from = a; to = e }
listed_by (Err r) = unlisted (refusal_number r)

-- the part of the store that is so listed: of a refused call, no bytes
abbrev pub part_of : List ℕ → Listing → List ℕ
part_of store l = take (l.to - l.from) (drop l.from store)

-- Rows 2, 9, 1, 3, then row 4.
unfoldable pub listing : Conn → List ℕ → ℕ → Listing
listing c store id =
    let i = slot_of c id in
    if lent_refusal c store id =? 0 then
    (if Of.no_list (request_at c.table i) then unlisted 4
    else record { refusal = 0; from = i * AREA; to = i * AREA + (request_at c.table i).length })
    else unlisted (lent_refusal c store id)
