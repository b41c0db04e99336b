-- What the rules for one request keep: its id, and a list that does not pass its area.
use Rattle.std.specs.Prelude.{◌≡◌, refl, ℕ, ◌+◌, ◌≤◌, List, length}
use Rattle.std.proofs.Common.{arith, le-leb}
use Rattle.connection.specs.declared.request.Due.{Due}
use Rattle.connection.specs.Sizes.{AREA}
use Rattle.connection.specs.Request.{Held, Ruled, faulted, aborted, turned, on_header, grown}
use Rattle.connection.proofs.Laws.Rules.{Rule, header_rule}

-- there is room in the area for n bytes more, where they are due to it
abbrev pub Room : Due → ℕ → ℕ → Type 0
Room Due.Skip length n = Unit {0}
Room Due.Params length n = length + n ≤ AREA
Room Due.Stdin length n = Unit {0}
Room Due.Data length n = Unit {0}

-- What a header with n content bytes leaves of its request: its id, a length not over AREA, and room for the content.
pub record Kept (n : ℕ) (h : Held) (r : Ruled) : Type 0 where
  pub id : r.held.request.id ≡ h.request.id
  pub short : r.held.request.length ≤ AREA
  pub room : Room r.due r.held.request.length n

-- Whatever a header does to a request, its id stays and its list does not pass AREA.
pub keeps_header : (n : ℕ) (h : Held) → h.request.length ≤ AREA → (kind : ℕ) → Kept n h (on_header kind n h)
unfolding faulted aborted turned
keeps_header n h fits kind = of (on_header kind n h) (header_rule kind n h)
  where
    of : (r : Ruled) → Rule kind n h r → Kept n h r
    of r (Rule.Skips e) = record { id = refl; short = fits; room = tt }
    of r (Rule.Faults k f) = record { id = refl; short = omega arith; room = tt }
    of r (Rule.Breaks t z w) = record { id = refl; short = omega arith; room = tt }
    of r (Rule.Aborts l) = record { id = refl; short = fits; room = tt }
    of r (Rule.Params t room) = record { id = refl; short = fits; room = room }
    of r (Rule.Readies t z f) = record { id = refl; short = fits; room = tt }
    of r (Rule.Stdin t) = record { id = refl; short = fits; room = tt }
    of r (Rule.StdinEnds t z) = record { id = refl; short = fits; room = tt }
    of r (Rule.Data t) = record { id = refl; short = fits; room = tt }
    of r (Rule.DataEnds t z) = record { id = refl; short = fits; room = tt }

-- PARAMS content that fits makes the list longer by its bytes; the id stays.
pub grows : (h : Held) (bytes : List ℕ) → h.request.length + length bytes ≤ AREA
    → ((grown h bytes).request.id ≡ h.request.id) × ((grown h bytes).request.length ≡ h.request.length + length bytes)
unfolding grown
grows h bytes fits = simp (le-leb (h.request.length + length bytes) AREA fits) (refl, refl)
