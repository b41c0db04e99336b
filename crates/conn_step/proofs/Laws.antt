-- What the proofs of this crate share.
use Rattle.std.specs.Prelude.{ℕ, ◌+◌, ◌-◌, ◌≤◌, min, ◌≡◌, Bool, true, List, length, ltb, leb}
use Rattle.std.proofs.Common.{sym, ap, ◌∙◌, arith}
use Rattle.wire.specs.Test.{by_test}
use Rattle.record_reader.specs.declared.Position.{Position}
use Rattle.record_reader.specs.declared.Advanced.{Advanced}
use Rattle.record_reader.specs.Position.{in_header, advanced}
use Rattle.connection.specs.declared.state.Conn.{Conn}
use Rattle.connection.specs.declared.state.Table.{Table}
use Rattle.connection.specs.declared.decision.Change.{Change}
use Rattle.connection.specs.Shape.{in_shape}
use Rattle.connection.specs.Decision.{open_state, conn_after, store_after}
use Rattle.connection.proofs.Laws.ShapeLaws.{Placed}
use Rattle.connection.specs.Step.{Stepped, state_of, open_with, advances}
use Rattle.conn_step.specs.declared.Outcome.{Outcome}
use Rattle.conn_step.specs.Outcome.{stepped_with, outcome_of}

-- a step of the reader uses no more than there is, and never more than a record's content can have
pub used_fits : (p : Position) (x : List ℕ) → Placed p → ((advanced p x).used ≤ length x) × ((advanced p x).used ≤ 65535)
unfolding advanced in_header
used_fits p x h =
    by_test (ltb 0 p.content)
    (λ t. simp t (omega (arith, h), omega (arith, h)))
    (λ t. by_test (ltb 0 p.padding)
    (λ u. simp (t, u) (omega (arith, h), omega (arith, h)))
    (λ u. by_test (leb 8 p.held)
    (λ v. simp (t, u, v) (omega arith, omega arith))
    (λ v. by_test (ltb (p.held + min (8 - p.held) (length x)) 8)
    (λ w. simp (t, u, v, w) (omega arith, omega arith))
    (λ w. simp (t, u, v, w) (omega arith, omega arith)))))

-- so does a step that is known
pub used_within : (p : Position) (x : List ℕ) (a : Advanced) → Placed p → a ≡ advanced p x → (a.used ≤ length x) × (a.used ≤ 65535)
used_within p x a h e = rw e (used_fits p x h)

-- a connection that is open
pub opened_is : (c : Conn) → c.«open» ≡ true → open_with c.table c.frame ≡ c
opened_is c e = ap (λ (b : Bool). record { table = c.table; frame = c.frame; «open» = b }) (sym e)

-- what an outcome comes to whose change is known
pub by_change : (o : Outcome) (t : Table) (g s : List ℕ) (k : Change) → o.change ≡ k
    → stepped_with o (conn_after k t o.frame) g (store_after k s) ≡ outcome_of o t g s
by_change o t g s k e = ap (λ (w : Change). stepped_with o (conn_after w t o.frame) g (store_after w s)) (sym e)

-- what is a step of an open connection's parts, and in shape, is a step of the connection
pub settled : (c : Conn) (g s piece : List ℕ) (o l : Stepped) → c.«open» ≡ true
    → (o ≡ advances (open_state c.table c.frame g) s piece (advanced c.frame.position piece)) × (in_shape o.state.conn ≡ true) → l ≡ o
    → (l ≡ advances (state_of c g) s piece (advanced c.frame.position piece)) × (in_shape l.state.conn ≡ true)
settled c g s piece o l i h e = (
  e ∙ h.0 ∙ ap (λ (x : Conn). advances (state_of x g) s piece (advanced c.frame.position piece)) (opened_is c i),
  ap (λ (x : Stepped). in_shape x.state.conn) e ∙ h.1,
)
