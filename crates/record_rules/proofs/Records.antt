-- A whole record comes to what it means, whatever a reader's rules.
use Rattle.std.specs.Prelude.{ℕ, ◌+◌, ◌≡◌, refl, true, drop}
use Rattle.std.proofs.Common.{sym, ◌∙◌, subst}
use Rattle.std.proofs.Math.Path.{ap}
use Rattle.std.proofs.Math.Bool.{false}
use mathlib.Core.List.{List, [], ◌∷◌, ◌++◌, append-nil}
use native.Mathlib.Omega.{arith}
use Rattle.std.proofs.Math.ListN.{length}
use Rattle.std.proofs.Math.Dec.{eqb}
use borrow.Author.Tests.{ne_eqb}
use Rattle.wire.specs.Test.{by_test}
use Rattle.wire.specs.Buffer.{put_at}
use Rattle.record.specs.Header.{header_of}
use Rattle.record.specs.declared.header.Header.{Header}
use Rattle.record_reader.specs.Position.{no_header, between_records, after_header}
use Rattle.record_reader.proofs.PositionLaws.{at}
use Rattle.record_reader.specs.declared.Position.{Position}
use Rattle.record_rules.specs.Rules.{Left, Rules, Reader, reader_at, Run, resting, and_then, standing, by_byte, content_means, record_means, Lawful}
use Rattle.record_rules.proofs.Laws.{Fit, Steps, step_all, by_byte_none, by_byte_append, by_byte_shut, step_whole, step_padding, step_content}

module _ (R : Rules) (L : Lawful R) where
  open R use {State, Note, is_open, judged, taken}
  open L use {Ready, judged_ready, taken_ready, closed_ready}

  -- a reader between two records
  abbrev pub between : State → Reader R
  between s = reader_at R between_records s

  pub between_fit : (s : State) → Ready s 0 → Fit R L (between s)
  between_fit s ready = record { proper = record { held = omega arith; eight = refl }; ready = ready }

  -- bytes that a step uses whole
  by_steps : (p : Position) (s : State) (x : List ℕ) (r : Run R) → Fit R L (reader_at R p s) → is_open s ≡ true → Steps R L (reader_at R p s) x r → by_byte R (reader_at R p s) x ≡ r
  by_steps p s x r fit o k = sym (step_all R L x (reader_at R p s) fit o k.1) ∙ k.0

  -- a header
  header_read : (s : State) (h : List ℕ) → Ready s 0 → is_open s ≡ true → length h ≡ 8
      → by_byte R (between s) h ≡ standing R (after_header (header_of h)) (judged s (header_of h))
  header_read s h ready o eight =
      let whole : put_at no_header 0 h ≡ h = ap (λ (n : ℕ). h ++ drop (0 + n) no_header) eight ∙ append-nil h in
      by_steps between_records s h _ (between_fit s ready) o (step_whole R L between_records s h o (omega arith) refl refl (omega arith))
      ∙ ap (λ (u : List ℕ). standing R (after_header (header_of u)) (judged s (header_of u))) whole

  -- padding
  padding_read : (s : State) (y : List ℕ) (n : ℕ) → Ready s 0 → is_open s ≡ true → length y ≡ n → by_byte R (reader_at R (at 0 n 0 no_header) s) y ≡ resting R (between s)
  padding_read s [] n ready o e = let z : n ≡ 0 = omega arith in rw z (by_byte_none R L (between s))
  padding_read s (b ∷ y) n ready o e =
      by_steps (at 0 n 0 no_header) s (b ∷ y) _ (record { proper = record { held = omega arith; eight = refl }; ready = ready }) o
      (step_padding R L (at 0 n 0 no_header) s (b ∷ y) o (omega arith) 0 refl (omega arith))

  -- what a rule left, with nothing but padding to come, and then the padding
  then_padding : (l : Left State Note) (y : List ℕ) (n : ℕ) → Ready l.state 0 → length y ≡ n
      → and_then R (standing R (at 0 n 0 no_header) l) (λ c. by_byte R c y) ≡ record { reader = between l.state; notes = l.notes }
  then_padding l y n ready e =
      by_test (is_open l.state)
      (λ o.
      rw o
      (ap (λ (w : Run R). record { reader = w.reader; notes = l.notes ++ w.notes }) (padding_read l.state y n ready o e)
      ∙ ap (λ (u : List Note). record { reader = between l.state; notes = u }) (append-nil l.notes)))
      (λ o.
      rw o
      (ap (λ (w : Run R). record { reader = w.reader; notes = l.notes ++ w.notes }) (by_byte_shut R L y (between l.state) o)
      ∙ ap (λ (u : List Note). record { reader = between l.state; notes = u }) (append-nil l.notes)))

  -- content and padding
  content_read : (s : State) (c p : ℕ) (x y : List ℕ) → Ready s c → is_open s ≡ true → length x ≡ c → length y ≡ p
      → by_byte R (reader_at R (at c p 0 no_header) s) (x ++ y) ≡ record { reader = between (content_means R x s).state; notes = (content_means R x s).notes }
  content_read s c p [] y ready o hc hp =
      let z : c ≡ 0 = omega arith in
      simp (o, z) (padding_read s y p (subst (Ready s) z ready) o hp)
  content_read s c p (b ∷ x) y ready o hc hp =
      let fit : Fit R L (reader_at R (at c p 0 no_header) s) = record { proper = record { held = omega arith; eight = refl }; ready = ready } in
      let k = step_content R L (at c p 0 no_header) s (b ∷ x) o (omega arith) 0 (omega arith) in
      let e : c ≡ length (b ∷ x) + 0 = omega arith in
      let ne : eqb (length (b ∷ x)) 0 ≡ false = ne_eqb (length (b ∷ x)) 0 (λ z. omega arith) in
      simp (o, ne)
      (by_byte_append R L (b ∷ x) (reader_at R (at c p 0 no_header) s) y
      ∙ ap (λ (w : Run R). and_then R w (λ c. by_byte R c y)) (by_steps (at c p 0 no_header) s (b ∷ x) _ fit o k)
      ∙ then_padding (taken s (b ∷ x) 0) y p (taken_ready s (b ∷ x) 0 (subst (Ready s) e ready)) hp)

  -- A whole record, whatever the bytes of its padding, brings a reader from between two records to between two records, and comes to what it means.
  pub record_read : (s : State) (h x y : List ℕ) → Ready s 0 → is_open s ≡ true → length h ≡ 8 → length x ≡ (header_of h).content → length y ≡ (header_of h).padding
      → by_byte R (between s) (h ++ (x ++ y)) ≡ record { reader = between (record_means R s (header_of h) x).state; notes = (record_means R s (header_of h) x).notes }
  unfolding record_means
  record_read s h x y ready o eight hc hp =
      let l = judged s (header_of h) in
      let c = (header_of h).content in
      let p = (header_of h).padding in
      let rd : Ready l.state c = judged_ready s (header_of h) ready in
      by_byte_append R L h (between s) (x ++ y)
      ∙ ap (λ (w : Run R). and_then R w (λ c. by_byte R c (x ++ y))) (header_read s h ready o eight)
      ∙ by_test (is_open l.state)
      (λ t. rw t (ap (λ (w : Run R). record { reader = w.reader; notes = l.notes ++ w.notes }) (content_read l.state c p x y rd t hc hp ∙ rw t)))
      (λ t. rw t (ap (λ (w : Run R). record { reader = w.reader; notes = l.notes ++ w.notes }) (by_byte_shut R L (x ++ y) (between l.state) t)))

  -- it leaves a state that is ready for the next
  pub record_ready : (s : State) (h : Header) (x : List ℕ) → Ready s 0 → length x ≡ h.content → Ready (record_means R s h x).state 0
  unfolding record_means
  record_ready s h x ready hc = go x (judged_ready s h ready) hc
    where
      go : (y : List ℕ) → Ready (judged s h).state h.content → length y ≡ h.content → Ready (content_means R y (judged s h).state).state 0
      go [] k e =
          by_test (is_open (judged s h).state) (λ o. let z : h.content ≡ 0 = omega arith in rw o (subst (Ready (judged s h).state) z k)) (λ o. rw o (closed_ready (judged s h).state h.content o k))
      go (b ∷ y) k e =
          let ne : eqb (length (b ∷ y)) 0 ≡ false = ne_eqb (length (b ∷ y)) 0 (λ z. omega arith) in
          let m : h.content ≡ length (b ∷ y) + 0 = omega arith in
          by_test (is_open (judged s h).state)
          (λ o. simp (o, ne) (taken_ready (judged s h).state (b ∷ y) 0 (subst (Ready (judged s h).state) m k)))
          (λ o. simp o (closed_ready (judged s h).state h.content o k))
