-- What is heard and written in two lists of observations, and what two stretches of a run account for together.
use Rattle.std.specs.Prelude.{◌≡◌}
use Rattle.std.proofs.Math.Path.{refl, ap, sym}
use Rattle.std.proofs.Common.{◌∙◌}
use mathlib.Core.List.{List, [], ◌∷◌, ◌++◌, append_assoc}
use Rattle.machine.specs.Machine.{Machine, Observation}
use Rattle.machine_queue.specs.Waiting.{Queue, heard_in, heard_all, written_in, written_all}

module _ (M : Machine) (Q : Queue M) where
  open Q use {Atom}

  -- what is heard
  pub heard_all_append : (xs ys : List (Observation M)) → heard_all M Q (xs ++ ys) ≡ heard_all M Q xs ++ heard_all M Q ys
  unfolding heard_all
  heard_all_append [] ys = refl
  heard_all_append (x ∷ xs) ys = ap (λ l. heard_in M Q x ++ l) (heard_all_append xs ys) ∙ sym (append_assoc (heard_in M Q x) (heard_all M Q xs) (heard_all M Q ys))

  -- what is written
  pub written_all_append : (xs ys : List (Observation M)) → written_all M Q (xs ++ ys) ≡ written_all M Q xs ++ written_all M Q ys
  unfolding written_all
  written_all_append [] ys = refl
  written_all_append (x ∷ xs) ys = ap (λ l. written_in M Q x ++ l) (written_all_append xs ys) ∙ sym (append_assoc (written_in M Q x) (written_all M Q xs) (written_all M Q ys))

  -- two accounts, one after the other
  pub accounts_joined : (a s₁ s₂ w₁ w₂ b c : List Atom) → a ++ s₁ ≡ w₁ ++ b → b ++ s₂ ≡ w₂ ++ c → a ++ (s₁ ++ s₂) ≡ (w₁ ++ w₂) ++ c
  accounts_joined a s₁ s₂ w₁ w₂ b c e d =
      sym (append_assoc a s₁ s₂) ∙ ap (λ l. l ++ s₂) e ∙ append_assoc w₁ b s₂ ∙ ap (λ l. w₁ ++ l) d ∙ sym (append_assoc w₁ w₂ c)
