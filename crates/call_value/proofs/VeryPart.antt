-- Value's answer lies in the store exactly when the sister says Store.
use Rattle.std.specs.Prelude.{ℕ, ◌+◌, ◌≡◌, refl, Bool, true, false, List, Some, None, Option}
use Rattle.wire.specs.Test.{◌=?◌, by_test}
use Rattle.pair_list.specs.List.{first_named}
use Rattle.connection.specs.declared.state.Conn.{Conn}
use Rattle.connection.specs.RequestCalls as Of
use Rattle.connection.specs.Calls.{source}
use Rattle.call_list.specs.Listing.{part_of, listing}
use Rattle.call_list.specs.Part.{value_place}
use Rattle.call_list.proofs.Laws.{first_in_none, refused_empty, source_listed}
use Rattle.pairs.specs.declared.pair.Pair.{Pair}

abbrev pub has_place : Option ℕ → Bool
has_place None = false
has_place (Some k) = true

abbrev pub is_store : Of.Source → Bool
is_store Of.FromStore = true
is_store Of.FromFallback = false
is_store (Of.SourceRefused n) = false

pub place_is_stores : (c : Conn) (store : List ℕ) (id : ℕ) (name : List ℕ) → has_place (value_place c store id name) ≡ is_store (source c store id name)
unfolding value_place
place_is_stores c store id name =
    by_test ((listing c store id).refusal =? 0)
    (λ e. rw (source_listed c store id name, e) (by_found (first_named (part_of store (listing c store id)) name)))
    (λ e. rw (source_listed c store id name, e, refused_empty c store id e, first_in_none name) refl)
  where
    by_found : (f : Option Pair) → has_place (Of.on_found f (λ p. Some ((listing c store id).from + p.value)) None) ≡ is_store (Of.on_found f (λ p. Of.FromStore) Of.FromFallback)
    by_found (Some p) = refl
    by_found None = refl
