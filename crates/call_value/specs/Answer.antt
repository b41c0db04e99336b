-- What the calls that read parameters answer, read in the rules' numbers and values.
use Rattle.std.specs.Prelude.{◌≡◌, List, ℕ, Ok, Err, Result}
use Rattle.std.specs.Borrow.{Bor}
use Rattle.connection.specs.Codes.{refusal_number}
use Rattle.connection.specs.RequestCalls as Of
use Rattle.call_list.specs.Listing.{Listing, unlisted, part_of}
use Rattle.call_list.specs.Part.{PartAt}
use Rattle.call_value.specs.declared.Source.{Source}
use Rattle.connection.specs.declared.answer.Refusal.{Refusal}
use Rattle.pairs.specs.declared.pair.Pair.{Pair}

-- what is listed, as the very part of the store that it is, or why nothing is
abbrev pub IsList : Bor (List ℕ) → Listing → Result (Bor (List ℕ)) Refusal → Type 0
IsList store l (Ok list) = (l.refusal ≡ 0) × (list.now ≡ part_of store.now l) × PartAt store list l.from
IsList store l (Err why) = l ≡ unlisted (refusal_number why)

abbrev pub source_by : Result Source Refusal → Of.Source
source_by (Ok Source.Store) = Of.FromStore
source_by (Ok Source.Fallback) = Of.FromFallback
source_by (Err r) = Of.SourceRefused (refusal_number r)

abbrev pub numbered_by : Result Pair Refusal → Of.Numbered
numbered_by (Ok p) = Of.PairIs p
numbered_by (Err r) = Of.PairRefused (refusal_number r)
