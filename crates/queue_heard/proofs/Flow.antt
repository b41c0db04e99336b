-- What waits of a request leads the server's end from its ended streams to those of the station: each byte and each end
-- comes while its stream runs there, and behind END comes nothing.
use Rattle.std.specs.Prelude.{ℕ, zero, suc, ◌<◌, ◌≡◌, refl, Bool, true, false, List, [], ◌∷◌, ◌++◌, map, length}
use Rattle.std.proofs.Common.{◌∙◌, arith}
use Rattle.wire.proofs.Bytes.{AllBytes}
use Rattle.connection.specs.declared.answer.Output.{Output}
use Rattle.connection.specs.declared.request.RequestState.{RequestState}
use Rattle.connection.specs.declared.request.Request.{Request}
use Rattle.connection.specs.RequestCalls.{is_ended, ended_on, owes_out, owes_err}
use Rattle.queue_slot.specs.Atoms.{Atom, ByteOn, EndOf, EndRequest, finish_of, end_waits}
use Rattle.queue_slot.specs.Finishing.{owed_end, last_words}
use Rattle.replies_heard.proofs.Agree.{SameEnds, ends_trans, is_ended_lem, ended_ends}
use Rattle.replies_heard.proofs.FinishHeard.{owes_out_lem, owes_err_lem}

-- a state as that of a request; the state with a stream ended
abbrev pub as_request : RequestState → Request
as_request m = record { id = 0; length = 0; state = m }

abbrev pub ended_in : RequestState → Output → RequestState
ended_in m o = (ended_on (as_request m) o).state

-- The atoms that wait, from the state n at the server's end to the state m at the station. Behind END nothing waits, and
-- the ends at the station do not count any more.
abbrev pub Flow : List Atom → RequestState → RequestState → Type 0
Flow [] n m = SameEnds n m
Flow (ByteOn o b ∷ l) n m = (b < 256) × (is_ended o n ≡ false) × Flow l n m
Flow (EndOf o ∷ l) n m = (is_ended o n ≡ false) × Flow l (ended_in n o) m
Flow (EndRequest c ∷ l) n m = l ≡ []

-- to another state with the same ends
pub flow_on : (l : List Atom) (n m m' : RequestState) → SameEnds m m' → Flow l n m → Flow l n m'
flow_on [] n m m' e f = ends_trans n m m' f e
flow_on (ByteOn o b ∷ l) n m m' e f = (f.0, f.1, flow_on l n m m' e f.2)
flow_on (EndOf o ∷ l) n m m' e f = (f.0, flow_on l (ended_in n o) m m' e f.1)
flow_on (EndRequest c ∷ l) n m m' e f = f

-- and on from there
flow_append : (l k : List Atom) (n m m' : RequestState) → end_waits l ≡ false → Flow l n m → ((n' : RequestState) → SameEnds n' m → Flow k n' m') → Flow (l ++ k) n m'
unfolding end_waits
flow_append [] k n m m' e f g = g n f
flow_append (ByteOn o b ∷ l) k n m m' e f g = (f.0, f.1, flow_append l k n m m' e f.2 g)
flow_append (EndOf o ∷ l) k n m m' e f g = (f.0, flow_append l k (ended_in n o) m m' e f.1 g)
flow_append (EndRequest c ∷ l) k n m m' e f g = let z : ◌≡◌ {A = ℕ} 0 1 = cc in absurd (omega arith)

-- ---- what comes to wait
flow_bytes : (o : Output) (x : List ℕ) (n m : RequestState) → AllBytes x → is_ended o n ≡ false → SameEnds n m → Flow (map (ByteOn o) x) n m
flow_bytes o [] n m a live s = s
flow_bytes o (b ∷ x) n m a live s = (a 0, live, flow_bytes o x n m (λ i. a (suc i)) live s)

-- data on a stream that runs
pub flow_data : (l : List Atom) (n m : RequestState) (o : Output) (x : List ℕ) → end_waits l ≡ false → is_ended o m ≡ false → AllBytes x → Flow l n m → Flow (l ++ map (ByteOn o) x) n m
flow_data l n m o x e live a f = flow_append l (map (ByteOn o) x) n m m e f (λ n' s. flow_bytes o x n' m a (is_ended_lem o n' m s ∙ live) s)

-- the end of a stream that runs
pub flow_end : (l : List Atom) (n m : RequestState) (o : Output) → end_waits l ≡ false → is_ended o m ≡ false → Flow l n m → Flow (l ++ EndOf o ∷ []) n (ended_in m o)
flow_end l n m o e live f = flow_append l (EndOf o ∷ []) n m (ended_in m o) e f (λ n' s. (is_ended_lem o n' m s ∙ live, ended_ends (as_request n') (as_request m) o s))

-- the ends that are owed, and END
words : (n m m' : RequestState) (status : ℕ) → SameEnds n m → (b c : Bool) → owes_out m ≡ b → owes_err m ≡ c → Flow (owed_end b Output.Stdout ++ (owed_end c Output.Stderr ++ finish_of status ∷ [])) n m'
unfolding ended_on
words n m m' status s true true e d = (s.out ∙ owes_out_lem m e, (s.err ∙ owes_err_lem m d, refl))
words n m m' status s true false e d = (s.out ∙ owes_out_lem m e, refl)
words n m m' status s false true e d = (s.err ∙ owes_err_lem m d, refl)
words n m m' status s false false e d = refl

pub flow_last : (l : List Atom) (n m m' : RequestState) (status : ℕ) → end_waits l ≡ false → Flow l n m → Flow (l ++ last_words m status) n m'
unfolding last_words
flow_last l n m m' status e f = flow_append l (last_words m status) n m m' e f (λ n' s. words n' m m' status s (owes_out m) (owes_err m) refl refl)

-- ---- what is served
-- a run of bytes at the front
pub record Fronts (o : Output) (x : List ℕ) (k : List Atom) (n m : RequestState) : Type 0 where
  pub bytes : AllBytes x
  pub live : 0 < length x → is_ended o n ≡ false
  pub behind : Flow k n m

cons_bytes : (b : ℕ) (x : List ℕ) → b < 256 → AllBytes x → AllBytes (b ∷ x)
cons_bytes b x h a zero = h
cons_bytes b x h a (suc i) = a i

nil_bytes : AllBytes []
nil_bytes zero = omega arith
nil_bytes (suc i) = omega arith

pub flow_front : (o : Output) (x : List ℕ) (k : List Atom) (n m : RequestState) → Flow (map (ByteOn o) x ++ k) n m → Fronts o x k n m
flow_front o [] k n m f = record { bytes = nil_bytes; live = λ h. absurd (omega arith); behind = f }
flow_front o (b ∷ x) k n m f = let r = flow_front o x k n m f.2 in record { bytes = cons_bytes b x f.0 r.bytes; live = λ h. f.1; behind = r.behind }
