-- How contracts see what the code holds.
use Rattle.std.specs.Prelude.{◌≡◌, Result, Ok, Err}
use Rattle.serde_json.specs.Data.{Data, null}
use Rattle.serde_json.specs.View.{view, items_view}
use Rattle.ob_rpc.specs.Envelope as spec
use Rattle.ob_rpc.specs.declared.methods.Arity.{Arity}
use Rattle.ob_rpc.specs.declared.request.Envelope.{Envelope}
use Rattle.ob_rpc.specs.declared.request.EnvFault.{EnvFault}
use Rattle.ob_rpc.specs.declared.request.EnvFault.TheVariants.{At, NoMemory}

-- what an envelope says, wherever it lies in memory
abbrev pub seen : Envelope → spec.Envelope
seen e = record { id = view e.id; service = e.service; method = e.method; args = items_view e.args }

-- how many elements a method takes, as the specs hold it
abbrev pub seen_arity : Arity → spec.Arity
seen_arity arity = record { least = arity.least; most = arity.most }

-- the fault is the stated one, its place and its id; want of memory says nothing
abbrev pub FaultIs : EnvFault → Result spec.Envelope spec.Fault → Type 0
FaultIs (At place id) stated = stated ≡ Err (record { place = place; id = view id })
FaultIs NoMemory stated = Unit {0}

-- the envelope is the stated one, or the fault is
abbrev pub EnvelopeIs : Result Envelope EnvFault → Result spec.Envelope spec.Fault → Type 0
EnvelopeIs (Ok e) stated = stated ≡ Ok (seen e)
EnvelopeIs (Err f) stated = FaultIs f stated

-- the id by which an answer is told; null where memory ran out
abbrev pub answer_id : Result Envelope EnvFault → Data
answer_id (Ok e) = view e.id
answer_id (Err (At place id)) = view id
answer_id (Err NoMemory) = null
