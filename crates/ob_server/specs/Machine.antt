-- The machine that the server is: it keeps tables of plain values alone.
use Rattle.std.specs.Prelude.{◌≡◌, ℕ, ◌≤◌, ℤ, List, [], ◌∷◌, ◌⊎◌, IsSomeAnd, Result, Ok, Err}
use Rattle.serde_json.specs.Data.{Data}
use Rattle.ob_access.specs.Policies.{PolicyData}
use Rattle.ob_base.specs.declared.refusal.Refusal.{Refusal}
use Rattle.ob_call.specs.Called.{Called}
use Rattle.ob_commands.specs.Told.{CreatesRows, CreatesRowsCause, WritesRows, WritesRowsCause}
use Rattle.ob_io.specs.Cause.{Rose}
use Rattle.ob_io.specs.Moments.{later}
use Rattle.ob_fields.specs.FieldsGet.{GetsFields, GetsFieldsCause}
use Rattle.ob_unlink.specs.Unlink.{UnlinkCause, Unlinks}
use Rattle.ob_group.specs.Groups.{Groups, GroupsCause}
use Rattle.ob_query.specs.Read.{ReadCause, Reads}
use Rattle.ob_query.specs.Search.{SearchCause, SearchCountCause, SearchCounts, SearchReadCause, SearchReads, Searches}
use Rattle.ob_rpc.specs.Envelope.{Envelope, Fault, element_place, envelope_of}
use Rattle.ob_rpc.specs.declared.methods.Served.TheVariants.{EveryMethod}
use Rattle.ob_schema.specs.Models.{model_at}
use Rattle.ob_schema.specs.Tables.{Tables}
use Rattle.ob_schema.specs.declared.info.ModelInfo.{ModelInfo}
use Rattle.ob_server.specs.Directory.{directory_of}
use Rattle.ob_server.specs.Request.{Call, Request, called, identified, malformed, request_of, told_of, wrong}
use Rattle.ob_server.specs.Setup.{Setup}
use Rattle.ob_server.specs.declared.request.Method.{Method}
use Rattle.ob_server.specs.declared.request.Method.TheVariants as method
use Rattle.ob_server.specs.declared.request.ReadMethod.{ReadMethod}
use Rattle.ob_server.specs.declared.request.ReadMethod.TheVariants as reading
use Rattle.ob_server.specs.declared.request.WriteMethod.{WriteMethod}
use Rattle.ob_server.specs.declared.request.WriteMethod.TheVariants as writing
use Rattle.ob_server.specs.Texts.{keeper_text, malformed_text, no_memory_text, outcome_text, result_text, told}

-- what a method of this model is handed at a moment
abbrev pub called_at : ℤ → Call → ModelInfo → Called
called_at now call info = record { caller = call.caller; now = now; model = call.model; info = info; args = call.args; kw = call.kw }

-- what a method that reads tells of tables
abbrev pub Tells : ReadMethod → List ModelInfo → PolicyData → Called → Tables → Result Data Refusal → Type 0
Tells reading.Read models policy = Reads models policy
Tells reading.Search models policy = Searches models policy
Tells reading.SearchCount models policy = SearchCounts models policy
Tells reading.SearchRead models policy = SearchReads models policy
Tells reading.ReadGroup models policy = Groups models policy
Tells reading.FieldsGet models policy = GetsFields models policy

-- what a method that writes makes of tables
abbrev pub Makes : WriteMethod → List ModelInfo → PolicyData → Called → Tables → Result Data Refusal → Tables → Type 0
Makes writing.Create models policy = CreatesRows models policy
Makes writing.Write models policy = WritesRows models policy
Makes writing.Unlink models policy = Unlinks models policy

-- when a method that reads may be refused, whatever the keeper tells
abbrev pub TellsCause : ReadMethod → List ModelInfo → PolicyData → Called → Refusal → Type 0
TellsCause reading.Read models policy = ReadCause policy
TellsCause reading.Search models policy = SearchCause models policy
TellsCause reading.SearchCount models policy = SearchCountCause models policy
TellsCause reading.SearchRead models policy = SearchReadCause models policy
TellsCause reading.ReadGroup models policy = GroupsCause models policy
TellsCause reading.FieldsGet models policy = GetsFieldsCause

-- when a method that writes may
abbrev pub MakesCause : WriteMethod → List ModelInfo → PolicyData → Called → Refusal → Type 0
MakesCause writing.Create models policy = CreatesRowsCause models policy
MakesCause writing.Write models policy = WritesRowsCause models policy
MakesCause writing.Unlink models policy = UnlinkCause models policy

-- when a method may
abbrev pub MeansCause : Method → List ModelInfo → PolicyData → Called → Refusal → Type 0
MeansCause (method.Reads reads) models policy = TellsCause reads models policy
MeansCause (method.Writes writes) models policy = MakesCause writes models policy

-- the outcome of a method, and the tables after it: one that reads leaves them
abbrev pub Means : Method → List ModelInfo → PolicyData → Called → Tables → Result Data Refusal → Tables → Type 0
Means (method.Reads reads) models policy handed old outcome new = Tells reads models policy handed old outcome × (new ≡ old)
Means (method.Writes writes) models policy handed old outcome new = Makes writes models policy handed old outcome new

-- the outcome of a call at a moment, and the tables after it
abbrev pub Calls : Setup → Tables → ℤ → Call → Result Data Refusal → Tables → Type 0
Calls setup old now call outcome new = IsSomeAnd (model_at setup.models call.model) (λ info. Means call.method setup.models setup.policy (called_at now call info) old outcome new)

-- the defined answer to a request: its reply, and the tables after it
abbrev pub Answers : Setup → Tables → ℤ → Request → List ℕ → Tables → Type 0
Answers setup old now (called id call) reply new = (outcome : Result Data Refusal) × Calls setup old now call outcome new × (reply ≡ outcome_text setup.models id (told call.layout outcome))
Answers setup old now (told_of id json) reply new = (reply ≡ result_text id json) × (new ≡ old)
Answers setup old now (identified id json) reply new = (reply ≡ result_text id json) × (new ≡ old)
Answers setup old now (wrong id n) reply new = (reply ≡ malformed_text setup.models id (element_place n)) × (new ≡ old)
Answers setup old now (malformed id place) reply new = (reply ≡ malformed_text setup.models id place) × (new ≡ old)

-- the reply to a request that the keeper failed; one for which nobody is looked up asks nothing of the keeper
abbrev pub TellsKeeper : Request → List ℕ → Type 0
TellsKeeper (called id call) reply = reply ≡ keeper_text id
TellsKeeper (identified id json) reply = reply ≡ keeper_text id
TellsKeeper (wrong id n) reply = reply ≡ keeper_text id
TellsKeeper _ reply = ⊥

-- What the machine may answer a request: its defined answer, or want of memory, or a fault of
-- the keeper where its count rose; the last two change nothing.
abbrev pub MayAnswer : Setup → Tables → ℤ → Type 0 → Request → List ℕ → Tables → Type 0
MayAnswer setup old now rose request reply new = Answers setup old now request reply new ⊎ ((new ≡ old) × ((reply ≡ no_memory_text) ⊎ (rose × TellsKeeper request reply)))

-- the moments that are still to come after a body: one with an envelope takes one
abbrev pub moments_after : Result Envelope Fault → (ℕ → ℤ) → ℕ → ℤ
moments_after (Ok envelope) moments = later moments
moments_after (Err fault) moments = moments

-- where the machine stands: its tables, the moments that are still to come, and how often the keeper has failed
pub record State : Type 0 where
  pub tables : Tables
  pub moments : ℕ → ℤ
  pub faults : ℕ

-- memory was wanting before the body was read: that is told, and nothing else happened
pub record IsUnread (old : State) (reply : List ℕ) (new : State) : Type 0 where
  pub told : reply ≡ no_memory_text
  pub tables : new.tables ≡ old.tables
  pub moments : new.moments ≡ old.moments

-- what a body asks for, by those who may call over some tables
abbrev pub asked_by : Setup → Tables → (body : List ℕ) → Request
asked_by setup tables body = request_of setup (directory_of setup.models tables) (envelope_of EveryMethod body)

-- the machine may give this reply to the body, and go on so: a body that is read takes its moment
pub record Step (setup : Setup) (old : State) (body reply : List ℕ) (new : State) : Type 0 where
  pub answer : MayAnswer setup old.tables (old.moments 0) (Rose old.faults new.faults) (asked_by setup old.tables body) reply new.tables
  pub moment : (new.moments ≡ moments_after (envelope_of EveryMethod body) old.moments) ⊎ IsUnread old reply new
  pub count : old.faults ≤ new.faults

-- nothing happened, but that the keeper's count may have risen
pub record Rests (old new : State) : Type 0 where
  pub tables : new.tables ≡ old.tables
  pub moments : new.moments ≡ old.moments
  pub count : old.faults ≤ new.faults

-- the machine may give these replies to these bodies in turn, and go on so
abbrev pub Run : Setup → State → (bodies replies : List (List ℕ)) → State → Type 0
Run setup old [] [] new = Rests old new
Run setup old (body ∷ bodies) (reply ∷ replies) new = (mid : State) × Step setup old body reply mid × Run setup mid bodies replies new
Run setup old _ _ new = ⊥
