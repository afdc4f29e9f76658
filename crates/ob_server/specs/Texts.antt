-- The text of each reply.
use Rattle.std.specs.Prelude.{ℕ, ◌+◌, ◌-◌, ◌^◌, min, List, [], ◌∷◌, ◌++◌, codes, bytes_eq, if◌then◌else◌, Result, Ok, Err}
use Rattle.serde_json.specs.Data.{Data, null}
use Rattle.ob_base.specs.declared.place.PathStep.{PathStep}
use Rattle.ob_base.specs.declared.place.PathStep.TheVariants.{Key, Item}
use Rattle.ob_base.specs.declared.refusal.Refusal.{Refusal}
use Rattle.ob_base.specs.declared.refusal.Refusal.TheVariants as refusal
use Rattle.ob_rpc.specs.Envelope.{element_place}
use Rattle.ob_rpc.specs.Reply.{Reply, result, error, reply_form}
use Rattle.ob_orm.specs.RefusalText.{refusal_name, refusal_message}
use Rattle.ob_schema.specs.declared.info.ModelInfo.{ModelInfo}
use Rattle.ob_server.specs.declared.request.Layout.{Layout}
use Rattle.ob_server.specs.declared.request.Layout.TheVariants as layout

-- the reply that tells of an outcome
abbrev pub reply_of : List ModelInfo → Result Data Refusal → Reply
reply_of models (Ok json) = result json
reply_of models (Err why) = error (refusal_name why) (refusal_message models why)

-- the number of the element that is an argument by itself: the first is element 5; no element has a number past 2^64 - 1
abbrev pub spread_number : ℕ → ℕ
spread_number n = min (n + 5) (2 ^ 64 - 1)

-- a place among arguments that are elements by themselves, as a place of the body
abbrev pub spread_place : List PathStep → List PathStep
spread_place (Item n ∷ steps) = element_place (spread_number n) ++ steps
spread_place steps = element_place 5 ++ steps

-- a place below the arguments, by position or by name, as a place of the body: in a list and an object they are the elements 5 and 6
abbrev pub argument_place : Layout → (name : List ℕ) → List PathStep → List PathStep
argument_place layout.Listed name steps = if bytes_eq name (codes "kw") then element_place 6 ++ steps else element_place 5 ++ steps
argument_place layout.Spread name steps = spread_place steps

-- a place among the arguments of a call, as a place of the body
abbrev pub body_place : Layout → List PathStep → List PathStep
body_place layout [] = []
body_place layout (Item n ∷ steps) = Item n ∷ steps
body_place layout (Key name ∷ steps) = argument_place layout name steps

-- a refusal of a call, its place told as one of the body
abbrev pub told_refusal : Layout → Refusal → Refusal
told_refusal layout (refusal.Request place) = refusal.Request (body_place layout place)
told_refusal layout why = why

-- the outcome of a call, a place in it told as one of the body
abbrev pub told : Layout → Result Data Refusal → Result Data Refusal
told layout (Ok json) = Ok json
told layout (Err why) = Err (told_refusal layout why)

-- the id that a refusal is told by: that of the request, but none where memory is wanting
abbrev pub refused_id : Data → Refusal → Data
refused_id id refusal.NoMemory = null
refused_id id _ = id

-- the id that an outcome is told by
abbrev pub told_id : Data → Result Data Refusal → Data
told_id id (Ok json) = id
told_id id (Err why) = refused_id id why

-- the text of the reply to a request of this id
abbrev pub outcome_text : List ModelInfo → Data → Result Data Refusal → List ℕ
outcome_text models id outcome = reply_form (told_id id outcome) (reply_of models outcome)

-- the reply to a request that is malformed at this place
abbrev pub malformed_text : List ModelInfo → Data → List PathStep → List ℕ
malformed_text models id place = outcome_text models id (Err (refusal.Request place))

-- the reply that tells of a result
abbrev pub result_text : Data → Data → List ℕ
result_text id json = reply_form id (result json)

-- the fixed reply for want of memory
abbrev pub no_memory_text : List ℕ
no_memory_text = reply_form null (error (codes "NoMemory") (codes "no memory"))

-- the reply to a request of this id that the keeper failed
abbrev pub keeper_text : Data → List ℕ
keeper_text id = reply_form id (error (codes "Keeper") (codes "keeper fault"))
