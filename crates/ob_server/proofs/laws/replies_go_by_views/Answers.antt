-- The outcome of the call over the one is one over the other, and its reply is made of it alone.
use Rattle.std.proofs.Common.{◌≡◌, ℤ, Option, Some, None, Result, Ok, Err, IsSomeAnd, refl, subst, sym}
use Rattle.ob_base.specs.declared.refusal.Refusal.{Refusal}
use Rattle.ob_group.specs.Groups.{Groups}
use Rattle.ob_query.specs.Isolation.{AreViewedAlike, GoesByView}
use Rattle.ob_query.specs.Read.{Reads}
use Rattle.ob_query.specs.Search.{SearchCounts, SearchReads, Searches}
use Rattle.ob_schema.specs.Models.{model_at}
use Rattle.ob_schema.specs.Tables.{Tables}
use Rattle.ob_schema.specs.declared.info.ModelInfo.{ModelInfo}
use Rattle.serde_json.specs.Data.{Data}
use Rattle.ob_server.specs.Isolation.{IsReading}
use Rattle.ob_server.specs.Machine.{Answers, Means, Tells, called_at}
use Rattle.ob_server.specs.Request.{Call, Request}
use Rattle.ob_server.specs.Setup.{Setup}
use Rattle.ob_server.specs.declared.request.Method.{Method}
use Rattle.ob_server.specs.declared.request.ReadMethod.{ReadMethod}
use Rattle.ob_server.specs.declared.request.ReadMethod.TheVariants as reading
use Rattle.ob_server.proofs.laws.replies_go_by_views.Goals as goal

module _ (reads : GoesByView Reads) (searches : GoesByView Searches) (counts : GoesByView SearchCounts) (objects : GoesByView SearchReads) (groups : GoesByView Groups)
    (setup : Setup) (call : Call) (now : ℤ) (one other : Tables) (alike : AreViewedAlike setup.models setup.policy call.caller one other) where
  tells_alike : (named : ReadMethod) (info : ModelInfo) → model_at setup.models call.model ≡ Some info → (outcome : Result Data Refusal)
      → Tells named setup.models setup.policy (called_at now call info) one outcome → Tells named setup.models setup.policy (called_at now call info) other outcome
  tells_alike reading.Read info is outcome tells = reads setup.models setup.policy (called_at now call info) one other is alike outcome tells
  tells_alike reading.Search info is outcome tells = searches setup.models setup.policy (called_at now call info) one other is alike outcome tells
  tells_alike reading.SearchCount info is outcome tells = counts setup.models setup.policy (called_at now call info) one other is alike outcome tells
  tells_alike reading.SearchRead info is outcome tells = objects setup.models setup.policy (called_at now call info) one other is alike outcome tells
  tells_alike reading.ReadGroup info is outcome tells = groups setup.models setup.policy (called_at now call info) one other is alike outcome tells
  tells_alike reading.FieldsGet info is (Ok json) tells = (tells.0, (alike tells.0 tells.1).0, tells.2)
  tells_alike reading.FieldsGet info is (Err why) tells = tells

  means_alike : IsReading call → (outcome : Result Data Refusal) (found : Option ModelInfo) → model_at setup.models call.model ≡ found
      → IsSomeAnd found (λ info. Means call.method setup.models setup.policy (called_at now call info) one outcome one)
      → IsSomeAnd found (λ info. Means call.method setup.models setup.policy (called_at now call info) other outcome other)
  means_alike is_reading outcome None is means = absurd means
  means_alike is_reading outcome (Some info) is means =
      let tells = subst (λ (named : Method). Means named setup.models setup.policy (called_at now call info) one outcome one) is_reading.1 means in
      subst (λ (named : Method). Means named setup.models setup.policy (called_at now call info) other outcome other) (sym is_reading.1) (tells_alike is_reading.0 info is outcome tells.0, refl)

pub returns-clause-calls : goal.returns-clause-calls
returns-clause-calls c setup id call now one other is_reading alike reply answers =
    let law = c.reads_go_by_views.ensures in (
      answers.0,
      means_alike law.reads law.searches law.counts law.objects c.groups_go_by_views.ensures setup call now one other alike is_reading answers.0 (model_at setup.models call.model) refl answers.1,
      answers.2,
    )

pub returns-clause-bodies : goal.returns-clause-bodies
returns-clause-bodies c setup body id call now one other is is_other is_reading alike reply answers =
    let calls = returns-clause-calls c setup id call now one other is_reading alike reply in
    subst (λ (request : Request). Answers setup other now request reply other) (sym is_other) (calls (subst (λ (request : Request). Answers setup one now request reply one) is answers))
