-- What `read_group` answers, by its arguments and the rows that were gathered.
use Rattle.std.proofs.Common.{◌≡◌, List, Option, Some, None, Result, Ok, Err, refl, sym, ap, subst, ◌∙◌}
use Rattle.std.specs.Prelude.{IfErr, IfOk, IfSome, IsOkAnd}
use Rattle.std.proofs.lemmas.Option.{IfSome_then}
use Rattle.ob_base.specs.declared.id.FieldNo.{FieldNo}
use Rattle.ob_base.specs.declared.id.ModelNo.{ModelNo}
use Rattle.ob_base.specs.declared.id.RecId.{RecId}
use Rattle.ob_base.specs.declared.refusal.Refusal.{Refusal}
use Rattle.ob_base.specs.declared.refusal.Refusal.TheVariants as refusal
use Rattle.ob_base.specs.declared.value.Value.{Value}
use Rattle.ob_cache.specs.Calls.{KeeperRose, Refuses, Standpoint, TellsBy}
use Rattle.ob_call.specs.Called.{called_by, result_view}
use Rattle.ob_call.specs.declared.call.Call.{Call}
use Rattle.ob_query.proofs.CallerLemmas.{asked_may, found_counted, from_view, stands_for, wanting_tells}
use Rattle.ob_query.specs.Callers.{IsAskedBy, seen_by}
use Rattle.ob_group.specs.GroupForms as forms
use Rattle.ob_group.specs.GroupForms.{groups_of}
use Rattle.ob_group.specs.GroupParts.{AreGathered, Groups as Gathered, TellsGroups, asked_view}
use Rattle.ob_group.specs.Groups.{Groups, GroupsOver}
use Rattle.ob_group.specs.NamedGroups.{groups_named}
use Rattle.ob_query.specs.Search.{found_in, held_of}
use Rattle.ob_query.specs.SearchParts.{found_by, sought_view, told_to}
use Rattle.ob_access.specs.Users.{AreGroupsOf}
use Rattle.ob_query.specs.Views.{View, view_of}
use Rattle.ob_query.specs.declared.caller.Caller.{Caller}
use Rattle.ob_group.specs.declared.asked.AskedGroups.{AskedGroups}
use Rattle.ob_schema.specs.Facts.{told_by}
use Rattle.ob_schema.specs.Models.{model_at}
use Rattle.ob_schema.specs.Tables.{Tables}
use Rattle.ob_schema.specs.declared.info.ModelInfo.{ModelInfo}
use Rattle.serde_json.specs.View.{view}
use Rattle.serde_json.specs.declared.value.Value.{Value as Json}

-- what stands for what is asked of groups
abbrev pub StandsForGroups : AskedGroups → forms.AskedGroups → Type 0
StandsForGroups asked meant = meant ≡ asked_view asked

-- by the tables, once the rows were gathered and told
pub groups_answered : (models : List ModelInfo) (call : Call) (before after : Standpoint) (tables : Tables) (by : Caller) (user : by.user ≡ call.caller) (own : AreGroupsOf models by.policy.now tables by.user by.groups.now)
    (asked : AskedGroups) (groups : Gathered) (r : Result Json Refusal) → asked.sought.by ≡ by → asked.sought.model ≡ call.model
    → IfSome (model_at models call.model) (λ info. IsAskedBy by call.model StandsForGroups (groups_of models (called_by call info)) (groups_named models (called_by call info)) (Ok asked))
    → AreGathered (held_of (told_to models tables asked.sought) asked.sought.model) (asked_view asked) (found_by models tables asked.sought) groups
    → IfOk r (λ json. (held : FieldNo → RecId → Value) → (ids : List RecId) → AreGathered held (asked_view asked) ids groups → TellsGroups held (asked_view asked) ids (view json))
    → IfErr r (λ why. why ≡ refusal.NoMemory) → IfSome (model_at models call.model) (λ info. TellsBy (Groups models by.policy.now (called_by call info)) before after tables (result_view r))
groups_answered models call before after tables by user own asked groups (Ok json) same model meant gathered told causes = IfSome_then (model_at models call.model) meant answered where
  -- who asks, and of which model
  held : Caller → ModelNo → FieldNo → RecId → Value
  held b m = held_of (seen_by b models (told_by models tables)) m

  here : View
  here = view_of models by.policy.now by.groups.now by.user tables

  first : TellsGroups (held_of (told_to models tables asked.sought) asked.sought.model) (asked_view asked) (found_by models tables asked.sought) (view json)
  first = told (held_of (told_to models tables asked.sought) asked.sought.model) (found_by models tables asked.sought) gathered

  as_called : (info : ModelInfo) → TellsGroups (held_of here.told call.model) (asked_view asked) (found_in here (called_by call info) (sought_view asked.sought)) (view json)
  as_called info =
      let rows = found_counted models tables by (called_by call info) asked.sought (sought_view asked.sought) same model refl in
      let Tells = λ (b : Caller) (m : ModelNo) (ids : List RecId). TellsGroups (held_of (seen_by b models (told_by models tables)) m) (asked_view asked) ids (view json) in
      let by_own = subst (λ (b : Caller). Tells b asked.sought.model (found_by models tables asked.sought)) same first in
      subst (Tells by call.model) rows (subst (λ (m : ModelNo). Tells by m (found_by models tables asked.sought)) model by_own)

  answered : (info : ModelInfo) → IsAskedBy by call.model StandsForGroups (groups_of models (called_by call info)) (groups_named models (called_by call info)) (Ok asked)
      → TellsBy (Groups models by.policy.now (called_by call info)) before after tables (Ok (view json))
  answered info is =
      let c = called_by call info in
      let stands = stands_for asked StandsForGroups (groups_of models c) is.0 in
      let objects = subst (λ (a : forms.AskedGroups). TellsGroups (held_of here.told call.model) a (found_in here c a.sought) (view json)) (sym stands.2) (as_called info) in
      from_view models by call.caller (GroupsOver models by.policy.now c) tables (Ok (view json)) user own
      (asked_may by c models tables (KeeperRose before after) StandsForGroups (groups_of models c) (groups_named models c) user asked is, stands.0, objects.0, stands.1, objects.1, objects.2)
groups_answered models call before after tables by user own asked groups (Err why) same model meant gathered told causes =
    wanting_tells (KeeperRose before after) (model_at models call.model) (λ info cause. Groups models by.policy.now (called_by call info) tables (Err cause)) why causes
