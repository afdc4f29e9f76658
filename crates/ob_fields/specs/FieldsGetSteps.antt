-- Private: the words by which the rooms of `fields_get` are joined.
use Rattle.std.specs.Prelude.{◌≡◌, List, codes, Bool, false, Option, Result, Ok, Err, if◌then◌else◌}
use Rattle.ob_access.specs.Policies.{PolicyData}
use Rattle.ob_access.specs.Rights.{field_right}
use Rattle.ob_base.specs.declared.id.FieldNo.{FieldNo}
use Rattle.ob_base.specs.declared.id.ModelNo.{ModelNo}
use Rattle.ob_base.specs.declared.id.RecId.{RecId}
use Rattle.ob_base.specs.declared.place.PathStep.{PathStep}
use Rattle.ob_call.specs.Forms.{fields_at, names_fault, texts_fault}
use Rattle.ob_base.specs.declared.refusal.Refusal.{Refusal}
use Rattle.ob_cache.specs.Calls.{Refuses}
use Rattle.ob_call.specs.Called.{Called}
use Rattle.ob_fields.specs.FieldsGet.{Attribute, GetsFieldsCause, TellsFields, asks, members_put, readable}
use Rattle.ob_rows.specs.declared.asking.Caller.{Caller}
use Rattle.ob_schema.specs.Fields.{Column}
use Rattle.ob_schema.specs.declared.info.ModelInfo.{ModelInfo}
use Rattle.ob_fields.specs.declared.fields.attributes.Attributes.{Attributes}
use Rattle.ob_fields.specs.declared.fields.fields_form.FieldsForm.{FieldsForm}
use Rattle.ob_fields.specs.declared.fields.fields_form.FieldsForm.TheVariants as form
use Rattle.serde_json.specs.Data.{Data, Members}

-- the place below an argument where it breaks its form
abbrev pub fields_form_fault : FieldsForm → Data → Option (List PathStep)
fields_form_fault (form.Names names) d = names_fault (fields_at names.schema.now names.model) d
fields_form_fault form.Texts d = texts_fault d

-- these are the attributes for which the texts ask
pub record AreAsked (texts : List Data) (asked : Attributes) : Type 0 where
  pub name : asked.name ≡ asks texts (codes "name")
  pub readonly : asked.readonly ≡ asks texts (codes "readonly")
  pub relation : asked.relation ≡ asks texts (codes "relation")
  pub required : asked.required ≡ asks texts (codes "required")
  pub selection : asked.selection ≡ asks texts (codes "selection")
  pub store : asked.store ≡ asks texts (codes "store")
  pub string : asked.string ≡ asks texts (codes "string")
  pub type_name : asked.type_name ≡ asks texts (codes "type")

-- the members of these attributes, where they are asked for
abbrev pub members_put_if : Bool → List Attribute → Members → Members
members_put_if asked attributes members = if asked then members_put attributes members else members

-- of some fields of a model those that a caller may read
abbrev pub readable_by : Caller → ModelNo → List Column → List Column
readable_by by model columns = readable by.policy.now by.groups.now by.user model columns

-- whether he may read one
abbrev pub may_read : Caller → ModelNo → FieldNo → Bool
may_read by model field = field_right by.policy.now by.groups.now by.user model field false

-- the answer or the refusal is a fields_get's, by a caller's groups; no keeper is asked
abbrev pub IsTold : List ModelInfo → PolicyData → List RecId → Called → Result Data Refusal → Type 0
IsTold models policy own c (Ok json) = TellsFields models policy c json own
IsTold models policy own c (Err why) = Refuses ⊥ (GetsFieldsCause c) why
