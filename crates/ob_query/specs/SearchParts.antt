-- What the parts of a search give.
use Rattle.std.specs.Prelude.{◌≡◌, ◌&&◌, List, filter, map, All, IfSome, true, Option, Result, Ok, Err, Bool}
use Rattle.ob_access.specs.Policies.{IsPolicyOver}
use Rattle.ob_base.specs.declared.id.ModelNo.{ModelNo}
use Rattle.ob_base.specs.declared.id.RecId.{RecId}
use Rattle.ob_base.specs.declared.memory.NoMemory.{NoMemory}
use Rattle.ob_base.specs.declared.place.PathStep.{PathStep}
use Rattle.ob_call.specs.Columns.{columns_at}
use Rattle.ob_call.specs.Forms.{fields_at, names_fault}
use Rattle.ob_domain.specs.Over.{IsOver}
use Rattle.ob_domain.specs.Trees.{tree_of_domain}
use Rattle.ob_domain.specs.declared.fault.DomainFault.{DomainFault}
use Rattle.ob_domain.specs.declared.fault.DomainFault.TheVariants as fault
use Rattle.ob_query.specs.Callers.{may_read_field, seen_by}
use Rattle.ob_query.specs.Read.{told_columns}
use Rattle.ob_query.specs.Search.{held_of, is_found, told_order}
use Rattle.ob_query.specs.SearchForms as forms
use Rattle.ob_query.specs.SearchForms.{count_fault, domain_fault, order_fault, place_of_fault}
use Rattle.ob_query.specs.SearchKeys.{AreKeyed}
use Rattle.ob_query.specs.SearchOrder.{AreOrdered}
use Rattle.ob_query.specs.SearchQuestions.{ahead}
use Rattle.ob_query.specs.declared.caller.Caller.{Caller}
use Rattle.ob_query.specs.declared.searching.forms.SearchForm.{SearchForm}
use Rattle.ob_query.specs.declared.searching.forms.SearchForm.TheVariants as form
use Rattle.ob_query.specs.declared.searching.order.Ranked.{Ranked}
use Rattle.ob_query.specs.declared.searching.sought.Sought.{Sought}
use Rattle.ob_query.specs.declared.searching.sought.SoughtObjects.{SoughtObjects}
use Rattle.ob_query.specs.declared.searching.walk.Walk.{Walk}
use Rattle.ob_schema.specs.Facts.{Told, told_by}
use Rattle.ob_schema.specs.Models.{HasField, HasModel}
use Rattle.ob_schema.specs.Paths.{step_at}
use Rattle.ob_schema.specs.Tables.{Tables, ids_in}
use Rattle.ob_schema.specs.declared.info.ModelInfo.{ModelInfo}
use Rattle.serde_json.specs.Data.{Data}

-- ---- forms

-- the place below an argument where it breaks its form
abbrev pub search_fault : SearchForm → Data → Option (List PathStep)
search_fault (form.Domain of) d = domain_fault of.schema.now of.model d
search_fault form.Count d = count_fault d
search_fault (form.Order of) d = order_fault (fields_at of.schema.now of.model) d
search_fault (form.Fields names) d = names_fault (fields_at names.schema.now names.model) d

-- the place of a fault, or want of memory where it is that
abbrev pub IsPlaceOf : DomainFault → Result (List PathStep) NoMemory → Type 0
IsPlaceOf fault.NoMemory told = told ≡ Err (record {})
IsPlaceOf why told = told ≡ Ok (place_of_fault why)

-- ---- what is sought

-- what the code has of it, beside who asks and of which model
abbrev pub sought_view : Sought → forms.Sought
sought_view sought = record { tree = tree_of_domain sought.domain; active = sought.active; order = sought.order; offset = sought.offset; limit = sought.limit }

-- and of the objects of rows, whose fields it has by number
abbrev pub objects_view : ModelInfo → SoughtObjects → forms.SoughtObjects
objects_view info asked = record { sought = sought_view asked.sought; fields = columns_at info asked.fields.items }

-- the same with the terms alone by fields that the caller may read
abbrev pub told_sought : Caller → ModelNo → forms.Sought → forms.Sought
told_sought by model sought = record {
  tree = sought.tree;
  active = sought.active;
  order = told_order by.policy.now by.groups.now by.user model sought.order;
  offset = sought.offset;
  limit = sought.limit;
}

-- and of a search that reads, with its fields alone that he may read
abbrev pub told_objects : Caller → ModelNo → forms.SoughtObjects → forms.SoughtObjects
told_objects by model asked = record { sought = told_sought by model asked.sought; fields = told_columns by.policy.now by.groups.now by.user model asked.fields }

-- it asks of a model and of fields that there are, by a policy over them
pub record IsSoughtOver (models : List ModelInfo) (sought : Sought) : Type 0 where
  pub policy : IsPolicyOver models sought.by.policy.now
  pub model : HasModel models sought.model
  pub tree : IsOver models sought.model (tree_of_domain sought.domain)
  pub active : IfSome sought.active (HasField models sought.model)
  pub order : All (λ term. HasField models sought.model term.field) sought.order

-- a search that reads, in the order and with the fields that its caller is told
pub record IsToldObjects (asked told : SoughtObjects) : Type 0 where
  pub sought : sought_view told.sought ≡ told_sought asked.sought.by asked.sought.model (sought_view asked.sought)
  pub by : told.sought.by ≡ asked.sought.by
  pub model : told.sought.model ≡ asked.sought.model
  pub over : (models : List ModelInfo) → IsSoughtOver models asked.sought → IsSoughtOver models told.sought
  pub fields : told.fields.items ≡ filter (λ field. may_read_field asked.sought.by (step_at asked.sought.model field)) asked.fields.items

-- ---- rows

-- each of these ids is that of a row that is known
abbrev pub HaveRows : Told → ModelNo → List RecId → Type 0
HaveRows told model ids = All (λ id. told.knows model id ≡ true) ids

-- a row is known, and found
abbrev pub is_known_found : Told → Sought → RecId → Bool
is_known_found told sought id = told.knows sought.model id && is_found told sought.by.user sought.model (sought_view sought) id

-- what the caller is told of tables
abbrev pub told_to : List ModelInfo → Tables → Sought → Told
told_to models tables sought = seen_by sought.by models (told_by models tables)

module _ (models : List ModelInfo) (tables : Tables) (sought : Sought) where
  -- the rows that are found
  abbrev pub found_by : List RecId
  found_by = filter (is_known_found (told_to models tables sought) sought) (ids_in tables sought.model)

  -- those to which a walk still comes
  abbrev pub found_ahead : Walk → List RecId
  found_ahead walk = filter (is_known_found (told_to models tables sought) sought) (ahead walk (ids_in tables sought.model))

  -- the ids of those that are answered
  abbrev pub AreFound : List RecId → Type 0
  AreFound ids = AreOrdered (held_of (told_to models tables sought) sought.model) sought.order sought.offset sought.limit found_by ids

  -- rows of these ids, each with its keys
  pub record AreRanked (ids : List RecId) (rows : List Ranked) : Type 0 where
    pub ids_are : map (λ row. row.id) rows ≡ ids
    pub keyed : AreKeyed (held_of (told_to models tables sought) sought.model) sought.order rows
