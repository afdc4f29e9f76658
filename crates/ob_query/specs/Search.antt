-- The machine's searches: of the rows of a model that the caller sees those that a domain finds, their number, and their objects.
use Rattle.std.specs.Prelude.{◌≡◌, ◌&&◌, List, filter, map, length, Bool, true, Result, Ok, Err}
use Rattle.std.specs.Option.{option_map_or}
use Rattle.ob_access.specs.Policies.{PolicyData}
use Rattle.ob_base.specs.declared.id.FieldNo.{FieldNo}
use Rattle.ob_base.specs.declared.id.ModelNo.{ModelNo}
use Rattle.ob_base.specs.declared.id.RecId.{RecId}
use Rattle.ob_base.specs.declared.refusal.Refusal.{Refusal}
use Rattle.ob_base.specs.declared.value.Value.{Value}
use Rattle.ob_call.specs.Called.{Called}
use Rattle.ob_codec.specs.CommandForms.{id_json, list_json, number_json}
use Rattle.ob_domain.specs.Holding.{holds}
use Rattle.ob_domain.specs.Naming.{held_in}
use Rattle.ob_expr.specs.Computing.{is_true}
use Rattle.ob_expr.specs.Meaning.{row_at}
use Rattle.ob_query.specs.Denials.{AskCause, IsRefused, MayAsk}
use Rattle.ob_query.specs.NamedFields.{count_named, objects_named, search_named}
use Rattle.ob_query.specs.Read.{TellsRows, told_columns}
use Rattle.ob_query.specs.SearchOrder.{AreOrdered, limited}
use Rattle.ob_query.specs.SearchForms.{Sought, SoughtObjects, counted_of, objects_of, sought_of}
use Rattle.ob_query.specs.Views.{FromView, View, may_read_field}
use Rattle.ob_schema.specs.Facts.{Told}
use Rattle.ob_schema.specs.Paths.{step_at}
use Rattle.ob_schema.specs.Tables.{Tables}
use Rattle.ob_schema.specs.declared.info.ModelInfo.{ModelInfo}
use Rattle.ob_schema.specs.declared.info.OrderTerm.{OrderTerm}
use Rattle.serde_json.specs.Data.{Data}

-- ---- which rows

-- what a field holds in a row of the model
abbrev pub held_of : Told → ModelNo → FieldNo → RecId → Value
held_of told model field id = held_in told (step_at model field) id

-- the field that is asked for is true in the row, if one is
abbrev pub is_shown : Told → ModelNo → Sought → RecId → Bool
is_shown told model sought id = option_map_or (λ field. is_true (held_of told model field id)) sought.active true

-- such a row meets the tree when a user calls
abbrev pub is_found : Told → RecId → ModelNo → Sought → RecId → Bool
is_found told user model sought id = is_shown told model sought id && holds told user sought.tree (row_at model id)

-- of the rows that the caller sees those that a search finds
abbrev pub found_in : View → Called → Sought → List RecId
found_in view c sought = filter (is_found view.told view.user c.model sought) (view.rows c.model)

-- the terms of an order by fields that he may read: one of the model's own by another field is passed over, and a call that names such a field is refused
abbrev pub told_order : PolicyData → List RecId → RecId → ModelNo → List OrderTerm → List OrderTerm
told_order policy own user model terms = filter (λ term. may_read_field policy own user (step_at model term.field)) terms

-- these are the rows that a search answers: those that it finds, in their order, from one on and at most so many
abbrev pub AreSought : PolicyData → View → Called → Sought → List RecId → Type 0
AreSought policy view c sought ids = AreOrdered (held_of view.told c.model) (told_order policy view.own view.user c.model sought.order) sought.offset sought.limit (found_in view c sought) ids

-- ---- the calls, from a view

-- The ids of the rows, or why not.
abbrev pub SearchesOver : List ModelInfo → PolicyData → Called → View → Result Data Refusal → Type 0
SearchesOver models policy c view (Ok json) =
    MayAsk policy view c (search_named models c) × (sought : Sought) × (ids : List RecId) × (sought_of models c ≡ Ok sought) × AreSought policy view c sought ids × (json ≡ list_json (map id_json ids))
SearchesOver models policy c view (Err why) = IsRefused policy view c (sought_of models c) (search_named models c) why

-- Their number.
abbrev pub SearchCountsOver : List ModelInfo → PolicyData → Called → View → Result Data Refusal → Type 0
SearchCountsOver models policy c view (Ok json) =
    MayAsk policy view c (count_named models c) × (sought : Sought) × (counted_of models c ≡ Ok sought) × (json ≡ number_json (length (limited sought.limit (found_in view c sought))))
SearchCountsOver models policy c view (Err why) = IsRefused policy view c (counted_of models c) (count_named models c) why

-- Their objects.
abbrev pub SearchReadsOver : List ModelInfo → PolicyData → Called → View → Result Data Refusal → Type 0
SearchReadsOver models policy c view (Ok json) =
    MayAsk policy view c (objects_named models c) × (asked : SoughtObjects) × (ids : List RecId) × (objects : List Data) × (objects_of models c ≡ Ok asked) × AreSought policy view c asked.sought ids
    × TellsRows view.told c.model (told_columns policy view.own view.user c.model asked.fields) (map (λ id. id.0) ids) objects × (json ≡ list_json objects)
SearchReadsOver models policy c view (Err why) = IsRefused policy view c (objects_of models c) (objects_named models c) why

-- The machine answers each from the caller's view.
abbrev pub Searches : List ModelInfo → PolicyData → Called → Tables → Result Data Refusal → Type 0
Searches models policy c tables outcome = FromView models policy c.caller (SearchesOver models policy c) tables outcome

abbrev pub SearchCounts : List ModelInfo → PolicyData → Called → Tables → Result Data Refusal → Type 0
SearchCounts models policy c tables outcome = FromView models policy c.caller (SearchCountsOver models policy c) tables outcome

abbrev pub SearchReads : List ModelInfo → PolicyData → Called → Tables → Result Data Refusal → Type 0
SearchReads models policy c tables outcome = FromView models policy c.caller (SearchReadsOver models policy c) tables outcome

-- ---- whatever the keeper tells

-- why each may be refused
abbrev pub SearchCause : List ModelInfo → PolicyData → Called → Refusal → Type 0
SearchCause models policy c why = AskCause policy c (sought_of models c) (search_named models c) why

abbrev pub SearchCountCause : List ModelInfo → PolicyData → Called → Refusal → Type 0
SearchCountCause models policy c why = AskCause policy c (counted_of models c) (count_named models c) why

abbrev pub SearchReadCause : List ModelInfo → PolicyData → Called → Refusal → Type 0
SearchReadCause models policy c why = AskCause policy c (objects_of models c) (objects_named models c) why
