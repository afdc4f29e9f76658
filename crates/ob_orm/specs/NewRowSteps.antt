-- What the steps that make rows say of their results.
use Rattle.std.specs.Prelude.{◌≡◌, ◌+◌, ◌++◌, ◌≤◌, ℕ, List, All, length, Option, Some, IsSomeAnd, ⊤}
use Rattle.std.specs.BTreeMap as tree
use Rattle.std.specs.Ordering.{nat_cmp}
use Rattle.ob_base.specs.Limits.{max_id}
use Rattle.ob_base.specs.declared.id.FieldNo.{FieldNo}
use Rattle.ob_base.specs.declared.id.ModelNo.{ModelNo}
use Rattle.ob_base.specs.declared.id.RowKey.{RowKey}
use Rattle.ob_base.specs.declared.value.Value.{Value}
use Rattle.ob_base.specs.declared.value.Value.TheVariants as value
use Rattle.ob_cache.specs.Standing.{max_next_id}
use Rattle.ob_orm.specs.declared.making.next_ids.Making.{Making}
use Rattle.ob_schema.specs.Fields.{HasFieldType}
use Rattle.ob_schema.specs.Models.{FieldHas, HasKeysOf, HasModel, field_at}
use Rattle.ob_schema.specs.Tables.{Tables, key_of, next_of}
use Rattle.ob_schema.specs.declared.info.FieldInfo.{FieldInfo}
use Rattle.ob_schema.specs.declared.info.ModelInfo.{ModelInfo}
use Rattle.ob_schema.specs.declared.info.Origin.{Origin}
use Rattle.ob_schema.specs.declared.info.Origin.TheVariants as origin
use Rattle.ob_tables.specs.After.{after}
use Rattle.ob_tables.specs.Fitting.{IsFitEdit, IsFitId}
use Rattle.ob_tables.specs.declared.edit.Edit.{Edit}
use Rattle.ob_tables.specs.declared.edit.Edit.TheVariants as edit

-- an id that a value names has a next one
abbrev pub IsLowRef : Value → Type 0
IsLowRef (value.Ref id) = IsFitId id
IsLowRef _ = ⊤

-- a value of the type of the field that it is given to
abbrev pub IsTyped : List ModelInfo → ModelNo → FieldNo × Value → Type 0
IsTyped models model one = HasFieldType (field_at models model one.0) one.1 × IsLowRef one.1

-- a delegated field has the keys of the parent's
abbrev pub HasTargetKeysFrom : List ModelInfo → Origin → FieldInfo → Type 0
HasTargetKeysFrom models (origin.Delegated at) field = FieldHas models (λ other. HasKeysOf other field) at.model at.field
HasTargetKeysFrom models _ field = ⊤

abbrev pub HasTargetKeys : List ModelInfo → FieldInfo → Type 0
HasTargetKeys models field = HasTargetKeysFrom models field.origin field

-- an edit that may be asked for; no row goes
abbrev pub MayFit : List ModelInfo → Edit → Type 0
MayFit models (edit.Gone model id) = ⊥
MayFit models one = IsFitEdit models one

-- the id that a model's next row takes, as it is held
abbrev pub held_next : Making → ModelNo → Option ℕ
held_next making model = tree.get nat_cmp making.next_ids model.0

-- the next id of each model is held, no further up than there are edits, and the edits may be asked for
pub record IsReady (models : List ModelInfo) (making : Making) : Type 0 where
  pub held : (model : ModelNo) → HasModel models model → IsSomeAnd (held_next making model) (λ next. next ≤ max_next_id + length making.edits.items)
  pub fit : All (MayFit models) making.edits.items

-- edits are only added behind those so far
abbrev pub AddsEdits : Making → Making → Type 0
AddsEdits old new = (more : List Edit) × (new.edits.items ≡ old.edits.items ++ more)

-- the tables with the edits so far
abbrev pub so_far : List ModelInfo → Tables → Making → Tables
so_far models old making = after models old making.edits.items

-- the next ids that are held are theirs
abbrev pub HoldsNextIds : List ModelInfo → Tables → Making → Type 0
HoldsNextIds models old making = (model : ModelNo) → HasModel models model → held_next making model ≡ Some (next_of (so_far models old making) model)

-- a row that an edit makes has an id within the limit
abbrev pub MakesWithin : Edit → Type 0
MakesWithin (edit.Make model id values) = id.0 ≤ max_id
MakesWithin _ = ⊤

-- an edit makes the row
abbrev pub MakesRow : RowKey → Edit → Type 0
MakesRow row (edit.Make model id values) = row ≡ key_of model id
MakesRow row _ = ⊥
