-- What the steps of a write say of their results.
use Rattle.std.specs.Prelude.{◌≡◌, List, All, Contains, Option, Some, None, Result, Ok, Err, ⊤}
use Rattle.ob_access.specs.Policies.{PolicyData}
use Rattle.ob_base.specs.declared.id.ModelNo.{ModelNo}
use Rattle.ob_base.specs.declared.id.RecId.{RecId}
use Rattle.ob_base.specs.declared.id.RowKey.{RowKey}
use Rattle.ob_base.specs.declared.place.PathStep.{PathStep}
use Rattle.ob_base.specs.declared.refusal.Refusal.{Refusal}
use Rattle.ob_base.specs.declared.refusal.Refusal.TheVariants as refusal
use Rattle.ob_call.specs.Forms.{fields_at, ids_fault}
use Rattle.ob_orm.specs.GivenValues.{GivenObject}
use Rattle.ob_orm.specs.ObjectSteps.{object_view}
use Rattle.ob_rows.specs.Values.{new_values_fault}
use Rattle.ob_orm.specs.Writable.{IsWritable, unwritable, withheld}
use Rattle.ob_orm.specs.Write.{Change}
use Rattle.ob_orm.specs.declared.writing.change.Change.{Change as Asked}
use Rattle.ob_orm.specs.declared.writing.change.WriteForm.{WriteForm}
use Rattle.ob_orm.specs.declared.writing.change.WriteForm.TheVariants as form
use Rattle.ob_schema.specs.declared.info.ModelInfo.{ModelInfo}
use Rattle.ob_schema.specs.declared.info.ParentInfo.{ParentInfo}
use Rattle.ob_tables.specs.Fitting.{IsFitEdit}
use Rattle.ob_tables.specs.declared.edit.Edit.{Edit}
use Rattle.ob_tables.specs.declared.edit.Edit.TheVariants as edit
use Rattle.serde_json.specs.Data.{Data}

-- the place below an argument where it breaks its form
abbrev pub write_fault : WriteForm → Data → Option (List PathStep)
write_fault form.Ids d = ids_fault d
write_fault (form.Values values) d = new_values_fault values.schema.now (fields_at values.schema.now values.model) d

-- what the code has of a change
abbrev pub asked_change : Asked → Change
asked_change asked = record { ids = asked.ids.items; object = object_view asked.object }

-- a caller in these groups may touch the rows and give what the object gives, each value of its form; or why not, the first that stands against it; or memory is wanting
abbrev pub TestsWritable : PolicyData → List RecId → RecId → ModelNo → List RowKey → GivenObject → Result ⊤ Refusal → Type 0
TestsWritable policy own user model rows object (Ok done) = IsWritable policy own user model rows object
TestsWritable policy own user model rows object (Err (refusal.Right m operation)) = withheld policy own user model rows ≡ Some (operation, m)
TestsWritable policy own user model rows object (Err (refusal.FieldRight m field)) = (withheld policy own user model rows ≡ None) × (m ≡ model) × (unwritable policy own user model object ≡ Some field)
TestsWritable policy own user model rows object (Err (refusal.Request place)) = (withheld policy own user model rows ≡ None) × (unwritable policy own user model object ≡ None) × (object.wrong ≡ Some place)
TestsWritable policy own user model rows object (Err refusal.NoMemory) = ⊤
TestsWritable policy own user model rows object (Err _) = ⊥

-- an edit that sets a value and may be asked for
abbrev pub SetsFit : List ModelInfo → Edit → Type 0
SetsFit models (edit.Set cell v) = IsFitEdit models (edit.Set cell v)
SetsFit models _ = ⊥

-- rows of each of some parents are of one of these models
abbrev pub AreOfModels : List ModelNo → List ParentInfo → Type 0
AreOfModels ms parents = All (λ parent. Contains ms parent.model) parents
