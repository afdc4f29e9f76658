-- The fields that a caller may read, by their numbers.
use Rattle.std.proofs.Common.{◌≡◌, Bool, true, false, cond, List, [], ◌∷◌, filter, Option, Some, None, refl, ap}
use Rattle.ob_base.specs.declared.id.FieldNo.{FieldNo}
use Rattle.ob_base.specs.declared.id.ModelNo.{ModelNo}
use Rattle.ob_call.specs.Columns.{columns_at}
use Rattle.ob_fields.specs.FieldsGetSteps.{may_read, readable_by}
use Rattle.ob_rows.specs.declared.asking.Caller.{Caller}
use Rattle.ob_schema.specs.Built.{numbered}
use Rattle.ob_schema.specs.Fields.{Column}
use Rattle.ob_schema.specs.Models.{fields_of}
use Rattle.ob_schema.specs.declared.info.FieldInfo.{FieldInfo}
use Rattle.ob_schema.specs.declared.info.ModelInfo.{ModelInfo}

module _ (by : Caller) (model : ModelNo) (info : ModelInfo) where
  -- the fields of the numbers that he may read are those of the numbers that he may
  pub columns-readable : (numbers : List FieldNo) → columns_at info (filter (may_read by model) numbers) ≡ readable_by by model (columns_at info numbers)
  columns-readable [] = refl
  columns-readable (n ∷ ns) = by_field (numbered (fields_of info) n.0) (may_read by model n) refl refl (columns-readable ns) where
    by_field : (f : Option FieldInfo) (b : Bool) → numbered (fields_of info) n.0 ≡ f → may_read by model n ≡ b → columns_at info (filter (may_read by model) ns) ≡ readable_by by model (columns_at info ns)
        → columns_at info (cond (may_read by model n) (n ∷ filter (may_read by model) ns) (filter (may_read by model) ns)) ≡ readable_by by model (columns_at info (n ∷ ns))
    by_field None true there may rest = rw (may, there) rest
    by_field None false there may rest = rw (may, there) rest
    by_field (Some f) true there may rest = rw (may, there) (rw may (ap (λ (l : List Column). (n.0, f) ∷ l) rest))
    by_field (Some f) false there may rest = rw (may, there) (rw may rest)
