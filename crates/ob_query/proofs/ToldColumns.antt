-- The fields that a caller is told, by their numbers.
use Rattle.std.proofs.Common.{◌≡◌, Bool, true, false, cond, ℕ, List, [], ◌∷◌, filter, Option, Some, None, option_map, refl, sym, ap, ◌∙◌}
use Rattle.ob_base.specs.declared.id.FieldNo.{FieldNo}
use Rattle.ob_base.specs.declared.id.ModelNo.{ModelNo}
use Rattle.ob_call.specs.Columns.{columns_at}
use Rattle.ob_query.specs.Callers.{may_read_field}
use Rattle.ob_query.specs.Read.{told_columns}
use Rattle.ob_query.specs.declared.caller.Caller.{Caller}
use Rattle.ob_schema.specs.Built.{numbered}
use Rattle.ob_schema.specs.Fields.{Column}
use Rattle.ob_schema.specs.Models.{fields_of}
use Rattle.ob_schema.specs.Paths.{step_at}
use Rattle.ob_schema.specs.declared.info.FieldInfo.{FieldInfo}
use Rattle.ob_schema.specs.declared.info.ModelInfo.{ModelInfo}

module _ (by : Caller) (model : ModelNo) (info : ModelInfo) where
  abbrev told : FieldNo → Bool
  told field = may_read_field by (step_at model field)

  abbrev cut : List Column → List Column
  cut fields = told_columns by.policy.now by.groups.now by.user model fields

  -- the fields of the numbers that he may read are those that he is told
  pub columns_told : (numbers : List FieldNo) → columns_at info (filter (λ field. may_read_field by (step_at model field)) numbers) ≡ told_columns by.policy.now by.groups.now by.user model (columns_at info numbers)
  columns_told [] = refl
  columns_told (n ∷ ns) = by_field (numbered (fields_of info) n.0) (told n) refl refl (columns_told ns) where
    by_field : (f : Option FieldInfo) (b : Bool) → numbered (fields_of info) n.0 ≡ f → told n ≡ b → columns_at info (filter told ns) ≡ cut (columns_at info ns)
        → columns_at info (cond (told n) (n ∷ filter told ns) (filter told ns)) ≡ cut (columns_at info (n ∷ ns))
    by_field None true there may rest = rw (may, there) rest
    by_field None false there may rest = rw (may, there) rest
    by_field (Some f) true there may rest = rw (may, there) (rw may (ap (λ (l : List Column). (n.0, f) ∷ l) rest))
    by_field (Some f) false there may rest = rw (may, there) (rw may rest)
