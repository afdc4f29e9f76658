-- By which fields rows name others.
use Rattle.std.specs.Prelude.{◌≡◌, ◌&&◌, List, Bool, true, false, Option, Some, None, option_map, option_and_then, if◌then◌else◌}
use Rattle.ob_base.specs.declared.id.FieldNo.{FieldNo}
use Rattle.ob_base.specs.declared.id.ModelNo.{ModelNo}
use Rattle.ob_definition.specs.Keys.{is_many2one}
use Rattle.ob_definition.specs.declared.field_type.OnDelete.{OnDelete}
use Rattle.ob_definition.specs.declared.field_type.OnDelete.TheVariants as ondelete
use Rattle.ob_rows.specs.declared.relations.KeptRelation.{KeptRelation}
use Rattle.ob_schema.specs.Fields.{is_plain_kept}
use Rattle.ob_schema.specs.Models.{field_at}
use Rattle.ob_schema.specs.declared.info.FieldInfo.{FieldInfo}
use Rattle.ob_schema.specs.declared.info.ModelInfo.{ModelInfo}

-- a row goes with the one that the field names
abbrev pub is_cascade : OnDelete → Bool
is_cascade ondelete.Cascade = true
is_cascade _ = false

-- the relation that a field of a model keeps, where it keeps one
abbrev pub relation_of : ModelNo → FieldNo → FieldInfo → Option KeptRelation
relation_of model field info =
    if is_plain_kept info
    then option_map (λ target. record { model = model; field = field; target = target; cascades = is_many2one info.field_type && is_cascade info.ondelete }) info.relation
    else None

-- the registry has this relation
abbrev pub IsRelation : List ModelInfo → KeptRelation → Type 0
IsRelation models r = option_and_then (relation_of r.model r.field) (field_at models r.model r.field) ≡ Some r
