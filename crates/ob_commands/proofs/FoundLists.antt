-- A list of rows leads to a model; and what is found keeps its field.
use Rattle.std.proofs.Common.{◌≡◌, true, List, Option, Some, None, is_some, refl, sym, ap, subst, ◌∙◌}
use Rattle.std.specs.Prelude.{IfSome, false}
use Rattle.std.proofs.lemmas.Bool.{false≢true}
use Rattle.ob_base.specs.declared.id.FieldNo.{FieldNo}
use Rattle.ob_base.specs.declared.id.ModelNo.{ModelNo}
use Rattle.ob_commands.specs.Finding.{IsFound}
use Rattle.ob_effect.specs.Rights.{may_give}
use Rattle.ob_effect.specs.declared.asking.Caller.{Caller}
use Rattle.ob_commands.specs.declared.findings.Findings.{Findings}
use Rattle.ob_definition.specs.Types.{is_list, is_relation}
use Rattle.ob_definition.specs.declared.field_type.FieldType.{FieldType}
use Rattle.ob_definition.specs.declared.field_type.FieldType.TheVariants as type
use Rattle.ob_schema.specs.Models.{FieldHas, HasModel, IsField, IsRegistry, field_at}
use Rattle.ob_schema.specs.declared.info.FieldInfo.{FieldInfo}
use Rattle.ob_schema.specs.declared.info.ModelInfo.{ModelInfo}
use Rattle.ob_schema.specs.declared.info.Step.{Step}
use Rattle.ob_tables.proofs.CallerLemmas.{Field-at, known_at}

list-relation : (t : FieldType) → is_list t ≡ true → is_relation t ≡ true
list-relation type.One2many is = refl
list-relation type.Many2many is = refl
list-relation _ is = absurd cc

module _ (models : List ModelInfo) (registry : IsRegistry models) (model : ModelNo) (number : FieldNo) (f : FieldInfo) (at : field_at models model number ≡ Some f)
    (has : FieldHas models (λ info. is_list info.field_type ≡ true) model number) where
  related : is_relation f.field_type ≡ true
  related = list-relation f.field_type (known_at (field_at models model number) f (λ info. is_list info.field_type ≡ true) at has)

  right : IsField models model (Field-at models model number f registry at).info f
  right = (Field-at models model number f registry at).right

  -- it leads on
  pub list-leads : f.relation ≡ None → ⊥
  list-leads none = false≢true (sym (ap (λ (o : Option ModelNo). is_some o) none) ∙ (right.relation_alone ∙ related))

  -- to one of the models
  pub list-model : (target : ModelNo) → f.relation ≡ Some target → HasModel models target
  list-model target leads = known_at f.relation target (HasModel models) leads (right.relation related)

-- the field that is told stays with other places
pub placed-found : (by passed : Caller) (own placed : Findings) → passed ≡ by → placed.withheld ≡ own.withheld → IsFound passed own → IsFound by placed
placed-found by passed own placed same kept found =
    subst (λ (o : Option Step). IfSome o (λ field. may_give by field.model field.field ≡ false)) (sym kept) (subst (λ (who : Caller). IsFound who own) same found)
