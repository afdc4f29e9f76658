-- What is known of the formula of a computed field of a registry.
use Rattle.std.proofs.Common.{◌≡◌, ℕ, zero, suc, List, Some, subst}
use Rattle.std.specs.Prelude.{All}
use Rattle.std.proofs.lemmas.Option.{get_or_from_slice_get, option_and_then_some, slice_get_within}
use Rattle.ob_schema.specs.declared.info.FieldInfo.{FieldInfo}
use Rattle.ob_schema.specs.declared.info.Formula.{Formula}
use Rattle.ob_schema.specs.declared.info.ModelInfo.{ModelInfo}
use Rattle.ob_schema.specs.declared.info.Origin.{Origin}
use Rattle.ob_schema.specs.declared.info.Origin.TheVariants as origin
use Rattle.ob_schema.specs.declared.info.Step.{Step}
use Rattle.ob_schema.specs.Built.{numbered}
use Rattle.ob_schema.specs.Models.{IsComputedBy, IsField, IsFormulaIn, IsOriginIn, IsRegistry, field_at, fields_of, model_at}
use Rattle.ob_schema.proofs.OneWrong.{value_of}

-- of all that have a number
all-numbered : {X : Type 0} (P : X → Type 0) (xs : List X) (n : ℕ) (x : X) → All P xs → numbered xs n ≡ Some x → P x
all-numbered P xs zero x all is = absurd cc
all-numbered P xs (suc i) x all is = subst P (get_or_from_slice_get xs i x x is) (all i x (slice_get_within xs i x is))

-- it is right in its field's model
pub formula-of : (models : List ModelInfo) → IsRegistry models → (at : Step) (formula : Formula) → IsComputedBy models at formula → (field : FieldInfo) × IsFormulaIn models at.model field formula
formula-of models registry at formula is =
    let own = value_of (field_at models at.model at.field) (λ field. field.origin ≡ origin.Computed formula) is in (
      own.0,
      option_and_then_some (λ info. numbered (fields_of info) at.field.0) (model_at models at.model) own.0 own.1
          (λ info there found. subst (λ (from : Origin). IsOriginIn models at.model info own.0 from) own.2
          (all-numbered (IsField models at.model info) (fields_of info) at.field.0 own.0 (registry.each at.model info there).fields found).origin),
    )
