-- What a criterion is, by the test of its field.
use Rattle.std.proofs.Common.{◌≡◌, List, Option, Some, None, ok_or, Result, Ok, Err, refl}
use Rattle.std.specs.Prelude.{IfSome, IsSome}
use Rattle.ob_base.specs.Chain.{◌>>=◌}
use Rattle.ob_domain.specs.Criteria.{criterion_from, criterion_item, test_from}
use Rattle.ob_domain.specs.Trees.{Item, Tree, criterion, leaf, signed}
use Rattle.ob_domain.specs.declared.fault.Unfit.{Unfit}
use Rattle.ob_domain.specs.declared.fault.Unfit.TheVariants as unfit
use Rattle.ob_domain.specs.declared.operator.Operator.{Operator}
use Rattle.ob_domain.specs.declared.operator.Sense.{Sense}
use Rattle.ob_domain.specs.declared.term.Test.{Test}
use Rattle.ob_schema.specs.Models.{HasField, field_at}
use Rattle.ob_schema.specs.declared.info.FieldInfo.{FieldInfo}
use Rattle.ob_schema.specs.declared.info.ModelInfo.{ModelInfo}
use Rattle.ob_schema.specs.declared.info.Step.{Step}
use Rattle.serde_json.specs.Data.{Data}

module _ (models : List ModelInfo) (at : Step) (sense : Sense) (op : Operator) (d : Data) where
  -- the tree of a field that was looked for
  abbrev tree_by : Option FieldInfo → Result Tree Unfit
  tree_by found = ok_or found unfit.Field >>= λ field. test_from models at field op d >>= λ asked. Ok (signed sense (criterion at.field asked))

  abbrev item_by : Option FieldInfo → Result Item Unfit
  item_by found = tree_by found >>= λ tree. Ok (leaf tree)

  tested_by : (found : Option FieldInfo) (test : Test) → IsSome found → IfSome found (λ field. test_from models at field op d ≡ Ok test) → item_by found ≡ Ok (leaf (signed sense (criterion at.field test)))
  tested_by (Some field) test there is = rw is refl
  tested_by None test there is = absurd (cc)

  refused_by : (found : Option FieldInfo) (why : Unfit) → IsSome found → IfSome found (λ field. test_from models at field op d ≡ Err why) → item_by found ≡ Err why
  refused_by (Some field) why there is = rw is refl
  refused_by None why there is = absurd (cc)

  pub criterion_tested : (test : Test) → HasField models at.model at.field → IfSome (field_at models at.model at.field) (λ field. test_from models at field op d ≡ Ok test)
      → criterion_item models at sense op d ≡ Ok (leaf (signed sense (criterion at.field test)))
  unfolding criterion_from
  criterion_tested test there is = tested_by (field_at models at.model at.field) test there is

  pub criterion_refused : (why : Unfit) → HasField models at.model at.field → IfSome (field_at models at.model at.field) (λ field. test_from models at field op d ≡ Err why)
      → criterion_item models at sense op d ≡ Err why
  unfolding criterion_from
  criterion_refused why there is = refused_by (field_at models at.model at.field) why there is

-- what is told of the field, where something is known
pub known_if : (found : Option FieldInfo) (K : Type 0) (P : FieldInfo → Type 0) → IfSome found (λ field. K → P field) → K → IfSome found P
known_if (Some field) K P told known = told known
known_if None K P told known = told
