-- What a caller must be allowed who writes: rights to write rows of the models that are touched, and to give the fields that are named.
use Rattle.std.specs.Prelude.{◌≡◌, List, ◌∷◌, map, Option, None}
use Rattle.ob_access.specs.Policies.{PolicyData}
use Rattle.ob_base.specs.declared.id.FieldNo.{FieldNo}
use Rattle.ob_base.specs.declared.id.ModelNo.{ModelNo}
use Rattle.ob_base.specs.declared.id.RecId.{RecId}
use Rattle.ob_base.specs.declared.id.RowKey.{RowKey}
use Rattle.ob_base.specs.declared.refusal.Op.TheVariants as op
use Rattle.ob_orm.specs.GivenValues.{GivenObject}
use Rattle.ob_rows.specs.Rights.{Asking, first_unwritable, first_withheld}

-- a caller in these groups writes rows of a model
module _ (policy : PolicyData) (own : List RecId) (user : RecId) (model : ModelNo) where
  -- the first right that he lacks where these rows are touched: to write rows of the model, whether one is named or not; then of each row's
  abbrev pub withheld : List RowKey → Option Asking
  withheld rows = first_withheld policy own user ((op.Write, model) ∷ map (λ row. (op.Write, row.model)) rows)

  -- the first field that he may not give a value, of those that an object names
  abbrev pub unwritable : GivenObject → Option FieldNo
  unwritable object = first_unwritable policy own user model object.fields

  -- he may touch the rows and give what the object gives, and each value has its form
  pub record IsWritable (rows : List RowKey) (object : GivenObject) : Type 0 where
    pub rights : withheld rows ≡ None
    pub fields : unwritable object ≡ None
    pub forms : object.wrong ≡ None
