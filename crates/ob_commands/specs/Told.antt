-- Which creates and writes are told edit by edit, and which by what the engine guarantees of any edits.
use Rattle.std.specs.Prelude.{◌&&◌, ℕ, List, Bool, true, false, not, Result}
use Rattle.serde_json.specs.Data.{Data}
use Rattle.ob_access.specs.Policies.{PolicyData}
use Rattle.ob_base.specs.declared.refusal.Refusal.{Refusal}
use Rattle.ob_call.specs.Called.{Called}
use Rattle.ob_commands.specs.Changes.{CreateMayCome, CreatesSome, WriteMayCome, WritesSome}
use Rattle.ob_commands.specs.Holding.{gives_others}
use Rattle.ob_rows.specs.Creatable.{is_creatable, is_writable}
use Rattle.ob_orm.specs.Create.{CreateCause, Creates}
use Rattle.ob_orm.specs.Write.{WriteCause, Writes}
use Rattle.ob_schema.specs.Tables.{Tables}
use Rattle.ob_schema.specs.declared.info.ModelInfo.{ModelInfo}

-- whether a create is told edit by edit: rows of the model and of its parents are free to be made, and each key names a field that is set, or none
abbrev pub is_told_create : List ModelInfo → Called → Bool
is_told_create models called = is_creatable models called.info && not (gives_others models called.info.fields 0 called.args called.kw)

-- whether a write is: they are free to be changed, and each key names a field that is set, or none
abbrev pub is_told_write : List ModelInfo → Called → Bool
is_told_write models called = is_writable models called.info && not (gives_others models called.info.fields 1 called.args called.kw)

-- what a call makes of tables, by the one meaning where it is told edit by edit, else by the other
abbrev pub MeansBy : Bool → (Told Some : Tables → Result Data Refusal → Tables → Type 0) → Tables → Result Data Refusal → Tables → Type 0
MeansBy true Told Some = Told
MeansBy false Told Some = Some

-- why it may be refused whatever the keeper tells
abbrev pub MayComeBy : Bool → (Told Some : Refusal → Type 0) → Refusal → Type 0
MayComeBy true Told Some = Told
MayComeBy false Told Some = Some

module _ (models : List ModelInfo) (policy : PolicyData) (called : Called) where
  -- a create
  abbrev pub CreatesRows : Tables → Result Data Refusal → Tables → Type 0
  CreatesRows = MeansBy (is_told_create models called) (Creates models policy called) (CreatesSome models policy called)

  abbrev pub CreatesRowsCause : Refusal → Type 0
  CreatesRowsCause = MayComeBy (is_told_create models called) (CreateCause models policy called) (CreateMayCome models policy called)

  -- a write
  abbrev pub WritesRows : Tables → Result Data Refusal → Tables → Type 0
  WritesRows = MeansBy (is_told_write models called) (Writes models policy called) (WritesSome models policy called)

  abbrev pub WritesRowsCause : Refusal → Type 0
  WritesRowsCause = MayComeBy (is_told_write models called) (WriteCause models policy called) (WriteMayCome models policy called)
