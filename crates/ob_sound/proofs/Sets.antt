-- A set that no two rows may share is shared behind a change only if the change edits a cell of it in one of both, or it was shared before.
use Rattle.std.proofs.Common.{◌≡◌, ◌≢◌, ◌<◌, ℕ, List, length, Some, get_or, sym, subst}
use Rattle.std.specs.Prelude.{All, Any}
use Rattle.std.proofs.lemmas.List.Elements.{All-head, Contains-get_or}
use Rattle.ob_base.specs.declared.id.Cell.{Cell}
use Rattle.ob_base.specs.declared.id.FieldNo.{FieldNo}
use Rattle.ob_base.specs.declared.id.ModelNo.{ModelNo}
use Rattle.ob_base.specs.declared.id.RecId.{RecId}
use Rattle.ob_base.specs.declared.value.Value.{Value}
use Rattle.ob_base.specs.declared.value.Value.TheVariants as value
use Rattle.ob_schema.specs.Broken.{AreAlikeIn, IsShared, IsSharedSet}
use Rattle.ob_schema.specs.Links.{Sides}
use Rattle.ob_schema.specs.Models.{model_at}
use Rattle.ob_schema.specs.Plain.{plain_at}
use Rattle.ob_schema.specs.Tables.{Tables}
use Rattle.ob_schema.specs.declared.info.ModelInfo.{ModelInfo}
use Rattle.ob_sound.specs.EditsBreak.{EditsSome, SharesEdited}
use Rattle.ob_tables.proofs.CallerLemmas.{tell_and, told_and}
use Rattle.ob_trigger.specs.Affected.{Edited}
use Rattle.ob_sound.proofs.Unedited.{valued_there, value_before}

-- a cell of a row
abbrev pub cell_in : ModelNo → RecId → FieldNo → Cell
cell_in model id field = record { model = model; id = id; field = field }

-- a cell has a value, and isn't unset; another cell has the same
abbrev HasAlike : List ModelInfo → Tables → Cell → Value → Type 0
HasAlike models tables other v = (v ≢ value.Nil) × (plain_at tables models other ≡ Some v)

-- rows that are alike are so the other way round
alike_back : (models : List ModelInfo) (tables : Tables) (model : ModelNo) (id other : RecId) (field : FieldNo) → AreAlikeIn models tables model id other field → AreAlikeIn models tables model other id field
alike_back models tables model id other field alike =
    let v = told_and (plain_at tables models (cell_in model id field)) (HasAlike models tables (cell_in model other field)) alike in
    tell_and (plain_at tables models (cell_in model other field)) v.0 (HasAlike models tables (cell_in model id field)) v.2.1 (v.2.0, v.1)

module _ (models : List ModelInfo) (sides : Sides) where
  -- the change doesn't edit a row's cell of a field
  abbrev IsQuiet : ModelNo → RecId → FieldNo → Type 0
  IsQuiet model id field = Edited models sides (cell_in model id field) → ⊥

  -- rows of which no cell of a set is edited, and which are alike in it, were so before
  alike_before : (model : ModelNo) (id other : RecId) (field : FieldNo) → IsQuiet model id field → IsQuiet model other field → AreAlikeIn models sides.behind model id other field → AreAlikeIn models sides.before model id other field
  alike_before model id other field one two alike =
      let v = told_and (plain_at sides.behind models (cell_in model id field)) (HasAlike models sides.behind (cell_in model other field)) alike in
      tell_and (plain_at sides.before models (cell_in model id field)) v.0 (HasAlike models sides.before (cell_in model other field)) (value_before models sides (cell_in model id field) v.0 one v.1)
      (v.2.0, value_before models sides (cell_in model other field) v.0 two v.2.1)

  -- where no cell of a set is edited, none of its fields is
  none_edited : (model : ModelNo) (id : RecId) (set : List FieldNo) → (EditsSome models sides model id set → ⊥) → (k : ℕ) (d : FieldNo) → k < length set → IsQuiet model id (get_or set k d)
  none_edited model id set not k d within edited = let c = Contains-get_or set k d within in not (c.0, get_or set k d, c.1, c.2, edited)

  pub shared_before : (cell : Cell) → ((other : Cell) → SharesEdited models sides other → ⊥) → IsShared models sides.behind cell → IsShared models sides.before cell
  shared_before cell tests (there, some) =
      let m = told_and (model_at models cell.model) (λ info. Any (IsSharedSet models sides.behind cell) info.unique) some in
      by m.0 m.1 m.2
    where
      by : (info : ModelInfo) → model_at models cell.model ≡ Some info → Any (IsSharedSet models sides.behind cell) info.unique → IsShared models sides.before cell
      by info is (k, set, within, at, (begins, (other, (differs, other_there, alike)))) =
          let Now : ModelInfo → Cell → Type 0 = λ info c. Any (λ set. EditsSome models sides c.model c.id set × IsSharedSet models sides.behind c set) info.unique in
          let theirs : Cell = cell_in cell.model other cell.field in
          let back : All (AreAlikeIn models sides.behind cell.model other cell.id) set = λ k d within. alike_back models sides.behind cell.model cell.id other (get_or set k d) (alike k d within) in
          let one : EditsSome models sides cell.model cell.id set → ⊥ =
          λ edits. tests cell (there, tell_and (model_at models cell.model) info (λ info. Now info cell) is (k, set, within, at, (edits, (begins, (other, (differs, other_there, alike)))))) in
          let two : EditsSome models sides cell.model other set → ⊥ =
          λ edits. tests theirs (other_there, tell_and (model_at models cell.model) info (λ info. Now info theirs) is (k, set, within, at, (edits, (begins, (cell.id, ((λ same. differs (sym same)), there, back)))))) in
          let were : All (AreAlikeIn models sides.before cell.model cell.id other) set =
          λ k d within. alike_before cell.model cell.id other (get_or set k d) (none_edited cell.model cell.id set one k d within) (none_edited cell.model other set two k d within) (alike k d within) in
          let first : AreAlikeIn models sides.before cell.model cell.id other cell.field =
          All-head (AreAlikeIn models sides.before cell.model cell.id other) cell.field begins.0 (subst (λ (s : List FieldNo). All (AreAlikeIn models sides.before cell.model cell.id other) s) begins.1 were) in
          let v = told_and (plain_at sides.before models cell) (HasAlike models sides.before theirs) first in (
            valued_there models sides.before cell v.0 v.1,
            tell_and (model_at models cell.model) info (λ info. Any (IsSharedSet models sides.before cell) info.unique) is
                (k, set, within, at, (begins, (other, (differs, valued_there models sides.before theirs v.0 v.2.1, were)))),
          )
