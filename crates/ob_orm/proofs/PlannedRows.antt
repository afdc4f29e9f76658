-- Rows that are planned over an engine: their edits, how their ids are told, and what the edits may do whatever the tables.
use Rattle.std.proofs.Common.{◌≡◌, [], ◌++◌, List, Option, sym, ap, subst, ◌∙◌}
use Rattle.std.specs.Prelude.{All, Bool}
use Rattle.serde_json.specs.Data.{Data}
use Rattle.ob_base.specs.declared.id.ModelNo.{ModelNo}
use Rattle.ob_cache.specs.Standing.{Holding, RestsAt}
use Rattle.ob_io.specs.Store.{Store}
use Rattle.ob_orm.proofs.TouchedModels.{holds-some, may-rows, tables_of}
use Rattle.ob_orm.specs.Create.{ids_told}
use Rattle.ob_orm.specs.NewRows.{Values, made_rows}
use Rattle.ob_orm.specs.NewRowSteps.{HoldsNextIds, IsReady, so_far}
use Rattle.ob_orm.specs.Touches.{may_touch}
use Rattle.ob_orm.specs.TouchSteps.{MayDo}
use Rattle.ob_rows.specs.declared.author.Author.{Author}
use Rattle.ob_orm.specs.declared.making.next_ids.Making.{Making}
use Rattle.ob_schema.specs.Tables.{Tables}
use Rattle.ob_schema.specs.declared.info.ModelInfo.{ModelInfo}
use Rattle.ob_tables.specs.After.{after}
use Rattle.ob_tables.specs.declared.edit.Edit.{Edit}

-- what is said of rows that are made behind edits
abbrev pub AreBehind : List ModelInfo → Author → ModelNo → List Values → Bool → (first last : Making) → Data → Type 0
AreBehind models by model values is_list first last json =
    (tables : Tables) → HoldsNextIds models tables first
    → let made = made_rows models by (so_far models tables first) model values in (last.edits.items ≡ first.edits.items ++ made.edits) × (json ≡ ids_told is_list made.ids)

-- behind none they are the edits of the rows over the tables
behind-none : (models : List ModelInfo) (by : Author) (model : ModelNo) (values : List Values) (is_list : Bool) (first last : Making) (json : Data) → first.edits.items ≡ [] → AreBehind models by model values is_list first last json
    → (tables : Tables) → HoldsNextIds models tables first → let made = made_rows models by tables model values in (last.edits.items ≡ made.edits) × (json ≡ ids_told is_list made.ids)
behind-none models by model values is_list first last json none behind tables holds =
    let own = behind tables holds in
    let here : so_far models tables first ≡ tables = ap (after models tables) none in (
      own.0 ∙ (λ i. none i ++ (made_rows models by (here i) model values).edits),
      own.1 ∙ ap (λ (t : Tables). ids_told is_list (made_rows models by t model values).ids) here,
    )

module _ (models : List ModelInfo) (by author : Author) (passed : by ≡ author) (model : ModelNo) (values : List Values) (is_list : Bool) (first last : Making) (json : Data) (none : first.edits.items ≡ [])
    (behind : AreBehind models by model values is_list first last json) where
  -- over the tables at which an engine of these models rests
  pub rows-planned : (before : Option Store) (old : Holding) → models ≡ old.models → ((tables : Tables) → RestsAt before old tables → HoldsNextIds old.models tables first) → (tables : Tables) → RestsAt before old tables
      → let made = made_rows old.models author tables model values in (last.edits.items ≡ made.edits) × (json ≡ ids_told is_list made.ids)
  rows-planned before old same holds tables rests =
      behind-none old.models author model values is_list first last json none
      (subst (λ (a : Author). AreBehind old.models a model values is_list first last json) passed (subst (λ (ms : List ModelInfo). AreBehind ms by model values is_list first last json) same behind)) tables (holds tables rests)

  -- whatever the tables
  pub rows-within : IsReady models first → All (MayDo (may_touch models model)) last.edits.items
  rows-within ready =
      let own = behind-none models by model values is_list first last json none behind (tables_of models first) (holds-some models first none ready) in
      subst (λ (es : List Edit). All (MayDo (may_touch models model)) es) (sym own.0) (may-rows models by model (tables_of models first) values)
