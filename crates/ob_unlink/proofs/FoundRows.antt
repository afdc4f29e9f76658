-- Rows and cells that a relation of the registry leads to are of the registry.
use Rattle.std.proofs.Common.{◌≡◌, ◌⊎◌, ◌↔◌, ◌≤◌, ◌<◌, ◌-◌, ◌^◌, inl, inr, ℕ, true, List, [], Option, sym, ap, subst, ◌∙◌, arith}
use Rattle.std.specs.Prelude.{All, Contains, is_some}
use Rattle.std.specs.BTreeSet as sorted
use Rattle.std.proofs.lemmas.List.Elements.{All-contains}
use Rattle.ob_base.specs.Limits.{max_id}
use Rattle.ob_base.specs.declared.id.Cell.{Cell}
use Rattle.ob_base.specs.declared.id.ModelNo.{ModelNo}
use Rattle.ob_base.specs.declared.id.RecId.{RecId}
use Rattle.ob_base.specs.declared.id.RowKey.{RowKey}
use Rattle.ob_cache.specs.Stages.{IsKeptRelation}
use Rattle.ob_unlink.specs.DeletionSteps.{AddsCells, AreFit, IsFitCell, IsFitRow, LeadsBy, TakesBy, TakesMore, has_cell}
use Rattle.ob_rows.specs.Relations.{IsRelation}
use Rattle.ob_rows.specs.RowSets.{has_key}
use Rattle.ob_rows.specs.declared.relations.KeptRelation.{KeptRelation}
use Rattle.ob_rows.specs.Rights.{rows_named}
use Rattle.ob_rows.proofs.CallerLemmas.{contains-map}
use Rattle.ob_unlink.proofs.NamingRows.{RelationAt, relation-at}
use Rattle.ob_unlink.proofs.TakenMore.{OfRelation}
use Rattle.ob_unlink.proofs.TakenRows.{no_cell}
use Rattle.ob_schema.specs.Models.{FieldHas, HasModel, IsRegistry, field_at}
use Rattle.ob_schema.specs.Plain.{naming}
use Rattle.ob_schema.specs.Tables.{Tables}
use Rattle.ob_schema.specs.declared.info.ModelInfo.{ModelInfo}
use Rattle.ob_tables.proofs.CallerLemmas.{Field-at, tell_and}
use Rattle.ob_tables.specs.Fitting.{IsFitId}

module _ (models : List ModelInfo) (registry : IsRegistry models) (r : KeptRelation) (is : IsRelation models r) where
  known : RelationAt models r
  known = relation-at models r is

  -- the field is a relation that rows keep
  pub kept-relation : FieldHas models IsKeptRelation r.model r.field
  kept-relation =
      let right = (Field-at models r.model r.field known.info registry known.at).right in
      tell_and (field_at models r.model r.field) known.info IsKeptRelation known.at (known.kept, sym right.relation_alone ∙ ap (λ (o : Option ModelNo). is_some o) known.leads)

  -- of a model
  pub relation-model : HasModel models r.model
  relation-model = ap (λ (o : Option ModelInfo). is_some o) (Field-at models r.model r.field known.info registry known.at).model_is

  module _ (ids : List RecId) (fit : All IsFitId ids) (rows next : sorted.BTreeSet RowKey) (cells more : sorted.BTreeSet Cell) (before now : List RowKey) where
    -- so what was found by it is
    pub found-fit : TakesMore rows next before now (λ other. (r.cascades ≡ true) × (other.model ≡ r.model) × Contains ids other.id) → AddsCells cells more (OfRelation r ids)
        → AreFit models rows cells → AreFit models next more
    found-fit takes adds fits = record { rows_fit = λ row has. row_fit row ((takes.taken row).0 has); cells_fit = λ cell has. cell_fit cell ((adds cell).0 has) }
      where
        row_fit : (row : RowKey) → (has_key rows row ≡ true) ⊎ ((r.cascades ≡ true) × (row.model ≡ r.model) × Contains ids row.id) → IsFitRow models row
        row_fit row (inl had) = fits.rows_fit row had
        row_fit row (inr (cascades, own, among)) = (subst (HasModel models) (sym own) relation-model, All-contains IsFitId ids row.id fit among)

        cell_fit : (cell : Cell) → (has_cell cells cell ≡ true) ⊎ OfRelation r ids cell → IsFitCell models cell
        cell_fit cell (inl had) = fits.cells_fit cell had
        cell_fit cell (inr (own, among)) = (subst (λ (c : Cell). FieldHas models IsKeptRelation c.model c.field) (sym own) kept-relation, All-contains IsFitId ids cell.id fit among)

-- what was found is what names the row, where the ids are those of the rows that do
module _ (tables : Tables) (r : KeptRelation) (row : RowKey) (to : r.target ≡ row.model) (ids : List RecId) (told : ids ≡ naming tables r.model r.field row.id) where
  pub found-rows : (other : RowKey) → ((r.cascades ≡ true) × (other.model ≡ r.model) × Contains ids other.id) ↔ TakesBy tables r row other
  found-rows other = (
    λ of. (of.0, to, of.1, subst (λ (l : List RecId). Contains l other.id) told of.2),
    λ by. (by.0, by.2, subst (λ (l : List RecId). Contains l other.id) (sym told) by.3),
  )

  pub found-cells : (cell : Cell) → OfRelation r ids cell ↔ LeadsBy tables r row cell
  found-cells cell = (
    λ of. (to, of.0, subst (λ (l : List RecId). Contains l cell.id) told of.1),
    λ by. (by.1, subst (λ (l : List RecId). Contains l cell.id) (sym told) by.2),
  )

-- the rows that are named are of the registry
pub named-fit : (models : List ModelInfo) (none rows : sorted.BTreeSet RowKey) (cells : sorted.BTreeSet Cell) (P : RowKey → Type 0) (before now : List RowKey) → TakesMore none rows before now P
    → ((row : RowKey) → has_key none row ≡ true → ⊥) → cells.keys ≡ [] → ((row : RowKey) → P row → IsFitRow models row) → AreFit models rows cells
named-fit models none rows cells P before now takes empty no_cells each = record {
  rows_fit = λ row has. by row ((takes.taken row).0 has);
  cells_fit = λ cell has. absurd (no_cell cells cell no_cells has);
}
  where
    by : (row : RowKey) → (has_key none row ≡ true) ⊎ P row → IsFitRow models row
    by row (inl had) = absurd (empty row had)
    by row (inr such) = each row such

pub named-row : (models : List ModelInfo) (model : ModelNo) (ids : List ℕ) → HasModel models model → All (λ id. id ≤ max_id) ids → (row : RowKey) → Contains (rows_named model ids) row → IsFitRow models row
named-row models model ids has low row c =
    let id = contains-map (λ (id : ℕ). let row : RowKey = record { model = model; id = record { 0 = id } } in row) ids row c in
    subst (IsFitRow models) id.2 (has, fits id.0 (All-contains (λ (id : ℕ). id ≤ max_id) ids id.0 low id.1))
  where
    fits : (n : ℕ) → n ≤ max_id → n < 2 ^ 64 - 1
    fits n le = omega arith
