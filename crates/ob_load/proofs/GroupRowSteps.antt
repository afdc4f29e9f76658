-- The rows of groups, one by one and module by module.
use Rattle.std.proofs.Common.{◌≡◌, ℕ, ◌+◌, ◌≤◌, List, [], ◌∷◌, ◌++◌, length, map, take, drop, Option, None, Some, refl, sym, ap, append_assoc, ◌∙◌}
use Rattle.std.specs.Prelude.{IsSomeAnd, codes, slice_get}
use Rattle.std.specs.List.{enumerate_from}
use Rattle.std.specs.Option.{option_map_or}
use Rattle.std.proofs.lemmas.Grind.{flat_map-append}
use Rattle.std.proofs.lemmas.List.{append-nil, drop_all}
use Rattle.toml.specs.Data.{Data, Members}
use Rattle.ob_base.specs.declared.id.ModelNo.{ModelNo}
use Rattle.ob_load.specs.Access.{entries_of}
use Rattle.ob_load.specs.Preset.{group_model, group_row, group_rows, group_rows_in}
use Rattle.ob_module.specs.Modules.{Module}
use Rattle.ob_load.specs.Rooms.{AreFitting, FitsBehind}
use Rattle.ob_load.proofs.AccessSteps.{parted-at}
use Rattle.ob_load.proofs.Given.{some-weaker}
use Rattle.ob_load.proofs.GroupRows.{rows-by}
use Rattle.ob_schema.specs.Models.{model_at}
use Rattle.ob_schema.specs.Presets.{FitsModel}
use Rattle.ob_schema.specs.declared.info.ModelInfo.{ModelInfo}
use Rattle.ob_schema.specs.declared.preset.PresetRow.{PresetRow}

-- ---- a row fits by its values

pub fits-behind : (models : List ModelInfo) (before : List PresetRow) (row : PresetRow) → IsSomeAnd (model_at models row.model) (λ info. AreFitting before info.fields row.values) → FitsBehind models before row
fits-behind models before row is =
    some-weaker (λ (info : ModelInfo). AreFitting before info.fields row.values) (λ (info : ModelInfo). FitsModel before info row) (λ info held. record { apart = held.apart; fit = held.fit }) (model_at models row.model) is

-- ---- group by group

module _ (models : List ModelInfo) (model : ModelNo) (owner : List ℕ) where
  abbrev pub numbered_row : ℕ × Data → PresetRow
  numbered_row p = group_row models model owner p.0 p.1

  -- one more
  pub group-row-next : (xs : List Data) (n : ℕ) (x : Data) (rows new total : List PresetRow) (row : PresetRow) → slice_get xs n ≡ Some x → new ≡ rows ++ row ∷ [] → row ≡ group_row models model owner n x
      → rows ++ map numbered_row (enumerate_from n (drop n xs)) ≡ total → new ++ map numbered_row (enumerate_from (n + 1) (drop (n + 1) xs)) ≡ total
  group-row-next xs n x rows new total row at grown is held =
      let behind = map numbered_row (enumerate_from (n + 1) (drop (n + 1) xs)) in
      ap (λ (l : List PresetRow). l ++ behind) grown ∙ append_assoc rows (row ∷ []) behind ∙ ap (λ (r : PresetRow). rows ++ (r ∷ behind)) is
      ∙ ap (λ (l : List Data). rows ++ map numbered_row (enumerate_from n l)) (sym (parted-at xs n x at).0) ∙ held

  pub group-row-end : (xs : List Data) (n : ℕ) (rows total : List PresetRow) → length xs ≤ n → rows ++ map numbered_row (enumerate_from n (drop n xs)) ≡ total → rows ≡ total
  group-row-end xs n rows total high held = sym (append-nil rows) ∙ ap (λ (l : List Data). rows ++ map numbered_row (enumerate_from n l)) (sym (drop_all n xs high)) ∙ held

-- ---- module by module

module _ (models : List ModelInfo) (model : ModelNo) (is : group_model models ≡ Some model) (all : List Module) where
  pub groups-next : (i : ℕ) (m : Module) (rows new : List PresetRow) (owner : List ℕ) (document : Members) → slice_get all i ≡ Some m → owner ≡ m.name → document ≡ m.document → rows ≡ group_rows models (take i all)
      → new ≡ rows ++ map (numbered_row models model owner) (enumerate_from 0 (entries_of (codes "group") document)) → new ≡ group_rows models (take (i + 1) all)
  groups-next i m rows new owner document at named same held grown =
      grown ∙ ap (λ (l : List PresetRow). l ++ map (numbered_row models model owner) (enumerate_from 0 (entries_of (codes "group") document))) held
      ∙ ap (λ (o : List ℕ). group_rows models (take i all) ++ map (numbered_row models model o) (enumerate_from 0 (entries_of (codes "group") document))) named
      ∙ ap (λ (d : Members). group_rows models (take i all) ++ map (numbered_row models model m.name) (enumerate_from 0 (entries_of (codes "group") d))) same
      ∙ ap (λ (l : List PresetRow). group_rows models (take i all) ++ l) (sym (rows-by models model is m) ∙ sym (append-nil (group_rows_in models m)))
      ∙ sym (flat_map-append (group_rows_in models) (take i all) (m ∷ [])) ∙ ap (group_rows models) (sym (parted-at all i m at).1)

-- where there is no model for them there are none
pub groups-none : (models : List ModelInfo) → group_model models ≡ None → (all : List Module) → [] ≡ group_rows models all
groups-none models none [] = refl
groups-none models none (m ∷ all) = groups-none models none all ∙ ap (λ (l : List PresetRow). l ++ group_rows models all) (sym (no-rows m))
  where
    no-rows : (m : Module) → group_rows_in models m ≡ []
    no-rows m = ap (λ (o : Option ModelNo). option_map_or (λ (k : ModelNo). map (λ (p : ℕ × Data). group_row models k m.name p.0 p.1) (enumerate_from 0 (entries_of (codes "group") m.document))) o []) none
