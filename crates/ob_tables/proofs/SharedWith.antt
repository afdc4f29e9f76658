-- Whether another row has the same values as one in a set of fields, by what the rows keep.
use Rattle.std.proofs.Common.{◌≡◌, ◌≢◌, inl, inr, ℕ, true, List, get_or, [], ◌∷◌, map, Option, Some, None, IsSome, option_and_then, unwrap_or, refl, sym, ap, subst, ◌∙◌}
use Rattle.std.specs.Prelude.{All, Contains}
use Rattle.std.specs.FinMap as finite
use Rattle.std.proofs.lemmas.List.Elements.{All-contains, All-head}
use Rattle.std.proofs.lemmas.Option.{same_Some}
use Rattle.ob_base.specs.declared.id.Cell.{Cell}
use Rattle.ob_base.specs.declared.id.FieldNo.{FieldNo}
use Rattle.ob_base.specs.declared.id.ModelNo.{ModelNo}
use Rattle.ob_base.specs.declared.id.RecId.{RecId}
use Rattle.ob_base.specs.declared.value.Value.{Value}
use Rattle.ob_base.specs.declared.value.Value.TheVariants as value
use Rattle.ob_schema.specs.Broken.{AreAlikeIn, SharesWith}
use Rattle.ob_schema.specs.Fields.{is_plain_kept}
use Rattle.ob_schema.specs.Models.{FieldHas, IsRegistry, field_at, model_at}
use Rattle.ob_schema.specs.Plain.{plain_at, plain_from}
use Rattle.ob_schema.specs.Tables.{Fits, PlainRow, Tables, kept_at, kept_in, row_at}
use Rattle.ob_schema.specs.declared.info.FieldInfo.{FieldInfo}
use Rattle.ob_schema.specs.declared.info.ModelInfo.{ModelInfo}
use Rattle.ob_tables.specs.Digests.{digest_in}
use Rattle.ob_tables.specs.Sets.{AreKeptAlike}
use Rattle.ob_tables.proofs.Digesting.{alike-digest}
use Rattle.ob_tables.proofs.KnownFields.{is_there, tell_and, there_is, told_and}
use Rattle.ob_tables.proofs.NamedBack.{Stands}
use Rattle.ob_tables.proofs.PlainCells.{has-kept-value, kept-value}
use Rattle.ob_tables.proofs.Within.{not_there}

-- ---- rows that are left

-- one that isn't the first is behind it
pub stands-rest : {E : Type 0} (id_of : E → RecId) (from es : List E) (e : E) (P : RecId → Type 0) → from ≡ e ∷ es → (P (id_of e) → ⊥)
    → (id : RecId) → P id → Stands id (map id_of from) → Stands id (map id_of es)
stands-rest {E} id_of from es e P is not_first id such among = by (subst (λ (l : List E). Stands id (map id_of l)) is among)
  where
    by : Stands id (map id_of (e ∷ es)) → Stands id (map id_of es)
    by (inl here) = absurd (not_first (subst P here such))
    by (inr later) = later

-- ---- sets that no two rows may share

module _ (models : List ModelInfo) (t : Tables) (model : ModelNo) (set : List FieldNo) (id : RecId) (registry : IsRegistry models) (fits : Fits models t) (info : ModelInfo) (at : model_at models model ≡ Some info)
    (of_model : Contains info.unique set) where
  abbrev cell_of : RecId → FieldNo → Cell
  cell_of id field = record { model = model; id = id; field = field }

  abbrev IsKept : FieldNo → Type 0
  IsKept field = FieldHas models (λ info. is_plain_kept info ≡ true) model field

  abbrev Alike : RecId → FieldNo → Type 0
  Alike other field = AreAlikeIn models t model id other field

  each_kept : All IsKept set
  each_kept = All-contains (All IsKept) info.unique set (registry.each model info at).unique of_model

  some_field : set ≢ []
  some_field = All-contains (λ set. set ≢ []) info.unique set (registry.each model info at).set_given of_model

  -- a cell has what its row keeps
  kept_plain : (id : RecId) (row : PlainRow) (field : FieldNo) → row_at t model id ≡ Some row → IsKept field → plain_at t models (cell_of id field) ≡ Some (kept_in row field)
  kept_plain id row field here kept =
      let f = told_and (field_at models model field) (λ info. is_plain_kept info ≡ true) kept in
      let there = there_is (row_at t model id) row here in
      let v = is_there (kept_at t (cell_of id field)) (has-kept-value models t (cell_of id field) f.0 registry f.1 there fits f.2) in
      let own : finite.get row field.0 ≡ Some v.0 = sym (ap (λ (r : Option PlainRow). option_and_then (λ row. finite.get row field.0) r) here) ∙ v.1 in
      kept-value models t (cell_of id field) f.0 registry f.1 there f.2 v.0 v.1 ∙ ap (λ (v : Value). Some v) (sym (ap (λ (o : Option Value). unwrap_or o value.Nil) own))

  module _ (own row : PlainRow) (other : RecId) (here : row_at t model id ≡ Some own) (there : row_at t model other ≡ Some row) where
    -- rows that are alike in each field share the set
    pub alike-shares : id ≢ other → All (AreKeptAlike own row) set → SharesWith models t model set id other
    alike-shares apart alike = (
      apart,
      there_is (row_at t model other) row there,
      λ k d low.
          let field = get_or set k d in
          tell_and (plain_at t models (cell_of id field)) (kept_in own field) (λ v. (v ≢ value.Nil) × (plain_at t models (cell_of other field) ≡ Some v)) (kept_plain id own field here (each_kept k d low))
          ((alike k d low).0, kept_plain other row field there (each_kept k d low) ∙ ap (λ (v : Value). Some v) (alike k d low).1),
    )

    -- and rows that share it are
    pub shares-alike : SharesWith models t model set id other → All (AreKeptAlike own row) set
    shares-alike shares k d low =
        let field = get_or set k d in
        let v = told_and (plain_at t models (cell_of id field)) (λ v. (v ≢ value.Nil) × (plain_at t models (cell_of other field) ≡ Some v)) (shares.2 k d low) in
        let one : kept_in own field ≡ v.0 = same_Some (kept_in own field) v.0 (sym (kept_plain id own field here (each_kept k d low)) ∙ v.1) in
        let two : kept_in row field ≡ v.0 = same_Some (kept_in row field) v.0 (sym (kept_plain other row field there (each_kept k d low)) ∙ v.2.1) in
        (λ unset. v.2.0 (sym one ∙ unset), two ∙ sym one)

  -- a row that shares the set with another is there, alike, and both have the same digest in it
  pub shares-digest : (own : PlainRow) (other : RecId) → row_at t model id ≡ Some own → SharesWith models t model set id other
      → (row : PlainRow) × (row_at t model other ≡ Some row) × All (AreKeptAlike own row) set × ((digest : ℕ) × (digest_in own set ≡ Some digest) × (digest_in row set ≡ Some digest))
  shares-digest own other here shares =
      let found = is_there (row_at t model other) shares.1 in
      let alike = shares-alike own found.0 other here found.1 shares in
      (found.0, found.1, alike, alike-digest own found.0 set alike)

  row_of_value : (cell : Cell) (v : Value) → plain_at t models cell ≡ Some v → IsSome (row_at t cell.model cell.id)
  row_of_value cell v has = by (field_at models cell.model cell.field) (row_at t cell.model cell.id) has
    where
      by : (f : Option FieldInfo) (r : Option PlainRow) → option_and_then (λ info. option_and_then (plain_from t info.origin info cell.field cell.id) r) f ≡ Some v → IsSome r
      by f (Some row) is = refl
      by None None is = cc
      by (Some info) None is = cc

  -- a row that isn't there shares none
  pub none-shares : row_at t model id ≡ None → (other : RecId) → SharesWith models t model set id other → ⊥
  none-shares none other shares = by set some_field shares.2
    where
      by : (fields : List FieldNo) → fields ≢ [] → All (Alike other) fields → ⊥
      by [] some alike = some refl
      by (field ∷ fields) some alike =
          let v = told_and (plain_at t models (cell_of id field)) (λ v. (v ≢ value.Nil) × (plain_at t models (cell_of other field) ≡ Some v)) (All-head (Alike other) field fields alike) in
          not_there (row_at t model id) none (row_of_value (cell_of id field) v.0 v.1)
