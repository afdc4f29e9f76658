-- Which rows a create may come to make or change, whatever the tables: those of its model and of the model's parents.
use Rattle.std.proofs.Common.{◌≡◌, ◌==◌, ◌||◌, ◌≤◌, ◌+◌, ◌∷◌, [], ℕ, Bool, true, false, cond, List, length, Option, Some, None, is_some, unwrap_or, refl, sym, ap, ◌∙◌, eq-eqb}
use Rattle.std.specs.Prelude.{All, IsSomeAnd}
use Rattle.std.specs.BTreeMap as tree
use Rattle.std.specs.FinMap as finite
use Rattle.std.specs.List.{flat_map, list_any}
use Rattle.std.specs.Map.{lookup}
use Rattle.std.specs.Option.{option_map_or}
use Rattle.std.specs.Ordering.{is_eq, nat_cmp}
use Rattle.std.specs.Cmp.{nat_cmp_total}
use Rattle.std.proofs.lemmas.List.Elements.{All-append, All-cons, All-head, All-map, All-nil, All-tail, All-weaker}
use Rattle.ob_base.specs.declared.id.ModelNo.{ModelNo}
use Rattle.ob_base.specs.declared.id.RecId.{RecId}
use Rattle.ob_base.specs.declared.value.Value.TheVariants as value
use Rattle.ob_cache.specs.Standing.{max_next_id}
use Rattle.ob_orm.proofs.EditTouches.{or-right}
use Rattle.ob_orm.proofs.WriteEdits.{one_edit}
use Rattle.ob_orm.specs.NewRows.{Begun, Values, behind, changed_values, linked, made_row, made_rows, making, parent_change, parents_of, row_edits, with_parent, with_parents}
use Rattle.ob_orm.specs.NewRowSteps.{HoldsNextIds, IsReady, held_next}
use Rattle.ob_orm.specs.Touches.{is_parent, may_touch}
use Rattle.ob_orm.specs.TouchSteps.{MayDo}
use Rattle.ob_rows.specs.declared.author.Author.{Author}
use Rattle.ob_orm.specs.declared.making.next_ids.Making.{Making}
use Rattle.ob_schema.specs.Tables.{Tables, empty_tables, next_of}
use Rattle.ob_schema.specs.declared.info.ModelInfo.{ModelInfo}
use Rattle.ob_schema.specs.declared.info.ParentInfo.{ParentInfo}
use Rattle.ob_tables.specs.After.{after}
use Rattle.ob_tables.specs.declared.edit.Edit.{Edit}

-- ---- next ids are those of some tables

-- next ids by models' numbers
abbrev pub ids_of : List (ℕ × ℕ) → finite.FinMap nat_cmp ℕ
ids_of [] = finite.empty
ids_of (e ∷ entries) = finite.insert (ids_of entries) e.0 e.1

ids-found : (entries : List (ℕ × ℕ)) (k : ℕ) → lookup (tree.is_at (nat_cmp k)) entries ≡ finite.get (ids_of entries) k
ids-found [] k = sym (finite.get-empty nat_cmp k)
ids-found (e ∷ entries) k = ap (cond (is_eq (nat_cmp k e.0)) (Some e.1)) (ids-found entries k) ∙ sym (finite.get-insert nat_cmp_total (ids_of entries) e.0 e.1 k)

-- of some that have no rows
abbrev pub tables_of : List ModelInfo → Making → Tables
tables_of models held = record (empty_tables models) { next_ids = ids_of held.next_ids.entries }

pub holds-some : (models : List ModelInfo) (held : Making) → held.edits.items ≡ [] → IsReady models held → HoldsNextIds models (tables_of models held) held
holds-some models held none ready model there =
    by (held_next held model) refl (ready.held model there) ∙ sym (ap (λ (es : List Edit). Some (next_of (after models (tables_of models held) es) model)) none) where
      by : (o : Option ℕ) → held_next held model ≡ o → IsSomeAnd o (λ n. n ≤ max_next_id + length held.edits.items) → held_next held model ≡ Some (next_of (tables_of models held) model)
      by None is within = absurd within
      by (Some n) is within = is ∙ sym (ap (λ (o : Option ℕ). Some (unwrap_or o 1)) (sym (ids-found held.next_ids.entries model.0) ∙ is))

-- ---- what edits do

module _ (models : List ModelInfo) (by : Author) (model : ModelNo) where
  abbrev May : Edit → Type 0
  May = MayDo (may_touch models model)

  -- a parent
  abbrev IsOne : ParentInfo → Type 0
  IsOne parent = is_parent models model parent.model ≡ true

  any-of : (parents : List ParentInfo) → All (λ (parent : ParentInfo). list_any (λ (p : ParentInfo). p.model.0 == parent.model.0) parents ≡ true) parents
  any-of [] = All-nil (λ (parent : ParentInfo). list_any (λ (p : ParentInfo). p.model.0 == parent.model.0) [] ≡ true)
  any-of (p ∷ parents) =
      All-cons (λ (parent : ParentInfo). list_any (λ (q : ParentInfo). q.model.0 == parent.model.0) (p ∷ parents) ≡ true) p parents
      (ap (λ (b : Bool). b || list_any (λ (q : ParentInfo). q.model.0 == p.model.0) parents) (eq-eqb p.model.0 p.model.0 refl))
      (All-weaker (λ (parent : ParentInfo). list_any (λ (q : ParentInfo). q.model.0 == parent.model.0) parents ≡ true) (λ (parent : ParentInfo). list_any (λ (q : ParentInfo). q.model.0 == parent.model.0) (p ∷ parents) ≡ true)
      (λ parent is. or-right (p.model.0 == parent.model.0) (list_any (λ (q : ParentInfo). q.model.0 == parent.model.0) parents) is) parents (any-of parents))

  -- parents that are made
  may-parent : (tables : Tables) (given : Values) (parent : ParentInfo) → IsOne parent → All May (with_parent models by tables model given parent).edits
  may-parent tables given parent is = each (is_some (linked given parent.link)) where
    one : Edit
    one = making models by tables parent.model (behind models model parent.link given)

    each : (b : Bool) → All May (cond {A = Begun} b (record { edits = []; given = given }) (record { edits = one ∷ []; given = (parent.link, value.Ref (record { 0 = next_of tables parent.model })) ∷ given })).edits
    each true = All-nil May
    each false = All-cons May one [] (or-right (parent.model.0 == model.0) (is_parent models model parent.model) is) (All-nil May)

  may-parents : (tables : Tables) (given : Values) (parents : List ParentInfo) → All IsOne parents → All May (with_parents models by tables model given parents).edits
  may-parents tables given [] are = All-nil May
  may-parents tables given (parent ∷ parents) are =
      let one = with_parent models by tables model given parent in
      let mid = after models tables one.edits in
      All-append May one.edits (with_parents models by mid model one.given parents).edits (may-parent tables given parent (All-head IsOne parent parents are))
      (may-parents mid one.given parents (All-tail IsOne parent parents are))

  -- and those that are changed
  may-change : (given : Values) (parent : ParentInfo) → IsOne parent → All May (parent_change models by model given parent)
  may-change given parent is = each (linked given parent.link) where
    values : Values
    values = changed_values models by parent.model (behind models model parent.link given)

    each : (o : Option RecId) → All May (option_map_or (λ id. row_edits parent.model values id.0) o [])
    each None = All-nil May
    each (Some id) = All-map May (one_edit parent.model id.0) values (λ k d within. is)

  may-changes : (given : Values) (parents : List ParentInfo) → All IsOne parents → All May (flat_map (parent_change models by model given) parents)
  may-changes given [] are = All-nil May
  may-changes given (parent ∷ parents) are =
      All-append May (parent_change models by model given parent) (flat_map (parent_change models by model given) parents) (may-change given parent (All-head IsOne parent parents are))
      (may-changes given parents (All-tail IsOne parent parents are))

  -- a row, and rows behind it
  may-row : (tables : Tables) (given : Values) → All May (made_row models by tables model given).edits
  may-row tables given =
      let parents = parents_of models model in
      let begun = with_parents models by tables model given parents in
      let own = making models by (after models tables begun.edits) model begun.given in
      All-append May begun.edits (own ∷ flat_map (parent_change models by model given) parents) (may-parents tables given parents (any-of parents))
      (All-cons May own (flat_map (parent_change models by model given) parents) (ap (λ (b : Bool). b || is_parent models model model) (eq-eqb model.0 model.0 refl)) (may-changes given parents (any-of parents)))

  pub may-rows : (tables : Tables) (each : List Values) → All May (made_rows models by tables model each).edits
  may-rows tables [] = All-nil May
  may-rows tables (given ∷ each) =
      let one = made_row models by tables model given in
      let mid = after models tables one.edits in
      All-append May one.edits (made_rows models by mid model each).edits (may-row tables given) (may-rows mid each)
