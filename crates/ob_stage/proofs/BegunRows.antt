-- A row that is made with rows of its parents, one step behind another.
use Rattle.std.proofs.Common.{◌≡◌, ◌∷◌, [], ◌++◌, ℕ, Bool, true, false, cond, List, is_some, append-nil, sym, ap, ◌∙◌}
use Rattle.ob_base.specs.declared.id.ModelNo.{ModelNo}
use Rattle.ob_base.specs.declared.id.RecId.{RecId}
use Rattle.ob_base.specs.declared.value.Value.TheVariants as value
use Rattle.ob_orm.proofs.CallerLemmas.{with_parents-more}
use Rattle.ob_orm.specs.NewRows.{Begun, Values, behind, linked, making, with_parent, with_parents}
use Rattle.ob_rows.specs.declared.author.Author.{Author}
use Rattle.ob_schema.specs.Tables.{Tables, next_of}
use Rattle.ob_schema.specs.declared.info.ModelInfo.{ModelInfo}
use Rattle.ob_schema.specs.declared.info.ParentInfo.{ParentInfo}
use Rattle.ob_tables.specs.After.{after}
use Rattle.ob_tables.specs.declared.edit.Edit.{Edit}

module _ (models : List ModelInfo) (by : Author) (model : ModelNo) (tables : Tables) where
  abbrev one_parent : Values → ParentInfo → Bool → Begun
  one_parent given parent b = cond b (record { edits = []; given = given })
      (record { edits = making models by tables parent.model (behind models model parent.link given) ∷ []; given = (parent.link, value.Ref (record { 0 = next_of tables parent.model })) ∷ given })

  -- a parent that is linked isn't made
  pub parent-linked : (given : Values) (parent : ParentInfo) (edits : List Edit) → is_some (linked given parent.link) ≡ true
      → (edits ≡ edits ++ (with_parent models by tables model given parent).edits) × (given ≡ (with_parent models by tables model given parent).given)
  parent-linked given parent edits is =
      (sym (append-nil edits) ∙ sym (ap (λ (b : Bool). edits ++ (one_parent given parent b).edits) is), sym (ap (λ (b : Bool). (one_parent given parent b).given) is))

  -- another one is
  pub parent-made : (given values : Values) (parent : ParentInfo) (edits new : List Edit) (more : Values) (id : RecId) → is_some (linked given parent.link) ≡ false → values ≡ behind models model parent.link given
      → new ≡ edits ++ making models by tables parent.model values ∷ [] → id.0 ≡ next_of tables parent.model → more ≡ (parent.link, value.Ref id) ∷ given
      → (new ≡ edits ++ (with_parent models by tables model given parent).edits) × (more ≡ (with_parent models by tables model given parent).given)
  parent-made given values parent edits new more id not are made next linked_so = (
    made ∙ ap (λ (vs : Values). edits ++ making models by tables parent.model vs ∷ []) are ∙ sym (ap (λ (b : Bool). edits ++ (one_parent given parent b).edits) not),
    linked_so ∙ ap (λ (n : ℕ). (parent.link, value.Ref (record { 0 = n })) ∷ given) next ∙ sym (ap (λ (b : Bool). (one_parent given parent b).given) not),
  )

  -- one parent more
  pub begun-more : (given : Values) (parents : List ParentInfo) (parent : ParentInfo) (edits more_edits : List Edit) (between more : Values)
      → edits ≡ (with_parents models by tables model given parents).edits → between ≡ (with_parents models by tables model given parents).given
      → more_edits ≡ edits ++ (with_parent models by (after models tables edits) model between parent).edits → more ≡ (with_parent models by (after models tables edits) model between parent).given
      → (more_edits ≡ (with_parents models by tables model given (parents ++ parent ∷ [])).edits) × (more ≡ (with_parents models by tables model given (parents ++ parent ∷ [])).given)
  begun-more given parents parent edits more_edits between more far far_given one one_given =
      let before = with_parents models by tables model given parents in
      let same : with_parent models by (after models tables edits) model between parent ≡ with_parent models by (after models tables before.edits) model before.given parent =
      (λ i. with_parent models by (after models tables (far i)) model (far_given i) parent) in
      let all = with_parents-more models by tables model given parents parent in (
        one ∙ (λ i. far i ++ (same i).edits) ∙ sym (ap (λ (b : Begun). b.edits) all),
        one_given ∙ ap (λ (b : Begun). b.given) same ∙ sym (ap (λ (b : Begun). b.given) all),
      )
