-- What was found on behalf of a caller is what a search finds by his view.
use Rattle.std.proofs.Common.{◌≡◌, ◌&&◌, Bool, true, false, cond, List, [], ◌∷◌, filter, refl, sym, ap, subst, ◌∙◌}
use Rattle.ob_access.specs.Views.{sees}
use Rattle.ob_base.specs.declared.id.ModelNo.{ModelNo}
use Rattle.ob_base.specs.declared.id.RecId.{RecId}
use Rattle.ob_call.specs.Called.{Called}
use Rattle.ob_query.specs.Callers.{seen_by}
use Rattle.ob_query.specs.Search.{AreSought, found_in, held_of, is_found, told_order}
use Rattle.ob_query.specs.SearchForms as forms
use Rattle.ob_query.specs.SearchOrder.{AreOrdered}
use Rattle.ob_query.specs.SearchParts.{AreFound, found_by, sought_view, told_sought}
use Rattle.ob_query.specs.Views.{view_of}
use Rattle.ob_query.specs.declared.caller.Caller.{Caller}
use Rattle.ob_query.specs.declared.searching.sought.Sought.{Sought}
use Rattle.ob_schema.specs.Facts.{told_by}
use Rattle.ob_schema.specs.Tables.{Tables, ids_in}
use Rattle.ob_schema.specs.declared.info.ModelInfo.{ModelInfo}

-- what passes two tests in turn
pub filter_twice : {A : Type 0} (p q : A → Bool) (xs : List A) → filter (λ x. q x && p x) xs ≡ filter p (filter q xs)
filter_twice p q [] = refl
filter_twice {A} p q (x ∷ xs) = by (q x) (filter_twice p q xs) where
  by : (b : Bool) → filter (λ x. q x && p x) xs ≡ filter p (filter q xs) → cond (b && p x) (x ∷ filter (λ x. q x && p x) xs) (filter (λ x. q x && p x) xs) ≡ filter p (cond b (x ∷ filter q xs) (filter q xs))
  by true more = ap (λ (l : List A). cond (p x) (x ∷ l) l) more
  by false more = more

module _ (models : List ModelInfo) (tables : Tables) (by : Caller) (c : Called) (sought : Sought) (meant : forms.Sought) (own : sought.by ≡ by) (model : sought.model ≡ c.model) where
  -- the rows that one finds of a model
  abbrev rows : Caller → ModelNo → forms.Sought → List RecId
  rows b m s = filter (λ id. (seen_by b models (told_by models tables)).knows m id && is_found (seen_by b models (told_by models tables)) b.user m s id) (ids_in tables m)

  -- and in their order
  abbrev ordered : List RecId → Caller → ModelNo → forms.Sought → Type 0
  ordered ids b m s = AreOrdered (held_of (seen_by b models (told_by models tables)) m) s.order s.offset s.limit (rows b m s) ids

  -- by his view
  from_rows : (s : forms.Sought) → rows by c.model s ≡ found_in (view_of models by.policy.now by.groups.now by.user tables) c s
  from_rows s =
      filter_twice (λ id. is_found (seen_by by models (told_by models tables)) by.user c.model s id) (λ id. sees by.policy.now (told_by models tables) by.groups.now by.user c.model id) (ids_in tables c.model)

  found_as : (s : forms.Sought) → sought_view sought ≡ s → found_by models tables sought ≡ rows by c.model s
  found_as s are = ap (λ (b : Caller). rows b sought.model (sought_view sought)) own ∙ ap (λ (m : ModelNo). rows by m (sought_view sought)) model ∙ ap (rows by c.model) are

  -- the rows that are counted
  pub found_counted : sought_view sought ≡ meant → found_by models tables sought ≡ found_in (view_of models by.policy.now by.groups.now by.user tables) c meant
  found_counted are = found_as meant are ∙ from_rows meant

  -- those that are found in the order that is told
  pub found_same : sought_view sought ≡ told_sought by c.model meant → found_by models tables sought ≡ found_in (view_of models by.policy.now by.groups.now by.user tables) c meant
  found_same are = found_as (told_sought by c.model meant) are ∙ from_rows meant

  -- and those that are answered
  pub as_sought : sought_view sought ≡ told_sought by c.model meant → (ids : List RecId) → AreFound models tables sought ids → AreSought by.policy.now (view_of models by.policy.now by.groups.now by.user tables) c meant ids
  as_sought are ids found =
      let view = view_of models by.policy.now by.groups.now by.user tables in
      let by_own = subst (λ (b : Caller). ordered ids b sought.model (sought_view sought)) own found in
      let by_model = subst (λ (m : ModelNo). ordered ids by m (sought_view sought)) model by_own in
      let told = subst (ordered ids by c.model) are by_model in
      subst (λ (l : List RecId). AreOrdered (held_of view.told c.model) (told_order by.policy.now by.groups.now by.user c.model meant.order) meant.offset meant.limit l ids) (from_rows meant) told
