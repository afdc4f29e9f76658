-- The objects of groups, a member and a group at a time.
use Rattle.std.proofs.Common.{◌≡◌, ℕ, zero, suc, ◌+◌, ◌<◌, ◌≤◌, ◌==◌, true, false, List, [], ◌∷◌, ◌++◌, map, drop, get_or, length, Vec, Global, refl, sym, ap, subst, ◌∙◌, arith, append_assoc}
use Rattle.std.specs.Prelude.{All}
use Rattle.std.proofs.lemmas.Bool.{eqb-true}
use Rattle.std.proofs.lemmas.List.{append-nil, length-map, map-append}
use Rattle.std.proofs.lemmas.List.Elements.{All-drop, All-take}
use Rattle.ob_base.specs.declared.id.FieldNo.{FieldNo}
use Rattle.ob_base.specs.declared.id.RecId.{RecId}
use Rattle.ob_base.specs.declared.value.Value.{Value}
use Rattle.ob_base.specs.declared.value.Value.TheVariants as value
use Rattle.ob_call.proofs.CallerLemmas.{both_plain, left_plain, right_plain}
use Rattle.ob_codec.specs.JsonForm.{IsJsonOf}
use Rattle.ob_query.proofs.CallerLemmas.{map-left}
use Rattle.ob_group.specs.GroupAmounts.{TellsAmount}
use Rattle.ob_group.specs.GroupForms.{Aggregate, AskedGroups, Grouping}
use Rattle.ob_group.specs.GroupParts.{IsPut, aggregate_view, row_of, rows_items}
use Rattle.ob_group.specs.GroupValues.{column_of}
use Rattle.ob_group.specs.Groups.{TellsAmounts, TellsEachGroup, TellsGroup, TellsKeys, keys_in, keys_of}
use Rattle.ob_query.specs.SearchOrder.{window}
use Rattle.ob_group.specs.declared.aggregates.Aggregate.{Aggregate as Own}
use Rattle.serde_json.specs.Data.{Data, Members, put}
use Rattle.serde_json.specs.View.{items_of}
use Rattle.serde_json.specs.Written.{has_float, items_have_float}

-- one key more
pub keys-more : (all_g front_g rest_g : List Grouping) (all_k front_k rest_k : List Value) (g : Grouping) (v : Value) (before now next : Members) (own : Data) → front_g ≡ g ∷ rest_g → front_k ≡ v ∷ rest_k → next ≡ put g.text own now → IsJsonOf v own
    → ((after : Members) → TellsKeys front_g front_k now after → TellsKeys all_g all_k before after) → (after : Members) → TellsKeys rest_g rest_k next after → TellsKeys all_g all_k before after
keys-more all_g front_g rest_g all_k front_k rest_k g v before now next own gs ks is json so_far after h =
    so_far after (subst (λ (l : List Grouping). TellsKeys l front_k now after) (sym gs) (subst (λ (l : List Value). TellsKeys (g ∷ rest_g) l now after) (sym ks)
    (own, json, subst (λ (m : Members). TellsKeys rest_g rest_k m after) is h)))

module _ (held : FieldNo → RecId → Value) (ids : List RecId) where
  -- one aggregate more
  pub amounts-more : (all front rest : List Aggregate) (a : Aggregate) (before now next : Members) (own : Data) → front ≡ a ∷ rest → next ≡ put a.key own now → TellsAmount a.amount (map (held a.field) ids) own
      → ((after : Members) → TellsAmounts held ids front now after → TellsAmounts held ids all before after) → (after : Members) → TellsAmounts held ids rest next after → TellsAmounts held ids all before after
  amounts-more all front rest a before now next own first is told so_far after h =
      so_far after (subst (λ (l : List Aggregate). TellsAmounts held ids l now after) (sym first) (own, told, subst (λ (m : Members). TellsAmounts held ids rest m after) is h))

  cell-at : (aggregates : List Aggregate) (i : ℕ) (d : Aggregate) (id : RecId) → i < length aggregates → get_or (row_of held aggregates id) i value.Nil ≡ held (get_or aggregates i d).field id
  cell-at [] i d id lt = absurd (omega arith)
  cell-at (a ∷ aggregates) zero d id lt = refl
  cell-at (a ∷ aggregates) (suc i) d id lt = cell-at aggregates i d id (omega arith)

  column-rows : (aggregates : List Aggregate) (i : ℕ) (d : Aggregate) (own : List RecId) → i < length aggregates → map (λ row. get_or row i value.Nil) (map (row_of held aggregates) own) ≡ map (held (get_or aggregates i d).field) own
  column-rows aggregates i d [] lt = refl
  column-rows aggregates i d (id ∷ own) lt = ap (λ (v : Value). v ∷ map (λ row. get_or row i value.Nil) (map (row_of held aggregates) own)) (cell-at aggregates i d id lt) ∙ ap (λ (l : List Value). held (get_or aggregates i d).field id ∷ l) (column-rows aggregates i d own lt)

  column-items : (i : ℕ) (rows : List (Vec Value Global)) → column_of i rows ≡ map (λ row. get_or row i value.Nil) (rows_items rows)
  column-items i [] = refl
  column-items i (row ∷ rows) = ap (λ (l : List Value). get_or row.items i value.Nil ∷ l) (column-items i rows)

  -- what rows hold at a number is what they hold for that aggregate
  pub column-is : (rows : List (Vec Value Global)) (aggregates : List Aggregate) (i : ℕ) (d : Aggregate) → rows_items rows ≡ map (row_of held aggregates) ids → i < length aggregates → column_of i rows ≡ map (held (get_or aggregates i d).field) ids
  column-is rows aggregates i d are lt = column-items i rows ∙ ap (map (λ (row : List Value). get_or row i value.Nil)) are ∙ column-rows aggregates i d ids lt

module _ (held : FieldNo → RecId → Value) (asked : AskedGroups) (ids : List RecId) where
  -- one group more
  pub groups-more : (all front rest : List (List Value)) (keys : List Value) (done : List Data) (d : Data) → front ≡ keys ∷ rest → TellsGroup held asked ids keys d
      → ((ds : List Data) → TellsEachGroup held asked ids front ds → TellsEachGroup held asked ids all (done ++ ds)) → (ds : List Data) → TellsEachGroup held asked ids rest ds → TellsEachGroup held asked ids all ((done ++ d ∷ []) ++ ds)
  groups-more all front rest keys done d next told so_far ds h =
      subst (TellsEachGroup held asked ids all) (sym (append_assoc done (d ∷ []) ds)) (so_far (d ∷ ds) (subst (λ (l : List (List Value)). TellsEachGroup held asked ids l (d ∷ ds)) (sym next) (told, h)))

  -- none is left
  pub groups-all : (all front : List (List Value)) (done : List Data) → front ≡ [] → ((ds : List Data) → TellsEachGroup held asked ids front ds → TellsEachGroup held asked ids all (done ++ ds)) → TellsEachGroup held asked ids all done
  groups-all all front done none so_far = subst (TellsEachGroup held asked ids all) (append-nil done) (so_far [] (subst (λ (l : List (List Value)). TellsEachGroup held asked ids l []) (sym none) tt))

-- one object more without a float
pub plain_more : (objects : List Data) (d : Data) → items_have_float (items_of objects) ≡ false → has_float d ≡ false → items_have_float (items_of (objects ++ d ∷ [])) ≡ false
plain_more [] d e f = both_plain (has_float d) false f refl
plain_more (o ∷ objects) d e f =
    both_plain (has_float o) (items_have_float (items_of (objects ++ d ∷ []))) (left_plain (has_float o) (items_have_float (items_of objects)) e)
    (plain_more objects d (right_plain (has_float o) (items_have_float (items_of objects)) e) f)

-- ---- groups that are told

map-at : {A B : Type 0} (f : A → B) (xs : List A) (i : ℕ) (d : A) → get_or (map f xs) i (f d) ≡ f (get_or xs i d)
map-at f [] i d = refl
map-at f (x ∷ xs) zero d = refl
map-at f (x ∷ xs) (suc i) d = map-at f xs i d

-- one aggregate of the program more
pub put-more : (held : FieldNo → RecId → Value) (ids : List RecId) (rows : List (Vec Value Global)) (aggregates : List Own) (i : ℕ) (d : Own) (before now next : Members) → i < length aggregates → rows_items rows ≡ map (row_of held (map aggregate_view aggregates)) ids
    → IsPut (get_or aggregates i d) (column_of i rows) now next
    → ((after : Members) → TellsAmounts held ids (map aggregate_view (drop i aggregates)) now after → TellsAmounts held ids (map aggregate_view aggregates) before after)
    → (after : Members) → TellsAmounts held ids (map aggregate_view (drop (i + 1) aggregates)) next after → TellsAmounts held ids (map aggregate_view aggregates) before after
put-more held ids rows aggregates i d before now next lt are is so_far after h =
    let a = get_or aggregates i d in
    let column : column_of i rows ≡ map (held a.field) ids =
    column-is held ids rows (map aggregate_view aggregates) i (aggregate_view d) are (subst (λ (n : ℕ). i < n) (sym (length-map aggregates aggregate_view)) lt)
    ∙ ap (λ (x : Aggregate). map (held x.field) ids) (map-at aggregate_view aggregates i d) in
    amounts-more held ids (map aggregate_view aggregates) (map aggregate_view (drop i aggregates)) (map aggregate_view (drop (i + 1) aggregates)) (aggregate_view a) before now next is.0 (map-left aggregate_view aggregates i d lt) is.2
    (subst (λ (vs : List Value). TellsAmount a.amount vs is.0) column is.1) so_far after h

-- what holds of all holds of those from one on
pub window-all : {X : Type 0} (P : X → Type 0) (offset limit : ℕ) (xs : List X) → All P xs → All P (window offset limit xs)
window-all P offset zero xs all = All-drop P offset xs all
window-all P offset (suc n) xs all = All-take P (suc n) (drop offset xs) (All-drop P offset xs all)

-- whether there are groupings
pub no-groupings : (gs : List Grouping) → (length gs == 0) ≡ true → gs ≡ []
no-groupings [] e = refl
no-groupings (g ∷ gs) e = absurd (let size : length (g ∷ gs) ≡ 0 = eqb-true (length (g ∷ gs)) 0 e in omega (arith, size))

pub with-groupings : (held : FieldNo → RecId → Value) (gs : List Grouping) (ids : List RecId) → (length gs == 0) ≡ false → keys_in held gs ids ≡ map (keys_of held gs) ids
with-groupings held [] ids e = absurd cc
with-groupings held (g ∷ gs) ids e = refl
