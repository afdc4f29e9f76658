-- The rows to which a walk still comes, step by step.
use Rattle.std.proofs.Common.{◌≡◌, ℕ, zero, suc, ◌+◌, ◌<◌, ◌≤◌, Bool, true, false, cond, List, [], ◌∷◌, ◌++◌, map, filter, get_or, length, take, drop, refl, sym, ap, ◌∙◌, arith}
use Rattle.std.specs.Prelude.{nat_lt}
use Rattle.std.proofs.lemmas.List.{map-append, take_more}
use Rattle.std.proofs.lemmas.List.Kept.{IsStrictlySortedBy-filter}
use Rattle.std.proofs.lemmas.List.Sorted.{IsPermutation-refl}
use Rattle.ob_base.specs.Limits.{max_id}
use Rattle.ob_base.specs.declared.id.FieldNo.{FieldNo}
use Rattle.ob_base.specs.declared.id.ModelNo.{ModelNo}
use Rattle.ob_base.specs.declared.id.RecId.{RecId}
use Rattle.ob_base.specs.declared.value.Value.{Value}
use Rattle.ob_query.proofs.SearchedIds.{all-above, few-rows}
use Rattle.ob_query.proofs.Walks.{rising-sorted}
use Rattle.ob_query.specs.SearchOrder.{AreOrdered, window}
use Rattle.ob_query.specs.SearchParts.{found_ahead, found_by, is_known_found, told_to}
use Rattle.ob_query.specs.SearchQuestions.{ahead}
use Rattle.ob_query.specs.declared.searching.order.Key.{Key}
use Rattle.ob_query.specs.declared.searching.sought.Sought.{Sought}
use Rattle.ob_query.specs.declared.searching.walk.Walk.{Walk}
use Rattle.ob_schema.specs.Broken.{AreSound}
use Rattle.ob_schema.specs.Models.{HasModel, IsRegistry}
use Rattle.ob_schema.specs.Tables.{Tables, ids_in}
use Rattle.ob_schema.specs.declared.info.OrderTerm.{OrderTerm}
use Rattle.ob_schema.specs.declared.info.ModelInfo.{ModelInfo}
use Rattle.ob_tables.proofs.CallerLemmas.{id_cmp, ids-rise}

-- a walk that begins comes to all ids
begins_ahead : (walk : Walk) (ids : List RecId) → walk.page ≡ [] → walk.last ≡ record { 0 = 0 } → ahead walk ids ≡ filter (λ id. nat_lt 0 id.0) ids
begins_ahead walk ids page last =
    ap (λ (l : List RecId). drop walk.place l ++ filter (λ id. nat_lt walk.last.0 id.0) ids) page
    ∙ none walk.place (filter (λ id. nat_lt walk.last.0 id.0) ids)
    ∙ ap (λ (q : RecId). filter (λ id. nat_lt q.0 id.0) ids) last where
      none : (n : ℕ) (xs : List RecId) → drop n [] ++ xs ≡ xs
      none zero xs = refl
      none (suc n) xs = refl

-- so to all rows of a model
pub begins_walk : (models : List ModelInfo) → IsRegistry models → (tables : Tables) → AreSound models tables → (model : ModelNo) → HasModel models model → (walk : Walk) → walk.page ≡ [] → walk.last ≡ record { 0 = 0 }
    → ahead walk (ids_in tables model) ≡ ids_in tables model
begins_walk models registry tables sound model there walk page last = begins_ahead walk (ids_in tables model) page last ∙ all-above models registry tables sound model there

module _ (models : List ModelInfo) (registry : IsRegistry models) (tables : Tables) (sound : AreSound models tables) (sought : Sought) (there : HasModel models sought.model) where
  -- and to all that are found
  pub begins_found : (walk : Walk) → walk.page ≡ [] → walk.last ≡ record { 0 = 0 } → found_ahead models tables sought walk ≡ found_by models tables sought
  begins_found walk page last = ap (filter (is_known_found (told_to models tables sought) sought)) (begins_walk models registry tables sound sought.model there walk page last)

  -- they are few
  pub few_found : length (found_by models tables sought) ≤ max_id + 1
  few_found = let few = few-rows models registry tables sound sought.model there in
      let less = short (is_known_found (told_to models tables sought) sought) (ids_in tables sought.model) in omega arith where
        short : (p : RecId → Bool) (xs : List RecId) → length (filter p xs) ≤ length xs
        short p [] = omega arith
        short p (x ∷ xs) = by (p x) (short p xs) where
          by : (b : Bool) → length (filter p xs) ≤ length xs → length (cond b (x ∷ filter p xs) (filter p xs)) ≤ suc (length xs)
          by true h = omega arith
          by false h = omega arith

  -- where no order is asked for, they are in their order as they are
  pub found_ordered : (held : FieldNo → RecId → Value) (ids : List RecId) → ids ≡ window sought.offset sought.limit (found_by models tables sought) → AreOrdered held [] sought.offset sought.limit (found_by models tables sought) ids
  found_ordered held ids cut = record {
    ordered = found_by models tables sought;
    same = IsPermutation-refl (found_by models tables sought);
    rising = rising-sorted (found_by models tables sought) (IsStrictlySortedBy-filter id_cmp (is_known_found (told_to models tables sought) sought) (ids_in tables sought.model) (ids-rise sought.model tables));
    cut = cut;
  }

-- ---- one id more of a list that is filtered

module _ (p : RecId → Bool) where
  -- it passes
  pub passes_next : (ids rest : List RecId) (id : RecId) → ids ≡ id ∷ rest → p id ≡ true → filter p ids ≡ id ∷ filter p rest
  passes_next ids rest id is passes = ap (filter p) is ∙ ap (λ (b : Bool). cond b (id ∷ filter p rest) (filter p rest)) passes

  -- it doesn't
  pub fails_next : (ids rest : List RecId) (id : RecId) → ids ≡ id ∷ rest → p id ≡ false → filter p ids ≡ filter p rest
  fails_next ids rest id is fails = ap (filter p) is ∙ ap (λ (b : Bool). cond b (id ∷ filter p rest) (filter p rest)) fails

-- ---- keys

-- one term more has its key
pub keys-more : (f : OrderTerm → Key) (terms : List OrderTerm) (i : ℕ) (d : OrderTerm) (keys : List Key) (key : Key) → i < length terms → keys ≡ map f (take i terms) → key ≡ f (get_or terms i d)
    → keys ++ key ∷ [] ≡ map f (take (i + 1) terms)
keys-more f terms i d keys key lt are is =
    ap (λ (l : List Key). l ++ key ∷ []) are ∙ ap (λ (k : Key). map f (take i terms) ++ k ∷ []) is
    ∙ sym (ap (map f) (take_more terms i d lt) ∙ map-append f (take i terms) (get_or terms i d ∷ []))
