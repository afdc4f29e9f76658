-- The place of a model by its name, and a model that is put in its place.
use Rattle.std.proofs.Common.{rules, ◌≡◌, ℕ, suc, ◌<◌, Bool, true, false, cond, ltb, List, [], ◌∷◌, ◌++◌, length, get_or, set, Option, Some, None, option_map, is_some, refl, sym, ap, subst, ◌∙◌, arith}
use Rattle.std.proofs.lemmas.Bool.Decides.{nat_tests}
use Rattle.std.proofs.lemmas.List.{length-set}
use Rattle.std.proofs.lemmas.List.Folds.{find_at, position_or_len-set}
use Rattle.std.proofs.lemmas.List.Quantifiers.{position-Some}
use Rattle.std.proofs.lemmas.Option.{slice_get_past, slice_get_read}
use Rattle.std.proofs.lemmas.Slice.Eq.{bytes_eq-Decides}
use Rattle.std.specs.BTreeMap.{BTreeMap, get_by_text}
use Rattle.std.specs.List.{position, position_or_len}
use Rattle.std.specs.Map.{update}
use Rattle.std.specs.Prelude.{IfSome, option_and_then, slice_get}
use Rattle.std.specs.Str.{bytes_eq}
use Rattle.std.specs.declared.alloc.Global.{Global}
use Rattle.std.specs.declared.string.String.{String}
use Rattle.ob_definition.specs.ByName.{ArePlaces, place_of}
use Rattle.ob_definition.specs.declared.definition.ModelDef.{ModelDef}
use Rattle.ob_definition.specs.Gathered.{Gathered, added, model_of, put, with_opened}
use Rattle.ob_definition.proofs.Copies.{position-push}

position-cons : {X : Type 0} (p : X → Bool) (x : X) (xs : List X) → position p (x ∷ xs) ≡ cond (p x) (Some 0) (option_map suc (position p xs))
position-cons p x xs = by (p x) (ltb (position_or_len p xs) (length xs)) refl refl
  where
    by : (b t : Bool) → p x ≡ b → ltb (position_or_len p xs) (length xs) ≡ t → position p (x ∷ xs) ≡ cond b (Some 0) (option_map suc (cond t (Some (position_or_len p xs)) None))
    by true t e f = grind (arith, nat_tests)
    by false true e f = grind (arith, nat_tests)
    by false false e f = grind (arith, nat_tests)

-- a model by its place
pub model_of-place : (models : List Gathered) (name : List ℕ) → model_of models name ≡ option_and_then (slice_get models) (place_of models name)
model_of-place models name = find_at p models ∙ by (ltb (position_or_len p models) (length models)) refl
  where
    p : Gathered → Bool
    p m = bytes_eq m.name name

    by : (b : Bool) → ltb (position_or_len p models) (length models) ≡ b → slice_get models (position_or_len p models) ≡ option_and_then (slice_get models) (cond b (Some (position_or_len p models)) None)
    by true e = refl
    by false e = slice_get_past models (position_or_len p models) (grind (arith, nat_tests))

-- a model that is there stays in its place
pub put-there : (model : Gathered) (models : List Gathered) (i : ℕ) → place_of models model.name ≡ Some i → put model models ≡ set models i model
put-there model [] i at = absurd (let e : ◌≡◌ {A = Option ℕ} None (Some i) = at in cc)
put-there model (m ∷ models) i at =
    by (bytes_eq m.name model.name) (place_of models model.name) refl refl (sym (position-cons (λ m. bytes_eq m.name model.name) m models) ∙ at) (λ j f. put-there model models j f)
  where
    by : (b : Bool) (o : Option ℕ) → bytes_eq m.name model.name ≡ b → place_of models model.name ≡ o → cond b (Some 0) (option_map suc o) ≡ Some i
        → ((j : ℕ) → place_of models model.name ≡ Some j → put model models ≡ set models j model) → cond b (model ∷ models) (m ∷ put model models) ≡ set (m ∷ models) i model
    by true o e f same rest =
        let zeroth : 0 ≡ i = let s : ◌≡◌ {A = Option ℕ} (Some 0) (Some i) = same in cc in
        rw (← zeroth) refl
    by false (Some j) e f same rest =
        let next : suc j ≡ i = let s : ◌≡◌ {A = Option ℕ} (Some (suc j)) (Some i) = same in cc in
        rw (← next) (ap (λ (ms : List Gathered). m ∷ ms) (rest j f))
    by false None e f same rest = absurd (let s : ◌≡◌ {A = Option ℕ} None (Some i) = same in cc)

-- a new one stands behind the others
pub put-new : (model : Gathered) (models : List Gathered) → model_of models model.name ≡ None → put model models ≡ models ++ model ∷ []
put-new model [] new = refl
put-new model (m ∷ models) new = by (bytes_eq m.name model.name) new (λ free. put-new model models free)
  where
    by : (b : Bool) → cond b (Some m) (model_of models model.name) ≡ None → (model_of models model.name ≡ None → put model models ≡ models ++ model ∷ [])
        → cond b (model ∷ models) (m ∷ put model models) ≡ m ∷ (models ++ model ∷ [])
    by true e rest = absurd (let s : ◌≡◌ {A = Option Gathered} (Some m) None = e in cc)
    by false e rest = ap (λ (ms : List Gathered). m ∷ ms) (rest e)

-- the places of names stay where a model keeps its name
pub place_of-set : (models : List Gathered) (i : ℕ) (model d : Gathered) (name : List ℕ) → model.name ≡ (get_or models i d).name → place_of (set models i model) name ≡ place_of models name
place_of-set models i model d name same =
    let p : Gathered → Bool = λ m. bytes_eq m.name name in
    let first : position_or_len p (set models i model) ≡ position_or_len p models = position_or_len-set p models i model d (ap (λ (n : List ℕ). bytes_eq n name) same) in
    let size : length (set models i model) ≡ length models = length-set models i model in
    rw (first, size) refl

-- one place more, for a new name
pub ArePlaces-push : (places new : BTreeMap (String Global) ℕ) (models : List Gathered) (model : Gathered) → ArePlaces places models → place_of models model.name ≡ None
    → ((name : List ℕ) → get_by_text new name ≡ update bytes_eq (get_by_text places) model.name (Some (length models)) name) → ArePlaces new (models ++ model ∷ [])
ArePlaces-push places new models model are free updates name =
    updates name ∙ by (place_of models name) (bytes_eq model.name name) refl refl ∙ sym (position-push (λ m. bytes_eq m.name name) models model)
  where
    by : (o : Option ℕ) (b : Bool) → place_of models name ≡ o → bytes_eq model.name name ≡ b → cond b (Some (length models)) (get_by_text places name) ≡ cond (is_some o) o (cond b (Some (length models)) None)
    by (Some i) true e f =
        let same : model.name ≡ name = (bytes_eq-Decides model.name name).0 f in
        let none : place_of models name ≡ None = subst (λ (n : List ℕ). place_of models n ≡ None) same free in
        absurd (let s : ◌≡◌ {A = Option ℕ} (Some i) None = sym e ∙ none in cc)
    by (Some i) false e f = are name ∙ e
    by None true e f = refl
    by None false e f = are name ∙ e

-- a name that no model has, has no place, and the other way round
pub place_of-free : (models : List Gathered) (name : List ℕ) → model_of models name ≡ None → place_of models name ≡ None
place_of-free [] name free = refl
place_of-free (m ∷ models) name free = position-cons (λ g. bytes_eq g.name name) m models ∙ by (bytes_eq m.name name) free (λ none. place_of-free models name none)
  where
    by : (b : Bool) → cond b (Some m) (model_of models name) ≡ None → (model_of models name ≡ None → place_of models name ≡ None) → cond b (Some 0) (option_map suc (place_of models name)) ≡ None
    by true e rest = absurd (let s : ◌≡◌ {A = Option Gathered} (Some m) None = e in cc)
    by false e rest = ap (option_map suc) (rest e)

pub model_of-free : (models : List Gathered) (name : List ℕ) → place_of models name ≡ None → model_of models name ≡ None
model_of-free models name free = model_of-place models name ∙ ap (option_and_then (slice_get models)) free

-- a place is one of the list
pub place_of-within : (models : List Gathered) (name : List ℕ) (i : ℕ) → place_of models name ≡ Some i → i < length models
place_of-within models name i at = by (ltb (position_or_len p models) (length models)) refl at
  where
    p : Gathered → Bool
    p m = bytes_eq m.name name

    by : (b : Bool) → ltb (position_or_len p models) (length models) ≡ b → cond b (Some (position_or_len p models)) None ≡ Some i → i < length models
    by true e f =
        let same : position_or_len p models ≡ i = let s : ◌≡◌ {A = Option ℕ} (Some (position_or_len p models)) (Some i) = f in cc in
        grind (arith, nat_tests)
    by false e f = absurd (let s : ◌≡◌ {A = Option ℕ} None (Some i) = f in cc)

pub place_of-IfSome : (models : List Gathered) (name : List ℕ) (o : Option ℕ) → o ≡ place_of models name → IfSome o (λ i. i < length models)
place_of-IfSome models name None e = search rules
place_of-IfSome models name (Some i) e = place_of-within models name i (sym e)

-- the model at the place of its name
pub model_of-at : (models : List Gathered) (name : List ℕ) (i : ℕ) → place_of models name ≡ Some i → model_of models name ≡ slice_get models i
model_of-at models name i at = model_of-place models name ∙ ap (option_and_then (slice_get models)) at

-- the model that is read at the place of its name
pub model_of-read : (models : List Gathered) (name : List ℕ) (i : ℕ) (m : Gathered) → place_of models name ≡ Some i → m ≡ get_or models i m → model_of models name ≡ Some m
model_of-read models name i m at is = model_of-at models name i at ∙ slice_get_read models (length models) i m refl (place_of-within models name i at) is

pub name-read : (models : List Gathered) (name : List ℕ) (i : ℕ) (m : Gathered) → place_of models name ≡ Some i → m ≡ get_or models i m → m.name ≡ name
name-read models name i m at is =
    let found = position-Some (λ g. bytes_eq g.name name) models i m at in
    (bytes_eq-Decides m.name name).0 (ap (λ (g : Gathered). bytes_eq g.name name) is ∙ found.1)

-- what an entry adds to a model that is there is put in its place
pub put-added : (models : List Gathered) (name : List ℕ) (i n : ℕ) (def : ModelDef) (m new : Gathered) → place_of models name ≡ Some i → m ≡ get_or models i m → new ≡ added n def m
    → set models i new ≡ with_opened n def (model_of models name) models
put-added models name i n def m new at is adds =
    let own : place_of models m.name ≡ Some i = ap (place_of models) (name-read models name i m at is) ∙ at in
    ap (set models i) adds ∙ sym (put-there (added n def m) models i own) ∙ sym (ap (λ (o : Option Gathered). with_opened n def o models) (model_of-read models name i m at is))

some-map : (o : Option ℕ) → is_some (option_map suc o) ≡ is_some o
some-map None = refl
some-map (Some i) = refl

-- a name has a place where it has a model
pub is_some-place : (models : List Gathered) (name : List ℕ) → is_some (place_of models name) ≡ is_some (model_of models name)
is_some-place [] name = refl
is_some-place (m ∷ models) name = ap (λ (o : Option ℕ). is_some o) (position-cons (λ g. bytes_eq g.name name) m models) ∙ by (bytes_eq m.name name) (is_some-place models name)
  where
    by : (b : Bool) → is_some (place_of models name) ≡ is_some (model_of models name) → is_some (cond b (Some 0) (option_map suc (place_of models name))) ≡ is_some (cond b (Some m) (model_of models name))
    by true rest = refl
    by false rest = some-map (place_of models name) ∙ rest
