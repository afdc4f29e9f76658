-- Reading the items of a JSON list from the front, each by the same form.
use Rattle.std.proofs.Common.{◌≡◌, ℕ, ◌<◌, ◌+◌, suc, List, [], ◌∷◌, ◌++◌, length, get_or, drop, Vec, Global, Result, Ok, Err, refl, sym, ap, ◌∙◌, add-one, append_assoc}
use Rattle.std.specs.Prelude.{map, ⊤}
use Rattle.std.proofs.Math.Seq.{drop-cons}
use Rattle.std.proofs.lemmas.List.{append-nil}
use Rattle.serde_json.specs.Data.{Data, array}
use Rattle.serde_json.specs.View.{view, items_view}
use Rattle.serde_json.specs.declared.value.Value.{Value as Json, Array}
use Rattle.serde_json.proofs.Views.{view-Array}
use Rattle.ob_codec.specs.Commands.{clear_from, id_of_json, ids_of, ignored, listed, order_at, order_from, orders_of}
use Rattle.ob_codec.specs.Input.{clear}
use Rattle.ob_base.specs.Chain.{◌>>=◌}
use Rattle.ob_codec.specs.Steps.{each_from}
use Rattle.ob_codec.specs.declared.fault.CodecFault.{CodecFault}

-- the items of a list, seen as their data
pub listed_items : (values : List Json) → listed (items_view values) ≡ map view values
listed_items [] = refl
listed_items (v ∷ values) = ap (λ (ds : List Data). view v ∷ ds) (listed_items values)

view_items : (json : Json) (v : Vec Json Global) → json ≡ Array v → view json ≡ array (items_view v.items)
view_items json v is = ap view is ∙ view-Array v

pub ids_of_items : (command k : ℕ) (json : Json) (v : Vec Json Global) → json ≡ Array v
    → ids_of command k (view json) ≡ each_from (λ n. id_of_json (command ∷ k ∷ n ∷ [])) 0 (map view v.items)
unfolding ids_of
ids_of_items command k json v is =
    ap (ids_of command k) (view_items json v is) ∙ ap (each_from (λ n. id_of_json (command ∷ k ∷ n ∷ [])) 0) (listed_items v.items)

pub order_at_items : (command : ℕ) (json : Json) (v : Vec Json Global) → json ≡ Array v → order_at command (view json) ≡ order_from command (map view v.items)
unfolding order_at
order_at_items command json v is = ap (order_at command) (view_items json v is) ∙ ap (order_from command) (listed_items v.items)

pub orders_of_items : (json : Json) (v : Vec Json Global) → json ≡ Array v → orders_of (view json) ≡ each_from order_at 0 (map view v.items)
unfolding orders_of
orders_of_items json v is = ap orders_of (view_items json v is) ∙ ap (each_from order_at 0) (listed_items v.items)

-- the item at a place, and those after it
at : (values : List Json) (i : ℕ) (v : Json) → i < length values → v ≡ get_or values i v → drop i values ≡ v ∷ drop (i + 1) values
at values i v lt is = drop-cons values i v lt ∙ ap (λ (x : Json). x ∷ drop (suc i) values) (sym is) ∙ ap (λ (k : ℕ). v ∷ drop k values) (sym (add-one i))

-- what the items before a place gave, and what is left
pub record IsReadTo {A : Type 0} (form : ℕ → Data → Result A CodecFault) (values : List Json) (i : ℕ) (done : List A) : Type 0 where
  pub rest : each_from form 0 (map view values) ≡ (each_from form i (map view (drop i values)) >>= λ more. Ok (done ++ more))

nothing_done : {A : Type 0} (r : Result (List A) CodecFault) → r ≡ (r >>= λ more. Ok ([] ++ more))
nothing_done (Ok xs) = refl
nothing_done (Err e) = refl

pub IsReadTo-none : {A : Type 0} (form : ℕ → Data → Result A CodecFault) (values : List Json) → IsReadTo form values 0 []
IsReadTo-none form values = record { rest = nothing_done (each_from form 0 (map view values)) }

one_more : {A : Type 0} (done : List A) (x : A) (r : Result (List A) CodecFault)
    → ((r >>= λ xs. Ok (x ∷ xs)) >>= λ more. Ok (done ++ more)) ≡ (r >>= λ more. Ok ((done ++ x ∷ []) ++ more))
one_more done x (Ok xs) = ap Ok (sym (append_assoc done (x ∷ []) xs))
one_more done x (Err e) = refl

-- the form of the items from a place on, by the first of them
next : {A : Type 0} (form : ℕ → Data → Result A CodecFault) (values : List Json) (i : ℕ) (v : Json) (r : Result A CodecFault)
    → i < length values → v ≡ get_or values i v → form i (view v) ≡ r
    → each_from form i (map view (drop i values)) ≡ (r >>= λ x. each_from form (i + 1) (map view (drop (i + 1) values)) >>= λ xs. Ok (x ∷ xs))
next form values i v r lt is given =
    ap (λ (vs : List Json). each_from form i (map view vs)) (at values i v lt is)
    ∙ ap (λ (s : Result _ CodecFault). s >>= λ x. each_from form (i + 1) (map view (drop (i + 1) values)) >>= λ xs. Ok (x ∷ xs)) given

pub IsReadTo-more : {A : Type 0} (form : ℕ → Data → Result A CodecFault) (values : List Json) (i : ℕ) (done : List A) (v : Json) (x : A)
    → i < length values → v ≡ get_or values i v → form i (view v) ≡ Ok x → IsReadTo form values i done → IsReadTo form values (i + 1) (done ++ x ∷ [])
IsReadTo-more form values i done v x lt is given read = record {
  rest = read.rest
      ∙ ap (λ (s : Result (List _) CodecFault). s >>= λ more. Ok (done ++ more)) (next form values i v (Ok x) lt is given)
      ∙ one_more done x (each_from form (i + 1) (map view (drop (i + 1) values)));
}

pub IsReadTo-stop : {A : Type 0} (form : ℕ → Data → Result A CodecFault) (values : List Json) (i : ℕ) (done : List A) (v : Json) (e : CodecFault)
    → i < length values → v ≡ get_or values i v → form i (view v) ≡ Err e → IsReadTo form values i done → each_from form 0 (map view values) ≡ Err e
IsReadTo-stop form values i done v e lt is given read =
    read.rest ∙ ap (λ (s : Result (List _) CodecFault). s >>= λ more. Ok (done ++ more)) (next form values i v (Err e) lt is given)

pub IsReadTo-all : {A : Type 0} (form : ℕ → Data → Result A CodecFault) (values : List Json) (i : ℕ) (done : List A)
    → drop i values ≡ [] → IsReadTo form values i done → each_from form 0 (map view values) ≡ Ok done
IsReadTo-all form values i done end read =
    read.rest ∙ ap (λ (vs : List Json). each_from form i (map view vs) >>= λ more. Ok (done ++ more)) end ∙ ap Ok (append-nil done)

-- ---- elements that are passed over

-- the elements of a clear before a place are passed over
pub record IsPassedTo (command : ℕ) (elements : List Json) (i : ℕ) : Type 0 where
  pub rest : clear_from command (map view elements) ≡ (each_from (ignored command) i (map view (drop i elements)) >>= λ _. Ok clear)

drop-map : (elements : List Json) → drop 1 (map view elements) ≡ map view (drop 1 elements)
drop-map [] = refl
drop-map (v ∷ elements) = refl

pub IsPassedTo-none : (command : ℕ) (elements : List Json) → IsPassedTo command elements 1
unfolding clear_from
IsPassedTo-none command elements = record { rest = ap (λ (ds : List Data). each_from (ignored command) 1 ds >>= λ _. Ok clear) (drop-map elements) }

passed_more : {A : Type 0} (x : A) (r : Result (List A) CodecFault) → ((r >>= λ xs. Ok (x ∷ xs)) >>= λ _. Ok clear) ≡ (r >>= λ _. Ok clear)
passed_more x (Ok xs) = refl
passed_more x (Err e) = refl

pub IsPassedTo-more : (command : ℕ) (elements : List Json) (i : ℕ) (v : Json)
    → i < length elements → v ≡ get_or elements i v → ignored command i (view v) ≡ Ok tt → IsPassedTo command elements i → IsPassedTo command elements (i + 1)
IsPassedTo-more command elements i v lt is given passed = record {
  rest = passed.rest
      ∙ ap (λ (s : Result (List ⊤) CodecFault). s >>= λ _. Ok clear) (next (ignored command) elements i v (Ok tt) lt is given)
      ∙ passed_more tt (each_from (ignored command) (i + 1) (map view (drop (i + 1) elements)));
}

pub IsPassedTo-stop : (command : ℕ) (elements : List Json) (i : ℕ) (v : Json) (e : CodecFault)
    → i < length elements → v ≡ get_or elements i v → ignored command i (view v) ≡ Err e → IsPassedTo command elements i → clear_from command (map view elements) ≡ Err e
IsPassedTo-stop command elements i v e lt is given passed =
    passed.rest ∙ ap (λ (s : Result (List ⊤) CodecFault). s >>= λ _. Ok clear) (next (ignored command) elements i v (Err e) lt is given)

pub IsPassedTo-all : (command : ℕ) (elements : List Json) (i : ℕ) → drop i elements ≡ [] → IsPassedTo command elements i → clear_from command (map view elements) ≡ Ok clear
IsPassedTo-all command elements i end passed = passed.rest ∙ ap (λ (vs : List Json). each_from (ignored command) i (map view vs) >>= λ _. Ok clear) end
