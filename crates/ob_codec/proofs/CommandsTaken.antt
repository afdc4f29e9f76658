-- What has a command's form is read as that command.
use Rattle.std.proofs.Common.{◌≡◌, ℕ, ◌+◌, ◌≤◌, List, [], ◌∷◌, length, map, Ok, refl, arith}
use Rattle.std.specs.Prelude.{⊤}
use Rattle.std.specs.List.{All, AllByRecursion}
use Rattle.std.proofs.lemmas.Bool.{and_from, le-leb}
use Rattle.std.proofs.lemmas.List.Elements.{recursion_from_All}
use Rattle.serde_json.specs.Data.{Data}
use Rattle.ob_base.specs.Ids.{IsId}
use Rattle.ob_base.specs.declared.id.RecId.{RecId}
use Rattle.ob_codec.specs.CommandForms.{AreOrdersJson, HasElements, IsOrderJson, IsOrderListJson, IsScalar, id_json, list_json, number_json}
use Rattle.ob_codec.specs.Commands.{clear_from, code_of, code_of_number, create_from, element, ended, id_in, id_of_json, id_of_number, ids_in, ids_of}
use Rattle.ob_codec.specs.Commands.{ignored, named_row, order_at, order_by, order_from, orders_of, passed_if_any, passed_in, set_from, update_from, values_in}
use Rattle.ob_codec.specs.Input.{Order, create, update, delete, unlink, link, clear, set}
use Rattle.ob_codec.specs.Steps.{each_from}
use Rattle.ob_codec.proofs.CommandForms.{listed-items_of}

-- ---- elements

id_taken : (at : List ℕ) (id : RecId) → IsId id → id_of_json at (id_json id) ≡ Ok id
unfolding id_of_json id_of_number
id_taken at id within = rw (and_from _ _ (le-leb 1 id.0 within.0) (le-leb id.0 4294967295 within.1)) refl

scalar_taken : (n k : ℕ) (d : Data) → IsScalar d → ignored n k d ≡ Ok tt
unfolding ignored
scalar_taken n k d scalar = rw scalar refl

ids_taken : (n k j : ℕ) (ids : List RecId) → AllByRecursion IsId ids → each_from (λ i. id_of_json (n ∷ k ∷ i ∷ [])) j (map id_json ids) ≡ Ok ids
ids_taken n k j [] within = refl
ids_taken n k j (id ∷ ids) within = rw (id_taken (n ∷ k ∷ j ∷ []) id within.0, ids_taken n k (j + 1) ids within.1) refl

list_taken : (n k : ℕ) (ids : List RecId) → All IsId ids → ids_of n k (list_json (map id_json ids)) ≡ Ok ids
unfolding ids_of
list_taken n k ids within = rw (listed-items_of (map id_json ids)) (ids_taken n k 0 ids (recursion_from_All IsId ids within))

scalars_taken : (n k : ℕ) (ds : List Data) → AllByRecursion IsScalar ds → (us : List ⊤) × (each_from (ignored n) k ds ≡ Ok us)
scalars_taken n k [] scalars = ([], refl)
scalars_taken n k (d ∷ ds) scalars =
    let more = scalars_taken n (k + 1) ds scalars.1 in
    (tt ∷ more.0, rw (scalar_taken n k d scalars.0, more.1) refl)

-- ---- commands

named_taken : (n code : ℕ) (id : RecId) (rest : List Data) → IsId id → AllByRecursion IsScalar rest → length rest ≤ 1 → named_row n (number_json code ∷ id_json id ∷ rest) ≡ Ok id
unfolding named_row id_in element passed_if_any ended
named_taken n code id [] within scalars few = rw (id_taken (n ∷ 1 ∷ []) id within) refl
named_taken n code id (d ∷ []) within scalars few = rw (id_taken (n ∷ 1 ∷ []) id within, scalar_taken n 2 d scalars.0) refl
named_taken n code id (d ∷ e ∷ ds) within scalars few = absurd (omega arith)

elements_taken : (n : ℕ) (order : Order) (es : List Data) → HasElements order es → order_from n es ≡ Ok order
unfolding order_from order_by element code_of code_of_number create_from update_from clear_from set_from passed_in values_in id_in ids_in ended
elements_taken n (create values) es h = rw (h.1, scalar_taken n 1 h.0 h.2, h.3) refl
elements_taken n (update id values) es h = rw (h.0, id_taken (n ∷ 1 ∷ []) id h.1, h.2) refl
elements_taken n (delete id) es h = rw (h.1, named_taken n 2 id h.0 h.2 (recursion_from_All IsScalar h.0 h.3) h.4) refl
elements_taken n (unlink id) es h = rw (h.1, named_taken n 3 id h.0 h.2 (recursion_from_All IsScalar h.0 h.3) h.4) refl
elements_taken n (link id) es h = rw (h.1, named_taken n 4 id h.0 h.2 (recursion_from_All IsScalar h.0 h.3) h.4) refl
elements_taken n clear es h =
    let us = scalars_taken n 1 h.0 (recursion_from_All IsScalar h.0 h.2) in
    rw (h.1, us.1) refl
elements_taken n (set ids) es h = rw (h.1, scalar_taken n 1 h.0 h.2, list_taken n 2 ids h.3) refl

order_taken : (n : ℕ) (order : Order) (d : Data) → IsOrderJson order d → order_at n d ≡ Ok order
unfolding order_at
order_taken n order d h = rw (h.1, listed-items_of h.0) (elements_taken n order h.0 h.2)

each_order_taken : (n : ℕ) (orders : List Order) (ds : List Data) → AreOrdersJson orders ds → each_from order_at n ds ≡ Ok orders
each_order_taken n [] [] h = refl
each_order_taken n [] (d ∷ ds) h = absurd h
each_order_taken n (order ∷ orders) [] h = absurd h
each_order_taken n (order ∷ orders) (d ∷ ds) h = rw (order_taken n order d h.0, each_order_taken (n + 1) orders ds h.1) refl

pub orders_taken : (orders : List Order) (d : Data) → IsOrderListJson orders d → orders_of d ≡ Ok orders
unfolding orders_of
orders_taken orders d h = rw (h.1, listed-items_of h.0) (each_order_taken 0 orders h.0 h.2)
