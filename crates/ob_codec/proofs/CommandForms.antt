-- What is read as a command has a command's form.
use Rattle.std.proofs.Common.{◌≡◌, ℕ, ◌+◌, ◌≤◌, ◌⊎◌, ◌&&◌, Bool, true, false, cond, ltb, leb, eqb, List, [], ◌∷◌, length, drop, map, Option, Some, None, Result, Ok, Err, refl, sym, ap, subst, ◌∙◌, arith, inl, inr}
use Rattle.std.specs.Prelude.{slice_get, ⊤}
use Rattle.std.specs.List.{All, AllByRecursion}
use Rattle.std.specs.Option.{option_map_or}
use Rattle.std.proofs.lemmas.Bool.{and_parts, eqb-true, leb-true, ltb-false}
use Rattle.std.proofs.lemmas.List.Elements.{All-from_recursion}
use Rattle.serde_json.specs.Data.{Data, number, array, Items, no_items, item, Num, unsigned, negative, float}
use Rattle.serde_json.specs.View.{items_of}
use Rattle.ob_base.specs.Ids.{IsId}
use Rattle.ob_base.specs.declared.id.RecId.{RecId}
use Rattle.ob_base.specs.Chain.{◌>>=◌}
use Rattle.ob_codec.specs.CommandForms.{AreOrdersJson, HasElements, IsObject, IsOrderJson, IsOrderListJson, IsScalar, NamesRow, id_json, list_json, number_json}
use Rattle.ob_codec.specs.Commands.{clear_from, code_of, code_of_number, create_from, element, ended, id_in, id_of_json, id_of_number, ids_in, ids_of, ignored}
use Rattle.ob_codec.specs.Commands.{is_object, is_scalar, listed, named_row, order_at, order_by, order_from, orders_of, passed_if_any, passed_in, set_from, update_from, values_in}
use Rattle.ob_codec.specs.Input.{Order, create, update, delete, unlink, link, clear, set}
use Rattle.ob_codec.specs.Steps.{each_from}
use Rattle.ob_codec.specs.declared.fault.CodecFault.{CodecFault}
use Rattle.ob_codec.proofs.KeptParts.{chosen}

-- ---- steps

-- what a step gave, and what the next made of it
then_ok : {A B : Type 0} (r : Result A CodecFault) (f : A → Result B CodecFault) (y : B) → (r >>= f) ≡ Ok y → (x : A) × (r ≡ Ok x) × (f x ≡ Ok y)
then_ok (Ok x) f y e = (x, refl, e)
then_ok (Err why) f y e = absurd cc

-- a test that let its value through
passed_ok : {A : Type 0} (b : Bool) (x y : A) (why : CodecFault) → cond b (Ok x) (Err why) ≡ Ok y → (b ≡ true) × (x ≡ y)
passed_ok true x y why e = (refl, cc)
passed_ok false x y why e = absurd cc

-- a test that stopped nothing
unstopped : {A : Type 0} (b : Bool) (x y : A) (why : CodecFault) → cond b (Err why) (Ok x) ≡ Ok y → b ≡ false
unstopped true x y why e = absurd cc
unstopped false x y why e = refl

-- ---- lists

pub items_of-listed : (items : Items) → items_of (listed items) ≡ items
items_of-listed no_items = refl
items_of-listed (item d items) = ap (item d) (items_of-listed items)

pub listed-items_of : (ds : List Data) → listed (items_of ds) ≡ ds
listed-items_of [] = refl
listed-items_of (d ∷ ds) = ap (λ (xs : List Data). d ∷ xs) (listed-items_of ds)

-- a list by its items
array_is : (items : Items) → array items ≡ list_json (listed items)
array_is items = ap array (sym (items_of-listed items))

one : (es : List Data) (a : Data) → slice_get es 0 ≡ Some a → es ≡ a ∷ drop 1 es
one [] a e = absurd cc
one (x ∷ es) a e = (let same : x ≡ a = cc in ap (λ (d : Data). d ∷ es) same)

two : (es : List Data) (a b : Data) → slice_get es 0 ≡ Some a → slice_get es 1 ≡ Some b → es ≡ a ∷ b ∷ drop 2 es
two [] a b e f = absurd cc
two (x ∷ es) a b e f = (let same : x ≡ a = cc in ap (λ (d : Data). d ∷ es) same ∙ ap (λ (ds : List Data). a ∷ ds) (one es b f))

three : (es : List Data) (a b c : Data) → slice_get es 0 ≡ Some a → slice_get es 1 ≡ Some b → slice_get es 2 ≡ Some c → length es ≤ 3 → es ≡ a ∷ b ∷ c ∷ []
three [] a b c e f g short = absurd cc
three (x ∷ []) a b c e f g short = absurd cc
three (x ∷ y ∷ []) a b c e f g short = absurd cc
three (x ∷ y ∷ z ∷ []) a b c e f g short = cc
three (x ∷ y ∷ z ∷ w ∷ es) a b c e f g short = absurd (omega arith)

-- ---- elements

element_found : (o : Option Data) (d : Data) (why : CodecFault) → option_map_or Ok o (Err why) ≡ Ok d → o ≡ Some d
element_found (Some x) d why e = (let same : x ≡ d = cc in ap Some same)
element_found None d why e = absurd cc

element_ok : (n k : ℕ) (es : List Data) (d : Data) → element n k es ≡ Ok d → slice_get es k ≡ Some d
unfolding element
element_ok n k es d e = element_found (slice_get es k) d _ e

ignored_ok : (n k : ℕ) (d : Data) (u : ⊤) → ignored n k d ≡ Ok u → IsScalar d
unfolding ignored
ignored_ok n k d u e = (passed_ok (is_scalar d) tt u _ e).0

passed_in_ok : (n k : ℕ) (es : List Data) (u : ⊤) → passed_in n k es ≡ Ok u → (d : Data) × (slice_get es k ≡ Some d) × IsScalar d
unfolding passed_in
passed_in_ok n k es u e =
    let p = then_ok (element n k es) (ignored n k) u e in
    (p.0, element_ok n k es p.0 p.1, ignored_ok n k p.0 u p.2)

values_ok : (n k : ℕ) (es : List Data) (d : Data) → values_in n k es ≡ Ok d → (slice_get es k ≡ Some d) × IsObject d
unfolding values_in
values_ok n k es d e =
    let p = then_ok (element n k es) _ d e in
    let q = passed_ok (is_object p.0) p.0 d _ p.2 in
    (element_ok n k es p.0 p.1 ∙ ap Some q.1, subst IsObject q.1 q.0)

number_ok : (at : List ℕ) (n : Num) (id : RecId) → id_of_number at n ≡ Ok id → (number n ≡ id_json id) × IsId id
unfolding id_of_number
number_ok at (unsigned m) id e =
    let q = passed_ok (leb 1 m && leb m 4294967295) (record { 0 = m }) id _ e in
    let tests = and_parts (leb 1 m) (leb m 4294967295) q.0 in
    (ap id_json q.1, subst IsId q.1 (leb-true 1 m tests.0, leb-true m 4294967295 tests.1))
number_ok at (negative _) id e = absurd cc
number_ok at (float _) id e = absurd cc

id_ok : (at : List ℕ) (d : Data) (id : RecId) → id_of_json at d ≡ Ok id → (d ≡ id_json id) × IsId id
unfolding id_of_json
id_ok at (number n) id e = number_ok at n id e
id_ok at _ id e = absurd cc

id_in_ok : (n k : ℕ) (es : List Data) (id : RecId) → id_in n k es ≡ Ok id → (slice_get es k ≡ Some (id_json id)) × IsId id
unfolding id_in
id_in_ok n k es id e =
    let p = then_ok (element n k es) (id_of_json (n ∷ k ∷ [])) id e in
    let q = id_ok (n ∷ k ∷ []) p.0 id p.2 in
    (element_ok n k es p.0 p.1 ∙ ap Some q.0, q.1)

-- the items of a list, each by its form
each_ok : {A : Type 0} (form : ℕ → Data → Result A CodecFault) (P : A → Type 0) (json : A → Data) → ((n : ℕ) (d : Data) (x : A) → form n d ≡ Ok x → (d ≡ json x) × P x)
    → (n : ℕ) (ds : List Data) (xs : List A) → each_from form n ds ≡ Ok xs → (ds ≡ map json xs) × AllByRecursion P xs
each_ok {A = A} form P json own n [] xs e =
    let none : [] ≡ xs = cc in
    subst (λ (ys : List A). ([] ≡ map json ys) × AllByRecursion P ys) none (refl, tt)
each_ok {A = A} form P json own n (d ∷ ds) xs e =
    let p = then_ok (form n d) _ xs e in
    let q = then_ok (each_from form (n + 1) ds) _ xs p.2 in
    let here = own n d p.0 p.1 in
    let more = each_ok form P json own (n + 1) ds q.0 q.1 in
    let whole : p.0 ∷ q.0 ≡ xs = (let e : Ok (p.0 ∷ q.0) ≡ Ok xs = q.2 in cc) in
    subst (λ (ys : List A). (d ∷ ds ≡ map json ys) × AllByRecursion P ys) whole
    (ap (λ (x : Data). x ∷ ds) here.0 ∙ ap (λ (rest : List Data). json p.0 ∷ rest) more.0, (here.1, more.1))

ids_ok : (n k : ℕ) (d : Data) (ids : List RecId) → ids_of n k d ≡ Ok ids → (d ≡ list_json (map id_json ids)) × All IsId ids
unfolding ids_of
ids_ok n k (array items) ids e =
    let q = each_ok (λ j. id_of_json (n ∷ k ∷ j ∷ [])) IsId id_json (λ j. id_ok (n ∷ k ∷ j ∷ [])) 0 (listed items) ids e in
    (array_is items ∙ ap list_json q.0, All-from_recursion IsId ids q.1)
ids_ok n k _ ids e = absurd cc

ids_in_ok : (n k : ℕ) (es : List Data) (ids : List RecId) → ids_in n k es ≡ Ok ids → (slice_get es k ≡ Some (list_json (map id_json ids))) × All IsId ids
unfolding ids_in
ids_in_ok n k es ids e =
    let p = then_ok (element n k es) (ids_of n k) ids e in
    let q = ids_ok n k p.0 ids p.2 in
    (element_ok n k es p.0 p.1 ∙ ap Some q.0, q.1)

ended_ok : (n k : ℕ) (es : List Data) (u : ⊤) → ended n k es ≡ Ok u → length es ≤ k
unfolding ended
ended_ok n k es u e = ltb-false k (length es) (unstopped (ltb k (length es)) tt u _ e)

-- ---- commands

create_ok : (n : ℕ) (es : List Data) (order : Order) → slice_get es 0 ≡ Some (number_json 0) → create_from n es ≡ Ok order → HasElements order es
unfolding create_from
create_ok n es order first e =
    let p = then_ok (passed_in n 1 es) _ order e in
    let q = then_ok (values_in n 2 es) _ order p.2 in
    let r = then_ok (ended n 3 es) _ order q.2 in
    let over = passed_in_ok n 1 es p.0 p.1 in
    let values = values_ok n 2 es q.0 q.1 in
    let whole : create q.0 ≡ order = (let s : Ok (create q.0) ≡ Ok order = r.2 in cc) in
    subst (λ (o : Order). HasElements o es) whole (over.0, three es (number_json 0) over.0 q.0 first over.1 values.0 (ended_ok n 3 es r.0 r.1), over.2, values.1)

update_ok : (n : ℕ) (es : List Data) (order : Order) → slice_get es 0 ≡ Some (number_json 1) → update_from n es ≡ Ok order → HasElements order es
unfolding update_from
update_ok n es order first e =
    let p = then_ok (id_in n 1 es) _ order e in
    let q = then_ok (values_in n 2 es) _ order p.2 in
    let r = then_ok (ended n 3 es) _ order q.2 in
    let id = id_in_ok n 1 es p.0 p.1 in
    let values = values_ok n 2 es q.0 q.1 in
    let whole : update p.0 q.0 ≡ order = (let s : Ok (update p.0 q.0) ≡ Ok order = r.2 in cc) in
    subst (λ (o : Order). HasElements o es) whole (three es (number_json 1) (id_json p.0) q.0 first id.0 values.0 (ended_ok n 3 es r.0 r.1), id.1, values.1)

-- what stands after the id is passed over
rest_ok : (n : ℕ) (es : List Data) (u : ⊤) → passed_if_any n 2 es ≡ Ok u → length es ≤ 3 → AllByRecursion IsScalar (drop 2 es)
unfolding passed_if_any
rest_ok n [] u e short = tt
rest_ok n (x ∷ []) u e short = tt
rest_ok n (x ∷ y ∷ []) u e short = tt
rest_ok n (x ∷ y ∷ z ∷ []) u e short = (ignored_ok n 2 z u e, tt)
rest_ok n (x ∷ y ∷ z ∷ w ∷ es) u e short = absurd (omega arith)

few_after : (es : List Data) → length es ≤ 3 → length (drop 2 es) ≤ 1
few_after [] short = omega arith
few_after (x ∷ []) short = omega arith
few_after (x ∷ y ∷ es) short = omega arith

named_ok : (n code : ℕ) (es : List Data) (id : RecId) → slice_get es 0 ≡ Some (number_json code) → named_row n es ≡ Ok id → NamesRow code id es
unfolding named_row
named_ok n code es id first e =
    let p = then_ok (id_in n 1 es) _ id e in
    let q = then_ok (passed_if_any n 2 es) _ id p.2 in
    let r = then_ok (ended n 3 es) _ id q.2 in
    let named = id_in_ok n 1 es p.0 p.1 in
    let short = ended_ok n 3 es r.0 r.1 in
    let whole : p.0 ≡ id = (let s : Ok p.0 ≡ Ok id = r.2 in cc) in
    subst (λ (i : RecId). NamesRow code i es) whole
    (drop 2 es, two es (number_json code) (id_json p.0) first named.0, named.1, All-from_recursion IsScalar (drop 2 es) (rest_ok n es q.0 q.1 short), few_after es short)

each_scalar : (n k : ℕ) (ds : List Data) (us : List ⊤) → each_from (ignored n) k ds ≡ Ok us → AllByRecursion IsScalar ds
each_scalar n k [] us e = tt
each_scalar n k (d ∷ ds) us e =
    let p = then_ok (ignored n k d) _ us e in
    let q = then_ok (each_from (ignored n) (k + 1) ds) _ us p.2 in
    (ignored_ok n k d p.0 p.1, each_scalar n (k + 1) ds q.0 q.1)

clear_ok : (n : ℕ) (es : List Data) (order : Order) → slice_get es 0 ≡ Some (number_json 5) → clear_from n es ≡ Ok order → HasElements order es
unfolding clear_from
clear_ok n es order first e =
    let p = then_ok (each_from (ignored n) 1 (drop 1 es)) _ order e in
    let whole : clear ≡ order = (let s : Ok clear ≡ Ok order = p.2 in cc) in
    subst (λ (o : Order). HasElements o es) whole (drop 1 es, one es (number_json 5) first, All-from_recursion IsScalar (drop 1 es) (each_scalar n 1 (drop 1 es) p.0 p.1))

set_ok : (n : ℕ) (es : List Data) (order : Order) → slice_get es 0 ≡ Some (number_json 6) → set_from n es ≡ Ok order → HasElements order es
unfolding set_from
set_ok n es order first e =
    let p = then_ok (passed_in n 1 es) _ order e in
    let q = then_ok (ids_in n 2 es) _ order p.2 in
    let r = then_ok (ended n 3 es) _ order q.2 in
    let over = passed_in_ok n 1 es p.0 p.1 in
    let ids = ids_in_ok n 2 es q.0 q.1 in
    let whole : set q.0 ≡ order = (let s : Ok (set q.0) ≡ Ok order = r.2 in cc) in
    subst (λ (o : Order). HasElements o es) whole (over.0, three es (number_json 6) over.0 (list_json (map id_json q.0)) first over.1 ids.0 (ended_ok n 3 es r.0 r.1), over.2, ids.1)

-- a code that is a number
code_number_ok : (n code : ℕ) (c : Num) → code_of_number n c ≡ Ok code → number c ≡ number_json code
unfolding code_of_number
code_number_ok n code (unsigned c) e = (let same : c ≡ code = cc in ap number_json same)
code_number_ok n code (negative _) e = absurd cc
code_number_ok n code (float _) e = absurd cc

code_ok : (n code : ℕ) (d : Data) → code_of n d ≡ Ok code → d ≡ number_json code
unfolding code_of
code_ok n code (number c) e = code_number_ok n code c e
code_ok n code _ e = absurd cc

-- a test by which a code is known
is_code : {A : Type 0} (code k : ℕ) (x y z : A) → cond (eqb code k) x y ≡ z → ((code ≡ k) × (x ≡ z)) ⊎ (y ≡ z)
is_code code k x y z e =
    elim (chosen (eqb code k) x y z e) [
      | inl same ↦ inl (eqb-true code k same.0, same.1)
      | inr other ↦ inr other.1
    ]

-- a command that names a row
named_row_ok : (n code : ℕ) (es : List Data) (of : RecId → Order) (order : Order) → ((id : RecId) → NamesRow code id es → HasElements (of id) es)
    → slice_get es 0 ≡ Some (number_json code) → (named_row n es >>= λ id. Ok (of id)) ≡ Ok order → HasElements order es
named_row_ok n code es of order form first e =
    let p = then_ok (named_row n es) _ order e in
    let whole : of p.0 ≡ order = (let s : Ok (of p.0) ≡ Ok order = p.2 in cc) in
    subst (λ (o : Order). HasElements o es) whole (form p.0 (named_ok n code es p.0 first p.1))

-- the code that the first element is
first_is : (es : List Data) (code k : ℕ) → slice_get es 0 ≡ Some (number_json code) → code ≡ k → slice_get es 0 ≡ Some (number_json k)
first_is es code k first same = first ∙ ap (λ (c : ℕ). Some (number_json c)) same

by_code_ok : (n code : ℕ) (es : List Data) (order : Order) → slice_get es 0 ≡ Some (number_json code) → order_by n code es ≡ Ok order → HasElements order es
unfolding order_by
by_code_ok n code es order first e =
    elim (is_code code 0 _ _ (Ok order) e) [
      | inl at ↦ create_ok n es order (first_is es code 0 first at.0) at.1
      | inr e1 ↦ elim (is_code code 1 _ _ (Ok order) e1) [
        | inl at ↦ update_ok n es order (first_is es code 1 first at.0) at.1
        | inr e2 ↦ elim (is_code code 2 _ _ (Ok order) e2) [
          | inl at ↦ named_row_ok n 2 es delete order (λ id h. h) (first_is es code 2 first at.0) at.1
          | inr e3 ↦ elim (is_code code 3 _ _ (Ok order) e3) [
            | inl at ↦ named_row_ok n 3 es unlink order (λ id h. h) (first_is es code 3 first at.0) at.1
            | inr e4 ↦ elim (is_code code 4 _ _ (Ok order) e4) [
              | inl at ↦ named_row_ok n 4 es link order (λ id h. h) (first_is es code 4 first at.0) at.1
              | inr e5 ↦ elim (is_code code 5 _ _ (Ok order) e5) [
                | inl at ↦ clear_ok n es order (first_is es code 5 first at.0) at.1
                | inr e6 ↦ elim (is_code code 6 _ _ (Ok order) e6) [
                  | inl at ↦ set_ok n es order (first_is es code 6 first at.0) at.1
                  | inr none ↦ absurd cc
                ]
              ]
            ]
          ]
        ]
      ]
    ]

order_ok : (n : ℕ) (d : Data) (order : Order) → order_at n d ≡ Ok order → IsOrderJson order d
unfolding order_at order_from
order_ok n (array items) order e =
    let es = listed items in
    let p = then_ok (element n 0 es) _ order e in
    let q = then_ok (code_of n p.0) _ order p.2 in
    let first : slice_get es 0 ≡ Some (number_json q.0) = element_ok n 0 es p.0 p.1 ∙ ap Some (code_ok n q.0 p.0 q.1) in
    (es, array_is items, by_code_ok n q.0 es order first q.2)
order_ok n _ order e = absurd cc

each_order_ok : (n : ℕ) (ds : List Data) (orders : List Order) → each_from order_at n ds ≡ Ok orders → AreOrdersJson orders ds
each_order_ok n [] orders e =
    let none : [] ≡ orders = cc in
    subst (λ (os : List Order). AreOrdersJson os []) none tt
each_order_ok n (d ∷ ds) orders e =
    let p = then_ok (order_at n d) _ orders e in
    let q = then_ok (each_from order_at (n + 1) ds) _ orders p.2 in
    let whole : p.0 ∷ q.0 ≡ orders = (let s : Ok (p.0 ∷ q.0) ≡ Ok orders = q.2 in cc) in
    subst (λ (os : List Order). AreOrdersJson os (d ∷ ds)) whole (order_ok n d p.0 p.1, each_order_ok (n + 1) ds q.0 q.1)

pub orders_ok : (orders : List Order) (d : Data) → orders_of d ≡ Ok orders → IsOrderListJson orders d
unfolding orders_of
orders_ok orders (array items) e = (listed items, array_is items, each_order_ok 0 (listed items) orders e)
orders_ok orders _ e = absurd cc
