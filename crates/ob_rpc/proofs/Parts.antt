-- A part that is wrong is told as the first fault, and parts that are right make an envelope.
use Rattle.std.proofs.Common.{◌≡◌, suc, List, [], ◌∷◌, ℕ, false, true≢false, Option, None, Some, Result, Ok, Err, length, codes, map, option_and_then, refl, sym, ap, ◌∙◌, rules}
use Rattle.std.proofs.lemmas.Slice.Eq.{bytes_eq-Decides}
use Rattle.std.specs.Str.{bytes_eq}
use Rattle.ob_base.specs.declared.place.PathStep.TheVariants.{Key}
use Rattle.serde_json.specs.Data.{Data, null, Items, Members}
use Rattle.serde_json.specs.Events.{items_len}
use Rattle.serde_json.specs.Find.{get_member, as_array, as_object}
use Rattle.serde_json.specs.View.{view, items_view}
use Rattle.serde_json.specs.declared.value.Value.{Value, Null, the_lemmas}
use Rattle.ob_rpc.specs.declared.methods.Served.{Served}
use Rattle.ob_rpc.specs.Envelope.{Envelope, Fault, Arity, given_id, version_of, text_for, is_service, method_of, wrong_element, element_place, asked_in, envelope_in}

-- two keys that compare as different are different
pub keys_differ : (one other : List ℕ) → bytes_eq one other ≡ false → one ≡ other → ⊥
keys_differ one other apart same = absurd (true≢false (sym ((bytes_eq-Decides one other).1 same) ∙ apart))

-- the fault at a path of keys
abbrev pub told : List (List ℕ) → Data → Result Envelope Fault
told keys id = Err (record { place = map Key keys; id = id })

-- a list's values are as many items
pub items_len-view : (vs : List Value) → items_len (items_view vs) ≡ length vs
items_len-view [] = refl
items_len-view (v ∷ vs) = ap suc (items_len-view vs)

pub view-Null : view Null ≡ null
view-Null = search (rules, the_lemmas)

-- ---- the members of the params

abbrev pub service_of : Served → Members → Option (List ℕ)
service_of served params = text_for (is_service served) (get_member (codes "service") params)

abbrev pub method_at : Served → List ℕ → Members → Option (List ℕ × Arity)
method_at served service params = method_of served service (get_member (codes "method") params)

abbrev pub args_of : Members → Option Items
args_of params = option_and_then as_array (get_member (codes "args") params)

pub no_service : (served : Served) (id : Data) (params : Members) → service_of served params ≡ None
    → asked_in served id params ≡ told (codes "params" ∷ codes "service" ∷ []) id
unfolding asked_in
no_service served id params none = rw none refl

pub no_method : (served : Served) (id : Data) (params : Members) {service : List ℕ} → service_of served params ≡ Some service → method_at served service params ≡ None
    → asked_in served id params ≡ told (codes "params" ∷ codes "method" ∷ []) id
unfolding asked_in
no_method served id params at_service none = rw (at_service, none) refl

pub no_args : (served : Served) (id : Data) (params : Members) {service : List ℕ} {method : List ℕ × Arity} → service_of served params ≡ Some service → method_at served service params ≡ Some method → args_of params ≡ None
    → asked_in served id params ≡ told (codes "params" ∷ codes "args" ∷ []) id
unfolding asked_in
no_args served id params at_service at_method none = rw (at_service, at_method, none) refl

pub wrong_count : (served : Served) (id : Data) (params : Members) {service : List ℕ} {method : List ℕ × Arity} {items : Items} {number : ℕ}
    → service_of served params ≡ Some service → method_at served service params ≡ Some method → args_of params ≡ Some items
    → wrong_element method.1 (items_len items) ≡ Some number
    → asked_in served id params ≡ Err (record { place = element_place number; id = id })
unfolding asked_in
wrong_count served id params at_service at_method at_args wrong = rw (at_service, at_method, at_args, wrong) refl

pub all_asked : (served : Served) (id : Data) (params : Members) {service : List ℕ} {method : List ℕ × Arity} {items : Items}
    → service_of served params ≡ Some service → method_at served service params ≡ Some method → args_of params ≡ Some items
    → wrong_element method.1 (items_len items) ≡ None
    → asked_in served id params ≡ Ok (record { id = id; service = service; method = method.0; args = items })
unfolding asked_in
all_asked served id params at_service at_method at_args none = rw (at_service, at_method, at_args, none) refl

-- ---- the members of the body

abbrev pub id_at : Members → Option Data
id_at body = given_id (get_member (codes "id") body)

abbrev pub version_at : Members → Option Data
version_at body = version_of (get_member (codes "jsonrpc") body)

abbrev pub call_at : Members → Option (List ℕ)
call_at body = text_for (bytes_eq (codes "call")) (get_member (codes "method") body)

abbrev pub params_at : Members → Option Members
params_at body = option_and_then as_object (get_member (codes "params") body)

pub no_id : (served : Served) (body : Members) → id_at body ≡ None → envelope_in served body ≡ told (codes "id" ∷ []) null
unfolding envelope_in
no_id served body none = rw none refl

pub no_version : (served : Served) (body : Members) {id : Data} → id_at body ≡ Some id → version_at body ≡ None → envelope_in served body ≡ told (codes "jsonrpc" ∷ []) id
unfolding envelope_in
no_version served body at_id none = rw (at_id, none) refl

pub no_call : (served : Served) (body : Members) {id version : Data} → id_at body ≡ Some id → version_at body ≡ Some version → call_at body ≡ None → envelope_in served body ≡ told (codes "method" ∷ []) id
unfolding envelope_in
no_call served body at_id at_version none = rw (at_id, at_version, none) refl

pub no_params : (served : Served) (body : Members) {id version : Data} {call : List ℕ} → id_at body ≡ Some id → version_at body ≡ Some version → call_at body ≡ Some call
    → params_at body ≡ None → envelope_in served body ≡ told (codes "params" ∷ []) id
unfolding envelope_in
no_params served body at_id at_version at_call none = rw (at_id, at_version, at_call, none) refl

pub all_but_asked : (served : Served) (body : Members) {id version : Data} {call : List ℕ} {params : Members} → id_at body ≡ Some id → version_at body ≡ Some version → call_at body ≡ Some call
    → params_at body ≡ Some params → envelope_in served body ≡ asked_in served id params
unfolding envelope_in
all_but_asked served body at_id at_version at_call at_params = rw (at_id, at_version, at_call, at_params) refl
