-- The id by which an answer is told has no float in it, whatever the body is.
use Rattle.std.proofs.Common.{◌≡◌, false, List, ℕ, Option, None, Some, Result, Ok, Err, codes, refl, subst, ap}
use Rattle.serde_json.specs.Data.{unsigned, negative, float, Data, null, boolean, number, string, array, object, Items, Members}
use Rattle.serde_json.specs.Events.{items_len}
use Rattle.serde_json.specs.Find.{get_member}
use Rattle.serde_json.specs.Written.{has_float}
use Rattle.ob_rpc.proofs.Parts.{service_of, method_at, args_of, no_service, no_method, no_args, wrong_count, all_asked, id_at, version_at, call_at, params_at, no_id, no_version, no_call, no_params, all_but_asked}
use Rattle.ob_rpc.specs.declared.methods.Served.{Served}
use Rattle.ob_rpc.specs.Envelope as spec
use Rattle.ob_rpc.specs.Envelope.{Fault, Arity, given_id, wrong_element, asked_in, envelope_in}
use Rattle.ob_rpc.specs.Seen.{EnvelopeIs, answer_id}
use Rattle.ob_rpc.specs.declared.request.Envelope.{Envelope}
use Rattle.ob_rpc.specs.declared.request.EnvFault.{EnvFault}
use Rattle.ob_rpc.specs.declared.request.EnvFault.TheVariants.{At, NoMemory}

-- the id of an envelope, or of a fault
abbrev pub told_id : Result spec.Envelope Fault → Data
told_id (Ok e) = e.id
told_id (Err f) = f.id

-- ---- what is told after the id was read is told by that id

by_count : (served : Served) (id : Data) (params : Members) {service : List ℕ} {method : List ℕ × Arity} {items : Items}
    → service_of served params ≡ Some service → method_at served service params ≡ Some method → args_of params ≡ Some items
    → (wrong : Option ℕ) → wrong_element method.1 (items_len items) ≡ wrong → told_id (asked_in served id params) ≡ id
by_count served id params at_service at_method at_args None e = ap told_id (all_asked served id params at_service at_method at_args e)
by_count served id params at_service at_method at_args (Some n) e = ap told_id (wrong_count served id params at_service at_method at_args e)

by_args : (served : Served) (id : Data) (params : Members) {service : List ℕ} {method : List ℕ × Arity} → service_of served params ≡ Some service → method_at served service params ≡ Some method
    → (args : Option Items) → args_of params ≡ args → told_id (asked_in served id params) ≡ id
by_args served id params at_service at_method None e = ap told_id (no_args served id params at_service at_method e)
by_args served id params at_service at_method (Some items) e = by_count served id params at_service at_method e _ refl

by_method : (served : Served) (id : Data) (params : Members) {service : List ℕ} → service_of served params ≡ Some service
    → (method : Option (List ℕ × Arity)) → method_at served service params ≡ method → told_id (asked_in served id params) ≡ id
by_method served id params at_service None e = ap told_id (no_method served id params at_service e)
by_method served id params at_service (Some method) e = by_args served id params at_service e (args_of params) refl

by_service : (served : Served) (id : Data) (params : Members) (service : Option (List ℕ)) → service_of served params ≡ service → told_id (asked_in served id params) ≡ id
by_service served id params None e = ap told_id (no_service served id params e)
by_service served id params (Some service) e = by_method served id params e (method_at served service params) refl

-- ---- the id that is read has no float

abbrev IsPlain : Option Data → Type 0
IsPlain None = Unit {0}
IsPlain (Some d) = has_float d ≡ false

given_plain : (given : Option Data) → IsPlain (given_id given)
given_plain None = refl
given_plain (Some null) = refl
given_plain (Some (boolean b)) = tt
given_plain (Some (number (unsigned n))) = refl
given_plain (Some (number (negative z))) = refl
given_plain (Some (number (float x))) = tt
given_plain (Some (string s)) = refl
given_plain (Some (array ds)) = tt
given_plain (Some (object ms)) = tt

-- ---- what is told of a body has no float in its id

by_params : (served : Served) (body : Members) {id version : Data} {call : List ℕ} → has_float id ≡ false → id_at body ≡ Some id → version_at body ≡ Some version → call_at body ≡ Some call
    → (params : Option Members) → params_at body ≡ params → has_float (told_id (envelope_in served body)) ≡ false
by_params served body plain at_id at_version at_call None e = rw (no_params served body at_id at_version at_call e) plain
by_params served body {id = id} plain at_id at_version at_call (Some params) e = rw (all_but_asked served body at_id at_version at_call e, by_service served id params _ refl) plain

by_call : (served : Served) (body : Members) {id version : Data} → has_float id ≡ false → id_at body ≡ Some id → version_at body ≡ Some version
    → (call : Option (List ℕ)) → call_at body ≡ call → has_float (told_id (envelope_in served body)) ≡ false
by_call served body plain at_id at_version None e = rw (no_call served body at_id at_version e) plain
by_call served body plain at_id at_version (Some call) e = by_params served body plain at_id at_version e (params_at body) refl

by_version : (served : Served) (body : Members) {id : Data} → has_float id ≡ false → id_at body ≡ Some id
    → (version : Option Data) → version_at body ≡ version → has_float (told_id (envelope_in served body)) ≡ false
by_version served body plain at_id None e = rw (no_version served body at_id e) plain
by_version served body plain at_id (Some version) e = by_call served body plain at_id e (call_at body) refl

by_id : (served : Served) (body : Members) (id : Option Data) → id_at body ≡ id → IsPlain id → has_float (told_id (envelope_in served body)) ≡ false
by_id served body None e plain = rw (no_id served body e) refl
by_id served body (Some id) e plain = by_version served body plain e (version_at body) refl

pub envelope_in-plain : (served : Served) (body : Members) → has_float (told_id (envelope_in served body)) ≡ false
envelope_in-plain served body = by_id served body (id_at body) refl (given_plain (get_member (codes "id") body))

-- an answer that gives what was sought is told by the same id
pub answer_plain : (answer : Result Envelope EnvFault) (sought : Result spec.Envelope Fault) → has_float (told_id sought) ≡ false → EnvelopeIs answer sought → has_float (answer_id answer) ≡ false
answer_plain (Ok e) sought plain gives = subst (λ (s : Result spec.Envelope Fault). has_float (told_id s) ≡ false) gives plain
answer_plain (Err (At place id)) sought plain gives = subst (λ (s : Result spec.Envelope Fault). has_float (told_id s) ≡ false) gives plain
answer_plain (Err NoMemory) sought plain gives = refl
