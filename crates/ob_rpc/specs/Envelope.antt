-- What a request's body is, and what its envelope holds; or the first place that is wrong.
use Rattle.std.specs.Prelude.{ℕ, ◌≤◌, ◌||◌, nat_lt, List, [], ◌∷◌, codes, Bool, true, false, not, if◌then◌else◌, Option, Some, None, option_map, option_and_then, IsSomeAnd, IfSome, Result, Ok, Err}
use Rattle.std.specs.Option.{option_map_or}
use Rattle.std.specs.Str.{is_utf8, bytes_eq}
use Rattle.ob_base.specs.Chain.{◌>>=◌}
use Rattle.ob_base.specs.declared.place.PathStep.{PathStep}
use Rattle.ob_base.specs.declared.place.PathStep.TheVariants.{Key, Item}
use Rattle.serde_json.specs.Data.{Data, null, number, string, Items, Members}
use Rattle.serde_json.specs.Events.{items_len}
use Rattle.serde_json.specs.Read.{read}
use Rattle.serde_json.specs.Find.{get_member, as_str, as_array, as_object, is_float}
use Rattle.ob_rpc.specs.declared.methods.Served.{Served}
use Rattle.ob_rpc.specs.declared.methods.Served.TheVariants.{ExecuteKw, EveryMethod}

-- what a request asks for, and the id by which its reply is told
pub record Envelope : Type 0 where
  pub id : Data
  pub service : List ℕ
  pub method : List ℕ
  pub args : Items

-- the first place that is wrong, and the id by which that is told: null where none was read
pub record Fault : Type 0 where
  pub place : List PathStep
  pub id : Data

-- what is there, or a fault at the place
abbrev pub there : {A : Type 0} → List PathStep → Data → Option A → Result A Fault
there place id None = Err (record { place = place; id = id })
there place id (Some x) = Ok x

-- the JSON value of a body, none where it is no JSON text
abbrev pub json_of : List ℕ → Option Data
json_of body = if is_utf8 body then read body else None

-- an integer, a text or null
abbrev pub is_id : Data → Bool
is_id null = true
is_id (number n) = not (is_float n)
is_id (string s) = true
is_id _ = false

-- the id that a request gives; without one it is null
abbrev pub given_id : Option Data → Option Data
given_id None = Some null
given_id (Some d) = if is_id d then Some d else None

-- whether a value is this text
abbrev pub is_text : List ℕ → Data → Bool
is_text text d = option_map_or (bytes_eq text) (as_str d) false

-- a text that a test takes, none where it is no text or another one
abbrev pub text_for : (List ℕ → Bool) → Option Data → Option (List ℕ)
text_for test None = None
text_for test (Some d) = option_and_then (λ text. if test text then Some text else None) (as_str d)

-- the version is 2.0, where one is told
abbrev pub version_of : Option Data → Option Data
version_of None = Some null
version_of (Some d) = if is_text (codes "2.0") d then Some d else None

-- how many elements the arguments of a method have: from, and to where there is a limit
pub record Arity : Type 0 where
  pub least : ℕ
  pub most : Option ℕ

-- this number of elements and no other
abbrev pub exactly : ℕ → Arity
exactly count = record { least = count; most = Some count }

-- the services: `object`, and `common` where every method is served
abbrev pub is_service : Served → List ℕ → Bool
is_service ExecuteKw service = bytes_eq (codes "object") service
is_service EveryMethod service = bytes_eq (codes "common") service || bytes_eq (codes "object") service

-- `login`, whose elements are a database, a login and a key; `authenticate`, which has one more
abbrev pub login_arity : List ℕ → Option Arity
login_arity method = if bytes_eq (codes "login") method then Some (exactly 3) else (if bytes_eq (codes "authenticate") method then Some (exactly 4) else None)

-- the methods of `common`: `version`, which has no element, and the two
abbrev pub common_arity : List ℕ → Option Arity
common_arity method = if bytes_eq (codes "version") method then Some (exactly 0) else login_arity method

-- `execute_kw`, whose last element may be absent
abbrev pub execute_kw_arity : List ℕ → Option Arity
execute_kw_arity method = if bytes_eq (codes "execute_kw") method then Some (record { least = 6; most = Some 7 }) else None

-- the methods of `object`: `execute_kw`, and `execute`, which has any number of elements after its first five
abbrev pub object_arity : List ℕ → Option Arity
object_arity method = if bytes_eq (codes "execute") method then Some (record { least = 5; most = None }) else execute_kw_arity method

-- how many elements a method of a service has, none where no such method is served
abbrev pub arity_of : Served → (service method : List ℕ) → Option Arity
arity_of ExecuteKw service method = if bytes_eq (codes "object") service then execute_kw_arity method else None
arity_of EveryMethod service method = if bytes_eq (codes "object") service then object_arity method else (if bytes_eq (codes "common") service then common_arity method else None)

-- the method that a service has, and its arity
abbrev pub method_of : Served → List ℕ → Option Data → Option (List ℕ × Arity)
method_of served service given = option_and_then (λ method. option_map (λ arity. (method, arity)) (arity_of served service method)) (text_for (λ _. true) given)

-- the number is within the arity
abbrev pub FitsArity : ℕ → Arity → Type 0
FitsArity count arity = (arity.least ≤ count) × IfSome arity.most (λ most. count ≤ most)

-- the method of the service is served, and may have so many elements
abbrev pub Takes : Served → (service method : List ℕ) → ℕ → Type 0
Takes served service method count = IsSomeAnd (arity_of served service method) (FitsArity count)

-- the place of an element of the arguments
abbrev pub element_place : ℕ → List PathStep
element_place n = Key (codes "params") ∷ Key (codes "args") ∷ Item n ∷ []

-- the number of the first element past the limit, where there is one
abbrev pub surplus : Option ℕ → ℕ → Option ℕ
surplus None count = None
surplus (Some most) count = if nat_lt most count then Some most else None

-- the number of the first element that is missing, or that is one too many
abbrev pub wrong_element : Arity → ℕ → Option ℕ
wrong_element arity count = if nat_lt count arity.least then Some count else surplus arity.most count

-- the elements, where there is no wrong one
abbrev pub without_wrong : Items → Data → Option ℕ → Result Items Fault
without_wrong elements id None = Ok elements
without_wrong elements id (Some n) = Err (record { place = element_place n; id = id })

-- the elements, of which there are enough and not too many
abbrev pub counted : Arity → Data → Items → Result Items Fault
counted arity id elements = without_wrong elements id (wrong_element arity (items_len elements))

-- the envelope of an id and the members of the params
unfoldable pub asked_in : Served → Data → Members → Result Envelope Fault
asked_in served id params = do
  service ← there (Key (codes "params") ∷ Key (codes "service") ∷ []) id (text_for (is_service served) (get_member (codes "service") params))
  method ← there (Key (codes "params") ∷ Key (codes "method") ∷ []) id (method_of served service (get_member (codes "method") params))
  items ← there (Key (codes "params") ∷ Key (codes "args") ∷ []) id (option_and_then as_array (get_member (codes "args") params))
  elements ← counted method.1 id items
  Ok (record { id = id; service = service; method = method.0; args = elements })

-- the envelope in the members of a body
unfoldable pub envelope_in : Served → Members → Result Envelope Fault
envelope_in served body = do
  id ← there (Key (codes "id") ∷ []) null (given_id (get_member (codes "id") body))
  _ ← there (Key (codes "jsonrpc") ∷ []) id (version_of (get_member (codes "jsonrpc") body))
  _ ← there (Key (codes "method") ∷ []) id (text_for (bytes_eq (codes "call")) (get_member (codes "method") body))
  params ← there (Key (codes "params") ∷ []) id (option_and_then as_object (get_member (codes "params") body))
  asked_in served id params

-- the envelope of a body, which is a JSON object
abbrev pub envelope_of : Served → List ℕ → Result Envelope Fault
envelope_of served body = there [] null (option_and_then as_object (json_of body)) >>= envelope_in served
