-- What a body asks for.
use Rattle.std.specs.Prelude.{ℕ, zero, suc, ◌||◌, List, bytes_eq, codes, Bool, false, if◌then◌else◌, Option, Some, None, option_and_then, Result, Ok, Err}
use Rattle.ob_base.specs.Chain.{◌>>=◌}
use Rattle.ob_base.specs.declared.id.ModelNo.{ModelNo}
use Rattle.ob_base.specs.declared.id.RecId.{RecId}
use Rattle.ob_base.specs.declared.place.PathStep.{PathStep}
use Rattle.ob_rpc.specs.Envelope.{Envelope, Fault, element_place, is_text}
use Rattle.ob_schema.specs.Models.{model_named}
use Rattle.ob_schema.specs.declared.info.ModelInfo.{ModelInfo}
use Rattle.serde_json.specs.Data.{Data, array, boolean, number, object, string, no_members, put, unsigned, Items, no_items, item}
use Rattle.serde_json.specs.Events.{items_len}
use Rattle.serde_json.specs.Find.{as_number, as_str, as_u64}
use Rattle.ob_server.specs.Directory.{Directory}
use Rattle.ob_server.specs.Setup.{Setup}
use Rattle.ob_server.specs.declared.request.Layout.{Layout}
use Rattle.ob_server.specs.declared.request.Layout.TheVariants as layout
use Rattle.ob_server.specs.declared.request.Method.{Method}
use Rattle.ob_server.specs.declared.request.Method.TheVariants as method
use Rattle.ob_server.specs.declared.request.ReadMethod.TheVariants as reading
use Rattle.ob_server.specs.declared.request.WriteMethod.TheVariants as writing

-- a method of a model, with who calls it, and its arguments by position and by name; and how the body gives these
pub record Call : Type 0 where
  pub caller : RecId
  pub model : ModelNo
  pub method : Method
  pub args : Data
  pub kw : Data
  pub layout : Layout

-- what a body asks for, with the id by which it is answered: a call; what is told whatever the rows, or of a user whom a login names;
-- or nothing, since an element of this number is wrong, which shows by the user or behind him, or the body is malformed at a place, which shows before
pub data Request : Type 0 where
  called : Data → Call → Request
  told_of : Data → Data → Request
  identified : Data → Data → Request
  wrong : Data → (element : ℕ) → Request
  malformed : Data → List PathStep → Request

-- the id that a JSON value is: an integer from 0 on
abbrev pub whole_number : Data → Option ℕ
whole_number d = option_and_then as_u64 (as_number d)

-- the caller of an id and a key, if that key opens a call for him
abbrev pub caller_with : Directory → (id : ℕ) → (key : List ℕ) → Option RecId
caller_with directory id key = if directory.may_call (record { 0 = id }) key then Some (record { 0 = id }) else None

-- the caller that two JSON values name, an integer and a text
abbrev pub caller_of : Directory → (user key : Data) → Option RecId
caller_of directory user key = option_and_then (λ id. option_and_then (caller_with directory id) (as_str key)) (whole_number user)

-- the method of a name: each model can be read, searched and counted, has its fields told, and has rows made, changed and deleted
abbrev pub method_named : Data → Option Method
method_named d =
    if is_text (codes "read") d then Some (method.Reads reading.Read)
    else if is_text (codes "search") d then Some (method.Reads reading.Search)
    else if is_text (codes "search_count") d then Some (method.Reads reading.SearchCount)
    else if is_text (codes "search_read") d then Some (method.Reads reading.SearchRead)
    else if is_text (codes "read_group") d then Some (method.Reads reading.ReadGroup)
    else if is_text (codes "fields_get") d then Some (method.Reads reading.FieldsGet)
    else if is_text (codes "create") d then Some (method.Writes writing.Create)
    else if is_text (codes "write") d then Some (method.Writes writing.Write)
    else if is_text (codes "unlink") d then Some (method.Writes writing.Unlink)
    else None

-- the arguments by name, which may be absent
abbrev pub named_args : Items → Data
named_args (item d ds) = d
named_args no_items = object no_members

-- what is there, or the number of the element that is wrong
abbrev pub element : {A : Type 0} → ℕ → Option A → Result A ℕ
element n None = Err n
element n (Some x) = Ok x

-- the call of a caller's model and method, with the rest of the elements; the first that is wrong is told
abbrev pub call_in : List ModelInfo → Layout → (model method args : Data) → Items → RecId → Result Call ℕ
call_in models layout model method args rest caller =
    element 3 (option_and_then (model_named models) (as_str model)) >>= λ number. element 4 (method_named method)
    >>= λ named. Ok (record { caller = caller; model = number; method = named; args = args; kw = named_args rest; layout = layout })

-- The call that the elements of an envelope make, or the number of the first that is wrong;
-- where there are fewer than six, of the first that is missing.
abbrev pub call_of : Setup → Directory → Layout → Items → Result Call ℕ
call_of setup directory layout (item db (item user (item key (item model (item method (item args rest)))))) =
    if is_text setup.database db then (element 1 (caller_of directory user key) >>= call_in setup.models layout model method args rest) else Err 0
call_of setup directory layout few = Err (items_len few)

-- the elements of `execute` as those of `execute_kw`: what stands behind the first five is its list of arguments
abbrev pub listed : Items → Items
listed (item db (item user (item key (item model (item method rest))))) = item db (item user (item key (item model (item method (item (array rest) no_items)))))
listed few = few

-- what `version` tells
abbrev pub version_json : Data
version_json = object (put (codes "server_version") (string (codes "17.0")) (put (codes "server_serie") (string (codes "17.0")) (put (codes "protocol_version") (number (unsigned 1)) no_members)))

-- the id of a user, or false
abbrev pub user_json : Option RecId → Data
user_json None = boolean false
user_json (Some id) = number (unsigned id.0)

-- What `login` and `authenticate` tell of their elements, a database, a login, a key, and maybe one that is unread: the id of the
-- user with this login and key, else false. Or the number of the first that is wrong; where there are fewer than three, of the first that is missing.
abbrev pub login_of : (database : List ℕ) → Directory → Items → Result Data ℕ
login_of database directory (item db (item login (item key rest))) =
    if is_text database db then (element 1 (as_str login) >>= λ name. element 2 (as_str key) >>= λ word. Ok (user_json (directory.user_with name word))) else Err 0
login_of database directory few = Err (items_len few)

-- the request of an id, by the call that its elements make: the database is read before a user is looked up, all else behind that
abbrev pub request_by : Data → Result Call ℕ → Request
request_by id (Ok call) = called id call
request_by id (Err zero) = malformed id (element_place 0)
request_by id (Err (suc n)) = wrong id (suc n)

-- the request of an id, by what a login tells of its elements: all are read before a user is looked up
abbrev pub telling_by : Data → Result Data ℕ → Request
telling_by id (Ok json) = identified id json
telling_by id (Err n) = malformed id (element_place n)

-- `login` or `authenticate`
abbrev pub is_login : List ℕ → Bool
is_login method = bytes_eq method (codes "login") || bytes_eq method (codes "authenticate")

-- the request of an id, by the method of a service and its elements
abbrev pub request_with : Setup → Directory → Data → (method : List ℕ) → Items → Request
request_with setup directory id method elements =
    if bytes_eq method (codes "version") then told_of id version_json
    else if is_login method then telling_by id (login_of setup.database directory elements)
    else if bytes_eq method (codes "execute") then request_by id (call_of setup directory layout.Spread (listed elements))
    else request_by id (call_of setup directory layout.Listed elements)

-- the request of a body, by its envelope
abbrev pub request_of : Setup → Directory → Result Envelope Fault → Request
request_of setup directory (Ok envelope) = request_with setup directory envelope.id envelope.method envelope.args
request_of setup directory (Err fault) = malformed fault.id fault.place
