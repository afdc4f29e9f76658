-- The reading of commands from JSON, and where its first fault is told: of the elements
-- from the left, then an element that is missing. Which JSON is a command stands in
-- CommandForms.
use Rattle.std.specs.Prelude.{ℕ, ◌==◌, ◌&&◌, nat_le, nat_lt, List, [], ◌∷◌, length, drop, slice_get, if◌then◌else◌, Bool, true, false, Result, Ok, Err, ⊤}
use Rattle.std.specs.Option.{option_map_or}
use Rattle.ob_base.specs.Chain.{◌>>=◌}
use Rattle.ob_base.specs.Limits.{max_id}
use Rattle.ob_base.specs.declared.id.RecId.{RecId}
use Rattle.ob_codec.specs.declared.fault.CodecFault.{CodecFault}
use Rattle.ob_codec.specs.declared.fault.CodecFault.TheVariants as fault
use Rattle.ob_codec.specs.Input.{Order, create, update, delete, unlink, link, clear, set}
use Rattle.ob_codec.specs.Steps.{each_from, place_of}
use Rattle.serde_json.specs.Data.{Data, number, array, object, Items, no_items, item, Num, unsigned, negative, float}

-- the items of a JSON list
abbrev pub listed : Items → List Data
listed no_items = []
listed (item d items) = d ∷ listed items

-- an id of 1 to 4,294,967,295, at the place of these numbers
unfoldable pub id_of_number : List ℕ → Num → Result RecId CodecFault
id_of_number at (unsigned n) = if nat_le 1 n && nat_le n max_id then Ok (record { 0 = n }) else Err (fault.Range (place_of at))
id_of_number at (negative _) = Err (fault.Range (place_of at))
id_of_number at (float _) = Err (fault.Shape (place_of at))

-- an id at the place of these numbers
unfoldable pub id_of_json : List ℕ → Data → Result RecId CodecFault
id_of_json at (number n) = id_of_number at n
id_of_json at _ = Err (fault.Shape (place_of at))

-- no list and no object
abbrev pub is_scalar : Data → Bool
is_scalar (array _) = false
is_scalar (object _) = false
is_scalar _ = true

abbrev pub is_object : Data → Bool
is_object (object _) = true
is_object _ = false

-- the wrong kind of JSON at an element of a command
abbrev pub misshapen : {A : Type 0} → ℕ → ℕ → Result A CodecFault
misshapen command k = Err (fault.Shape (place_of (command ∷ k ∷ [])))

-- an element of a command; one that is missing is told at its number
unfoldable pub element : ℕ → ℕ → List Data → Result Data CodecFault
element command k elements = option_map_or Ok (slice_get elements k) (misshapen command k)

-- an element that is passed over may be any scalar
unfoldable pub ignored : ℕ → ℕ → Data → Result ⊤ CodecFault
ignored command k d = if is_scalar d then Ok tt else misshapen command k

-- an element that is passed over
unfoldable pub passed_in : ℕ → ℕ → List Data → Result ⊤ CodecFault
passed_in command k elements = element command k elements >>= ignored command k

-- an element that is passed over, where there is one
unfoldable pub passed_if_any : ℕ → ℕ → List Data → Result ⊤ CodecFault
passed_if_any command k elements = option_map_or (ignored command k) (slice_get elements k) (Ok tt)

-- an element that is an object of values
unfoldable pub values_in : ℕ → ℕ → List Data → Result Data CodecFault
values_in command k elements = element command k elements >>= λ d. if is_object d then Ok d else misshapen command k

-- an element that is an id
unfoldable pub id_in : ℕ → ℕ → List Data → Result RecId CodecFault
id_in command k elements = element command k elements >>= id_of_json (command ∷ k ∷ [])

-- the ids of a list
unfoldable pub ids_of : ℕ → ℕ → Data → Result (List RecId) CodecFault
ids_of command k (array items) = each_from (λ n. id_of_json (command ∷ k ∷ n ∷ [])) 0 (listed items)
ids_of command k _ = misshapen command k

-- an element that is a list of ids
unfoldable pub ids_in : ℕ → ℕ → List Data → Result (List RecId) CodecFault
ids_in command k elements = element command k elements >>= ids_of command k

-- nothing stands at this number or after it
unfoldable pub ended : ℕ → ℕ → List Data → Result ⊤ CodecFault
ended command k elements = if nat_lt k (length elements) then misshapen command k else Ok tt

-- [0, _, values]
unfoldable pub create_from : ℕ → List Data → Result Order CodecFault
create_from command elements = do
  _ ← passed_in command 1 elements
  values ← values_in command 2 elements
  _ ← ended command 3 elements
  Ok (create values)

-- [1, id, values]
unfoldable pub update_from : ℕ → List Data → Result Order CodecFault
update_from command elements = do
  id ← id_in command 1 elements
  values ← values_in command 2 elements
  _ ← ended command 3 elements
  Ok (update id values)

-- [code, id] or [code, id, _]
unfoldable pub named_row : ℕ → List Data → Result RecId CodecFault
named_row command elements = do
  id ← id_in command 1 elements
  _ ← passed_if_any command 2 elements
  _ ← ended command 3 elements
  Ok id

-- [5], with any further elements that are passed over
unfoldable pub clear_from : ℕ → List Data → Result Order CodecFault
clear_from command elements = each_from (ignored command) 1 (drop 1 elements) >>= λ _. Ok clear

-- [6, _, ids]
unfoldable pub set_from : ℕ → List Data → Result Order CodecFault
set_from command elements = do
  _ ← passed_in command 1 elements
  ids ← ids_in command 2 elements
  _ ← ended command 3 elements
  Ok (set ids)

-- a code that is a number
unfoldable pub code_of_number : ℕ → Num → Result ℕ CodecFault
code_of_number command (unsigned code) = Ok code
code_of_number command (negative _) = Err (fault.Range (place_of (command ∷ 0 ∷ [])))
code_of_number command (float _) = misshapen command 0

-- the code of a command
unfoldable pub code_of : ℕ → Data → Result ℕ CodecFault
code_of command (number n) = code_of_number command n
code_of command _ = misshapen command 0

-- a command by its code
unfoldable pub order_by : ℕ → ℕ → List Data → Result Order CodecFault
order_by command code elements =
    if code == 0 then create_from command elements
    else (if code == 1 then update_from command elements
    else (if code == 2 then (named_row command elements >>= λ id. Ok (delete id))
    else (if code == 3 then (named_row command elements >>= λ id. Ok (unlink id))
    else (if code == 4 then (named_row command elements >>= λ id. Ok (link id))
    else (if code == 5 then clear_from command elements
    else (if code == 6 then set_from command elements
    else Err (fault.Range (place_of (command ∷ 0 ∷ [])))))))))

-- a command by its elements
unfoldable pub order_from : ℕ → List Data → Result Order CodecFault
order_from command elements = do
  first ← element command 0 elements
  code ← code_of command first
  order_by command code elements

-- the command at this number of a list
unfoldable pub order_at : ℕ → Data → Result Order CodecFault
order_at command (array items) = order_from command (listed items)
order_at command _ = Err (fault.Shape (place_of (command ∷ [])))

-- the commands of a list's value
unfoldable pub orders_of : Data → Result (List Order) CodecFault
orders_of (array items) = each_from order_at 0 (listed items)
orders_of _ = Err (fault.Shape [])
