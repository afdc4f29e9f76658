-- Which JSON is a list of commands: each command is a list that begins with its code, as
-- the Odoo 17 ORM's `Command` has them.
use Rattle.std.specs.Prelude.{◌≡◌, ◌≤◌, ℕ, List, [], ◌∷◌, length, map, All, true, ⊤}
use Rattle.ob_base.specs.Ids.{IsId}
use Rattle.ob_base.specs.declared.id.RecId.{RecId}
use Rattle.ob_codec.specs.Commands.{is_object, is_scalar}
use Rattle.ob_codec.specs.Input.{Order, create, update, delete, unlink, link, clear, set}
use Rattle.serde_json.specs.Data.{Data, number, array, unsigned}
use Rattle.serde_json.specs.View.{items_of}

-- the JSON of a number, as of a code and of an id
abbrev pub number_json : ℕ → Data
number_json n = number (unsigned n)

abbrev pub id_json : RecId → Data
id_json id = number_json id.0

-- the JSON of a list
abbrev pub list_json : List Data → Data
list_json ds = array (items_of ds)

abbrev pub IsObject : Data → Type 0
IsObject d = is_object d ≡ true

-- an element that is passed over is no list and no object
abbrev pub IsScalar : Data → Type 0
IsScalar d = is_scalar d ≡ true

-- [code, id], or [code, id, _]
abbrev pub NamesRow : ℕ → RecId → List Data → Type 0
NamesRow code id elements = (rest : List Data) × (elements ≡ number_json code ∷ id_json id ∷ rest) × IsId id × All IsScalar rest × (length rest ≤ 1)

-- the elements of a command, by its form: [0, _, values], [1, id, values], [2, id], [3, id], [4, id], [5, ..], [6, _, ids]
abbrev pub HasElements : Order → List Data → Type 0
HasElements (create values) elements = (d : Data) × (elements ≡ number_json 0 ∷ d ∷ values ∷ []) × IsScalar d × IsObject values
HasElements (update id values) elements = (elements ≡ number_json 1 ∷ id_json id ∷ values ∷ []) × IsId id × IsObject values
HasElements (delete id) elements = NamesRow 2 id elements
HasElements (unlink id) elements = NamesRow 3 id elements
HasElements (link id) elements = NamesRow 4 id elements
HasElements clear elements = (rest : List Data) × (elements ≡ number_json 5 ∷ rest) × All IsScalar rest
HasElements (set ids) elements = (d : Data) × (elements ≡ number_json 6 ∷ d ∷ list_json (map id_json ids) ∷ []) × IsScalar d × All IsId ids

-- the JSON of a command
abbrev pub IsOrderJson : Order → Data → Type 0
IsOrderJson order d = (elements : List Data) × (d ≡ list_json elements) × HasElements order elements

-- the JSON of each of these commands, in their order
abbrev pub AreOrdersJson : List Order → List Data → Type 0
AreOrdersJson [] [] = ⊤
AreOrdersJson (order ∷ orders) (d ∷ ds) = IsOrderJson order d × AreOrdersJson orders ds
AreOrdersJson _ _ = ⊥

-- the JSON of a list of commands
abbrev pub IsOrderListJson : List Order → Data → Type 0
IsOrderListJson orders d = (ds : List Data) × (d ≡ list_json ds) × AreOrdersJson orders ds
