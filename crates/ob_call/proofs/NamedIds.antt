-- The ids that an argument names: those of its items, each within its limit.
use Rattle.std.proofs.Common.{◌≡◌, ◌≤◌, ℕ, Bool, true, false, cond, List, [], ◌∷◌, map, Option, Some, None, Vec, Global, refl, ap, ◌∙◌, arith}
use Rattle.std.specs.Prelude.{◌&&◌, All, IfSome, nat_le, option_and_then}
use Rattle.std.specs.List.{cons_option, filter_map}
use Rattle.std.proofs.lemmas.Bool.{and_parts}
use Rattle.std.proofs.lemmas.Bool.Decides.{nat_tests}
use Rattle.std.proofs.lemmas.List.Elements.{All-cons, All-nil}
use Rattle.ob_base.specs.Limits.{max_id}
use Rattle.serde_json.specs.Data.{Data, null, boolean, number, string, array, object}
use Rattle.serde_json.specs.Find.{as_number, as_u64}
use Rattle.serde_json.specs.View.{view}
use Rattle.serde_json.specs.declared.value.Value.{Value, Array}
use Rattle.ob_call.specs.Forms.{id_from}
use Rattle.ob_call.specs.Ids.{ids_in, named_ids}
use Rattle.ob_call.proofs.Items.{array_is, listed-items_view}
use Rattle.ob_call.proofs.OnceEach.{All-once}
use Rattle.ob_codec.specs.Commands.{listed}

-- the ids of a list are those of its items
pub ids_of_items : (json : Value) (v : Vec Value Global) → json ≡ Array v → ids_in (view json) ≡ filter_map id_from (map view v.items)
ids_of_items json v is = ap ids_in (array_is json v is) ∙ ap (filter_map id_from) (listed-items_view v.items)

-- an id is within its limit
abbrev pub IsLow : ℕ → Type 0
IsLow id = id ≤ max_id

-- a number that passes for an id is
low_number : (n : ℕ) (b : Bool) → (nat_le 1 n && nat_le n max_id) ≡ b → IfSome (cond b (Some n) None) IsLow
low_number n true e = let (low, high) = and_parts (nat_le 1 n) (nat_le n max_id) e in grind (arith, nat_tests)
low_number n false e = tt

-- so is each id of a value
low_of : (o : Option ℕ) → IfSome (option_and_then (λ n. cond (nat_le 1 n && nat_le n max_id) (Some n) None) o) IsLow
low_of None = tt
low_of (Some n) = low_number n (nat_le 1 n && nat_le n max_id) refl

low_id : (d : Data) → IfSome (id_from d) IsLow
low_id d = low_of (option_and_then as_u64 (as_number d))

-- one more, where there is one
low_more : (o : Option ℕ) (ids : List ℕ) → IfSome o IsLow → All IsLow ids → All IsLow (cons_option o ids)
low_more None ids low all = all
low_more (Some n) ids low all = All-cons IsLow n ids low all

-- and each of values
low_all : (ds : List Data) → All IsLow (filter_map id_from ds)
low_all [] = All-nil IsLow
low_all (d ∷ ds) = low_more (id_from d) (filter_map id_from ds) (low_id d) (low_all ds)

low_in : (d : Data) → All IsLow (ids_in d)
low_in null = All-nil IsLow
low_in (boolean b) = All-nil IsLow
low_in (number n) = low_all (number n ∷ [])
low_in (string text) = All-nil IsLow
low_in (array items) = low_all (listed items)
low_in (object _) = All-nil IsLow

-- so each id that an argument names is within its limit
pub named-low : (d : Data) → All IsLow (named_ids d)
named-low d = All-once IsLow (ids_in d) (low_in d)
