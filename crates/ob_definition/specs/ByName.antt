-- Private: what the program keeps beside a list to look up its items by name.
use Rattle.std.specs.Prelude.{◌≡◌, ◌≢◌, AllPairs, ℕ, List, map, Option, option_map, position}
use Rattle.std.specs.BTreeMap.{BTreeMap, get_by_text}
use Rattle.std.specs.BTreeSet.{BTreeSet, contains_text}
use Rattle.std.specs.Str.{bytes_eq}
use Rattle.std.specs.declared.alloc.Global.{Global}
use Rattle.std.specs.declared.string.String.{String}
use Rattle.ob_definition.specs.declared.by_name.CheckEntry.{CheckEntry}
use Rattle.ob_definition.specs.declared.by_name.FieldEntry.{FieldEntry}
use Rattle.ob_definition.specs.declared.gathering.GivenOrder.{GivenOrder}
use Rattle.ob_definition.specs.declared.gathering.UniqueSet.{UniqueSet}
use Rattle.ob_definition.specs.Gathered.{Declared, DeclaredCheck, DeclaredOrder, DeclaredSet, Gathered, check_at, field_at, is_check, is_declared, order_at, set_at}

abbrev pub declared_fields : List FieldEntry → List Declared
declared_fields entries = map (λ f. field_at f.entry f.def.now) entries

abbrev pub declared_checks : List CheckEntry → List DeclaredCheck
declared_checks entries = map (λ c. check_at c.entry c.check.now) entries

abbrev pub sets_of : List UniqueSet → List DeclaredSet
sets_of sets = map (λ u. set_at u.entry u.names.now) sets

abbrev pub given_order : Option GivenOrder → Option DeclaredOrder
given_order order = option_map (λ o. order_at o.entry o.text.now) order

-- the place of the model of a name
abbrev pub place_of : List Gathered → List ℕ → Option ℕ
place_of models name = position (λ m. bytes_eq m.name name) models

-- the place of each model by its name, and no other name
abbrev pub ArePlaces : BTreeMap (String Global) ℕ → List Gathered → Type 0
ArePlaces places models = (name : List ℕ) → get_by_text places name ≡ place_of models name

-- the names of the fields, and no other
abbrev pub AreFieldNames : BTreeSet (String Global) → List Declared → Type 0
AreFieldNames names fields = (name : List ℕ) → contains_text names name ≡ is_declared fields name

abbrev pub AreCheckNames : BTreeSet (String Global) → List DeclaredCheck → Type 0
AreCheckNames names checks = (name : List ℕ) → contains_text names name ≡ is_check checks name

-- no two checks share a name
abbrev pub AreApart : List DeclaredCheck → Type 0
AreApart checks = AllPairs (λ a b. a.check.name ≢ b.check.name) checks
