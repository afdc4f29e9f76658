-- What the entries declare, gathered model by model in their order: a new model, a copy of another, or what is added to one in place.
use Rattle.std.specs.Prelude.{◌≡◌, ◌≢◌, ◌||◌, ◌++◌, All, ℕ, suc, List, [], ◌∷◌, map, find, take, Bool, false, is_some, if◌then◌else◌, Option, Some, None, option_and_then, option_map}
use Rattle.std.specs.List.{AllPairs, list_any}
use Rattle.std.specs.Str.{bytes_eq}
use Rattle.ob_definition.specs.declared.definition.Check.{Check}
use Rattle.ob_definition.specs.declared.definition.FieldDef.{FieldDef}
use Rattle.ob_definition.specs.declared.definition.Inherits.{Inherits}
use Rattle.ob_definition.specs.declared.definition.ModelDef.{ModelDef}
use Rattle.ob_definition.specs.Definitions.{first_of, is_automatic, is_set}

-- a field as an entry declares or copies it
pub record Declared : Type 0 where
  pub entry : ℕ
  pub def : FieldDef

-- a check, likewise
pub record DeclaredCheck : Type 0 where
  pub entry : ℕ
  pub check : Check

-- the text of an order, likewise
pub record DeclaredOrder : Type 0 where
  pub entry : ℕ
  pub text : List ℕ

-- a set of fields that no two rows share, likewise
pub record DeclaredSet : Type 0 where
  pub entry : ℕ
  pub names : List (List ℕ)

abbrev pub field_at : ℕ → FieldDef → Declared
field_at n f = record { entry = n; def = f }

abbrev pub check_at : ℕ → Check → DeclaredCheck
check_at n c = record { entry = n; check = c }

abbrev pub order_at : ℕ → List ℕ → DeclaredOrder
order_at n text = record { entry = n; text = text }

abbrev pub set_at : ℕ → List (List ℕ) → DeclaredSet
set_at n names = record { entry = n; names = names }

-- a model as entries declare it; what has no entry of its own here is of the entry that makes the model
pub record Gathered : Type 0 where
  pub name : List ℕ
  pub entry : ℕ
  pub inherits : List Inherits
  pub parent : Option (List ℕ)
  pub locked : Option (List ℕ)
  pub managed : Bool
  pub order : Option DeclaredOrder
  pub unique : List DeclaredSet
  pub checks : List DeclaredCheck
  pub fields : List Declared

-- the model of a name
abbrev pub model_of : List Gathered → List ℕ → Option Gathered
model_of models name = find (λ m. bytes_eq m.name name) models

-- whether a field, or a check, of this name is declared
abbrev pub is_declared : List Declared → List ℕ → Bool
is_declared fields name = list_any (λ f. bytes_eq f.def.name name) fields

abbrev pub is_check : List DeclaredCheck → List ℕ → Bool
is_check checks name = list_any (λ c. bytes_eq c.check.name name) checks

-- a new model without keys
abbrev pub blank : ℕ → List ℕ → Gathered
blank n name = record {
  name = name;
  entry = n;
  inherits = [];
  parent = None;
  locked = None;
  managed = false;
  order = None;
  unique = [];
  checks = [];
  fields = [];
}

-- a new model with a copy of what another has so far: its fields, order, parent, unique sets, checks and `locked`
abbrev pub copied : ℕ → List ℕ → Gathered → Gathered
copied n name base = record {
  name = name;
  entry = n;
  inherits = [];
  parent = base.parent;
  locked = base.locked;
  managed = false;
  order = option_map (λ o. order_at n o.text) base.order;
  unique = map (λ u. set_at n u.names) base.unique;
  checks = map (λ c. check_at n c.check) base.checks;
  fields = map (λ f. field_at n f.def) base.fields;
}

-- the keys that only a new model may have
abbrev pub begun : ModelDef → Gathered → Gathered
begun def model = record model {
  inherits = def.inherits;
  managed = is_set def.managed;
  parent = first_of def.parent model.parent;
  locked = first_of def.locked model.locked;
}

-- a name that a further field may not have: an automatic field's, or one that is declared
abbrev pub is_taken : List Declared → List ℕ → Bool
is_taken fields name = is_automatic name || is_declared fields name

-- the fields with one more of an entry: of one name the first stays
abbrev pub with_field : ℕ → List Declared → FieldDef → List Declared
with_field n fields f = if is_taken fields f.name then fields else fields ++ field_at n f ∷ []

abbrev pub with_fields : ℕ → List Declared → List FieldDef → List Declared
with_fields n fields [] = fields
with_fields n fields (f ∷ more) = with_fields n (with_field n fields f) more

-- the checks with those of an entry, likewise
abbrev pub with_check : ℕ → List DeclaredCheck → Check → List DeclaredCheck
with_check n checks c = if is_check checks c.name then checks else checks ++ check_at n c ∷ []

abbrev pub with_checks : ℕ → List DeclaredCheck → List Check → List DeclaredCheck
with_checks n checks [] = checks
with_checks n checks (c ∷ more) = with_checks n (with_check n checks c) more

-- the model with what an entry adds: fields, checks and unique sets; its order replaces
abbrev pub added : ℕ → ModelDef → Gathered → Gathered
added n def model = record model {
  order = first_of (option_map (order_at n) def.order) model.order;
  unique = model.unique ++ map (set_at n) def.unique;
  checks = with_checks n model.checks def.checks;
  fields = with_fields n model.fields def.fields;
}

-- a new model, unless its name is taken
abbrev pub begun_new : List Gathered → ModelDef → Gathered → Option Gathered
begun_new models def model = if is_some (model_of models model.name) then None else Some (begun def model)

-- the model to which an entry with this name and this `inherit` adds: one in place, or a new one, blank or a copy; none where a name is unknown or taken
abbrev pub opened_by : List Gathered → ℕ → ModelDef → Option (List ℕ) → Option (List ℕ) → Option Gathered
opened_by models n def None None = None
opened_by models n def None (Some base) = model_of models base
opened_by models n def (Some name) None = begun_new models def (blank n name)
opened_by models n def (Some name) (Some base) = option_and_then (λ m. begun_new models def (copied n name m)) (model_of models base)

abbrev pub opened : List Gathered → ℕ → ModelDef → Option Gathered
opened models n def = opened_by models n def def.name def.inherit

-- the models with this one in the place of the one of its name, or behind all
abbrev pub put : Gathered → List Gathered → List Gathered
put model [] = model ∷ []
put model (m ∷ models) = if bytes_eq m.name model.name then model ∷ models else m ∷ put model models

-- the models with what an entry adds to one, if it opens one
abbrev pub with_opened : ℕ → ModelDef → Option Gathered → List Gathered → List Gathered
with_opened n def None models = models
with_opened n def (Some model) models = put (added n def model) models

-- the models after an entry
abbrev pub with_entry : ℕ → List Gathered → ModelDef → List Gathered
with_entry n models def = with_opened n def (opened models n def) models

-- the models after entries, the first of which has this number
abbrev pub gathered_from : ℕ → List Gathered → List ModelDef → List Gathered
gathered_from n models [] = models
gathered_from n models (def ∷ defs) = gathered_from (suc n) (with_entry n models def) defs

-- the models of definitions, in the order in which entries make them
abbrev pub gathered : List ModelDef → List Gathered
gathered defs = gathered_from 0 [] defs

-- the models before an entry
abbrev pub before : List ModelDef → ℕ → List Gathered
before defs n = gathered (take n defs)

-- no two fields of a model, and no two of its checks, share a name, and no field has an automatic one
pub record IsWellNamed (g : Gathered) : Type 0 where
  pub fields : AllPairs (λ a b. a.def.name ≢ b.def.name) g.fields
  pub free : All (λ f. is_automatic f.def.name ≡ false) g.fields
  pub checks : AllPairs (λ a b. a.check.name ≢ b.check.name) g.checks

-- nor do two models
pub record AreWellNamed (models : List Gathered) : Type 0 where
  pub distinct : AllPairs (λ a b. a.name ≢ b.name) models
  pub each : All IsWellNamed models
