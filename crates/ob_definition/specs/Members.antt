-- The fields of models: those that each model has, declared ones, links to parents, the path in a tree, delegated ones, and the conditions that stand for checks and `locked`.
use Rattle.std.specs.Prelude.{◌≡◌, ◌&&◌, ◌++◌, ◌+◌, ℕ, suc, List, [], ◌∷◌, length, map, filter, find, count_by, position, slice_get, codes, Bool, true, false, not, is_none, is_some, if◌then◌else◌}
use Rattle.std.specs.Prelude.{Option, Some, None, option_map, zero}
use Rattle.std.specs.Cmp.Lexicographic.{slice_cmp}
use Rattle.std.specs.List.{AllPairs}
use Rattle.std.specs.Option.{option_map_or}
use Rattle.std.specs.Ordering.{nat_cmp, is_lt}
use Rattle.std.specs.Str.{bytes_eq}
use Rattle.std.specs.declared.cmp.Ordering.TheVariants.{Less}
use Rattle.ob_base.specs.declared.id.FieldNo.{FieldNo}
use Rattle.ob_base.specs.declared.id.ModelNo.{ModelNo}
use Rattle.ob_definition.specs.declared.definition.FieldDef.{FieldDef}
use Rattle.ob_definition.specs.declared.definition.Inherits.{Inherits}
use Rattle.ob_definition.specs.declared.field_type.FieldType.TheVariants as type
use Rattle.ob_definition.specs.declared.field_type.OnDelete.TheVariants as ondelete
use Rattle.ob_definition.specs.Definitions.{is_automatic, is_computed, is_one_of, plain_field}
use Rattle.ob_definition.specs.Gathered.{DeclaredCheck, Gathered, is_declared, model_of}

-- how a model has a field: in its own rows, in the row to which a link leads, or as a condition without a name
pub data Role : Type 0 where
  own : Role
  delegated : Inherits → Role
  hidden : Role

-- in its own rows, or in the row to which a link leads
abbrev pub is_own : Role → Bool
is_own own = true
is_own _ = false

abbrev pub is_delegated : Role → Bool
is_delegated (delegated i) = true
is_delegated _ = false

-- a field of a model, with the entry that gives it; a delegated one has the definition of the parent's field
pub record Member : Type 0 where
  pub entry : ℕ
  pub def : FieldDef
  pub role : Role

-- an expression of the model itself gives its value
abbrev pub is_own_computed : Member → Bool
is_own_computed m = not (is_delegated m.role) && is_computed m.def

-- a field that a model has in its own rows
abbrev pub own_member : ℕ → FieldDef → Member
own_member n def = record { entry = n; def = def; role = own }

-- the field of a name
abbrev pub named : List Member → List ℕ → Option Member
named members name = find (λ m. bytes_eq m.def.name name) members

abbrev pub names_of : List Member → List (List ℕ)
names_of members = map (λ m. m.def.name) members

-- a condition, as a field
abbrev pub hidden_member : ℕ → FieldDef → Member
hidden_member n def = record { entry = n; def = def; role = hidden }

-- the field of a parent, as one that is delegated through a link
abbrev pub delegated_member : ℕ → Inherits → Member → Member
delegated_member n i m = record { entry = n; def = m.def; role = delegated i }

-- the moment at which a row was made, or last changed
abbrev pub moment_def : List ℕ → FieldDef
moment_def name = record (plain_field name type.Datetime) { managed = Some true }

-- the model of the users
abbrev pub users_name : List ℕ
users_name = codes "res.users"

-- the user who made a row, or last changed it
abbrev pub user_def : List ℕ → FieldDef
user_def name = record (plain_field name type.Many2one) { relation = Some users_name; managed = Some true }

-- the fields that each model has
abbrev pub automatic_defs : List FieldDef
automatic_defs =
    moment_def (codes "create_date") ∷ user_def (codes "create_uid") ∷ plain_field (codes "id") type.Integer
    ∷ moment_def (codes "write_date") ∷ user_def (codes "write_uid") ∷ []

abbrev pub path_name : List ℕ
path_name = codes "parent_path"

-- `P.parent_path`, of a tree's parent field P
abbrev pub parents_path : List ℕ → List ℕ
parents_path parent = parent ++ 46 ∷ path_name

-- the stored path of a row in its tree: `cat(P.parent_path, text(id), "/")`
abbrev pub path_def : List ℕ → FieldDef
path_def parent = record (plain_field path_name type.Char) {
  compute = Some (codes "cat(" ++ parents_path parent ++ codes ", text(id), " ++ 34 ∷ 47 ∷ 34 ∷ 41 ∷ []);
  depends = Some (parents_path parent ∷ codes "id" ∷ []);
  store = Some true;
  recursive = Some true;
}

-- the link to a parent's row: required, and the row goes with it
abbrev pub link_def : Inherits → FieldDef
link_def i = record (plain_field i.link type.Many2one) {
  relation = Some i.model;
  required = Some true;
  ondelete = Some ondelete.Cascade;
}

-- a condition: a computed Boolean that isn't kept
abbrev pub condition_def : List ℕ → List ℕ → FieldDef
condition_def name text = record (plain_field name type.Boolean) { compute = Some text }

-- the field that stands for a check
abbrev pub check_name : List ℕ → List ℕ
check_name name = codes "check:" ++ name

-- the path in the tree, where the model is one and declares no such field
abbrev pub path_members : Gathered → Option (List ℕ) → List Member
path_members g None = []
path_members g (Some parent) = if is_declared g.fields path_name then [] else own_member g.entry (path_def parent) ∷ []

-- the fields that a model has without its links and parents
abbrev pub given_members : Gathered → List Member
given_members g = map (own_member g.entry) automatic_defs ++ map (λ f. own_member f.entry f.def) g.fields ++ path_members g g.parent

module _ (models : List Gathered) where
  -- a parent is another model that itself has no parents
  abbrev pub may_inherit : Gathered → Inherits → Bool
  may_inherit g i = option_map_or (λ p. not (bytes_eq p.name g.name) && is_none (slice_get p.inherits 0)) (model_of models i.model) false

  -- a link is to a parent that the model may have, by a name that is free
  abbrev pub is_link : Gathered → List (List ℕ) → Inherits → Bool
  is_link g taken i = may_inherit g i && not (is_one_of taken i.link)

  -- the names that are taken behind it
  abbrev pub with_link : Gathered → List (List ℕ) → Inherits → List (List ℕ)
  with_link g taken i = if is_link g taken i then i.link ∷ taken else taken

  -- the links that a model has, in their turn
  abbrev pub links_from : Gathered → List (List ℕ) → List Inherits → List Inherits
  links_from g taken [] = []
  links_from g taken (i ∷ more) = (if is_link g taken i then i ∷ [] else []) ++ links_from g (with_link g taken i) more

  abbrev pub links_of : Gathered → List Inherits
  links_of g = links_from g (names_of (given_members g)) g.inherits

  -- the fields in a model's own rows
  abbrev pub own_members : Gathered → List Member
  own_members g = given_members g ++ map (λ i. own_member g.entry (link_def i)) (links_of g)

  -- the fields of a parent but the automatic ones, in the row to which the link leads
  abbrev pub delegated_through : ℕ → Inherits → List Member
  delegated_through n i =
      option_map_or (λ p. map (delegated_member n i) (filter (λ m. not (is_automatic m.def.name)) (own_members p))) (model_of models i.model) []

  -- fields, but those whose name a model has itself or by a later parent, and the later ones
  abbrev pub before_later : List Member → List Member → List Member → List Member
  before_later mine through later = filter (λ m. is_none (named mine m.def.name) && is_none (named later m.def.name)) through ++ later

  -- the fields that a model has by its links: the model's own field wins, and the last parent's
  abbrev pub delegated_by : Gathered → List Inherits → List Member
  delegated_by g [] = []
  delegated_by g (i ∷ later) = before_later (own_members g) (delegated_through g.entry i) (delegated_by g later)

  -- the fields of a model that have a name
  abbrev pub members_of : Gathered → List Member
  members_of g = own_members g ++ delegated_by g (links_of g)

  -- the number of a model, from 1 in the order in which entries make them
  abbrev pub model_number : List ℕ → Option ModelNo
  model_number name = option_map (λ i. record { 0 = suc i }) (position (λ m. bytes_eq m.name name) models)

  -- the model of a number
  abbrev pub model_at : ℕ → Option Gathered
  model_at zero = None
  model_at (suc i) = slice_get models i

-- the conditions of a model: those of its checks, and then `locked`
abbrev pub check_member : DeclaredCheck → Member
check_member c = hidden_member c.entry (condition_def (check_name c.check.name) c.check.expression)

abbrev pub check_members : Gathered → List Member
check_members g = map check_member g.checks

abbrev pub locked_members : Gathered → Option (List ℕ) → List Member
locked_members g None = []
locked_members g (Some text) = hidden_member g.entry (condition_def (codes "locked") text) ∷ []

abbrev pub hidden_members : Gathered → List Member
hidden_members g = check_members g ++ locked_members g g.locked

-- how many names are below this one, by bytes
abbrev pub count_below : List (List ℕ) → List ℕ → ℕ
count_below names name = count_by (λ other. is_lt (slice_cmp nat_cmp other name)) names

-- the number of a named field: from 1 in byte order of the names
unfoldable pub number_of : List Gathered → Gathered → List ℕ → FieldNo
number_of models g name = record { 0 = suc (count_below (names_of (members_of models g)) name) }

-- the number of the field of a name, if there is one
abbrev pub number_named : List Gathered → Gathered → List ℕ → Option FieldNo
number_named models g name = option_map (λ m. number_of models g m.def.name) (named (members_of models g) name)

-- the number of a condition: checks in byte order of their names behind the named fields, then `locked`
unfoldable pub hidden_number : List Gathered → Gathered → List ℕ → FieldNo
hidden_number models g name =
    record { 0 = suc (length (members_of models g) + (if is_some (named (check_members g) name) then count_below (names_of (check_members g)) name else length g.checks)) }

-- each name is above all before it, by bytes
abbrev pub AreInNameOrder : List Member → Type 0
AreInNameOrder members = AllPairs (λ a b. slice_cmp nat_cmp a.def.name b.def.name ≡ Less) members
