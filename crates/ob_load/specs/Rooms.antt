-- Private: the words by which the rooms of the crate are joined.
use Rattle.std.specs.Prelude.{◌≡◌, ◌≢◌, ◌≤◌, ◌<◌, ◌⊎◌, ℕ, ◌+◌, length, false, IsSomeAnd, List, [], ◌∷◌, ◌++◌, All, Contains, map, true, Option, Some, None, MatchOption, Result, IsErrOf, IfSome, ⊤, nat_eq, slice_get}
use Rattle.std.specs.List.{AllPairs, IsDistinct}
use Rattle.toml.specs.Data.{Data}
use Rattle.ob_access.specs.Policies.{AreNamedApart, RuleData, rule_data}
use Rattle.ob_access.specs.declared.policy.AccessLine.{AccessLine}
use Rattle.ob_access.specs.declared.policy.Group.{Group}
use Rattle.ob_access.specs.declared.policy.Rule.{Rule}
use Rattle.ob_domain.specs.Over.{IsOver}
use Rattle.ob_domain.specs.Trees.{tree_of_domain}
use Rattle.ob_definition.specs.Types.{is_relation}
use Rattle.ob_schema.specs.Built as fields
use Rattle.ob_schema.specs.Fields.{Holds}
use Rattle.ob_schema.specs.Models.{HasModel, model_at}
use Rattle.ob_schema.specs.Presets.{FitsModel, IsPreset, IsPresetOf}
use Rattle.ob_schema.specs.declared.info.FieldInfo.{FieldInfo}
use Rattle.ob_schema.specs.declared.preset.PresetRow.{PresetRow}
use Rattle.ob_schema.specs.declared.preset.PresetValue.{PresetValue}
use Rattle.ob_schema.specs.declared.preset.PresetValue.TheVariants as preset
use Rattle.ob_schema.specs.declared.info.ModelInfo.{ModelInfo}
use Rattle.ob_base.specs.declared.id.FieldNo.{FieldNo}
use Rattle.ob_base.specs.declared.id.ModelNo.{ModelNo}
use Rattle.ob_base.specs.declared.id.RecId.{RecId}
use Rattle.ob_load.specs.Access.{is_among}
use Rattle.ob_load.specs.Preset.{Ref, group_model, ref_from, rows_from}
use Rattle.ob_load.specs.declared.access.Declared.{Declared}
use Rattle.ob_load.specs.declared.rows.Brought.{Brought}
use Rattle.ob_load.specs.declared.fault.FaultyModule.{FaultyModule}
use Rattle.ob_load.specs.declared.fault.LoadFault.{LoadFault}
use Rattle.ob_load.specs.declared.fault.LoadFault.TheVariants as load
use Rattle.ob_load.specs.declared.fault.ModuleFault.TheVariants as fault
use Rattle.ob_load.specs.Dependencies.{Takes}
use Rattle.ob_module.specs.Meaning.{depends_of}
use Rattle.ob_module.specs.Modules.{Module, has_module, numbered}

-- a fault of a module; or want of memory for telling it
abbrev pub Refuses : FaultyModule → LoadFault → Type 0
Refuses faulty why = why ≢ load.NoMemory → why ≡ load.Module faulty

-- a name in front of others, where there is one
abbrev pub taken_before : Option (List ℕ) → List (List ℕ) → List (List ℕ)
taken_before None names = names
taken_before (Some name) names = name ∷ names

-- names that were read already are passed over, and the next one is taken
abbrev pub Passes : List Module → List (List ℕ) → Option (List ℕ) → List (List ℕ) → Type 0
Passes modules coming next rest = (passed : List (List ℕ)) × All (λ name. has_module modules name ≡ true) passed × (coming ≡ passed ++ taken_before next rest) × (next ≡ None → rest ≡ [])

-- a module of files that don't tell what they hold is absent only where their count rose
abbrev pub ToldAbsent : Option (List ℕ → Option (List ℕ)) → Type 0 → LoadFault → Type 0
ToldAbsent texts rose (load.Module faulty) = faulty.fault ≡ fault.Absent → MatchOption texts rose (λ _. ⊤)
ToldAbsent texts rose _ = ⊤

-- a name was read or is to come
abbrev pub IsHeld : List Module → List (List ℕ) → List ℕ → Type 0
IsHeld modules coming name = (has_module modules name ≡ true) ⊎ Contains coming name

-- each name, and each on which a module depends, was read or is to come
pub record AreHeld (modules : List Module) (coming names : List (List ℕ)) : Type 0 where
  pub named : All (IsHeld modules coming) names
  pub depends : All (λ m. All (IsHeld modules coming) (depends_of m.document)) modules

-- each name is that of a module, and so is each on which a module depends
pub record AreReadWhole (modules : List Module) (names : List (List ℕ)) : Type 0 where
  pub named : All (λ name. has_module modules name ≡ true) names
  pub depends : All (λ m. All (λ name. has_module modules name ≡ true) (depends_of m.document)) modules

-- the numbers on which a module depends are added to those that are reached, no number twice
abbrev pub ReachedBy : List Module → ℕ → List ℕ → List ℕ → Type 0
ReachedBy modules number old new =
    (more : List ℕ) × (new ≡ old ++ more)
    × ((m o : Module) (other : ℕ) → slice_get modules number ≡ Some m → slice_get modules other ≡ Some o → Contains (depends_of m.document) o.name → Contains new other)
    × All (λ other. (m o : Module) × (slice_get modules number ≡ Some m) × (slice_get modules other ≡ Some o) × Contains (depends_of m.document) o.name) more
    × (IsDistinct nat_eq old → IsDistinct nat_eq new)

-- a number was among these already, or stands behind them
abbrev pub AddsOnce : ℕ → List ℕ → List ℕ → Type 0
AddsOnce number old new = (Contains old number × (new ≡ old)) ⊎ ((Contains old number → ⊥) × (new ≡ old ++ number ∷ []))

-- the names lead from the modules of these numbers to those of those
abbrev pub TakesOn : List Module → List ℕ → List (List ℕ) → List ℕ → Type 0
TakesOn modules old names new = (before : List Module) → numbered modules old before → (all : List Module) × numbered modules new all × Takes modules before names all

-- a refusal that is told of a module is this fault
abbrev pub Tells : {T : Type 0} → Result T LoadFault → Option FaultyModule → Type 0
Tells result fault = (faulty : FaultyModule) → IsErrOf result (load.Module faulty) → fault ≡ Some faulty

-- want of memory, or a fault of a module that was read
abbrev pub IsOfText : LoadFault → Type 0
IsOfText load.File = ⊥
IsOfText load.NoMemory = ⊤
IsOfText (load.Module faulty) = faulty.fault ≢ fault.Absent

-- the id of one of so many groups
abbrev pub IsGroupOf : ℕ → RecId → Type 0
IsGroupOf count id = (1 ≤ id.0) × (id.0 ≤ count)

-- a line of a model that there is, for every user or one of so many groups
abbrev pub IsLineOf : List ModelInfo → ℕ → AccessLine → Type 0
IsLineOf models count line = HasModel models line.model × IfSome line.group (IsGroupOf count)

-- a rule of a model that there is, for some of so many groups, with a domain over its model
abbrev pub IsRuleOf : List ModelInfo → ℕ → Rule → Type 0
IsRuleOf models count rule = HasModel models rule.model × IfSome rule.groups (All (IsGroupOf count)) × IsOver models rule.model (tree_of_domain rule.domain)

-- what modules declare fits together, where there are so many groups: groups are named apart, by names that are taken, and what is named is there
pub record AreConsistent (models : List ModelInfo) (count : ℕ) (declared : Declared) : Type 0 where
  pub apart : AreNamedApart declared.groups
  pub taken : All (λ group. is_among declared.names group.name ≡ true) declared.groups
  pub implied : All (λ group. All (IsGroupOf count) group.implies) declared.groups
  pub lines : All (IsLineOf models count) declared.lines
  pub rules : All (IsRuleOf models count) declared.rules

-- to what modules declare these full names, groups, lines and rules were added, and they fit together with the others
pub record GrowsBy (models : List ModelInfo) (count : ℕ) (old new : Declared) (names : List (List ℕ)) (groups : List Group) (lines : List AccessLine) (rules : List RuleData) : Type 0 where
  pub names_grow : new.names ≡ old.names ++ names
  pub groups_grow : new.groups ≡ old.groups ++ groups
  pub lines_grow : new.lines ≡ old.lines ++ lines
  pub rules_grow : map rule_data new.rules ≡ map rule_data old.rules ++ rules
  pub consistent : AreConsistent models count old → AreConsistent models count new

-- ---- preset rows

-- a plain value is one that the field may hold, and the field is no relation
abbrev pub IsPlainHeld : FieldInfo → PresetValue → Type 0
IsPlainHeld field (preset.Plain v) = Holds field v × (is_relation field.field_type ≡ false)
IsPlainHeld field _ = ⊤

-- a row fits its model behind these, and behind any
abbrev pub FitsBehind : List ModelInfo → List PresetRow → PresetRow → Type 0
FitsBehind models before row = IsSomeAnd (model_at models row.model) (λ info. FitsModel before info row)

abbrev pub FitsAnywhere : List ModelInfo → PresetRow → Type 0
FitsAnywhere models row = (before : List PresetRow) → FitsBehind models before row

-- among these rows are those of so many groups, and behind them the named ones
pub record IsBehind (models : List ModelInfo) (first : ℕ) (refs : List Ref) (before : List PresetRow) : Type 0 where
  pub placed : (i : ℕ) (r : Ref) → slice_get refs i ≡ Some r → IsSomeAnd (slice_get before (first + i)) (λ row. row.model ≡ r.1)
  pub grouped : (i : ℕ) (model : ModelNo) → i < first → group_model models ≡ Some model → IsSomeAnd (slice_get before i) (λ row. row.model ≡ model)

-- where there is a model for them, these groups have rows
abbrev pub HaveRows : List ModelInfo → List (List ℕ) → ℕ → Type 0
HaveRows models groups first = (model : ModelNo) → group_model models ≡ Some model → length groups ≤ first

-- what was brought is a preset, and its rows are named
pub record AreBrought (models : List ModelInfo) (brought : Brought) : Type 0 where
  pub fit : IsPreset models brought.rows
  pub behind : IsBehind models brought.first brought.refs brought.rows
  pub count : length brought.rows ≡ brought.first + length brought.refs

-- values fit numbered fields behind these rows, no two of them the same
pub record AreFitting (before : List PresetRow) (own : List FieldInfo) (values : List (FieldNo × PresetValue)) : Type 0 where
  pub apart : AllPairs (λ a b. a.0 ≢ b.0) values
  pub fit : All (λ given. IsSomeAnd (fields.numbered own given.0.0) (λ field. IsPresetOf before field given.1)) values

-- values of a row that may name these groups, and these rows behind so many of groups, fit fields behind all that were brought so far
abbrev pub AreGivenTo : List ModelInfo → List (List ℕ) → ℕ → List Ref → List FieldInfo → List (FieldNo × PresetValue) → Type 0
AreGivenTo models groups first refs own values = HaveRows models groups first → (before : List PresetRow) → IsBehind models first refs before → AreFitting before own values

-- so does such a row fit its model
abbrev pub IsGivenRow : List ModelInfo → List (List ℕ) → ℕ → List Ref → PresetRow → Type 0
IsGivenRow models groups first refs row = HaveRows models groups first → (before : List PresetRow) → IsBehind models first refs before → FitsBehind models before row

-- to what was brought the rows of these entries were added
pub record BringsOn (models : List ModelInfo) (groups : List (List ℕ)) (owner : List ℕ) (entries : List Data) (old new : Brought) : Type 0 where
  pub first_stays : new.first ≡ old.first
  pub refs_grow : new.refs ≡ old.refs ++ map (ref_from models owner) entries
  pub rows_grow : new.rows ≡ old.rows ++ rows_from models groups old.first old.refs owner entries
  pub brought : HaveRows models groups old.first → AreBrought models old → AreBrought models new
