-- Private: rows with their values in a set of fields, none of them unset.
use Rattle.std.specs.Prelude.{◌≡◌, ◌≢◌, ◌∷◌, [], ℕ, List, map, Option, Some, None, IsSome, option_map, option_and_then}
use Rattle.std.specs.List.{filter_map, slice_get}
use Rattle.std.specs.List.Sorted.{IsSortedBy}
use Rattle.std.specs.Cmp.Lexicographic.{slice_cmp}
use Rattle.std.specs.Ordering.{is_lt}
use Rattle.std.specs.Borrow.{Bor}
use Rattle.std.specs.Global.{Global}
use Rattle.std.specs.Prelude.{Vec}
use Rattle.ob_base.specs.ValueOrder.{value_order}
use Rattle.ob_base.specs.declared.id.FieldNo.{FieldNo}
use Rattle.ob_base.specs.declared.id.ModelNo.{ModelNo}
use Rattle.ob_base.specs.declared.id.RecId.{RecId}
use Rattle.ob_base.specs.declared.refusal.Broken.{Broken}
use Rattle.ob_base.specs.declared.refusal.BrokenKind.TheVariants as kind
use Rattle.ob_base.specs.declared.value.Value.{Value}
use Rattle.ob_base.specs.declared.value.Value.TheVariants as value
use Rattle.ob_schema.specs.declared.info.ModelInfo.{ModelInfo}
use Rattle.ob_schema.specs.Broken.{IsSharedSet}
use Rattle.ob_schema.specs.Tables.{PlainRow, Tables, kept_at, kept_in, row_at}
use Rattle.ob_tables.specs.declared.unique.Member.{Member}

-- a value that isn't unset
abbrev pub set_value : Option Value → Option Value
set_value (Some value.Nil) = None
set_value v = v

-- the values of a row in a set of fields; none where one of them is unset
abbrev pub set_values : Tables → ModelNo → RecId → List FieldNo → Option (List Value)
set_values tables model id [] = Some []
set_values tables model id (field ∷ set) =
    option_and_then (λ v. option_map (λ vs. v ∷ vs) (set_values tables model id set)) (set_value (kept_at tables (record { model = model; id = id; field = field })))

abbrev pub values_in : List (Bor Value) → List Value
values_in = map (λ v. v.now)

-- a row with its values
abbrev pub shown_member : Member → RecId × List Value
shown_member m = (m.id, values_in m.values.items)

-- those of these rows that have values in the set
abbrev pub AreMembers : Tables → ModelNo → List FieldNo → List RecId → List Member → Type 0
AreMembers tables model set ids members = map shown_member members ≡ filter_map (λ id. option_map (λ vs. (id, vs)) (set_values tables model id set)) ids

-- they ascend by their values
abbrev pub IsAscending : List Member → Type 0
IsAscending members = IsSortedBy (λ a b. is_lt (slice_cmp value_order (values_in a.values.items) (values_in b.values.items))) members

-- two of them, at different places, have the same values
pub record IsPair (members : List Member) (i j : ℕ) (one other : Member) : Type 0 where
  pub one_at : slice_get members i ≡ Some one
  pub other_at : slice_get members j ≡ Some other
  pub apart : i ≢ j
  pub alike : values_in one.values.items ≡ values_in other.values.items

-- the first cell of one of such two
abbrev pub SharesAmong : ModelNo → FieldNo → List Member → Broken → Type 0
SharesAmong model first members b =
    (i j : ℕ) × (one other : Member) × IsPair members i j one other × (b ≡ record { kind = kind.Unique; cell = record { model = model; id = one.id; field = first } })

-- the first cell of a set that a row of the model shares
pub record SharesInSet (models : List ModelInfo) (tables : Tables) (model : ModelNo) (set : List FieldNo) (b : Broken) : Type 0 where
  pub kind_is : b.kind ≡ kind.Unique
  pub model_is : b.cell.model ≡ model
  pub there : IsSome (row_at tables model b.cell.id)
  pub shared : IsSharedSet models tables b.cell set

-- the values that a function gives, where it gives any
abbrev pub member_values : Option (Vec (Bor Value) Global) → Option (List Value)
member_values = option_map (λ values. values_in values.items)

-- two rows keep the same value for a field, and it isn't unset
abbrev pub AreKeptAlike : PlainRow → PlainRow → FieldNo → Type 0
AreKeptAlike row other field = (kept_in row field ≢ value.Nil) × (kept_in other field ≡ kept_in row field)
