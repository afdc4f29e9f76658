-- The order in which a search tells rows, and which of them.
use Rattle.std.specs.Prelude.{◌≡◌, ℕ, zero, suc, List, [], ◌∷◌, take, drop, Bool, if◌then◌else◌}
use Rattle.std.specs.List.Sorted.{IsPermutation, IsSorted}
use Rattle.std.specs.Ordering.{bool_cmp, flip_args, nat_cmp, on, then_cmp}
use Rattle.std.specs.declared.cmp.Ordering.{Ordering}
use Rattle.ob_base.specs.ValueOrder.{value_order}
use Rattle.ob_base.specs.declared.id.FieldNo.{FieldNo}
use Rattle.ob_base.specs.declared.id.RecId.{RecId}
use Rattle.ob_base.specs.declared.value.Value.{Value}
use Rattle.ob_domain.specs.Passing.{is_unset}
use Rattle.ob_schema.specs.declared.info.OrderTerm.{OrderTerm}

-- by size; what is unset comes behind all that is set
abbrev pub unset_last : Value → Value → Ordering
unset_last = then_cmp (on is_unset bool_cmp) value_order

-- rising; or falling, and then what is unset comes first
abbrev pub by_direction : Bool → Value → Value → Ordering
by_direction descending = if descending then flip_args unset_last else unset_last

-- by what rows hold for each term's field in turn, then by id
abbrev pub row_order : (FieldNo → RecId → Value) → List OrderTerm → RecId → RecId → Ordering
row_order held [] = on (λ id. id.0) nat_cmp
row_order held (term ∷ terms) = then_cmp (on (held term.field) (by_direction term.descending)) (row_order held terms)

-- the first of a list, at most so many; 0 is no limit
abbrev pub limited : {A : Type 0} → ℕ → List A → List A
limited zero xs = xs
limited (suc n) xs = take (suc n) xs

-- from one on, at most so many
abbrev pub window : {A : Type 0} → (offset limit : ℕ) → List A → List A
window offset limit xs = limited limit (drop offset xs)

-- the ids of the rows that were found, in their order, from one on and at most so many
pub record AreOrdered (held : FieldNo → RecId → Value) (terms : List OrderTerm) (offset limit : ℕ) (found ids : List RecId) : Type 0 where
  pub ordered : List RecId
  pub same : IsPermutation found ordered
  pub rising : IsSorted (row_order held terms) ordered
  pub cut : ids ≡ window offset limit ordered
