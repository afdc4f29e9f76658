-- Slots for rows and next ids, some of them vacant, and the store that they show.
use Rattle.std.specs.Prelude.{List, [], ◌∷◌, Option, Some, None, IsSome}
use Rattle.std.specs.Option.{option_flatten}
use Rattle.std.specs.declared.cmp.Ordering.{Ordering}
use Rattle.std.specs.Ordering.{nat_cmp}
use Rattle.std.specs.FinMap as finite
use Rattle.std.specs.BTreeMap as tree
use Rattle.ob_io.specs.declared.store.Change.{Change}
use Rattle.ob_io.specs.declared.store.Change.TheVariants.{Put, Gone, Next}
use Rattle.ob_io.specs.declared.slots.Slots.{Slots}
use Rattle.ob_base.specs.Ids.{row_key_cmp}
use Rattle.ob_io.specs.Store.{Store}

-- what stands in the key's slot, where it has one that is not vacant
abbrev pub content : {K X : Type 0} → (K → K → Ordering) → tree.BTreeMap K (Option X) → K → Option X
content cmp slots key = option_flatten (tree.get cmp slots key)

-- the map with this at the key, or with nothing there
abbrev pub set_to : {K X : Type 0} {R : K → K → Ordering} → finite.FinMap R X → K → Option X → finite.FinMap R X
set_to m key None = finite.remove m key
set_to m key (Some x) = finite.insert m key x

-- the map that the slots show: what stands in those that are not vacant
abbrev pub shown : {K X : Type 0} {R : K → K → Ordering} → List (K × Option X) → finite.FinMap R X
shown [] = finite.empty
shown (e ∷ es) = set_to (shown es) e.0 e.1

-- the store that the slots show
abbrev pub shown_store : Slots → Store
shown_store slots = record { rows = shown slots.rows.entries; next_ids = shown slots.next_ids.entries }

-- the change needs no memory: there is a slot for what it changes
abbrev pub HasRoom : Slots → Change → Type 0
HasRoom slots (Put model row) = IsSome (tree.get row_key_cmp slots.rows (record { model = model; id = row.id }))
HasRoom slots (Gone model id) = IsSome (tree.get row_key_cmp slots.rows (record { model = model; id = id }))
HasRoom slots (Next model next) = IsSome (tree.get nat_cmp slots.next_ids model.0)
