-- Private: what the maps of the program show, and what its rooms tell one another.
use Rattle.std.specs.Prelude.{◌≡◌, ℕ, List, map, Option, Some, None, unwrap_or}
use Rattle.std.specs.List.{enumerate_from}
use Rattle.std.specs.Ordering.{nat_cmp}
use Rattle.std.specs.FinMap as finite
use Rattle.std.specs.BTreeMap as tree
use Rattle.ob_base.specs.declared.id.RecId.{RecId}
use Rattle.ob_base.specs.declared.value.Value.{Value}
use Rattle.ob_base.specs.declared.value.Value.TheVariants as value
use Rattle.ob_base.specs.declared.id.RowKey.{RowKey}
use Rattle.ob_base.specs.Ids.{row_key_cmp}
use Rattle.ob_schema.specs.Models.{HasModel}
use Rattle.ob_schema.specs.declared.info.ModelInfo.{ModelInfo}
use Rattle.ob_schema.specs.Plain.{id_value, naming}
use Rattle.ob_schema.specs.Tables.{PlainRow, Standing, Tables}
use Rattle.ob_tables.specs.declared.tables.Source.{Source}
use Rattle.ob_tables.specs.declared.tables.Source.TheVariants as source

-- the row that a map of values shows
abbrev pub shown_row : tree.BTreeMap ℕ Value → PlainRow
shown_row row = finite.from_entries {R = nat_cmp} row.entries

-- the rows that a map of them shows
abbrev pub shown_rows : tree.BTreeMap RowKey (tree.BTreeMap ℕ Value) → finite.FinMap row_key_cmp PlainRow
shown_rows rows = finite.from_entries {R = row_key_cmp} (map (λ entry. (entry.0, shown_row entry.1)) rows.entries)

-- a next id for each model: that of the map, or 1
abbrev pub shown_next_ids : List ModelInfo → tree.BTreeMap ℕ ℕ → finite.FinMap nat_cmp ℕ
shown_next_ids models next_ids = finite.from_entries {R = nat_cmp} (map (λ place. (place.0, unwrap_or (tree.get nat_cmp next_ids place.0) 1)) (enumerate_from 1 models))

abbrev pub shown_tables : List ModelInfo → tree.BTreeMap RowKey (tree.BTreeMap ℕ Value) → tree.BTreeMap ℕ ℕ → Tables
shown_tables models rows next_ids = record { rows = shown_rows rows; next_ids = shown_next_ids models next_ids }

-- where a plain cell has this value, it is from there
abbrev pub Gives : Standing → RecId → Option Value → Source → Type 0
Gives standing id plain source.Nothing = plain ≡ None
Gives standing id plain source.Id = plain ≡ Some (id_value id)
Gives standing id plain (source.Kept v) = plain ≡ Some v.now
Gives standing id plain (source.Naming model field) = HasModel standing.models model × (plain ≡ Some (value.Refs (naming standing.tables model field id)))
