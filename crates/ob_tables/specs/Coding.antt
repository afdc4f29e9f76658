-- How proofs tell tables apart: their code, from those of models and values.
use Rattle.std.specs.Prelude.{ℕ, List, refl}
use Rattle.std.specs.Coded.{Coded, code_by, coded×, coded_ℕ}
use Rattle.std.specs.Ordering.{nat_cmp}
use Rattle.std.specs.FinMap as finite
use Rattle.std_collections.specs.Layout.BTreeMap.{btree_map_code}
use Rattle.ob_base.specs.declared.value.Value.{Value}
use Rattle.ob_base.specs.declared.id.RowKey.{RowKey}
use Rattle.ob_base.specs.Ids.{row_key_cmp}
use Rattle.ob_schema.specs.declared.info.ModelInfo.{ModelInfo}
use Rattle.ob_schema.specs.Tables.{PlainRow, Standing, Tables}
use Rattle.ob_tables.specs.Holdings.{RowMap}

abbrev coded_key : Coded RowKey
coded_key = code_by (ℕ × ℕ) (coded× coded_ℕ coded_ℕ) (λ k. (k.model.0, k.id.0)) (λ p. record { model = record { 0 = p.0 }; id = record { 0 = p.1 } }) (λ _. refl)

-- tables are stored as their two maps
abbrev pub coded_tables : Coded Value → Coded Tables
coded_tables values =
    code_by (finite.FinMap row_key_cmp PlainRow × finite.FinMap nat_cmp ℕ) (coded× (finite.code coded_key (finite.code coded_ℕ values)) (finite.code coded_ℕ coded_ℕ)) (λ t. (t.rows, t.next_ids))
    (λ p. record { rows = p.0; next_ids = p.1 }) (λ _. refl)

abbrev pub coded_standing : Coded (List ModelInfo) → Coded Value → Coded Standing
coded_standing models values = code_by (List ModelInfo × Tables) (coded× models (coded_tables values)) (λ s. (s.models, s.tables)) (λ p. record { models = p.0; tables = p.1 }) (λ _. refl)

-- rows as the program has them are stored as their map
abbrev pub coded_rows : Coded Value → Coded RowMap
coded_rows values = btree_map_code coded_key (btree_map_code coded_ℕ values)
