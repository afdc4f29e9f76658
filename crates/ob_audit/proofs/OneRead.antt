-- A row that is read adds the edit that makes it and what is tested of it.
use Rattle.std.proofs.Common.{◌≡◌, ◌++◌, ℕ, List, [], ◌∷◌, Some, option_map, refl, sym, ap, ◌∙◌}
use Rattle.std.specs.Prelude.{IfSome}
use Rattle.std.specs.List.{filter_map}
use Rattle.std.proofs.lemmas.List.{append-nil}
use Rattle.std.proofs.lemmas.Option.{same_Some}
use Rattle.ob_base.specs.declared.id.Cell.{Cell}
use Rattle.ob_base.specs.declared.id.FieldNo.{FieldNo}
use Rattle.ob_base.specs.declared.id.ModelNo.{ModelNo}
use Rattle.ob_base.specs.declared.value.Value.{Value}
use Rattle.ob_audit.specs.Reading.{IsTold, ReadRow, ReadsRows, entries, given_of, stored_of, tests_of}
use Rattle.ob_audit.specs.declared.kept_rows.ReadRows.{ReadRows}
use Rattle.ob_io.specs.declared.store.KeptRow.{KeptRow}
use Rattle.ob_schema.specs.Models.{HasModel, model_at}
use Rattle.ob_schema.specs.declared.info.FieldInfo.{FieldInfo}
use Rattle.ob_schema.specs.declared.info.ModelInfo.{ModelInfo}
use Rattle.ob_tables.proofs.CallerLemmas.{is_there, known_if}
use Rattle.ob_tables.specs.declared.edit.Edit.TheVariants as edit

module _ (models : List ModelInfo) (model : ModelNo) (next : ℕ) (row : KeptRow) (fields : List FieldInfo) (values : List Value) where
  pub one-read : (plain : List (FieldNo × Value)) (old new : ReadRows) → HasModel models model → option_map (λ info. info.fields) (model_at models model) ≡ Some fields
      → IfSome (model_at models model) (λ info. IsTold next info row (Some values)) → plain ≡ filter_map given_of (entries fields values)
      → new.edits ≡ old.edits ++ edit.Make model row.id plain ∷ [] → new.stored ≡ old.stored ++ filter_map (stored_of model row.id) (entries fields values) → ReadsRows models model next (λ read. read ≡ row ∷ []) old new
  one-read plain old new has fields_are told plain_are edits stored =
      let info = is_there (model_at models model) has in
      let same : fields ≡ info.0.fields = sym (same_Some info.0.fields fields (sym (ap (option_map (λ (i : ModelInfo). i.fields)) info.1) ∙ fields_are)) in
      let is = known_if (model_at models model) info.0 (λ i. IsTold next i row (Some values)) info.1 told in
      let read : ReadRow = record { model = model; info = info.0; row = row; values = values } in
      record {
        reads = read ∷ [];
        adds = record {
          edits = edits ∙ ap (λ (given : List (FieldNo × Value)). old.edits ++ edit.Make model row.id given ∷ []) (plain_are ∙ ap (λ (l : List FieldInfo). filter_map given_of (entries l values)) same);
          stored = stored ∙ ap (λ (l : List FieldInfo). old.stored ++ filter_map (stored_of model row.id) (entries l values)) same ∙ ap (λ (l : List (Cell × Value)). old.stored ++ l) (sym (append-nil (tests_of read)));
        };
        each = (record { model_is = refl; info_is = info.1; read_as = is.1; below = is.0 }, tt);
        told = refl;
      }
