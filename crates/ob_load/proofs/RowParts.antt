-- The parts of a row: that it fits where each does, what is made of them, and the first that doesn't fit.
use Rattle.std.proofs.Common.{◌≡◌, ℕ, List, ◌++◌, Option, None, Some, ap, sym, subst, ◌∙◌}
use Rattle.std.specs.Prelude.{codes, decimal}
use Rattle.toml.specs.Data.{Data}
use Rattle.ob_base.specs.declared.id.ModelNo.{ModelNo}
use Rattle.ob_base.specs.declared.place.PathStep.{PathStep}
use Rattle.ob_definition.specs.Definitions.{first_of}
use Rattle.ob_load.specs.Access.{model_in}
use Rattle.ob_module.specs.Meaning.{word_at}
use Rattle.ob_load.specs.AccessFaults.{form_fault, in_entry, model_is_there}
use Rattle.ob_load.specs.Preset.{Ref, row_from, values_of}
use Rattle.ob_load.specs.RowFaults.{ref_is_free, row_fits, values_fit}
use Rattle.ob_load.specs.declared.fault.FaultyModule.{FaultyModule}
use Rattle.ob_load.proofs.AccessForms.{entry-first, entry-second}
use Rattle.ob_load.proofs.AccessSteps.{first-none}
use Rattle.ob_load.proofs.EntryParts.{model-is, model-there}
use Rattle.ob_schema.specs.Models.{model_named}
use Rattle.ob_schema.specs.declared.info.ModelInfo.{ModelInfo}
use Rattle.ob_schema.specs.declared.preset.PresetRow.{PresetRow}

module _ (models : List ModelInfo) (groups : List (List ℕ)) (first : ℕ) (refs : List Ref) (owner : List ℕ) (d : Data) where
  abbrev pub values_wrong : ModelNo → Option (List PathStep)
  values_wrong model = values_fit models groups first refs model d

  module _ (taken : List (List ℕ)) where
    abbrev pub behind_model : Option (List PathStep)
    behind_model = first_of (ref_is_free taken owner d) (values_wrong (model_in models d))

    -- its model isn't there
    pub row-no-model : (table : List ℕ) (n : ℕ) (faulty : FaultyModule) → form_fault owner (in_entry table n (model_is_there models d)) ≡ Some faulty
        → form_fault owner (in_entry table n (row_fits models groups first refs taken owner d)) ≡ Some faulty
    row-no-model table n faulty is = entry-first owner table n (model_is_there models d) behind_model faulty is

    module _ (model : ModelNo) (named : model_named models (word_at (codes "model") d) ≡ Some model) where
      -- its name is taken
      pub row-taken : (table : List ℕ) (n : ℕ) (faulty : FaultyModule) → form_fault owner (in_entry table n (ref_is_free taken owner d)) ≡ Some faulty
          → form_fault owner (in_entry table n (row_fits models groups first refs taken owner d)) ≡ Some faulty
      row-taken table n faulty is =
          entry-second owner table n (model_is_there models d) behind_model faulty (model-there models d model named) (entry-first owner table n (ref_is_free taken owner d) (values_wrong (model_in models d)) faulty is)

      module _ (free : ref_is_free taken owner d ≡ None) where
        -- a value isn't of its field's form
        pub row-misgiven : (table : List ℕ) (n : ℕ) (faulty : FaultyModule) → form_fault owner (in_entry table n (values_wrong model)) ≡ Some faulty
            → form_fault owner (in_entry table n (row_fits models groups first refs taken owner d)) ≡ Some faulty
        row-misgiven table n faulty is =
            entry-second owner table n (model_is_there models d) behind_model faulty (model-there models d model named)
            (entry-second owner table n (ref_is_free taken owner d) (values_wrong (model_in models d)) faulty free
            (subst (λ (m : ModelNo). form_fault owner (in_entry table n (values_wrong m)) ≡ Some faulty) (model-is models d model named) is))

        -- all fits
        pub row-fits : values_wrong model ≡ None → row_fits models groups first refs taken owner d ≡ None
        row-fits fits =
            first-none (model_is_there models d) behind_model (model-there models d model named) ∙ first-none (ref_is_free taken owner d) (values_wrong (model_in models d)) free
            ∙ ap values_wrong (sym (model-is models d model named)) ∙ fits

  abbrev pub row_over : ℕ → ModelNo → PresetRow
  row_over n model = record { «module» = owner; place = codes "row." ++ decimal n; model = model; values = values_of models groups first refs model d }

  -- what is made
  pub row-made : (n : ℕ) (model : ModelNo) → model_named models (word_at (codes "model") d) ≡ Some model → row_over n model ≡ row_from models groups first refs owner n d
  row-made n model named = ap (row_over n) (model-is models d model named)
