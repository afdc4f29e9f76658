-- What reads a cell: the rows from which the steps before one of a path's lead to the cell's row.
use Rattle.std.proofs.Common.{◌≡◌, ◌↔◌, inl, inr, ℕ, zero, suc, ◌<◌, ◌≤◌, Bool, true, List, [], ◌∷◌, get_or, length, take, Option, Some, refl, sym, ap, subst, ◌∙◌}
use Rattle.std.specs.Prelude.{Any, Contains, is_some, slice_get}
use Rattle.std.specs.BTreeMap as tree
use Rattle.std.proofs.lemmas.List.Elements.{All-cons, All-contains, All-nil, Contains-get_or}
use Rattle.std.proofs.lemmas.Option.{same_Some}
use Rattle.ob_base.specs.Limits.{max_path_steps}
use Rattle.ob_base.specs.declared.id.Cell.{Cell}
use Rattle.ob_base.specs.declared.id.ModelNo.{ModelNo}
use Rattle.ob_base.specs.declared.id.RecId.{RecId}
use Rattle.ob_base.specs.declared.value.Value.{Value}
use Rattle.ob_definition.specs.Types.{is_relation}
use Rattle.ob_schema.specs.Links.{Leads, leads_from}
use Rattle.ob_schema.specs.Models.{AreSteps, FieldHas, IsComputedBy, IsRegistry, LeadsOn, field_at, is_computed_from}
use Rattle.ob_schema.specs.Plain.{plain_at}
use Rattle.ob_schema.specs.ReadCells.{IsAlongSteps, cell_at}
use Rattle.ob_schema.specs.Tables.{Tables}
use Rattle.ob_schema.specs.declared.info.FieldInfo.{FieldInfo}
use Rattle.ob_schema.specs.declared.info.Formula.{Formula}
use Rattle.ob_schema.specs.declared.info.ModelInfo.{ModelInfo}
use Rattle.ob_schema.specs.declared.info.Origin.{Origin}
use Rattle.ob_schema.specs.declared.info.Origin.TheVariants as origin
use Rattle.ob_schema.specs.declared.info.Path.{Path}
use Rattle.ob_schema.specs.declared.info.Step.{Step}
use Rattle.ob_trigger.specs.Affected.{IsComputedField, ReadsIn, cell_step}
use Rattle.ob_trigger.specs.Readers.{AllLead, Fields, IsLed, IsPlainRelation, IsReaderIndex, IsReaderOf, IsStepBehind, ReadsBy, readers_at}
use Rattle.ob_trigger.specs.declared.index.Reader.{Reader}
use Rattle.ob_trigger.proofs.Known.{Field-at, Formula-at, plain_is, tell_and, told_and}
use Rattle.ob_trigger.proofs.Lists.{any_on, any_one, any_is}

module _ (held : Cell → Option Value) where
  -- a cell along steps is that of one of them, in a row to which those before lead
  pub along-split : (id : RecId) (steps : List Step) (cell : Cell) → IsAlongSteps held id steps cell
      → (k : ℕ) × (step : Step) × (slice_get steps k ≡ Some step) × IsLed held (take k steps) id cell.id × (cell ≡ cell_at step cell.id)
  along-split id [] cell along = absurd along
  along-split id (step ∷ steps) cell (inl is) =
      let row : id ≡ cell.id = sym (ap (λ (c : Cell). c.id) is) in
      (zero, step, refl, row, is ∙ ap (cell_at step) row)
  along-split id (step ∷ steps) cell (inr (target, leads, on)) =
      let rest = along-split target steps cell on in (suc rest.0, rest.1, rest.2, (target, leads, rest.3), rest.4)

  pub along-join : (id row : RecId) (steps : List Step) (k : ℕ) (step : Step) → slice_get steps k ≡ Some step → IsLed held (take k steps) id row → IsAlongSteps held id steps (cell_at step row)
  along-join id row [] k step is led = absurd cc
  along-join id row (s ∷ steps) zero step is led =
      let same : step ≡ s = sym (same_Some s step is) in inl (ap (λ (t : Step). cell_at t row) same ∙ ap (cell_at s) (sym led))
  along-join id row (s ∷ steps) (suc k) step is led = inr (led.0, led.1, along-join led.0 row steps k step is led.2)

module _ (models : List ModelInfo) (tables : Tables) where
  abbrev held : Cell → Option Value
  held = plain_at tables models

  -- a reader's cell reads the cell
  by_reader : (cell other : Cell) (reader : Reader) → IsReaderOf models (cell_step other) reader → ReadsBy held other.id reader cell → ReadsIn models tables cell other
  by_reader cell other reader (formula, computed, depends) (is, led) =
      let own : reader.computed ≡ cell_step cell = sym (ap cell_step is) in (
        formula,
        subst (λ (s : Step). IsComputedBy models s formula) own computed,
        any_on (λ (path : Path). IsStepBehind path.steps reader.front (cell_step other)) (λ (path : Path). IsAlongSteps held cell.id path.steps other) formula.depends
            (λ path behind. along-join held cell.id other.id path.steps behind.0 (cell_step other) behind.1 (subst (λ (front : List Step). IsLed held front cell.id other.id) behind.2 led)) depends,
      )

  -- what reads the cell is one
  a_reader : (cell other : Cell) → ReadsIn models tables cell other → (reader : Reader) × IsReaderOf models (cell_step other) reader × ReadsBy held other.id reader cell
  a_reader cell other (formula, computed, reads) =
      let one = any_one (λ (path : Path). IsAlongSteps held cell.id path.steps other) formula.depends reads in
      let split = along-split held cell.id one.0.steps other one.2 in
      let own : cell_step other ≡ split.1 = ap cell_step split.4 in
      let reader : Reader = record { computed = cell_step cell; front = take split.0 one.0.steps } in
      let behind : IsStepBehind one.0.steps reader.front (cell_step other) = (split.0, split.2 ∙ ap (λ (s : Step). Some s) (sym own), refl) in (
        reader,
        (formula, computed, any_is (λ (path : Path). IsStepBehind path.steps reader.front (cell_step other)) formula.depends one.0 one.1 behind),
        (refl, split.3),
      )

  -- the readers of its field read a cell, and no others
  pub reads-readers : (readers : List Reader) (other : Cell) → ((reader : Reader) → Contains readers reader ↔ IsReaderOf models (cell_step other) reader)
      → (cell : Cell) → Any (λ reader. ReadsBy held other.id reader cell) readers ↔ ReadsIn models tables cell other
  reads-readers readers other all cell = (
    λ any. let one = any_one (λ (reader : Reader). ReadsBy held other.id reader cell) readers any in by_reader cell other one.0 ((all one.0).0 one.1) one.2,
    λ reads. let one = a_reader cell other reads in any_is (λ (reader : Reader). ReadsBy held other.id reader cell) readers one.0 ((all one.0).1 one.1) one.2,
  )

module _ (models : List ModelInfo) (registry : IsRegistry models) where
  -- a step through which a path goes on is a plain relation
  pub plain_relation : (model target : ModelNo) (step : Step) → FieldHas models (LeadsOn target) step.model step.field → FieldHas models IsPlainRelation step.model step.field
  plain_relation model target step has =
      let t = told_and (field_at models step.model step.field) (LeadsOn target) has in
      let right = (Field-at models step.model step.field t.0 registry t.1).right in
      let names : is_relation t.0.field_type ≡ true = sym right.relation_alone ∙ ap (λ (o : Option ModelNo). is_some o) t.2.leads in
      tell_and (field_at models step.model step.field) t.0 IsPlainRelation t.1 (t.2.plain, names)

  -- so are all before one of a path's steps
  lead_on : (model : ModelNo) (steps : List Step) (k : ℕ) (step : Step) → AreSteps models model steps → slice_get steps k ≡ Some step → AllLead models (take k steps)
  lead_on model [] k step are is = absurd are
  lead_on model (s ∷ []) zero step are is = All-nil (λ (t : Step). FieldHas models IsPlainRelation t.model t.field)
  lead_on model (s ∷ []) (suc k) step are is = absurd cc
  lead_on model (s ∷ next ∷ steps) zero step are is = All-nil (λ (t : Step). FieldHas models IsPlainRelation t.model t.field)
  lead_on model (s ∷ next ∷ steps) (suc k) step are is =
      All-cons (λ (t : Step). FieldHas models IsPlainRelation t.model t.field) s (take k (next ∷ steps)) (plain_relation model next.model s are.1) (lead_on next.model (next ∷ steps) k step are.2 is)

  -- a field that a formula computes
  pub record ComputedAt (at : Step) (formula : Formula) : Type 0 where
    pub field : FieldInfo
    pub is : field_at models at.model at.field ≡ Some field
    pub from : field.origin ≡ origin.Computed formula

  pub computed_at : (at : Step) (formula : Formula) → IsComputedBy models at formula → ComputedAt at formula
  computed_at at formula by = let t = told_and (field_at models at.model at.field) (λ field. field.origin ≡ origin.Computed formula) by in record { field = t.0; is = t.1; from = t.2 }

  -- the steps of a reader lead from row to row
  pub reader-leads : (step : Step) (reader : Reader) → IsReaderOf models step reader → AllLead models reader.front
  reader-leads step reader (formula, computed, depends) =
      let c = computed_at reader.computed formula computed in
      let right = Formula-at models reader.computed.model reader.computed.field c.field formula (Field-at models reader.computed.model reader.computed.field c.field registry c.is) c.from in
      let one = any_one (λ (path : Path). IsStepBehind path.steps reader.front step) formula.depends depends in
      let are = (All-contains (λ (path : Path). AreSteps models reader.computed.model path.steps × (length path.steps ≤ max_path_steps)) formula.depends one.0 right.steps one.1).0 in
      subst (AllLead models) (sym one.2.2) (lead_on reader.computed.model one.0.steps one.2.0 step are one.2.1)

  -- and its field is computed
  pub reader-computes : (step : Step) (reader : Reader) → IsReaderOf models step reader → FieldHas models IsComputedField reader.computed.model reader.computed.field
  reader-computes step reader (formula, computed, depends) =
      let c = computed_at reader.computed formula computed in
      tell_and (field_at models reader.computed.model reader.computed.field) c.field IsComputedField c.is (ap computes c.from)
    where
      computes : Origin → Bool
      computes o = is_computed_from o

-- a plain relation leads on
pub leads-plain : (models : List ModelInfo) (step : Step) → FieldHas models IsPlainRelation step.model step.field → FieldHas models Leads step.model step.field
leads-plain models step has =
    let t = told_and (field_at models step.model step.field) IsPlainRelation has in
    let from = plain_is t.0.origin t.2.0 in
    let leads : Leads t.0 = ap (λ (o : Origin). leads_from o t.0) from ∙ t.2.1 in
    tell_and (field_at models step.model step.field) t.0 Leads t.1 leads

-- a reader that the index gives for a field reads it
pub found_reader : (models : List ModelInfo) (index : tree.BTreeMap ℕ Fields) → IsReaderIndex models index → (step : Step) (readers : List Reader) → readers ≡ readers_at index step → (i : ℕ) (reader : Reader)
    → i < length readers → reader ≡ get_or readers i reader → IsReaderOf models step reader
found_reader models index all step readers is i reader within item =
    let among = subst (λ (r : Reader). Contains readers r) (sym item) (Contains-get_or readers i reader within) in
    (all step reader).0 (subst (λ (l : List Reader). Contains l reader) is among)

-- what the readers of a cell's field give are all that read it
pub readers-all : (models known : List ModelInfo) (index : tree.BTreeMap ℕ Fields) → IsReaderIndex models index → known ≡ models → (tables : Tables) (cell : Cell) (readers : List Reader) → readers ≡ readers_at index (cell_step cell)
    → (other : Cell) → Any (λ reader. ReadsBy (plain_at tables known) cell.id reader other) readers ↔ ReadsIn models tables other cell
readers-all models known index all same tables cell readers is other =
    subst (λ (m : List ModelInfo). Any (λ reader. ReadsBy (plain_at tables m) cell.id reader other) readers ↔ ReadsIn models tables other cell) (sym same)
    (reads-readers models tables readers cell (λ reader. (
      λ among. (all (cell_step cell) reader).0 (subst (λ (l : List Reader). Contains l reader) is among),
      λ reads. subst (λ (l : List Reader). Contains l reader) (sym is) ((all (cell_step cell) reader).1 reads),
    )) other)
