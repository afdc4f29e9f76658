-- The rows from which steps lead to a row, a step at a time.
use Rattle.std.proofs.Common.{◌≡◌, ◌⊎◌, ◌↔◌, ◌<◌, ◌+◌, inl, inr, ℕ, List, [], ◌∷◌, length, get_or, take, Option, Some, refl, sym, subst, ◌∙◌}
use Rattle.std.specs.Prelude.{Contains}
use Rattle.std.proofs.lemmas.List.Elements.{All-head, All-tail}
use Rattle.ob_base.specs.declared.id.Cell.{Cell}
use Rattle.ob_base.specs.declared.id.RecId.{RecId}
use Rattle.ob_base.specs.declared.value.Value.{Value}
use Rattle.ob_schema.specs.Links.{leading_to}
use Rattle.ob_schema.specs.Models.{FieldHas, field_at}
use Rattle.ob_schema.specs.Plain.{plain_at}
use Rattle.ob_schema.specs.ReadCells.{cell_at, targets_at}
use Rattle.ob_schema.specs.Tables.{Tables}
use Rattle.ob_schema.specs.declared.info.FieldInfo.{FieldInfo}
use Rattle.ob_schema.specs.declared.info.ModelInfo.{ModelInfo}
use Rattle.ob_schema.specs.declared.info.Step.{Step}
use Rattle.ob_schema.proofs.CallerLemmas.{contains-cases, contains-first, contains-none}
use Rattle.ob_trigger.specs.Readers.{AllLead, IsLed, IsPlainRelation}
use Rattle.ob_trigger.proofs.Known.{plain_is, told_and}
use Rattle.ob_trigger.proofs.Lists.{contains-more}
use Rattle.ob_trigger.proofs.RowsThere.{leading-names}

-- a row's cell of a step leads to one of some rows
abbrev pub LeadsToSome : (Cell → Option Value) → Step → List RecId → RecId → Type 0
LeadsToSome held step targets row = (target : RecId) × Contains targets target × Contains (targets_at held (cell_at step row)) target

pub before_none : (held : Cell → Option Value) (step : Step) (keys : List RecId) → keys ≡ [] → (row : RecId) → Contains keys row ↔ LeadsToSome held step [] row
before_none held step keys empty row = (
  λ c. absurd (contains-none row (subst (λ (l : List RecId). Contains l row) empty c)),
  λ some. absurd (contains-none some.0 some.1),
)

-- the rows whose cell leads to one more
pub before_more : (models : List ModelInfo) (tables : Tables) (step : Step) → FieldHas models IsPlainRelation step.model step.field → (targets : List RecId) (i : ℕ) (d : RecId) (old new ids shown : List RecId)
    → i < length targets → shown ≡ ids → ids ≡ leading_to models tables step.model step.field (get_or targets i d)
    → ((row : RecId) → Contains new row ↔ (Contains old row ⊎ Contains shown row))
    → ((row : RecId) → Contains old row ↔ LeadsToSome (plain_at tables models) step (take i targets) row) → (row : RecId) → Contains new row ↔ LeadsToSome (plain_at tables models) step (take (i + 1) targets) row
before_more models tables step has targets i d old new ids shown within same led added before row = (to, from)
  where
    t : (f : FieldInfo) × (field_at models step.model step.field ≡ Some f) × IsPlainRelation f
    t = told_and (field_at models step.model step.field) IsPlainRelation has

    leads : Contains shown row ↔ Contains (targets_at (plain_at tables models) (cell_at step row)) (get_or targets i d)
    leads =
        let names = leading-names models tables step.model step.field t.0 (get_or targets i d) row t.1 (plain_is t.0.origin t.2.0) in
        let is = same ∙ led in
        (λ c. names.0 (subst (λ (l : List RecId). Contains l row) is c), λ c. subst (λ (l : List RecId). Contains l row) (sym is) (names.1 c))

    to : Contains new row → LeadsToSome (plain_at tables models) step (take (i + 1) targets) row
    to c = elim ((added row).0 c) [
      | inl was ↦ (let some = (before row).0 was in (some.0, (contains-more targets i d some.0 within).1 (inl some.1), some.2))
      | inr among ↦ (get_or targets i d, (contains-more targets i d (get_or targets i d) within).1 (inr refl), leads.0 among)
    ]

    from : LeadsToSome (plain_at tables models) step (take (i + 1) targets) row → Contains new row
    from (target, among, names) = elim ((contains-more targets i d target within).0 among) [
      | inl front ↦ (added row).1 (inl ((before row).1 (target, front, names)))
      | inr is ↦ (added row).1 (inr (leads.1 (subst (λ (z : RecId). Contains (targets_at (plain_at tables models) (cell_at step row)) z) (sym is) names)))
    ]

-- no steps lead from a row to itself alone
pub led-none : (held : Cell → Option Value) (steps : List Step) (keys : List RecId) (id : RecId) → steps ≡ [] → keys ≡ id ∷ [] → (row : RecId) → Contains keys row ↔ IsLed held steps row id
led-none held steps keys id none is row = (
  λ c. subst (λ (l : List Step). IsLed held l row id) (sym none) (alone (subst (λ (l : List RecId). Contains l row) is c)),
  λ led. let same : row ≡ id = subst (λ (l : List Step). IsLed held l row id) none led in
      subst (λ (l : List RecId). Contains l row) (sym is) (subst (λ (z : RecId). Contains (id ∷ []) z) (sym same) (contains-first id [])),
)
  where
    alone : Contains (id ∷ []) row → row ≡ id
    alone c = elim (contains-cases id [] row c) [ inl same ↦ sym same | inr none ↦ absurd (contains-none row none) ]

-- one step more before steps
pub led-more : (held : Cell → Option Value) (steps behind : List Step) (step : Step) (keys rows : List RecId) (id : RecId) → steps ≡ step ∷ behind → ((row : RecId) → Contains rows row ↔ IsLed held behind row id)
    → ((row : RecId) → Contains keys row ↔ LeadsToSome held step rows row) → (row : RecId) → Contains keys row ↔ IsLed held steps row id
led-more held steps behind step keys rows id is led before row = (
  λ c. let some = (before row).0 c in subst (λ (l : List Step). IsLed held l row id) (sym is) (some.0, some.2, (led some.0).0 some.1),
  λ leads. (let on : IsLed held (step ∷ behind) row id = subst (λ (l : List Step). IsLed held l row id) is leads in (before row).1 (on.0, (led on.0).1 on.2, on.1)),
)

-- all lead: the first and those behind it
pub lead-first : (models : List ModelInfo) (steps behind : List Step) (step : Step) → steps ≡ step ∷ behind → AllLead models steps → FieldHas models IsPlainRelation step.model step.field
lead-first models steps behind step is all = All-head (λ (s : Step). FieldHas models IsPlainRelation s.model s.field) step behind (subst (AllLead models) is all)

pub lead-behind : (models : List ModelInfo) (steps behind : List Step) (step : Step) → steps ≡ step ∷ behind → AllLead models steps → AllLead models behind
lead-behind models steps behind step is all = All-tail (λ (s : Step). FieldHas models IsPlainRelation s.model s.field) step behind (subst (AllLead models) is all)
