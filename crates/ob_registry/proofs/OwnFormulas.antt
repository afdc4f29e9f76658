-- The formula that stands at the places of a field, and its paths: those on which the field depends.
use Rattle.std.proofs.Common.{◌≡◌, ◌-◌, List, get_or, Option, Some, None, refl, sym, ap, subst, ◌∙◌, Vec}
use Rattle.std.specs.Prelude.{◌↔◌, Contains, IsSomeAnd}
use Rattle.std.specs.declared.alloc.Global.{Global}
use Rattle.std.proofs.lemmas.Bool.{false≢true}
use Rattle.std.proofs.lemmas.Option.{option_and_then_some}
use Rattle.ob_definition.specs.Gathered.{Gathered}
use Rattle.ob_definition.specs.Members.{Member}
use Rattle.ob_registry.specs.declared.formulas.DraftFormula.{DraftFormula}
use Rattle.ob_schema.specs.declared.info.Step.{Step}
use Rattle.ob_schema.specs.Built.{numbered}
use Rattle.ob_schema.specs.Formulas.{Place}
use Rattle.ob_registry.specs.Graphs.{AreFormulas, formula_in}
use Rattle.ob_schema.specs.Strata.{IsMember, IsPathOf}
use Rattle.ob_registry.specs.Telling.{IsFormulaOf, steps_in}
use Rattle.ob_registry.proofs.Readings.{at_some, numbered_same}

-- where the formula of a field stands
abbrev place_at : List Gathered → Step → Member → Place
place_at models at m = record { models = models; number = at.model; member = m }

-- what stands at the places of a step is the formula of the field
pub formula-read : (formulas : List (Vec (Option DraftFormula) Global)) (step : Step) (found got : Option DraftFormula) (row : Vec (Option DraftFormula) Global)
    → formula_in formulas step ≡ Some found → row ≡ get_or formulas (step.model.0 - 1) row → got ≡ get_or row.items (step.field.0 - 1) got → formula_in formulas step ≡ Some got
formula-read formulas step found got row is of-model of-field =
    option_and_then_some (λ (own : Vec (Option DraftFormula) Global). numbered own.items step.field.0) (numbered formulas step.model.0) found is
    (λ own known there.
    let same : row ≡ own = numbered_same formulas step.model.0 own row known of-model in
    let here : got ≡ found =
    numbered_same own.items step.field.0 found got there (subst (λ (r : Vec (Option DraftFormula) Global). got ≡ get_or r.items (step.field.0 - 1) got) same of-field) in
    is ∙ ap (λ (o : Option DraftFormula). Some o) (sym here))

-- there is a formula, or none is known to be there
pub some-formula : (P : Option DraftFormula → Type 0) (o : Option (Option DraftFormula)) → IsSomeAnd o P → (found : Option DraftFormula) × (o ≡ Some found)
some-formula P None is = absurd is
some-formula P (Some found) is = (found, refl)

-- the paths of a field are those of its formula
pub paths-of : (models : List Gathered) (formulas : List (Vec (Option DraftFormula) Global)) → AreFormulas models formulas → (own : Step) (g : Gathered) (m : Member) → IsMember models own g m
    → (found : Option DraftFormula) → formula_in formulas own ≡ Some found → (path : List Step) → IsPathOf models own path ↔ IsSomeAnd found (λ f. Contains (steps_in f.depends) path)
paths-of models formulas are own g m is found here path = (to found of, from found (of g m is))
  where
    of : (h : Gathered) (n : Member) → IsMember models own h n → IsFormulaOf (place_at models own n) found
    of h n member = at_some (formula_in formulas own) (IsFormulaOf (place_at models own n)) found here (are.each own h n member)

    to : (o : Option DraftFormula) → ((h : Gathered) (n : Member) → IsMember models own h n → IsFormulaOf (place_at models own n) o) → IsPathOf models own path
        → IsSomeAnd o (λ f. Contains (steps_in f.depends) path)
    to None by p = absurd (false≢true (sym (by p.model p.member p.is_member) ∙ p.depends.0))
    to (Some f) by p = ((by p.model p.member p.is_member).depends path).1 p.depends

    from : (o : Option DraftFormula) → IsFormulaOf (place_at models own m) o → IsSomeAnd o (λ f. Contains (steps_in f.depends) path) → IsPathOf models own path
    from None by among = absurd among
    from (Some f) by among = record { model = g; member = m; is_member = is; depends = (by.depends path).0 among }
