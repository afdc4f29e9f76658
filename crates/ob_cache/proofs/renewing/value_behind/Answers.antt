use Rattle.std.proofs.Common.{◌≡◌, List, true, ap, subst, sym, ◌∙◌}
use Rattle.std.specs.Prelude.{IsSome, Ok}
use Rattle.ob_base.specs.declared.refusal.BrokenKind.TheVariants as kind
use Rattle.ob_cache.proofs.Filling.{no-fault}
use Rattle.ob_cache.proofs.Unbroken.{check-passes, false-check, unbroken}
use Rattle.ob_change.specs.Changing.{models_of, sides_of}
use Rattle.ob_schema.specs.Broken.{IsBroken, Sound}
use Rattle.ob_schema.specs.Models.{IsRegistry, field_at, is_computed_from}
use Rattle.ob_schema.specs.Tables.{Fits, Standing}
use Rattle.ob_schema.specs.Val.{val}
use Rattle.ob_schema.specs.declared.info.FieldInfo.{FieldInfo}
use Rattle.ob_schema.specs.declared.info.ModelInfo.{ModelInfo}
use Rattle.ob_tables.proofs.CallerLemmas.{there_is, told_and}
use Rattle.ob_tables.specs.Faults.{HasNoValue}
use Rattle.ob_cache.proofs.renewing.value_behind.Goals as goal

pub value-requires : goal.value-requires
value-requires c =
    let models = models_of c.args.change in
    let cell = c.args.cell in
    let info = told_and (field_at models cell.model cell.field) (λ (i : FieldInfo). is_computed_from i.origin ≡ true) c.requires.cell.1 in
    record { field = subst (λ (m : List ModelInfo). IsSome (field_at m cell.model cell.field)) (sym (ap (λ (s : Standing). s.models) c.requires.source ∙ c.args.change.behind_over)) (there_is (field_at models cell.model cell.field) info.0 info.1) }

pub returns-then-is_false_check-clause-fault : goal.returns-then-is_false_check-clause-fault
returns-then-is_false_check-clause-fault c =
    let models = models_of c.args.change in
    let t = (sides_of c.args.change).behind in
    let cell = c.args.cell in
    let v = c.in-Ok.value in
    let is = subst (λ (m : List ModelInfo). val m t cell ≡ Ok v) c.args.change.behind_over (subst (λ (s : Standing). val s.models s.tables cell ≡ Ok v) c.requires.source c.in-Ok.ensures.value) in
    subst (λ (m : List ModelInfo). IsBroken m t (record { kind = kind.Check; cell = cell })) (sym c.args.change.behind_over)
    (c.requires.tied, false-check models t cell v is c.requires.cell.0 (c.is_false_check.ensures.0 c.if-is_false_check.true))

pub returns-else-is_false_check-clause-unbroken : goal.returns-else-is_false_check-clause-unbroken
returns-else-is_false_check-clause-unbroken c =
    let models = models_of c.args.change in
    let t = (sides_of c.args.change).behind in
    let cell = c.args.cell in
    let v = c.in-Ok.value in
    let is = subst (λ (m : List ModelInfo). val m t cell ≡ Ok v) c.args.change.behind_over (subst (λ (s : Standing). val s.models s.tables cell ≡ Ok v) c.requires.source c.in-Ok.ensures.value) in
    let registry = subst IsRegistry c.args.change.behind_over c.fit_together.ensures.registry in
    let fits = subst (λ (m : List ModelInfo). Fits m t) c.args.change.behind_over c.fit_together.ensures.fits in
    record {
      value = is;
      passes = unbroken models t cell v is (c.values_from_scratch.ensures.is_val models t registry fits c.requires.tied) (check-passes models t cell v is c.is_false_check.result c.if-is_false_check.false c.is_false_check.ensures);
    }

pub own_fault-requires-clause-source : goal.own_fault-requires-clause-source
own_fault-requires-clause-source c = c.value.ensures.same ∙ c.requires.source

pub own_fault-requires-clause-unsound : goal.own_fault-requires-clause-unsound
own_fault-requires-clause-unsound c =
    let models = models_of c.args.change in
    let t = (sides_of c.args.change).behind in
    let cell = c.args.cell in
    let info = told_and (field_at models cell.model cell.field) (λ (i : FieldInfo). is_computed_from i.origin ≡ true) c.requires.cell.1 in
    let registry = subst IsRegistry c.args.change.behind_over c.fit_together.ensures.registry in
    let fits = subst (λ (m : List ModelInfo). Fits m t) c.args.change.behind_over c.fit_together.ensures.fits in
    let lacks = subst (λ (m : List ModelInfo). HasNoValue m t cell c.in-Err.fault) c.args.change.behind_over (subst (λ (s : Standing). HasNoValue s.models s.tables cell c.in-Err.fault) c.requires.source c.in-Err.ensures.fault) in
    subst (λ (m : List ModelInfo). Sound m t → ⊥) (sym c.args.change.behind_over)
    (λ sound. c.in_default.not-NoMemory (no-fault models t cell c.in-Err.fault c.requires.cell.0
    (c.sound_values.ensures.valued models t registry (record { fits = fits; sound = sound }) cell c.requires.cell.0 (there_is (field_at models cell.model cell.field) info.0 info.1)) lacks))
