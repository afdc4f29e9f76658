-- The rows of the steps behind, and those before them.
use Rattle.std.proofs.Common.{List, rules, sym, subst}
use Rattle.ob_schema.specs.Models.{FieldHas}
use Rattle.ob_schema.specs.Plain.{plain_at}
use Rattle.ob_schema.specs.declared.info.ModelInfo.{ModelInfo}
use Rattle.ob_trigger.specs.Readers.{IsPlainRelation}
use Rattle.std.proofs.lemmas.Result.{err_from_is_err_and}
use Rattle.ob_trigger.proofs.Asking.{alone_none, alone_then, fault_behind}
use Rattle.ob_trigger.proofs.RowsBefore.{LeadsToSome, lead-behind, lead-first, led-more}
use Rattle.std.specs.Prelude.{Contains, ◌↔◌}
use Rattle.ob_base.specs.declared.id.RecId.{RecId}
use Rattle.ob_trigger.proofs.walking.+rows_to.Goals as goal

pub returns-in_err-only-clause-stays : goal.returns-in_err-only-clause-stays
returns-in_err-only-clause-stays g t c = alone_none _

pub returns-in_default-clause-stays : goal.returns-in_default-clause-stays
returns-in_default-clause-stays g t c = alone_none _

pub rows_to-requires : goal.rows_to-requires
rows_to-requires g t c κs within =
    (search rules, (within.0, (within.1, lead-behind (g.W.Links.registry c.args.worlds.now) c.args.steps.now c.in-Some.behind.now c.in-Some.step.now c.in-Some.ensures.cases.0 c.requires)))

pub rows_before-requires : goal.rows_before-requires
rows_before-requires g t c = subst (λ (m : List ModelInfo). FieldHas m IsPlainRelation c.in-Some.step.now.model c.in-Some.step.now.field) (sym c.in_ok-rows.ensures.stays.same)
    (lead-first (g.W.Links.registry c.args.worlds.now) c.args.steps.now c.in-Some.behind.now c.in-Some.step.now c.in-Some.ensures.cases.0 c.requires)

pub returns-clause-told : goal.returns-clause-told
returns-clause-told g t c = λ sides tells.
    led-more (plain_at sides.before (g.W.Links.registry c.args.worlds.now)) c.args.steps.now c.in-Some.behind.now c.in-Some.step.now c.in_ok-before.before.keys c.in_ok-rows.rows.keys c.args.id c.in-Some.ensures.cases.0
    (c.in_ok-rows.ensures.told sides tells)
    (subst (λ (m : List ModelInfo). (row : RecId) → Contains c.in_ok-before.before.keys row ↔ LeadsToSome (plain_at sides.before m) c.in-Some.step.now c.in_ok-rows.rows.keys row) c.in_ok-rows.ensures.stays.same
    (c.in_ok-before.ensures.told sides (c.in_ok-rows.ensures.stays.kept sides tells)))

pub returns-clause-stays : goal.returns-clause-stays
returns-clause-stays g t c = alone_then _ _ _ c.rows_to.ensures.stays c.rows_before.ensures.stays

pub returns-in_err-before-clause-stays : goal.returns-in_err-before-clause-stays
returns-in_err-before-clause-stays g t c = alone_then _ _ _ c.rows_to.ensures.stays c.rows_before.ensures.stays

pub returns-in_err-before-clause-fault : goal.returns-in_err-before-clause-fault
returns-in_err-before-clause-fault g t c =
    let p = err_from_is_err_and c.from_residual-in_err-before.result c.from_residual-in_err-before.ensures.1 in
    rw (p.1, p.2) (fault_behind g.W.Links.has_failed _ _ c.rows_before.new.worlds c.in_err-before.field-0.0 c.rows_to.ensures.stays.asked c.in_err-before.ensures.fault)
