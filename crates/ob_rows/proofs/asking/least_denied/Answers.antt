use Rattle.std.proofs.Common.{◌≡◌, ◌+◌, ◌++◌, ◌∷◌, [], List, get_or, refl, take, rules, subst, sym, true}
use Rattle.std.proofs.lemmas.List.{take_all, take_more}
use Rattle.ob_access.specs.Policies.{IsPolicyOver}
use Rattle.ob_base.specs.declared.id.RowKey.{RowKey}
use Rattle.ob_cache.proofs.CallerLemmas.{stays-then}
use Rattle.ob_rows.proofs.LeastDenied.{testing-all, testing-more, testing-none}
use Rattle.ob_rows.proofs.MissingRows.{told-sooner}
use Rattle.ob_rows.proofs.asking.least_denied.Goals as goal
use Rattle.ob_schema.specs.Facts.{Told}
use Rattle.ob_schema.specs.declared.info.ModelInfo.{ModelInfo}

abbrev none : RowKey
none = record { model = record { 0 = 0 }; id = record { 0 = 0 } }

pub loop-row-init : goal.loop-row-init
loop-row-init g c = (testing-none (g.K.Keeper.kept c.args.engine.now.keeper.now) c.args.engine.now.held c.args.by.now c.args.op, search rules, refl)

pub denier_of-requires-clause-policy : goal.denier_of-requires-clause-policy
denier_of-requires-clause-policy g c = subst (λ (ms : List ModelInfo). IsPolicyOver ms c.args.by.now.policy.now) (sym c.loop-row.invariant.0.same.models) c.requires.policy

pub denier_of-requires-clause-known : goal.denier_of-requires-clause-known
denier_of-requires-clause-known g c =
    let row = get_or c.args.rows.now c.loop-row.row-index none in
    told-sooner _ _ _ _ c.loop-row.invariant.0.same (λ (told : Told). told.knows row.model row.id ≡ true) (λ told tells. c.requires.known told tells c.loop-row.row-index none c.loop-row-test.true)

pub returns-in_err-rule-clause-same : goal.returns-in_err-rule-clause-same
returns-in_err-rule-clause-same g c = stays-then _ _ _ _ _ _ c.loop-row.invariant.0.same c.denier_of.ensures.same

pub loop-row-preserved : goal.loop-row-preserved
loop-row-preserved g c =
    let rows = c.args.rows.now in let i = c.loop-row.row-index in let row = get_or rows i none in
    let more : take (i + 1) rows ≡ take i rows ++ row ∷ [] = take_more rows i none c.loop-row-test.true in (
      rw (more, c.lesser-least.ensures) (testing-more _ _ c.args.by.now c.args.op _ _ (take i rows) c.loop-row.least c.loop-row.invariant.0 _ _ row c.in_ok-rule.rule c.denier_of.ensures.same c.in_ok-rule.ensures.told),
      search rules,
      search rules,
    )

pub returns-clause-told : goal.returns-clause-told
returns-clause-told g c = (testing-all _ _ _ _ _ _ _ _ c.loop-row.invariant.0 c.args.rows.now (take_all c.loop-row.row-index c.args.rows.now c.loop-row-test.false)).told

pub returns-clause-among : goal.returns-clause-among
returns-clause-among g c = (testing-all _ _ _ _ _ _ _ _ c.loop-row.invariant.0 c.args.rows.now (take_all c.loop-row.row-index c.args.rows.now c.loop-row-test.false)).among
