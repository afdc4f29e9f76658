use Rattle.std.proofs.Common.{◌∙◌}
use Rattle.ob_cache.proofs.CallerLemmas.{stays-then}
use Rattle.ob_orm.proofs.TouchedRules.{tested-admits, tested-causes, tested-denies, tested-known}
use Rattle.ob_orm.proofs.touching.test_touched.Goals as goal

pub test_rules-requires-clause-known : goal.test_rules-requires-clause-known
test_rules-requires-clause-known g c =
    tested-known _ _ _ _ c.rows_there.ensures.same c.as_slice.result.now c.args.rows.now.keys c.in_ok-there.there.items c.as_slice-2.result.now (c.as_slice.ensures.value ∙ c.in_ok-rows.ensures) c.as_slice-2.ensures.value
    c.in_ok-there.ensures.told

pub returns-clause-admits : goal.returns-clause-admits
returns-clause-admits g c =
    tested-admits _ _ _ _ c.rows_there.ensures.same c.as_slice.result.now c.args.rows.now.keys c.in_ok-there.there.items c.as_slice-2.result.now (c.as_slice.ensures.value ∙ c.in_ok-rows.ensures) c.as_slice-2.ensures.value
    c.in_ok-there.ensures.told c.args.by.now c.args.op c.test_rules.result c.test_rules.ensures.admits

pub returns-clause-denies : goal.returns-clause-denies
returns-clause-denies g c =
    tested-denies _ _ _ _ c.rows_there.ensures.same c.as_slice.result.now c.args.rows.now.keys c.in_ok-there.there.items c.as_slice-2.result.now (c.as_slice.ensures.value ∙ c.in_ok-rows.ensures) c.as_slice-2.ensures.value
    c.in_ok-there.ensures.told c.args.by.now c.args.op _ _ _ c.rows_there.ensures.count c.test_rules.result c.test_rules.ensures.denies

pub returns-clause-causes : goal.returns-clause-causes
returns-clause-causes g c =
    tested-causes c.as_slice.result.now c.args.rows.now.keys c.in_ok-there.there.items c.as_slice-2.result.now (c.as_slice.ensures.value ∙ c.in_ok-rows.ensures) c.as_slice-2.ensures.value
    c.in_ok-there.ensures.among c.args.op _ _ _ c.rows_there.ensures.count c.test_rules.result c.test_rules.ensures.causes

pub returns-clause-same : goal.returns-clause-same
returns-clause-same g c = stays-then _ _ _ _ _ _ c.rows_there.ensures.same c.test_rules.ensures.same
