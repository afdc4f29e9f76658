use Rattle.std.proofs.Common.{List, length, Ok, Option, subst, sym, ◌∙◌, ◌≡◌}
use Rattle.std.specs.Prelude.{All, IfOk, IfSome, None}
use Rattle.std.proofs.lemmas.List.Elements.{All-from_all_within, AllWithin-none, AllWithin-upto}
use Rattle.std.proofs.lemmas.Option.{MatchOption-at_none}
use Rattle.ob_base.specs.declared.id.Cell.{Cell}
use Rattle.ob_base.specs.declared.id.RecId.{RecId}
use Rattle.ob_base.specs.declared.value.Value.{Value}
use Rattle.ob_change.specs.Changing.{models_of}
use Rattle.ob_expr.specs.Meaning.{row_at}
use Rattle.ob_expr.specs.declared.typed.Link.{Link}
use Rattle.ob_schema.specs.Val.{val}
use Rattle.ob_cache.specs.Failing.{HasAlong}
use Rattle.ob_cache.proofs.OwnFaults.{FromTarget, link-along, no-links, within-more}
use Rattle.ob_cache.proofs.failing.+lacking_along.Goals as goal

pub returns-in_default-clause-along : goal.returns-in_default-clause-along
returns-in_default-clause-along t c =
    let models = models_of c.args.change in
    let tables = c.args.change.behind.now.tables in
    let row = row_at c.args.model c.args.id in
    let empty = no-links c.args.links.now (MatchOption-at_none _ _ c.in_default.is c.split_first.ensures.cases) in
    subst (λ (l : List Link). IfOk c.lacking_at.result (λ (told : Option Cell). told ≡ None → HasAlong models tables row l c.args.field)) (sym empty) c.lacking_at.ensures.along

pub loop-target-init : goal.loop-target-init
loop-target-init t c = record {
  same = c.value_at.ensures.same;
  along = AllWithin-none (FromTarget (models_of c.args.change) c.args.change.behind.now.tables c.in-Some.link.now c.in-Some.rest.now c.args.field) c.targets_of-target-items.result.now 0;
}

pub loop-target-preserved : goal.loop-target-preserved
loop-target-preserved t c =
    let P = FromTarget (models_of c.args.change) c.args.change.behind.now.tables c.in-Some.link.now c.in-Some.rest.now c.args.field in
    let none : RecId = record { 0 = 0 } in
    record {
      same = c.lacking_along.ensures.same ∙ c.loop-target.invariant.same;
      along = within-more P c.targets_of-target-items.result.now c.loop-target.target-index none c.loop-target-test.true c.loop-target.invariant.along (c.in_ok-other.ensures.along c.in_default-3.is);
    }

pub returns-clause-along : goal.returns-clause-along
returns-clause-along t c =
    let models = models_of c.args.change in
    let tables = c.args.change.behind.now.tables in
    let row = row_at c.args.model c.args.id in
    let link = c.in-Some.link.now in
    let rest = c.in-Some.rest.now in
    let v = c.in-Some-2.value in
    let is = subst (λ (o : Option Value). IfSome o (λ w. val models tables (record { model = c.args.model; id = c.args.id; field = link.field }) ≡ Ok w)) c.in-Some-2.is c.in_ok-value.ensures.value in
    let P = FromTarget models tables link rest c.args.field in
    let items = c.targets_of-target-items.result.now in
    let all : All P items = All-from_all_within P items (AllWithin-upto P items 0 c.loop-target.target-index (length items) c.loop-target-test.false c.loop-target.invariant.along) in
    λ none. subst (λ (l : List Link). HasAlong models tables row l c.args.field) (sym c.in-Some.ensures.cases.0)
    (link-along models tables row link rest c.args.field v is (subst (All P) c.targets_of-target-items.ensures.same all))
