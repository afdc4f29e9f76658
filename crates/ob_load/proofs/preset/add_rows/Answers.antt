-- Group by group.
use Rattle.std.proofs.Common.{◌≡◌, ◌≤◌, ◌++◌, List, length, map, sym, ap, subst, refl, ◌∙◌, arith}
use Rattle.std.specs.Prelude.{All, slice_get, Some}
use Rattle.std.specs.List.{enumerate_from}
use Rattle.std.proofs.lemmas.List.{length-map}
use Rattle.std.proofs.lemmas.List.Elements.{All-push}
use Rattle.toml.specs.Data.{Data}
use Rattle.toml.specs.View.{view}
use Rattle.ob_load.specs.Rooms.{FitsAnywhere}
use Rattle.ob_load.proofs.AccessSteps.{seen-at}
use Rattle.ob_load.proofs.GroupRowSteps.{group-row-end, group-row-next, numbered_row}
use Rattle.ob_load.proofs.preset.add_rows.Goals as goal

pub loop-number-init : goal.loop-number-init
loop-number-init c = (refl, λ held. held)

pub loop-number-preserved : goal.loop-number-preserved
loop-number-preserved c =
    let models = c.args.schema.now in
    let entries = c.listed_at-entries.result.now in
    let entry = c.index-entries-number.result in
    let n = c.loop-number.number in
    let rows = c.loop-number.rows in
    let row = c.in_ok-group_row.field-0 in
    let at : slice_get (map view entries) n ≡ Some (view entry) = seen-at view entries n entry c.loop-number-test.true c.index-entries-number.is in (
      group-row-next models c.args.model c.args.owner.now (map view entries) n (view entry) rows c.push.new.self _ row at c.in_ok-push.ensures.ok c.in_ok-group_row.ensures.made c.loop-number.invariant.0,
      λ held. subst (All (FitsAnywhere models)) (sym c.in_ok-push.ensures.ok) (All-push (FitsAnywhere models) rows row (c.loop-number.invariant.1 held) c.in_ok-group_row.ensures.fit),
    )

pub returns-clause-made : goal.returns-clause-made
returns-clause-made c =
    let models = c.args.schema.now in
    let entries = c.listed_at-entries.result.now in
    let n = c.loop-number.number in
    let high : length (map view entries) ≤ n = let e = length-map entries view in omega arith in
    group-row-end models c.args.model c.args.owner.now (map view entries) n c.loop-number.rows (c.args.rows.now ++ map (numbered_row models c.args.model c.args.owner.now) (enumerate_from 0 (map view entries))) high c.loop-number.invariant.0
    ∙ ap (λ (l : List Data). c.args.rows.now ++ map (numbered_row models c.args.model c.args.owner.now) (enumerate_from 0 l)) c.listed_at-entries.ensures
