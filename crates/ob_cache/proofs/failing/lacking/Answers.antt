use Rattle.std.proofs.Common.{List, refl, subst, sym, ◌∙◌}
use Rattle.std.specs.Prelude.{All}
use Rattle.std.proofs.lemmas.List.Elements.{All-from_all_within, AllWithin-none, AllWithin-upto}
use Rattle.ob_base.specs.declared.id.FieldNo.{FieldNo}
use Rattle.ob_change.specs.Changing.{models_of}
use Rattle.ob_expr.specs.Meaning.{row_of}
use Rattle.ob_expr.specs.Reads.{IsAlongAny}
use Rattle.ob_expr.specs.Route.{Route}
use Rattle.ob_expr.specs.declared.typed.Link.{Link}
use Rattle.ob_cache.specs.Failing.{HasAlong, HasRead, held_in}
use Rattle.ob_cache.proofs.OwnFaults.{OnRoute, routes-along, within-read}
use Rattle.ob_cache.proofs.failing.lacking.Goals as goal

pub loop-path-init : goal.loop-path-init
loop-path-init c = record {
  same = refl;
  along = AllWithin-none (OnRoute (models_of c.args.change) c.args.change.behind.now.tables (row_of c.args.cell)) c.as_slice-path-items.result.now 0;
}

pub lacking_along-requires : goal.lacking_along-requires
lacking_along-requires c = record { source = c.loop-path.invariant.same ∙ c.requires.source }

pub loop-path-preserved : goal.loop-path-preserved
loop-path-preserved c =
    let models = models_of c.args.change in
    let t = c.args.change.behind.now.tables in
    let row = row_of c.args.cell in
    let route = c.path-item.result in
    let along = c.in_ok-other.ensures.along c.in_default.is in
    let on_links = subst (λ (l : List Link). HasAlong models t row l c.field-field.result) c.links-links.ensures along in
    let on : OnRoute models t row route = subst (λ (f : FieldNo). HasAlong models t row route.links f) c.field-field.ensures on_links in
    record {
      same = c.lacking_along.ensures.same ∙ c.loop-path.invariant.same;
      along = within-read (OnRoute models t row) c.as_slice-path-items.result.now c.loop-path.path-index route c.loop-path-test.true c.path-item.is c.loop-path.invariant.along on;
    }

pub returns-clause-read : goal.returns-clause-read
unfolding HasRead
returns-clause-read c =
    let models = models_of c.args.change in
    let t = c.args.change.behind.now.tables in
    let row = row_of c.args.cell in
    let routes = c.as_slice-path-items.result.now in
    let P = OnRoute models t row in
    let all : All P routes = All-from_all_within P routes (AllWithin-upto P routes 0 c.loop-path.path-index _ c.loop-path-test.false c.loop-path.invariant.along) in
    let listed = c.as_slice-path-items.ensures.value ∙ c.in_ok-paths.ensures in
    λ none other along. routes-along models t row routes all other (subst (λ (l : List Route). IsAlongAny (held_in models t) row l other) (sym listed) along)

pub returns-clause-same : goal.returns-clause-same
returns-clause-same c = c.loop-path.invariant.same
