-- Entry by entry, each behind those that fit.
use Rattle.std.proofs.Common.{◌≡◌, ◌≤◌, [], length, Some, Err, map, refl, sym, ap, ◌∙◌, arith}
use Rattle.std.specs.Prelude.{codes, slice_get}
use Rattle.std.proofs.lemmas.List.{length-map}
use Rattle.std.proofs.lemmas.Result.{err_from_is_err_and}
use Rattle.toml.specs.View.{table_view, view}
use Rattle.ob_load.specs.Access.{entries_of}
use Rattle.ob_load.specs.AccessFaults.{first_fault, line_fault}
use Rattle.ob_load.specs.declared.fault.LoadFault.TheVariants as load
use Rattle.ob_load.proofs.AccessSteps.{seen-at}
use Rattle.ob_load.proofs.Entering.{line-added, line-faulty, lines-fit, lines-grow, lines-none}
use Rattle.ob_load.proofs.Told.{err_is}
use Rattle.ob_load.proofs.scope.Scope.add_lines.Goals as goal

pub loop-number-init : goal.loop-number-init
loop-number-init c = lines-none c.args.self.now.schema.now c.args.self.now.groups.now c.args.self.now.owner.now c.args.declared.now (map view c.listed_at-entries.result.now)

pub loop-number-preserved : goal.loop-number-preserved
loop-number-preserved c =
    let models = c.args.self.now.schema.now in
    let known = c.args.self.now.groups.now in
    let owner = c.args.self.now.owner.now in
    let values = c.listed_at-entries.result.now in
    let value = c.index-entries-number.result in
    let n = c.loop-number.number in
    let d = c.loop-number.declared in
    let at : slice_get (map view values) n ≡ Some (view value) = seen-at view values n value c.loop-number-test.true c.index-entries-number.is in
    line-added models known owner c.args.declared.now (map view values) n (view value) at d _ c.loop-number.invariant c.in_ok-line_from.field-0 c.in_ok-line_from.ensures.fits c.in_ok-line_from.ensures.made c.in_ok-line_from.ensures.there
    refl refl c.in_ok-push.ensures.ok refl

pub returns-in_err-line_from-clause-fault : goal.returns-in_err-line_from-clause-fault
returns-in_err-line_from-clause-fault c = λ faulty same.
    let models = c.args.self.now.schema.now in
    let known = c.args.self.now.groups.now in
    let owner = c.args.self.now.owner.now in
    let values = c.listed_at-entries.result.now in
    let value = c.index-entries-number.result in
    let n = c.loop-number.number in
    let d = c.loop-number.declared in
    let at : slice_get (map view values) n ≡ Some (view value) = seen-at view values n value c.loop-number-test.true c.index-entries-number.is in
    let p = err_from_is_err_and c.from_residual.result c.from_residual.ensures.1 in
    let told : c.in_err-line_from.field-0.0 ≡ load.Module faulty = sym p.2 ∙ err_is p.0 (load.Module faulty) (sym p.1 ∙ same) in
    ap (first_fault (line_fault models known owner) []) (sym c.listed_at-entries.ensures)
    ∙ line-faulty models known owner c.args.declared.now (map view values) n (view value) at d d c.loop-number.invariant faulty (c.in_err-line_from.ensures.fault faulty (ap Err told))

pub returns-clause-fits : goal.returns-clause-fits
returns-clause-fits c =
    let scope = c.args.self.now in
    let values = c.listed_at-entries.result.now in
    let high : length (map view values) ≤ c.loop-number.number = let e = length-map values view in omega arith in
    lines-fit scope.schema.now scope.groups.now scope.owner.now c.args.declared.now (map view values) c.loop-number.number c.loop-number.declared high (entries_of (codes "access") (table_view c.args.document.now))
    c.listed_at-entries.ensures c.loop-number.invariant

pub returns-clause-grows : goal.returns-clause-grows
returns-clause-grows c =
    let scope = c.args.self.now in
    let values = c.listed_at-entries.result.now in
    let high : length (map view values) ≤ c.loop-number.number = let e = length-map values view in omega arith in
    lines-grow scope.schema.now scope.groups.now scope.owner.now c.args.declared.now (map view values) c.loop-number.number c.loop-number.declared high (entries_of (codes "access") (table_view c.args.document.now))
    c.listed_at-entries.ensures c.loop-number.invariant
