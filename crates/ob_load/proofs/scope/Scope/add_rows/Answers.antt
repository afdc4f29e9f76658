-- Entry by entry, each behind those that fit.
use Rattle.std.proofs.Common.{◌≡◌, ◌≤◌, ◌++◌, ◌∷◌, [], ℕ, length, List, None, Some, Err, map, sym, ap, subst, ◌∙◌, arith}
use Rattle.std.specs.Prelude.{codes, slice_get}
use Rattle.std.proofs.lemmas.List.{length-map}
use Rattle.std.proofs.lemmas.Result.{err_from_is_err_and}
use Rattle.toml.specs.View.{table_view, view}
use Rattle.ob_load.specs.Access.{entries_of}
use Rattle.ob_load.specs.AccessFaults.{first_fault, form_fault, in_entry}
use Rattle.ob_load.specs.Preset.{Ref, row_from}
use Rattle.ob_load.specs.RowFaults.{row_fault, row_fits}
use Rattle.ob_load.specs.Rooms.{IsGivenRow}
use Rattle.ob_load.specs.declared.fault.LoadFault.TheVariants as load
use Rattle.ob_load.proofs.AccessSteps.{seen-at}
use Rattle.ob_load.proofs.Bringing.{rows-added, rows-brought, rows-faulty, rows-fit, rows-named, rows-none}
use Rattle.ob_load.proofs.Told.{err_is}
use Rattle.ob_load.proofs.scope.Scope.add_rows.Goals as goal

pub loop-number-init : goal.loop-number-init
loop-number-init c = rows-none c.args.self.now.schema.now c.args.self.now.groups.now c.args.self.now.owner.now c.args.names.now c.args.brought.now (map view c.listed_at-entries.result.now)

pub returns-clause-fits : goal.returns-clause-fits
returns-clause-fits c =
    let scope = c.args.self.now in
    let values = c.listed_at-entries.result.now in
    let high : length (map view values) ≤ c.loop-number.number = let e = length-map values view in omega arith in
    rows-fit scope.schema.now scope.groups.now scope.owner.now c.args.names.now c.args.brought.now (map view values) c.loop-number.number c.loop-number.names c.loop-number.brought c.loop-number.invariant high
    (entries_of (codes "row") (table_view c.args.document.now)) c.listed_at-entries.ensures

pub returns-clause-named : goal.returns-clause-named
returns-clause-named c =
    let scope = c.args.self.now in
    let values = c.listed_at-entries.result.now in
    let high : length (map view values) ≤ c.loop-number.number = let e = length-map values view in omega arith in
    rows-named scope.schema.now scope.groups.now scope.owner.now c.args.names.now c.args.brought.now (map view values) c.loop-number.number c.loop-number.names c.loop-number.brought c.loop-number.invariant high
    (entries_of (codes "row") (table_view c.args.document.now)) c.listed_at-entries.ensures

pub returns-clause-brought : goal.returns-clause-brought
returns-clause-brought c =
    let scope = c.args.self.now in
    let values = c.listed_at-entries.result.now in
    let high : length (map view values) ≤ c.loop-number.number = let e = length-map values view in omega arith in
    rows-brought scope.schema.now scope.groups.now scope.owner.now c.args.names.now c.args.brought.now (map view values) c.loop-number.number c.loop-number.names c.loop-number.brought c.loop-number.invariant high
    (entries_of (codes "row") (table_view c.args.document.now)) c.listed_at-entries.ensures

pub loop-number-preserved : goal.loop-number-preserved
loop-number-preserved c =
    let models = c.args.self.now.schema.now in
    let known = c.args.self.now.groups.now in
    let owner = c.args.self.now.owner.now in
    let values = c.listed_at-entries.result.now in
    let value = c.index-entries-number.result in
    let n = c.loop-number.number in
    let b = c.loop-number.brought in
    let names = c.loop-number.names in
    let row = c.in_ok-row.row in
    let at : slice_get (map view values) n ≡ Some (view value) = seen-at view values n value c.loop-number-test.true c.index-entries-number.is in
    let taken : row_fits models known b.first c.as_slice.result.now names owner (view value) ≡ None =
    subst (λ (t : List (List ℕ)). row_fits models known b.first c.as_slice.result.now t owner (view value) ≡ None) c.as_slice-in-loop-number.ensures c.in_ok-row.ensures.fits in
    let fits : row_fits models known b.first b.refs names owner (view value) ≡ None = subst (λ (r : List Ref). row_fits models known b.first r names owner (view value) ≡ None) c.as_slice.ensures taken in
    let made : row ≡ row_from models known b.first b.refs owner n (view value) = subst (λ (r : List Ref). row ≡ row_from models known b.first r owner n (view value)) c.as_slice.ensures c.in_ok-row.ensures.made in
    let given : IsGivenRow models known b.first b.refs row = subst (λ (r : List Ref). IsGivenRow models known b.first r row) c.as_slice.ensures c.in_ok-row.ensures.fit in
    let more = c.in_ok-push.ensures.ok ∙ ap (λ (w : List ℕ). names ++ w ∷ []) c.in_ok-try_clone.ensures in
    rows-added models known owner c.args.names.now c.args.brought.now (map view values) n (view value) at names b c.loop-number.invariant row c.in_ok-name.name fits made given c.in_ok-name.ensures _ _ more c.in_ok-add.ensures

pub returns-in_err-row-clause-fault : goal.returns-in_err-row-clause-fault
returns-in_err-row-clause-fault c = λ faulty same.
    let models = c.args.self.now.schema.now in
    let known = c.args.self.now.groups.now in
    let owner = c.args.self.now.owner.now in
    let values = c.listed_at-entries.result.now in
    let value = c.index-entries-number.result in
    let n = c.loop-number.number in
    let b = c.loop-number.brought in
    let names = c.loop-number.names in
    let at : slice_get (map view values) n ≡ Some (view value) = seen-at view values n value c.loop-number-test.true c.index-entries-number.is in
    let p = err_from_is_err_and c.from_residual.result c.from_residual.ensures.1 in
    let told : c.in_err-row.field-0.0 ≡ load.Module faulty = sym p.2 ∙ err_is p.0 (load.Module faulty) (sym p.1 ∙ same) in
    let taken : form_fault owner (in_entry (codes "row") n (row_fits models known b.first c.as_slice.result.now names owner (view value))) ≡ Some faulty =
    subst (λ (t : List (List ℕ)). form_fault owner (in_entry (codes "row") n (row_fits models known b.first c.as_slice.result.now t owner (view value))) ≡ Some faulty) c.as_slice-in-loop-number.ensures
    (c.in_err-row.ensures.fault faulty (ap Err told)) in
    let is : form_fault owner (in_entry (codes "row") n (row_fits models known b.first b.refs names owner (view value))) ≡ Some faulty =
    subst (λ (r : List Ref). form_fault owner (in_entry (codes "row") n (row_fits models known b.first r names owner (view value))) ≡ Some faulty) c.as_slice.ensures taken in
    ap (first_fault (row_fault models known c.args.brought.now.first owner c.args.brought.now.refs c.args.names.now) []) (sym c.listed_at-entries.ensures)
    ∙ rows-faulty models known owner c.args.names.now c.args.brought.now (map view values) n (view value) at names b c.loop-number.invariant faulty is
