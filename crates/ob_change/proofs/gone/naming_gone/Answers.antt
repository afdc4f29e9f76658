-- One model more whose rows name none that is gone, or one whose rows do.
use Rattle.std.proofs.Common.{◌≡◌, ◌≤◌, ◌+◌, ℕ, List, [], length, suc, sym, subst, ◌∙◌, ap, add-one, arith, below_more, rules}
use Rattle.std.specs.Vec.{vec_len}
use Rattle.ob_base.specs.Limits.{max_models}
use Rattle.ob_base.specs.declared.id.Cell.{Cell}
use Rattle.ob_base.specs.declared.id.ModelNo.{ModelNo}
use Rattle.ob_base.specs.declared.id.RowKey.{RowKey}
use Rattle.ob_change.specs.Changing.{models_of, sides_of}
use Rattle.ob_change.specs.Testing.{HoldsOne}
use Rattle.ob_change.proofs.GoneRows.{empty-is, held-names, holds-placed, names-held, none-held}
use Rattle.ob_change.proofs.Turns.{none-told, one-told}
use Rattle.ob_change.proofs.gone.naming_gone.Goals as goal

pub returns-then-is_empty : goal.returns-then-is_empty
returns-then-is_empty c =
    let models = models_of c.args.change in
    let sides = sides_of c.args.change in
    let registry = c.parts_fit_together.ensures in
    let keys = c.in_ok-gone.gone.items in
    let long : vec_len c.in_ok-gone.gone ≡ length keys = search rules in
    let empty : keys ≡ [] = empty-is keys (vec_len c.in_ok-gone.gone) c.is_empty.result long c.is_empty.ensures c.if-is_empty.true in
    λ cell named. none-held models sides registry keys c.in_ok-gone.ensures empty cell
    (names-held models sides registry keys c.in_ok-gone.ensures cell (c.gone_rows_are_listed.ensures models sides cell registry named))

pub returns-in-Some : goal.returns-in-Some
returns-in-Some c =
    let models = models_of c.args.change in
    let sides = sides_of c.args.change in
    let keys = c.in_ok-gone.gone.items in
    let model : ModelNo = record { 0 = c.loop-place.place + 1 } in
    let Names : Cell → Type 0 = λ cell. (cell.model ≡ model) × HoldsOne models sides.behind c.as_slice.result.now cell in
    let one = one-told Names _ c.in-Some.cell c.in-Some.is c.in_ok-cell.ensures in
    held-names models sides c.parts_fit_together.ensures keys c.in_ok-gone.ensures c.in-Some.cell (subst (λ (l : List RowKey). HoldsOne models sides.behind l c.in-Some.cell) c.as_slice.ensures.value one.1)

pub loop-place-preserved : goal.loop-place-preserved
loop-place-preserved c =
    let models = models_of c.args.change in
    let sides = sides_of c.args.change in
    let keys = c.in_ok-gone.gone.items in
    let model : ModelNo = record { 0 = c.loop-place.place + 1 } in
    let Names : Cell → Type 0 = λ cell. (cell.model ≡ model) × HoldsOne models sides.behind c.as_slice.result.now cell in
    below_more (λ k. ((cell : Cell) × (cell.model ≡ record { 0 = suc k }) × HoldsOne models sides.behind keys cell) → ⊥) c.loop-place.place c.loop-place.invariant (λ holds.
    none-told Names _ c.in_default.is c.in_ok-cell.ensures holds.0 (
      holds.1 ∙ ap (λ (n : ℕ). record { 0 = n }) (sym (add-one c.loop-place.place)),
      subst (λ (l : List RowKey). HoldsOne models sides.behind l holds.0) (sym c.as_slice.ensures.value) holds.2,
    ))

pub returns : goal.returns
returns c =
    let models = models_of c.args.change in
    let sides = sides_of c.args.change in
    let registry = c.parts_fit_together.ensures in
    let keys = c.in_ok-gone.gone.items in
    let all : max_models ≤ c.loop-place.place = omega arith in
    λ cell named. holds-placed models sides registry keys c.in_ok-gone.ensures c.loop-place.place all c.loop-place.invariant cell
    (names-held models sides registry keys c.in_ok-gone.ensures cell (c.gone_rows_are_listed.ensures models sides cell registry named))
