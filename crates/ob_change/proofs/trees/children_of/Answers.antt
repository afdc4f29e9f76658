use Rattle.std.proofs.Common.{◌≡◌, [], ◌∷◌, ◌++◌, List, get_or, take, ap, sym, subst, ◌∙◌}
use Rattle.std.proofs.lemmas.List.{take_all, take_more}
use Rattle.ob_base.specs.declared.id.RecId.{RecId}
use Rattle.ob_schema.specs.Plain.{naming}
use Rattle.ob_change.specs.TreeRows.{AreChildren}
use Rattle.ob_change.proofs.TreeLevels.{children-more, children-none}
use Rattle.ob_change.proofs.trees.children_of.Goals as goal

pub loop-row-init : goal.loop-row-init
loop-row-init c =
    let models = c.args.tables.now.models in
    let tables = c.args.tables.now.tables in
    subst (λ (l : List RecId). AreChildren models tables c.args.model c.args.parent [] l) (sym c.new-children.ensures.items) (children-none models tables c.args.model c.args.parent)

pub loop-row-preserved : goal.loop-row-preserved
loop-row-preserved c =
    let models = c.args.tables.now.models in
    let tables = c.args.tables.now.tables in
    let rows = c.args.rows.now in
    let i = c.loop-row.row-index in
    let none : RecId = record { 0 = 0 } in
    let row = get_or rows i none in
    let before = c.loop-row.children.items in
    let new = c.extend_from_slice.new.self.items in
    let all : new ≡ before ++ naming tables c.args.model c.args.parent row =
    c.in_ok-extend_from_slice.ensures.items ∙ ap (λ (l : List RecId). before ++ l) (c.as_slice.ensures.same ∙ c.in_ok-named.ensures) in
    let more = children-more models tables c.args.model c.args.parent (take i rows) before row c.loop-row.invariant in
    subst (λ (l : List RecId). AreChildren models tables c.args.model c.args.parent l new) (sym (take_more rows i none c.loop-row-test.true))
    (subst (λ (l : List RecId). AreChildren models tables c.args.model c.args.parent (take i rows ++ row ∷ []) l) (sym all) more)

pub returns : goal.returns
returns c =
    subst (λ (l : List RecId). AreChildren c.args.tables.now.models c.args.tables.now.tables c.args.model c.args.parent l c.loop-row.children.items)
    (take_all c.loop-row.row-index c.args.rows.now c.loop-row-test.false) c.loop-row.invariant
