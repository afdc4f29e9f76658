use Rattle.std.proofs.Common.{◌≡◌, false, true, Option, Some, None, is_some, ap, sym, subst, ◌∙◌}
use Rattle.std.proofs.lemmas.Option.{same_Some}
use Rattle.ob_base.specs.declared.id.RecId.{RecId}
use Rattle.ob_schema.specs.Tables.{row_at}
use Rattle.ob_change.specs.TreeRows.{referred}
use Rattle.ob_change.proofs.ParentFields.{ParentField-at, given_field, no_parent-told, parent-told}
use Rattle.ob_change.proofs.trees.parent_of.Goals as goal

pub plain-requires : goal.plain-requires
plain-requires c =
    given_field c.args.tables.now.models c.args.cell.model c.args.cell.field (ParentField-at c.args.tables.now.models c.fit_together.ensures.registry c.args.cell.model c.args.cell.field c.requires)

pub returns : goal.returns
returns c =
    let field = ParentField-at c.args.tables.now.models c.fit_together.ensures.registry c.args.cell.model c.args.cell.field c.requires in
    parent-told c.args.tables.now.models c.args.tables.now.tables c.args.cell.model c.args.cell.field field c.args.cell.id c.in-Some.parent
    (sym (ap referred c.in_ok-plain.ensures) ∙ sym c.referred.ensures ∙ c.in-Some.is) (sym c.has_row.ensures ∙ c.if-not-has_row.false)

pub returns-then-not-has_row : goal.returns-then-not-has_row
returns-then-not-has_row c =
    let tables = c.args.tables.now.tables in
    let model = c.args.cell.model in
    let field = ParentField-at c.args.tables.now.models c.fit_together.ensures.registry model c.args.cell.field c.requires in
    no_parent-told c.args.tables.now.models tables model c.args.cell.field field c.args.cell.id
    (λ other is there.
    let both : Some c.in-Some.parent ≡ Some other = sym c.in-Some.is ∙ c.referred.ensures ∙ ap referred c.in_ok-plain.ensures ∙ is in
    let same : c.in-Some.parent ≡ other = same_Some c.in-Some.parent other both in
    let gone : is_some (row_at tables model other) ≡ false = subst (λ (id : RecId). is_some (row_at tables model id) ≡ false) same (sym c.has_row.ensures ∙ c.if-not-has_row.true) in
    let wrong : false ≡ true = sym gone ∙ there in cc)

pub returns-in_default : goal.returns-in_default
returns-in_default c =
    let field = ParentField-at c.args.tables.now.models c.fit_together.ensures.registry c.args.cell.model c.args.cell.field c.requires in
    no_parent-told c.args.tables.now.models c.args.tables.now.tables c.args.cell.model c.args.cell.field field c.args.cell.id
    (λ other is there.
    let none : Option RecId = None in
    let wrong : none ≡ Some other = sym c.in_default.is ∙ c.referred.ensures ∙ ap referred c.in_ok-plain.ensures ∙ is in cc)
