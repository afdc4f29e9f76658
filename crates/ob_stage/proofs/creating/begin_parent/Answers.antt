-- A parent that is linked isn't made; another one is.
use Rattle.std.proofs.Common.{◌≡◌, ◌+◌, ◌∷◌, Option, ap, is_some, sym, false, true, ◌∙◌, arith}
use Rattle.std.proofs.lemmas.Bool.{true≢false}
use Rattle.ob_base.specs.declared.id.RecId.{RecId}
use Rattle.ob_base.specs.declared.value.Value.TheVariants as value
use Rattle.ob_orm.specs.NewRows.{Values, behind, linked}
use Rattle.ob_stage.proofs.BegunRows.{parent-linked, parent-made}
use Rattle.ob_stage.proofs.TakenIds.{up_to-more}
use Rattle.ob_stage.proofs.creating.begin_parent.Goals as goal
use Rattle.ob_tables.specs.After.{after}

pub returns-then-is_some-clause-begun : goal.returns-then-is_some-clause-begun
returns-then-is_some-clause-begun g c = λ at is.
    let models = c.args.maker.now.schema.now in let edits = c.args.begun.now.edits.items in
    let is_linked : is_some (linked c.args.begun.now.given.items c.args.parent.link) ≡ true =
    ap (λ (vs : Values). is_some (linked vs c.args.parent.link)) (sym c.as_slice.ensures.value) ∙ ap (λ (o : Option RecId). is_some o) (sym c.linked.ensures) ∙ sym c.is_some.ensures ∙ c.if-is_some.true in
    parent-linked models c.args.maker.now.author c.args.model (after models at.staged edits) c.args.begun.now.given.items c.args.parent edits is_linked

pub returns-then-is_some-clause-next_ids : goal.returns-then-is_some-clause-next_ids
returns-then-is_some-clause-next_ids g c = λ told bound low up next_ids below. up_to-more bound (bound + 1) (omega arith) c.args.begun.now.edits.items below

pub returns-clause-begun : goal.returns-clause-begun
returns-clause-begun g c = λ at is.
    let models = c.args.maker.now.schema.now in let by = c.args.maker.now.author in let model = c.args.model in
    let edits = c.args.begun.now.edits.items in let given = c.args.begun.now.given.items in let parent = c.args.parent in
    let values = c.as_slice-3.result.now in let id = c.in_ok-id.id in
    let not : is_some (linked given parent.link) ≡ false =
    ap (λ (vs : Values). is_some (linked vs parent.link)) (sym c.as_slice.ensures.value) ∙ ap (λ (o : Option RecId). is_some o) (sym c.linked.ensures) ∙ sym c.is_some.ensures ∙ c.if-is_some.false in
    let are : values ≡ behind models model parent.link given = c.as_slice-3.ensures.value ∙ c.in_ok-values.ensures.values ∙ ap (λ (vs : Values). behind models model parent.link vs) c.as_slice-2.ensures.value in
    let linked_so : c.insert.new.self.items ≡ (parent.link, value.Ref id) ∷ given = c.in_ok-insert.ensures.items in
    let made = c.in_ok-id.ensures.made at is in
    parent-made models by model (after models at.staged edits) given values parent edits c.make_one.new.edits.items c.insert.new.self.items id not are made.0 made.1 linked_so

pub returns-clause-alone : goal.returns-clause-alone
returns-clause-alone g c = λ is_linked.
    let not : is_some (linked c.args.begun.now.given.items c.args.parent.link) ≡ false =
    ap (λ (vs : Values). is_some (linked vs c.args.parent.link)) (sym c.as_slice.ensures.value) ∙ ap (λ (o : Option RecId). is_some o) (sym c.linked.ensures) ∙ sym c.is_some.ensures ∙ c.if-is_some.false in
    absurd (true≢false (sym is_linked ∙ not))
