use Rattle.std.proofs.Common.{sym, subst}
use Rattle.std.proofs.lemmas.List.Elements.{All-push}
use Rattle.ob_base.specs.declared.id.FieldNo.{FieldNo}
use Rattle.ob_base.specs.declared.value.Value.{Value}
use Rattle.ob_orm.specs.NewRowSteps.{IsTyped}
use Rattle.ob_orm.proofs.ParentFields.{behind-passed, behind-pushed, behind-typed}
use Rattle.ob_orm.proofs.making.parents.behind.Goals as goal
use Rattle.ob_orm.proofs.making.parents.behind.Goals.{in-Some+in_ok-try_clone+in_ok-push, in_default}

pub loop-one-preserved : goal.loop-one-preserved
loop-one-preserved c =
    let models = c.args.maker.now.schema.now in
    let model = c.args.model in
    let parent = c.args.parent in
    let given = c.args.given.now in
    let i = c.loop-one.one-index in
    let one = c.one-item.result in
    let typed = subst (λ (x : FieldNo × Value). IsTyped models model x) (sym c.one-item.is) (c.requires.typed i one c.loop-one-test.true) in
    elim c.match-field_behind.branch [
      | in-Some+in_ok-try_clone+in_ok-push w ↦ rw w.values-is (record {
        values = behind-pushed models model parent.link given i one c.loop-one-test.true c.one-item.is c.loop-one.values.items w.push.new.self.items w.in-Some.field w.in_ok-try_clone.field-0
            w.in_ok-push.ensures.items w.in_ok-try_clone.ensures (sym w.in-Some.ensures) c.loop-one.invariant.values;
        typed = rw w.in_ok-push.ensures.items (All-push (IsTyped models parent.model) c.loop-one.values.items (w.in-Some.field, w.in_ok-try_clone.field-0) c.loop-one.invariant.typed
            (rw w.in_ok-try_clone.ensures (behind-typed models c.parts_fit_together.ensures model parent c.requires.parent one.0 w.in-Some.field one.1 (sym w.in-Some.ensures) typed)));
      })
      | in_default w ↦ rw w.values-is (record {
        values = behind-passed models model parent.link given i one c.loop-one-test.true c.one-item.is c.loop-one.values.items (sym w.in_default.ensures) c.loop-one.invariant.values;
        typed = c.loop-one.invariant.typed;
      })
    ]
