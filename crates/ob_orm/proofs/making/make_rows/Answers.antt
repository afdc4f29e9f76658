use Rattle.std.proofs.Common.{◌++◌, ap, ◌∙◌}
use Rattle.std.specs.Prelude.{All}
use Rattle.std.specs.Vec.Iter.{into_iter_items}
use Rattle.std.proofs.lemmas.List.Elements.{All-tail}
use Rattle.ob_orm.specs.NewRows.{Values, made_row}
use Rattle.ob_orm.specs.NewRowSteps.{IsTyped, so_far}
use Rattle.ob_orm.proofs.NewRows.{rows-made-so}
use Rattle.ob_orm.proofs.making.make_rows.Goals as goal

pub loop-given-preserved : goal.loop-given-preserved
loop-given-preserved c =
    let models = c.args.maker.now.schema.now in
    let by = c.args.maker.now.author in
    let model = c.args.model in
    let given = c.in-Some.given in
    record {
      ready = c.in_ok-id.ensures.ready;
      made = λ old holds.
          let far = c.loop-given.invariant.made old holds in
          let one = c.in_ok-id.ensures.made old far.2 in
          let before = c.loop-given.making in
          let t = so_far models old before in
          let all = rows-made-so models by model old c.args.making.now before c.make_row.new.making c.loop-given.yielded given c.loop-given.ids.items c.push.new.self.items c.in_ok-id.id
          far.0 far.1 (one.0 ∙ ap (λ (vs : Values). before.edits.items ++ (made_row models by t model vs).edits) c.into_vec.ensures) (one.1 ∙ ap (λ (vs : Values). (made_row models by t model vs).id) c.into_vec.ensures) c.in_ok-push.ensures.items in
          (all.0, all.1, one.2);
      typed = All-tail (All (IsTyped models model)) given (into_iter_items c.next.new.self) (rw c.in-Some.ensures.steps.0 at c.loop-given.invariant.typed);
    }
