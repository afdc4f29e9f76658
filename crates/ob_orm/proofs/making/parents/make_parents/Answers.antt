use Rattle.std.proofs.Common.{◌≡◌, ◌++◌, ◌∷◌, [], List, ◌+◌, take, get_or, append-nil, refl, sym, ap, ◌∙◌}
use Rattle.std.proofs.lemmas.List.{take_more}
use Rattle.ob_orm.specs.NewRows.{with_parents}
use Rattle.ob_orm.specs.NewRowSteps.{so_far}
use Rattle.ob_orm.proofs.NewRows.{adds-none, adds-then, parents-made-so}
use Rattle.ob_orm.proofs.making.parents.make_parents.Goals as goal
use Rattle.ob_schema.specs.declared.info.ParentInfo.{ParentInfo}

pub loop-parent-preserved : goal.loop-parent-preserved
loop-parent-preserved c =
    let models = c.args.maker.now.schema.now in
    let by = c.args.maker.now.author in
    let model = c.args.model in
    let parents = c.as_slice-parents.result.now in
    let i = c.loop-parent.parent-index in
    let none : ParentInfo = record { link = record { 0 = 0 }; model = record { 0 = 0 } } in
    let parent = get_or parents i none in
    record {
      adds = adds-then c.args.making.now c.loop-parent.making c.make_parent.new.making c.loop-parent.invariant.adds c.in_ok-make_parent.ensures.adds;
      ready = c.in_ok-make_parent.ensures.ready;
      typed = c.in_ok-make_parent.ensures.typed;
      made = λ old holds.
          let far = c.loop-parent.invariant.made old holds in
          let one = c.in_ok-make_parent.ensures.made old far.2 in
          let t = so_far models old c.args.making.now in
          let given = c.args.given.now.items in
          let all = parents-made-so models by model old c.args.making.now c.loop-parent.making c.make_parent.new.making given c.loop-parent.given.items c.make_parent.new.given.items
          (take i parents) parent far.0 far.1 one.0 one.1 in
          let more : take i parents ++ parent ∷ [] ≡ take (i + 1) parents = sym (take_more parents i none c.loop-parent-test.true) in (
            all.0 ∙ ap (λ (ps : List ParentInfo). c.args.making.now.edits.items ++ (with_parents models by t model given ps).edits) more,
            all.1 ∙ ap (λ (ps : List ParentInfo). (with_parents models by t model given ps).given) more,
            one.2,
          );
    }

pub loop-parent-init : goal.loop-parent-init
loop-parent-init c = record {
  adds = adds-none c.args.making.now;
  ready = c.requires.ready;
  typed = c.requires.typed;
  made = λ old holds. (sym (append-nil c.args.making.now.edits.items), refl, holds);
}
