-- One parent more.
use Rattle.std.proofs.Common.{◌≡◌, ◌<◌, ◌≤◌, ◌+◌, ◌++◌, ◌∷◌, [], ℕ, List, Option, ap, get_or, length, refl, rules, subst, sym, take, ◌∙◌, arith}
use Rattle.std.specs.Prelude.{All, IsSome}
use Rattle.std.specs.Option.{option_map_or}
use Rattle.std.proofs.lemmas.List.{take_more}
use Rattle.std.proofs.lemmas.List.Elements.{All-nil}
use Rattle.ob_cache.proofs.CallerLemmas.{stays-then}
use Rattle.ob_rows.proofs.CallerLemmas.{stays-none}
use Rattle.ob_orm.specs.NewRows.{Values, linked, parents_of, with_parents}
use Rattle.ob_orm.specs.NewRowSteps.{IsTyped, MayFit}
use Rattle.ob_schema.specs.declared.info.ModelInfo.{ModelInfo}
use Rattle.ob_schema.specs.declared.info.ParentInfo.{ParentInfo}
use Rattle.ob_stage.proofs.BegunRows.{begun-more}
use Rattle.ob_stage.proofs.TakenIds.{next_ids-more, up_to-more, up_to-none}
use Rattle.ob_stage.proofs.creating.begin_row.Goals as goal
use Rattle.ob_stage.specs.StageSteps.{MakesUpTo}
use Rattle.ob_tables.specs.declared.edit.Edit.{Edit}

abbrev none : ParentInfo
none = record { link = record { 0 = 0 }; model = record { 0 = 0 } }

pub loop-parent-init : goal.loop-parent-init
loop-parent-init g c = record {
  begun = λ at is. (c.new.ensures.items, c.in_ok-copied.ensures);
  typed = subst (λ (vs : Values). All (IsTyped c.args.maker.now.schema.now c.args.model) vs) (sym c.in_ok-copied.ensures) c.requires.typed;
  fit = subst (λ (es : List Edit). All (MayFit c.args.maker.now.schema.now) es) (sym c.new.ensures.items) (All-nil (MayFit c.args.maker.now.schema.now));
  next_ids = λ bound low next_ids. subst (λ (es : List Edit). MakesUpTo (bound + 0) es) (sym c.new.ensures.items) (up_to-none (bound + 0));
  alone = λ linked_all. (c.new.ensures.items, c.in_ok-copied.ensures);
  same = stays-none _ _;
  count = search rules;
  lender = refl;
}

pub begin_parent-requires-clause-schema : goal.begin_parent-requires-clause-schema
begin_parent-requires-clause-schema g c = c.loop-parent.invariant.same.models ∙ c.requires.schema

pub begin_parent-requires-clause-room : goal.begin_parent-requires-clause-room
begin_parent-requires-clause-room g c =
    let i = c.loop-parent.parent-index in let so_far = c.loop-parent.invariant in
    let models = c.args.maker.now.schema.now in
    let parents_are : c.as_slice-parents.result.now ≡ parents_of models c.args.model = c.as_slice-parents.ensures ∙ sym (ap (λ (o : Option ModelInfo). option_map_or (λ info. info.inherits) o []) c.model_info.ensures.at) in
    let within : i < length (parents_of models c.args.model) = subst (λ (ps : List ParentInfo). i < length ps) parents_are c.loop-parent-test.true in
    let room = c.requires.room in let low = room.low in let high = room.high in
    record {
      bound = room.bound + i;
      low = omega (arith, low);
      high = omega (arith, high, within);
      next_ids = next_ids-more room.bound (room.bound + i) (omega arith) c.loop-parent.engine.held (so_far.same.next_ids room.bound room.low room.next_ids);
      made = so_far.next_ids room.bound room.low room.next_ids;
    }

pub loop-parent-preserved : goal.loop-parent-preserved
loop-parent-preserved g c =
    let models = c.args.maker.now.schema.now in let by = c.args.maker.now.author in
    let model = c.args.model in let values = c.args.values.now in
    let i = c.loop-parent.parent-index in let parents = c.as_slice-parents.result.now in
    let parent = get_or parents i none in
    let so_far = c.loop-parent.invariant in
    let says = c.in_ok-begin_parent.ensures in
    let more : take i parents ++ parent ∷ [] ≡ take (i + 1) parents = sym (take_more parents i none c.loop-parent-test.true) in
    record {
      begun = λ at is.
          let far = so_far.begun at is in
          let one = says.begun at (so_far.same.stands at is) in
          let all = begun-more models by model at.staged values (take i parents) parent c.loop-parent.begun.edits.items c.begin_parent.new.begun.edits.items c.loop-parent.begun.given.items c.begin_parent.new.begun.given.items
          far.0 far.1 one.0 one.1 in (
            all.0 ∙ ap (λ (ps : List ParentInfo). (with_parents models by at.staged model values ps).edits) more,
            all.1 ∙ ap (λ (ps : List ParentInfo). (with_parents models by at.staged model values ps).given) more,
          );
      typed = says.typed;
      fit = says.fit;
      next_ids = λ bound low next_ids.
          let sum : bound + i + 1 ≡ bound + (i + 1) = omega arith in
          subst (λ (n : ℕ). MakesUpTo n c.begin_parent.new.begun.edits.items) sum (says.next_ids bound (bound + i) low (omega arith) (so_far.same.next_ids bound low next_ids) (so_far.next_ids bound low next_ids));
      alone = λ linked_all.
          let far = so_far.alone linked_all in
          let parents_are : parents ≡ parents_of models model = c.as_slice-parents.ensures ∙ sym (ap (λ (o : Option ModelInfo). option_map_or (λ info. info.inherits) o []) c.model_info.ensures.at) in
          let within : i < length (parents_of models model) = subst (λ (ps : List ParentInfo). i < length ps) parents_are c.loop-parent-test.true in
          let here : IsSome (linked values parent.link) = subst (λ (ps : List ParentInfo). IsSome (linked values (get_or ps i none).link)) (sym parents_are) (linked_all i none within) in
          let one = says.alone (subst (λ (vs : Values). IsSome (linked vs parent.link)) (sym far.1) here) in (one.0 ∙ far.0, one.1 ∙ far.1);
      same = stays-then _ _ _ _ _ _ so_far.same c.begin_parent.ensures.same;
      count = search rules;
      lender = search rules;
    }

pub returns-in_err-begin_parent-clause-same : goal.returns-in_err-begin_parent-clause-same
returns-in_err-begin_parent-clause-same g c = stays-then _ _ _ _ _ _ c.loop-parent.invariant.same c.begin_parent.ensures.same

pub returns-clause-next_ids : goal.returns-clause-next_ids
returns-clause-next_ids g c = λ bound low next_ids.
    let models = c.args.maker.now.schema.now in let model = c.args.model in let i = c.loop-parent.parent-index in
    let parents_are : c.as_slice-parents.result.now ≡ parents_of models model = c.as_slice-parents.ensures ∙ sym (ap (λ (o : Option ModelInfo). option_map_or (λ info. info.inherits) o []) c.model_info.ensures.at) in
    let within : i ≤ length (parents_of models model) = subst (λ (ps : List ParentInfo). i ≤ length ps) parents_are c.loop-parent.auto.parent-index-end in
    up_to-more (bound + i) (bound + length (parents_of models model)) (omega arith) c.loop-parent.begun.edits.items (c.loop-parent.invariant.next_ids bound low next_ids)
