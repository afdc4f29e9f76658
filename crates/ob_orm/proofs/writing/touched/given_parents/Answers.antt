use Rattle.std.proofs.Common.{◌≡◌, ◌==◌, ◌∙◌, ℕ, [], Option, ap, false, get_or, length, rules, subst, sym, true}
use Rattle.std.specs.Prelude.{All, filter}
use Rattle.std.specs.Option.{option_map_or}
use Rattle.std.specs.Vec.{vec_len}
use Rattle.std.proofs.lemmas.List.{take_all}
use Rattle.std.proofs.lemmas.List.Elements.{All-nil, All-push}
use Rattle.ob_orm.proofs.TouchedRows.{any-none, any-some, gives, no_parent, parents-passed, parents-pushed}
use Rattle.ob_orm.specs.NewRows.{behind}
use Rattle.ob_orm.specs.Touched.{is_any}
use Rattle.ob_orm.proofs.writing.touched.given_parents.Goals as goal
use Rattle.ob_orm.proofs.writing.touched.given_parents.Goals.{then-not-is_empty+in_ok-push, else-not-is_empty}
use Rattle.ob_schema.specs.Models.{IsParentIn}
use Rattle.ob_schema.specs.declared.info.ModelInfo.{ModelInfo}

pub loop-parent-init : goal.loop-parent-init
loop-parent-init c = record {
  parents = c.new-parents.ensures.items;
  within = subst (All (IsParentIn c.args.maker.now.schema.now c.args.model)) (sym c.new-parents.ensures.items) (All-nil (IsParentIn c.args.maker.now.schema.now c.args.model));
}

pub loop-parent-preserved : goal.loop-parent-preserved
loop-parent-preserved c =
    let models = c.args.maker.now.schema.now in
    let i = c.loop-parent.parent-index in let all = c.as_slice-all.result.now in
    let parent = get_or all i no_parent in
    let lt = c.loop-parent-test.true in
    let values = c.in_ok-values.values.items in
    let are : values ≡ behind models c.args.model parent.link c.args.given.now = c.in_ok-values.ensures.values in
    let same : vec_len c.in_ok-values.values ≡ length values = search rules in
    let so_far = c.loop-parent.invariant in
    elim c.if-not-is_empty.branch [
      | then-not-is_empty+in_ok-push w ↦
          let some : (length values == 0) ≡ false = ap (λ (n : ℕ). n == 0) (sym same) ∙ sym c.is_empty.ensures ∙ w.if-not-is_empty.true in
          rw w.parents-is (record {
            parents = parents-pushed models c.args.model c.args.given.now all i lt c.loop-parent.parents.items so_far.parents w.push.new.self.items (sym (ap is_any are) ∙ any-some values some) w.in_ok-push.ensures.items;
            within = subst (All (IsParentIn models c.args.model)) (sym w.in_ok-push.ensures.items) (All-push (IsParentIn models c.args.model) c.loop-parent.parents.items parent so_far.within
                (subst (All (IsParentIn models c.args.model)) (sym c.as_slice-all.ensures) c.model_info.ensures.fit.parents i no_parent lt));
          })
      | else-not-is_empty w ↦
          let none : (length values == 0) ≡ true = ap (λ (n : ℕ). n == 0) (sym same) ∙ sym c.is_empty.ensures ∙ w.if-not-is_empty.false in
          rw w.parents-is (record {
            parents = parents-passed models c.args.model c.args.given.now all i lt c.loop-parent.parents.items so_far.parents (sym (ap is_any are) ∙ any-none values none);
            within = so_far.within;
          })
    ]

pub returns-clause-parents : goal.returns-clause-parents
returns-clause-parents c =
    let models = c.args.maker.now.schema.now in
    let test = gives models c.args.model c.args.given.now in
    c.loop-parent.invariant.parents ∙ ap (filter test) (take_all c.loop-parent.parent-index c.as_slice-all.result.now c.loop-parent-test.false)
    ∙ ap (filter test) (c.as_slice-all.ensures ∙ sym (ap (λ (o : Option ModelInfo). option_map_or (λ info. info.inherits) o []) c.model_info.ensures.at))
