use Rattle.std.proofs.Common.{◌≡◌, ◌+◌, List, ap, sym, ◌∙◌, map, take, length, get_or, arith, [], ◌∷◌, ◌++◌, true}
use Rattle.std.proofs.lemmas.Grind.{common_steps}
use Rattle.ob_base.specs.declared.id.FieldNo.{FieldNo}
use Rattle.ob_query.proofs.CallerLemmas.{asked_then, map-all-view, map-taken-view, told_back_to, told_on_to}
use Rattle.ob_group.specs.GroupForms as forms
use Rattle.ob_group.specs.GroupParts.{aggregate_view, row_of}
use Rattle.ob_query.specs.Search.{held_of}
use Rattle.ob_schema.specs.Facts.{Told}
use Rattle.ob_group.proofs.gathered.row_values.Goals as goal

pub value_in-requires-clause-known : goal.value_in-requires-clause-known
value_in-requires-clause-known g c =
    told_on_to g.K.Keeper c.args.by.now c.args.engine.now c.loop-aggregate.engine (λ (told : Told). told.knows c.args.model c.args.id ≡ true) c.loop-aggregate.invariant.asked c.requires.known

pub returns-in_err-value-clause-asked : goal.returns-in_err-value-clause-asked
returns-in_err-value-clause-asked g c = asked_then g.K.Keeper c.args.engine.now c.loop-aggregate.engine c.value_in.new.engine c.loop-aggregate.invariant.asked c.value_in.ensures.asked

pub returns-in_err-push-clause-asked : goal.returns-in_err-push-clause-asked
returns-in_err-push-clause-asked g c = asked_then g.K.Keeper c.args.engine.now c.loop-aggregate.engine c.value_in.new.engine c.loop-aggregate.invariant.asked c.value_in.ensures.asked

pub loop-aggregate-preserved : goal.loop-aggregate-preserved
loop-aggregate-preserved g c =
    let old = c.args.engine.now in
    let mid = c.loop-aggregate.engine in
    let aggregates = c.args.aggregates.now in
    let i = c.loop-aggregate.aggregate-index in
    let value = c.in_ok-value.value in
    let pushed : c.push.new.self.items ≡ c.loop-aggregate.values.items ++ value ∷ [] = grind (arith, common_steps) in
    record {
      asked = asked_then g.K.Keeper old mid c.value_in.new.engine c.loop-aggregate.invariant.asked c.value_in.ensures.asked;
      told = λ told tells.
          let f = λ (own : forms.Aggregate). held_of told c.args.model own.field c.args.id in
          let holds = told_back_to g.K.Keeper c.args.by.now old mid (λ (told : Told). value ≡ held_of told c.args.model c.told_field.result c.args.id) c.loop-aggregate.invariant.asked c.in_ok-value.ensures.told in
          let held = holds told tells ∙ ap (λ (field : FieldNo). held_of told c.args.model field c.args.id) c.told_field.ensures in
          pushed ∙ map-taken-view aggregate_view f aggregates i _ c.loop-aggregate.values.items value c.loop-aggregate-test.true (c.loop-aggregate.invariant.told told tells) held;
    }

pub returns-clause-told : goal.returns-clause-told
returns-clause-told g c = λ told tells.
    map-all-view aggregate_view (λ (a : forms.Aggregate). held_of told c.args.model a.field c.args.id) c.args.aggregates.now c.loop-aggregate.aggregate-index c.loop-aggregate.values.items c.loop-aggregate-test.false (c.loop-aggregate.invariant.told told tells)
