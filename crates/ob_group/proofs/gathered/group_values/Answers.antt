use Rattle.std.proofs.Common.{◌≡◌, ◌+◌, List, ap, sym, ◌∙◌, map, take, length, get_or, arith, [], ◌∷◌, ◌++◌, subst, true}
use Rattle.std.proofs.lemmas.Grind.{common_steps}
use Rattle.std.proofs.lemmas.List.Elements.{All-push}
use Rattle.std.specs.Prelude.{All}
use Rattle.ob_base.specs.declared.id.FieldNo.{FieldNo}
use Rattle.ob_codec.specs.Held.{HasText}
use Rattle.ob_query.proofs.CallerLemmas.{asked_then, map-all-view, map-taken-view, told_back_to, told_on_to}
use Rattle.ob_group.specs.GroupForms as forms
use Rattle.ob_group.specs.GroupParts.{grouping_view}
use Rattle.ob_group.specs.GroupPeriods.{group_value}
use Rattle.ob_query.specs.Search.{held_of}
use Rattle.ob_schema.specs.Facts.{Told}
use Rattle.ob_base.specs.declared.value.Value.{Value}
use Rattle.ob_group.proofs.gathered.group_values.Goals as goal

pub value_in-requires-clause-known : goal.value_in-requires-clause-known
value_in-requires-clause-known g c =
    told_on_to g.K.Keeper c.args.by.now c.args.engine.now c.loop-grouping.engine (λ (told : Told). told.knows c.args.model c.args.id ≡ true) c.loop-grouping.invariant.asked c.requires.known

pub returns-in_err-value-clause-asked : goal.returns-in_err-value-clause-asked
returns-in_err-value-clause-asked g c = asked_then g.K.Keeper c.args.engine.now c.loop-grouping.engine c.value_in.new.engine c.loop-grouping.invariant.asked c.value_in.ensures.asked

pub returns-in_err-push-clause-asked : goal.returns-in_err-push-clause-asked
returns-in_err-push-clause-asked g c = asked_then g.K.Keeper c.args.engine.now c.loop-grouping.engine c.value_in.new.engine c.loop-grouping.invariant.asked c.value_in.ensures.asked

pub loop-grouping-preserved : goal.loop-grouping-preserved
loop-grouping-preserved g c =
    let old = c.args.engine.now in
    let mid = c.loop-grouping.engine in
    let groupings = c.args.groupings.now in
    let i = c.loop-grouping.grouping-index in
    let value = c.grouped.result in
    let pushed : c.push.new.self.items ≡ c.loop-grouping.values.items ++ value ∷ [] = grind (arith, common_steps) in
    record {
      asked = asked_then g.K.Keeper old mid c.value_in.new.engine c.loop-grouping.invariant.asked c.value_in.ensures.asked;
      told = λ told tells.
          let f = λ (own : forms.Grouping). group_value own.period (held_of told c.args.model own.field c.args.id) in
          let holds = told_back_to g.K.Keeper c.args.by.now old mid (λ (told : Told). c.in_ok-value.value ≡ held_of told c.args.model c.field_of.result c.args.id) c.loop-grouping.invariant.asked c.in_ok-value.ensures.told in
          let held = holds told tells ∙ ap (λ (field : FieldNo). held_of told c.args.model field c.args.id) c.field_of.ensures in
          pushed ∙ map-taken-view grouping_view f groupings i _ c.loop-grouping.values.items value c.loop-grouping-test.true (c.loop-grouping.invariant.told told tells) (rw held at c.grouped.ensures.value);
      texts = subst (All HasText) (sym pushed) (All-push HasText c.loop-grouping.values.items value c.loop-grouping.invariant.texts c.grouped.ensures.text);
    }

pub returns-clause-told : goal.returns-clause-told
returns-clause-told g c = λ told tells.
    map-all-view grouping_view (λ (g : forms.Grouping). group_value g.period (held_of told c.args.model g.field c.args.id)) c.args.groupings.now c.loop-grouping.grouping-index c.loop-grouping.values.items c.loop-grouping-test.false (c.loop-grouping.invariant.told told tells)
