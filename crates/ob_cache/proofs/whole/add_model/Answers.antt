use Rattle.std.proofs.Common.{◌≡◌, Some, List, option_map, ap, subst, sym, ◌∙◌, arith}
use Rattle.ob_cache.proofs.Filling.{fields-all}
use Rattle.ob_schema.specs.Models.{IsModel, IsRegistry, model_at}
use Rattle.ob_schema.specs.Tables.{Standing}
use Rattle.ob_schema.specs.declared.info.ModelInfo.{ModelInfo}
use Rattle.ob_cache.proofs.whole.add_model.Goals as goal

pub overflow_add-place-end : goal.overflow_add-place-end
overflow_add-place-end c =
    let s = c.args.source.now in
    let info = c.in-Some.info.now in
    let is : model_at s.models c.args.model ≡ Some info = ap (λ (m : List ModelInfo). model_at m c.args.model) c.requires.models ∙ sym c.find_model.ensures ∙ ap (option_map (λ i. i.now)) c.in-Some.is in
    let registry : IsRegistry s.models = subst (λ (t : Standing). IsRegistry t.models) (sym c.requires.tables) c.fit_together.ensures.registry in
    let law : IsModel s.models c.args.model info = registry.each c.args.model info is in
    let few = law.few in
    let few_hidden = law.few_hidden in
    omega (arith, c.len.ensures, c.len-2.ensures)

pub overflow_cast-field : goal.overflow_cast-field
overflow_cast-field c =
    let s = c.args.source.now in
    let info = c.in-Some.info.now in
    let is : model_at s.models c.args.model ≡ Some info = ap (λ (m : List ModelInfo). model_at m c.args.model) c.requires.models ∙ sym c.find_model.ensures ∙ ap (option_map (λ i. i.now)) c.in-Some.is in
    let registry : IsRegistry s.models = subst (λ (t : Standing). IsRegistry t.models) (sym c.requires.tables) c.fit_together.ensures.registry in
    let law : IsModel s.models c.args.model info = registry.each c.args.model info is in
    let few = law.few in
    let few_hidden = law.few_hidden in
    omega (arith, c.len.ensures, c.len-2.ensures, c.loop-place-test.true)

pub overflow_add-field : goal.overflow_add-field
overflow_add-field c =
    let s = c.args.source.now in
    let info = c.in-Some.info.now in
    let is : model_at s.models c.args.model ≡ Some info = ap (λ (m : List ModelInfo). model_at m c.args.model) c.requires.models ∙ sym c.find_model.ensures ∙ ap (option_map (λ i. i.now)) c.in-Some.is in
    let registry : IsRegistry s.models = subst (λ (t : Standing). IsRegistry t.models) (sym c.requires.tables) c.fit_together.ensures.registry in
    let law : IsModel s.models c.args.model info = registry.each c.args.model info is in
    let few = law.few in
    let few_hidden = law.few_hidden in
    omega (arith, c.len.ensures, c.len-2.ensures, c.loop-place-test.true)

pub returns-clause-values : goal.returns-clause-values
returns-clause-values c =
    let s = c.args.source.now in
    let info = c.in-Some.info.now in
    let is : model_at s.models c.args.model ≡ Some info = ap (λ (m : List ModelInfo). model_at m c.args.model) c.requires.models ∙ sym c.find_model.ensures ∙ ap (option_map (λ i. i.now)) c.in-Some.is in
    fields-all s.models s.tables c.args.model info is c.loop-place.place (omega (arith, c.len.ensures, c.len-2.ensures, c.loop-place-test.false)) c.loop-place.values c.loop-place.invariant.done
