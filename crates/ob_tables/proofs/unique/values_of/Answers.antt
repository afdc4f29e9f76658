use Rattle.std.proofs.Common.{◌≡◌, ◌∙◌, true, false, Some, ap, sym, option_map}
use Rattle.ob_tables.specs.Sets.{set_value, values_in}
use Rattle.ob_tables.proofs.SetValues.{some-set, values-all, values-more, values-none, values-start}
use Rattle.ob_tables.proofs.unique.values_of.Goals as goal

contrary : {P : Type 0} → false ≡ true → P
contrary e = cc

pub loop-field-init : goal.loop-field-init
loop-field-init c = values-start c.args.tables.now.tables c.args.model c.args.id c.args.set.now c.new-values.result.items c.new-values.ensures.items

pub returns-in_default : goal.returns-in_default
returns-in_default c =
    sym (values-none c.args.tables.now.tables c.args.model c.args.id c.args.set.now c.loop-field.field-index (record { 0 = 0 }) (values_in c.loop-field.values.items) c.loop-field-test.true
    (ap set_value (sym c.kept.ensures ∙ ap (option_map (λ value. value.now)) c.in_default.is)) c.loop-field.invariant)

pub returns-then-is_unset : goal.returns-then-is_unset
returns-then-is_unset c =
    sym (values-none c.args.tables.now.tables c.args.model c.args.id c.args.set.now c.loop-field.field-index (record { 0 = 0 }) (values_in c.loop-field.values.items) c.loop-field-test.true
    (ap set_value (sym c.kept.ensures ∙ ap (option_map (λ value. value.now)) c.in-Some.is ∙ ap Some (c.is_unset.ensures.0 c.if-is_unset.true))) c.loop-field.invariant)

pub loop-field-preserved : goal.loop-field-preserved
loop-field-preserved c =
    values-more c.args.tables.now.tables c.args.model c.args.id c.args.set.now c.loop-field.field-index (record { 0 = 0 }) c.loop-field.values.items c.push.new.self.items c.in-Some.value c.loop-field-test.true
    (ap set_value (sym c.kept.ensures ∙ ap (option_map (λ value. value.now)) c.in-Some.is) ∙ some-set c.in-Some.value.now (λ unset. contrary (sym c.if-is_unset.false ∙ c.is_unset.ensures.1 unset)))
    c.in_ok-push.ensures.items c.loop-field.invariant

pub returns : goal.returns
returns c = sym (values-all c.args.tables.now.tables c.args.model c.args.id c.args.set.now c.loop-field.field-index (values_in c.loop-field.values.items) c.loop-field-test.false c.loop-field.invariant)
