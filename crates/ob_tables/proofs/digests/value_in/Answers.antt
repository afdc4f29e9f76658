use Rattle.std.proofs.Common.{◌≡◌, Some, option_map, unwrap_or, true, false, sym, ap, ◌∙◌}
use Rattle.std.specs.Option.{option_copied}
use Rattle.ob_base.specs.declared.value.Value.{Value}
use Rattle.ob_base.specs.declared.value.Value.TheVariants as value
use Rattle.ob_tables.specs.Sets.{set_value}
use Rattle.ob_tables.proofs.Digesting.{kept-shown}
use Rattle.ob_tables.proofs.SetValues.{some-set}
use Rattle.ob_tables.proofs.digests.value_in.Goals as goal

contrary : {P : Type 0} → false ≡ true → P
contrary e = cc

pub returns-in_err-value : goal.returns-in_err-value
returns-in_err-value c =
    ap (option_map (λ value. value.now)) c.from_residual.ensures
    ∙ sym (ap (λ (v : Value). set_value (Some v)) (kept-shown c.args.row.now c.args.field c.get.result c.get.ensures.value ∙ ap (λ o. unwrap_or (option_copied o) value.Nil) c.in_err-value.was))

pub returns-then-is_unset : goal.returns-then-is_unset
returns-then-is_unset c =
    sym (ap (λ (v : Value). set_value (Some v)) (kept-shown c.args.row.now c.args.field c.get.result c.get.ensures.value ∙ ap (λ o. unwrap_or (option_copied o) value.Nil) c.in_ok-value.was
    ∙ c.is_unset.ensures.0 c.if-is_unset.true))

pub returns : goal.returns
returns c =
    sym (ap (λ (v : Value). set_value (Some v)) (kept-shown c.args.row.now c.args.field c.get.result c.get.ensures.value ∙ ap (λ o. unwrap_or (option_copied o) value.Nil) c.in_ok-value.was)
    ∙ some-set c.in_ok-value.value.now (λ unset. contrary (sym c.if-is_unset.false ∙ c.is_unset.ensures.1 unset)))
