use Rattle.std.proofs.Common.{unwrap_or, sym, ap, ◌∙◌}
use Rattle.std.specs.Option.{option_copied}
use Rattle.std.proofs.lemmas.Bool.{false≢true}
use Rattle.ob_base.specs.declared.value.Value.TheVariants as value
use Rattle.ob_tables.proofs.Digesting.{kept-shown}
use Rattle.ob_tables.proofs.sharing.are_alike_in.Goals as goal

pub returns-in_default : goal.returns-in_default
returns-in_default c =
    let unset = kept-shown c.args.row.now c.args.field c.get.result c.get.ensures.value ∙ ap (λ o. unwrap_or (option_copied o) value.Nil) c.in_default.is in
    (λ told. absurd (false≢true told), λ alike. absurd (alike.0 unset))

pub returns-in_default-get : goal.returns-in_default-get
returns-in_default-get c =
    let unset = kept-shown c.args.other.now c.args.field c.get-2.result c.get-2.ensures.value ∙ ap (λ o. unwrap_or (option_copied o) value.Nil) c.in_default-get.is in
    (λ told. absurd (false≢true told), λ alike. absurd (alike.0 (sym alike.1 ∙ unset)))

pub returns-then-is_unset : goal.returns-then-is_unset
returns-then-is_unset c =
    let one = kept-shown c.args.row.now c.args.field c.get.result c.get.ensures.value ∙ ap (λ o. unwrap_or (option_copied o) value.Nil) c.in-Some.is in
    (λ told. absurd (false≢true told), λ alike. absurd (alike.0 (one ∙ c.is_unset.ensures.0 c.if-is_unset.true)))

pub returns : goal.returns
returns c =
    let one = kept-shown c.args.row.now c.args.field c.get.result c.get.ensures.value ∙ ap (λ o. unwrap_or (option_copied o) value.Nil) c.in-Some.is in
    let two = kept-shown c.args.other.now c.args.field c.get-2.result c.get-2.ensures.value ∙ ap (λ o. unwrap_or (option_copied o) value.Nil) c.in-Some-get.is in (
      λ told. (λ unset. false≢true (sym c.if-is_unset.false ∙ c.is_unset.ensures.1 (sym one ∙ unset)), two ∙ sym (c.value_eq.ensures.0 told) ∙ sym one),
      λ alike. c.value_eq.ensures.1 (sym one ∙ sym alike.1 ∙ two),
    )
