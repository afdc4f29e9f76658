use Rattle.std.proofs.Common.{rules, tests, ◌∙◌, sym, ap, option_map}
use Rattle.std.specs.Prelude.{is_some, not}
use Rattle.std.proofs.lemmas.Iterator.{YieldsList-from_slice}
use Rattle.std.proofs.lemmas.Iterator.Search.{position_from_yields_List}
use Rattle.serde_json.specs.Find.{as_str}
use Rattle.serde_json.specs.View.{view}
use Rattle.serde_json.specs.declared.value.Value.{Value}
use Rattle.ob_call.specs.Places.{below_steps}
use Rattle.ob_call.proofs.Items.{none_refused, refused_at}
use Rattle.ob_call.proofs.texts.first_no_text.Goals as goal

pub returns-in_err-number : goal.returns-in_err-number
returns-in_err-number c =
    let items = c.args.items.now in
    let found = position_from_yields_List (λ (v : Value). not (is_some (as_str (view v)))) _ _ c.position.result c.position.ensures.ran (YieldsList-from_slice items cc) (λ x b q k. search (rules, tests)) in
    ap (option_map below_steps) c.from_residual.ensures ∙ none_refused (λ d. is_some (as_str d)) items (sym (c.in_err-number.was) ∙ found)

pub returns : goal.returns
returns c =
    let items = c.args.items.now in
    let found = position_from_yields_List (λ (v : Value). not (is_some (as_str (view v)))) _ _ c.position.result c.position.ensures.ran (YieldsList-from_slice items cc) (λ x b q k. search (rules, tests)) in
    refused_at (λ d. is_some (as_str d)) items c.in_ok-number.number (sym (c.in_ok-number.was) ∙ found)
