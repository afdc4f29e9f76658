-- Each text is tested behind its reference.
use Rattle.std.proofs.Common.{ℕ, List, Bor, ◌∙◌, sym, rules, tests}
use Rattle.std.proofs.lemmas.Iterator.{YieldsList-from_slice}
use Rattle.std.proofs.lemmas.Iterator.Search.{all_from_yields_List}
use Rattle.std.proofs.lemmas.List.Folds.{list_all-map}
use Rattle.ob_definition.specs.Names.{is_field_name}
use Rattle.ob_words.proofs.values.are_modules.Goals as goal

pub returns : goal.returns
returns c =
    all_from_yields_List (λ (name : Bor (List ℕ)). is_field_name name.now) _ _ c.all.result c.all.ensures.ran (YieldsList-from_slice c.args.names.now cc) (λ x b q k. search (rules, tests))
    ∙ sym (list_all-map is_field_name (λ (name : Bor (List ℕ)). name.now) c.args.names.now)
