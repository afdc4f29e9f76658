use Rattle.std.proofs.Common.{◌≡◌, Some, None, option_map, rules, sym, ap, ◌∙◌, add-one}
use Rattle.std.specs.Result.{result_ok}
use Rattle.std.proofs.lemmas.Fn.{always_returns_same}
use Rattle.ob_schema.proofs.FieldSearch.{number_at, order, searched}
use Rattle.ob_schema.proofs.schema.field_number.Goals as goal

pub returns-in_err-at : goal.returns-in_err-at
returns-in_err-at c =
    let fields = c.args.fields.now in
    let name = c.args.name.now in
    let position = c.binary_search_by.ensures.position (order fields c.requires.ordered name) (always_returns_same _ _ _ (λ a r q k. (search rules, search rules))) in
    let found = searched fields c.requires.ordered name c.binary_search_by.result c.binary_search_by.ensures.bound position in
    let none : result_ok c.binary_search_by.result ≡ None = sym c.ok.ensures.value ∙ c.in_err-at.was in
    let gone : c.from_residual.result ≡ None = cc in
    gone ∙ sym (found ∙ ap (option_map number_at) none)

pub returns : goal.returns
returns c =
    let fields = c.args.fields.now in
    let name = c.args.name.now in
    let position = c.binary_search_by.ensures.position (order fields c.requires.ordered name) (always_returns_same _ _ _ (λ a r q k. (search rules, search rules))) in
    let found = searched fields c.requires.ordered name c.binary_search_by.result c.binary_search_by.ensures.bound position in
    let some : result_ok c.binary_search_by.result ≡ Some c.in_ok-at.at = sym c.ok.ensures.value ∙ c.in_ok-at.was in
    rw add-one (sym (found ∙ ap (option_map number_at) some))
