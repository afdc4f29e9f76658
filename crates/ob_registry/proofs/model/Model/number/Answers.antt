-- The number is one more than the place that the search finds.
use Rattle.std.proofs.Common.{rules, ◌≡◌, List, Some, None, option_map, sym, ap, ◌∙◌, add-one, take}
use Rattle.std.specs.Result.{result_ok}
use Rattle.std.proofs.lemmas.Fn.{always_returns_same}
use Rattle.ob_registry.specs.declared.model.Member.{Member as KeptMember}
use Rattle.ob_registry.proofs.ModelNumbers.{kept_name, number_searched}
use Rattle.ob_registry.proofs.NameOrder.{number_at}
use Rattle.ob_schema.proofs.CallerLemmas.{order}
use Rattle.ob_registry.proofs.model.Model.number.Goals as goal

pub returns-in_err-place-clause-at : goal.returns-in_err-place-clause-at
returns-in_err-place-clause-at c =
    let model = c.args.self.now in
    let name = c.args.name.now in
    let front = ap (λ (l : List KeptMember). take model.named l) c.deref.ensures.value in
    let position = c.binary_search_by.ensures.position (order kept_name name) (always_returns_same _ _ _ (λ a r q k. (search rules, search rules))) in
    let found = number_searched model name (take model.named c.deref.result.now) front c.binary_search_by.result c.binary_search_by.ensures.bound position in
    let none : result_ok c.binary_search_by.result ≡ None = sym c.ok.ensures.value ∙ c.in_err-place.was in
    c.from_residual.ensures ∙ sym (found ∙ ap (option_map number_at) none)

pub returns-clause-at : goal.returns-clause-at
returns-clause-at c =
    let model = c.args.self.now in
    let name = c.args.name.now in
    let front = ap (λ (l : List KeptMember). take model.named l) c.deref.ensures.value in
    let position = c.binary_search_by.ensures.position (order kept_name name) (always_returns_same _ _ _ (λ a r q k. (search rules, search rules))) in
    let found = number_searched model name (take model.named c.deref.result.now) front c.binary_search_by.result c.binary_search_by.ensures.bound position in
    let some : result_ok c.binary_search_by.result ≡ Some c.in_ok-place.place = sym c.ok.ensures.value ∙ c.in_ok-place.was in
    rw add-one (sym (found ∙ ap (option_map number_at) some))
