use Rattle.std.proofs.Common.{◌≡◌, ◌++◌, ◌<◌, ◌-◌, List, Some, length, drop, sym, ap, subst, ◌∙◌}
use Rattle.std.specs.Prelude.{slice_get}
use Rattle.std.proofs.lemmas.Option.{get_or_from_slice_get, slice_get_within}
use Rattle.ob_base.specs.declared.id.RecId.{RecId}
use Rattle.ob_cache.specs.Stages.{resting}
use Rattle.ob_query.proofs.Walks.{above, no-first, none-last, page-and-above, told-last, turned}
use Rattle.ob_query.specs.SearchQuestions.{IsTaken, ahead}
use Rattle.ob_schema.specs.Tables.{ids_in}
use Rattle.ob_tables.proofs.CallerLemmas.{ids-rise}
use Rattle.ob_tables.specs.Paging.{first_above}
use Rattle.ob_query.proofs.searching.walk.Walk.next.Goals as goal

pub returns-clause-told : goal.returns-clause-told
returns-clause-told g c = λ tables rests.
    let models = c.args.engine.now.held.models in
    let all = ids_in tables c.args.model in
    let page = c.in_ok-page.page in
    let after = c.args.self.now.last in
    let last = c.in-Some-last.last.now in
    let new = c.of_page-2.new.self in
    let at = told-last c.last.result c.in-Some-last.last c.as_slice.result.now page c.in-Some-last.is c.last.ensures.value c.as_slice.ensures.same in
    let is = c.in_ok-page.ensures.ids (resting models tables) rests ∙ ap (λ (a : RecId). first_above a 256 all) c.of_page.ensures.last in
    let low = subst (λ (a : RecId). a.0 < last.0) c.of_page.ensures.last (subst (λ (q : RecId). c.of_page.new.self.last.0 < q.0) (get_or_from_slice_get page (length page - 1) last last at)
    (c.in_ok-page.ensures.fits.above (length page - 1) last (slice_get_within page (length page - 1) last at))) in
    let split = page-and-above 256 all after last (ids-rise c.args.model tables) low (subst (λ (l : List RecId). slice_get l (length l - 1) ≡ Some last) is at) ∙ ap (λ (l : List RecId). l ++ above last all) (sym is) in
    let next = turned c.of_page-2.result page (drop new.place new.page) (above after all) (above last all) last at c.of_page-2.ensures.left split in
    subst (λ (l : List RecId). IsTaken c.of_page-2.result l (ahead new all)) (sym (ap (λ (l : List RecId). l ++ above after all) c.in_default.ensures.left.0))
    (subst (λ (a : RecId). IsTaken c.of_page-2.result (above after all) (drop new.place new.page ++ above a all)) (sym c.of_page-2.ensures.last) next)

pub returns-in_default-last-clause-told : goal.returns-in_default-last-clause-told
returns-in_default-last-clause-told g c = λ tables rests.
    let models = c.args.engine.now.held.models in
    let all = ids_in tables c.args.model in
    let after = c.args.self.now.last in
    let empty = none-last c.last.result c.as_slice.result.now c.in_ok-page.page c.in_default-last.is c.last.ensures.value c.as_slice.ensures.same in
    let is = c.in_ok-page.ensures.ids (resting models tables) rests ∙ ap (λ (a : RecId). first_above a 256 all) c.of_page.ensures.last in
    let none = no-first 255 (above after all) (sym is ∙ empty) in (
      ap (λ (l : List RecId). l ++ above after all) c.in_default.ensures.left.0 ∙ none,
      ap (λ (l : List RecId). l ++ above c.of_page.new.self.last all) c.in_default.ensures.left.1 ∙ ap (λ (a : RecId). above a all) c.in_default.ensures.last ∙ none,
    )
