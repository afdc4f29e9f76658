use Rattle.std.proofs.Common.{◌≡◌, ◌<◌, ◌≤◌, ap, sym, subst, ◌∙◌, unwrap_or}
use Rattle.ob_schema.specs.Models.{HasModel}
use Rattle.ob_schema.specs.Tables.{Fits, next_of}
use Rattle.ob_tables.proofs.Shown.{shown_next-there}
use Rattle.ob_tables.proofs.tables.Tables.next.Goals as goal

told : goal.returns-clause-next
told c = subst (λ s. HasModel s.models c.args.model → c.unwrap_or.result ≡ next_of s.tables c.args.model) c.self.view_is (λ has.
    c.unwrap_or.ensures ∙ ap (λ o. unwrap_or o 1) (c.copied.ensures ∙ c.get.ensures.value)
    ∙ sym (ap (λ o. unwrap_or o 1) (shown_next-there c.self.inside.schema.now c.self.inside.next_ids c.args.model has))) c.requires

pub returns-clause-next : goal.returns-clause-next
returns-clause-next c = told c

pub returns-clause-low : goal.returns-clause-low
returns-clause-low c =
    let fits = subst (λ s. Fits s.models s.tables) c.self.view_is c.self.invariant.fits in
    subst (λ n. 1 ≤ n) (sym (told c)) (fits.low c.args.model)

pub returns-clause-above : goal.returns-clause-above
returns-clause-above c id there =
    let fits = subst (λ s. Fits s.models s.tables) c.self.view_is c.self.invariant.fits in
    subst (λ n. id.0 < n) (sym (told c)) (fits.above c.args.model id there)
