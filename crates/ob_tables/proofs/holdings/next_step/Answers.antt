use Rattle.std.proofs.Common.{◌≡◌, ◌<◌, ◌∷◌, Some, Equal, Greater, ap, sym, subst, ◌∙◌}
use Rattle.std.proofs.lemmas.Cmp.{ranked}
use Rattle.ob_base.specs.Rising.{IsRising}
use Rattle.ob_tables.specs.Holdings.{IsStep, has_id}
use Rattle.ob_tables.proofs.Held.{below-first}
use Rattle.ob_tables.proofs.holdings.next_step.Goals.{in-Less, in-Greater, in-Equal}
use Rattle.ob_tables.proofs.holdings.next_step.Goals as goal

pub returns : goal.returns
returns c =
    let come = c.args.come.now in
    let gone = c.args.gone.now in
    let comes = c.in-Some.ensures.cases.0 in
    let goes = c.in-Some-split_first.ensures.cases.0 in
    let first = c.in-Some-split_first.first.now in
    let next = c.in-Some.next.now in
    elim c.match-cmp.branch [
      | in-Less w ↦ subst (λ s. IsStep gone come (Some s)) (sym w.result-is) goes
      | in-Greater w ↦
          let lower : next.0 < first.0 = ranked first.0 next.0 Greater (sym w.in-Greater.is ∙ c.cmp.ensures) in
          subst (λ s. IsStep gone come (Some s)) (sym w.result-is)
          (comes, ap (λ l. has_id l next) goes ∙ below-first first c.in-Some-split_first.rest.now (subst IsRising goes c.requires) next lower)
      | in-Equal w ↦
          let same : first.0 ≡ next.0 = ranked first.0 next.0 Equal (sym w.in-Equal.is ∙ c.cmp.ensures) in
          subst (λ s. IsStep gone come (Some s)) (sym w.result-is)
          (goes, comes ∙ ap (λ n. record { 0 = n } ∷ c.in-Some.others.now) (sym same))
    ]
