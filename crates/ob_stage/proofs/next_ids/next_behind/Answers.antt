use Rattle.std.proofs.Common.{◌≡◌, ◌+◌, ℕ, ap, eq-eqb, eqb-true, max, sym, ◌∙◌}
use Rattle.std.proofs.lemmas.Bool.{true≢false}
use Rattle.ob_base.specs.declared.id.ModelNo.{ModelNo}
use Rattle.ob_schema.specs.Tables.{next_of}
use Rattle.ob_stage.proofs.TakenIds.{next-none, next-own}
use Rattle.ob_stage.proofs.next_ids.next_behind.Goals as goal
use Rattle.ob_tables.specs.After.{edited}
use Rattle.ob_tables.specs.declared.edit.Edit.{Edit}
use Rattle.ob_tables.specs.declared.edit.Edit.TheVariants as edit

pub returns-then-eq-clause-next : goal.returns-then-eq-clause-next
returns-then-eq-clause-next c = λ models tables there next.
    let model = c.args.model in let id = c.in-Make.id in
    let same : c.in-Make.other ≡ model = ap (λ (n : ℕ). record { 0 = n }) (eqb-true c.in-Make.other.0 model.0 (sym c.eq.ensures ∙ c.if-eq.true)) in
    c.max.ensures ∙ ap (λ (n : ℕ). max n (id.0 + 1)) next
    ∙ sym (ap (λ (e : Edit). next_of (edited models tables e) model) c.in-Make.is
    ∙ ap (λ (m : ModelNo). next_of (edited models tables (edit.Make m id c.in-Make.values)) model) same ∙ next-own models tables model there id c.in-Make.values)

pub returns-else-eq-clause-next : goal.returns-else-eq-clause-next
returns-else-eq-clause-next c = λ models tables there next.
    let model = c.args.model in let one = edit.Make c.in-Make.other c.in-Make.id c.in-Make.values in
    let not : c.in-Make.other ≡ model → ⊥ = λ same. true≢false (sym (eq-eqb c.in-Make.other.0 model.0 (ap (λ (m : ModelNo). m.0) same)) ∙ sym c.eq.ensures ∙ c.if-eq.false) in
    next ∙ sym (ap (λ (e : Edit). next_of (edited models tables e) model) c.in-Make.is ∙ next-none models tables model one not)
