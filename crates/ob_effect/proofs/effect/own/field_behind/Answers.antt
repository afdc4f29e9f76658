use Rattle.std.proofs.Common.{ℕ, ap, eqb-true, sym, ◌∙◌}
use Rattle.ob_base.specs.declared.id.ModelNo.{ModelNo}
use Rattle.ob_effect.proofs.FieldLaws.{behind_stands}
use Rattle.ob_effect.proofs.effect.own.field_behind.Goals as goal

numbered : ℕ → ModelNo
numbered n = record { 0 = n }

pub returns-in-Delegated : goal.returns-in-Delegated
unfolding numbered
returns-in-Delegated c =
    behind_stands c.args.schema.now c.parts_fit_together.ensures c.args.model c.args.field c.info.result.now c.info.ensures c.in-Delegated.at c.args.parent c.in-Delegated.is
    (ap numbered (eqb-true c.in-Delegated.at.model.0 c.args.parent.model.0 (sym c.eq-then-eq.ensures ∙ c.if-eq-2.true)))
