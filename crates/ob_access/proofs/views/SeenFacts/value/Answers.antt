-- It keeps that its policy is one over the facts' registry, and a row that is seen is known.
use Rattle.std.proofs.Common.{refl}
use Rattle.ob_base.specs.declared.refusal.Op.TheVariants as op
use Rattle.ob_expr.specs.Meaning.{row_at}
use Rattle.ob_access.specs.Admission.{admits}
use Rattle.ob_access.specs.Rights.{right}
use Rattle.ob_access.proofs.Once.{seen_by}
use Rattle.ob_access.proofs.Seeing.{known-from_seen}
use Rattle.ob_access.proofs.views.SeenFacts.value.Goals as goal

pub seen_value-requires-clause-over : goal.seen_value-requires-clause-over
seen_value-requires-clause-over g c = (seen_by (g.F.Facts.registry c.args.self.now.facts.now) c.args.self.now.policy.now c.args.self.now.schema.now c.args.self.now.fit).over

pub seen_value-requires-clause-schema : goal.seen_value-requires-clause-schema
seen_value-requires-clause-schema g c = (seen_by (g.F.Facts.registry c.args.self.now.facts.now) c.args.self.now.policy.now c.args.self.now.schema.now c.args.self.now.fit).registry

pub seen_value-requires-clause-row : goal.seen_value-requires-clause-row
seen_value-requires-clause-row g c = λ told tells.
    let it = c.args.self.now in let cell = c.args.cell in
    known-from_seen (told.knows cell.model cell.id) (right it.policy.now it.groups.now it.user cell.model op.Read) (admits it.policy.now told it.groups.now it.user op.Read (row_at cell.model cell.id))
    (c.requires.row _ (told, tells, refl))
