use Rattle.std.proofs.Common.{Err, ap, inl, inr, refl, ◌∙◌}
use Rattle.ob_base.specs.declared.refusal.Refusal.TheVariants as refusal
use Rattle.serde_json.specs.View.{view}
use Rattle.ob_server.proofs.AnswerLaws.{tells_by}
use Rattle.ob_server.proofs.answering.keep.Goals as goal

pub returns-in_default-clause-causes : goal.returns-in_default-clause-causes
returns-in_default-clause-causes g c = inl (inr refl)

pub returns-in_default-flush-clause-causes : goal.returns-in_default-flush-clause-causes
returns-in_default-flush-clause-causes g c = inl (inl (c.in-Ok.ensures c.requires.id c.requires.json))

pub returns-in-Failed-clause-causes : goal.returns-in-Failed-clause-causes
returns-in-Failed-clause-causes g c =
    let models = c.args.engine.now.held.models in
    let rose = c.in-Err.ensures.cause.cause (ap Err c.in-Failed.is) in
    inr (
      rw c.forget-2.ensures.same rose,
      tells_by models c.schema.result.now (view c.args.id.now) (Err refusal.Keeper) _ (c.schema.ensures ∙ c.forget-2.ensures.rests.models_are ∙ c.in-Err.ensures.spoiled.models) c.refused.ensures,
    )

pub returns-clause-causes : goal.returns-clause-causes
returns-clause-causes g c = inl (inr refl)
