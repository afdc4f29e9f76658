use Rattle.std.proofs.Common.{refl}
use Rattle.std.proofs.lemmas.Int.{to_z-of_z}
use Rattle.ob_cache.specs.Calls.{standpoint}
use Rattle.serde_json.specs.View.{items_view, view}
use Rattle.ob_server.specs.Directory.{Directory, nobody}
use Rattle.ob_server.specs.Request.{Request, call_of, listed, request_by}
use Rattle.ob_server.specs.Setup.{over}
use Rattle.ob_server.specs.declared.request.Layout.TheVariants as layout
use Rattle.ob_server.proofs.AnswerLaws.{asked_same, no_memory_serves, replied_same, replies_no_memory}
use Rattle.ob_server.proofs.answering.serve_spread.Goals as goal

pub returns-in-Ok-clause-served : goal.returns-in-Ok-clause-served
returns-in-Ok-clause-served g c =
    let served = rw (c.as_slice.ensures, c.in-Ok.ensures) at c.serve_elements.ensures.served in
    let asks : Directory → Request = λ directory. request_by (view c.args.id.now) (call_of (over c.args.terms.now c.args.engine.now.held.models) directory layout.Spread (listed (items_view c.args.elements))) in
    asked_same c.args.terms.now (standpoint g.K.Keeper c.args.engine.now) (standpoint g.K.Keeper c.serve_elements.new.engine) _ _ asks asks _ (to_z-of_z _ _ c.ranges.now) (λ directory. refl) served

pub returns-in-Ok-clause-causes : goal.returns-in-Ok-clause-causes
returns-in-Ok-clause-causes g c =
    let causes = rw (c.as_slice.ensures, c.in-Ok.ensures) at c.serve_elements.ensures.causes in
    let asks : Directory → Request = λ directory. request_by (view c.args.id.now) (call_of (over c.args.terms.now c.args.engine.now.held.models) directory layout.Spread (listed (items_view c.args.elements))) in
    replied_same c.args.terms.now (standpoint g.K.Keeper c.args.engine.now) (standpoint g.K.Keeper c.serve_elements.new.engine) _ _ asks asks _ (to_z-of_z _ _ c.ranges.now) (λ directory. refl) causes

pub returns-in-Err-clause-served : goal.returns-in-Err-clause-served
returns-in-Err-clause-served g c = λ tables rests. no_memory_serves (over c.args.terms.now c.args.engine.now.held.models) tables _ _ _ _ _ rests

pub returns-in-Err-clause-causes : goal.returns-in-Err-clause-causes
returns-in-Err-clause-causes g c = (nobody, replies_no_memory (over c.args.terms.now c.args.engine.now.held.models) _ _ _)
