use Rattle.std.proofs.Common.{Err, inl, inr, refl, rules}
use Rattle.std.proofs.lemmas.Int.{to_z-of_z}
use mir.Syntax.{w64}
use mir.Val.{SFits}
use Rattle.ob_base.specs.declared.refusal.Refusal.TheVariants as refusal
use Rattle.ob_rpc.specs.Envelope.{envelope_of}
use Rattle.ob_rpc.specs.Seen.{seen}
use Rattle.ob_rpc.specs.declared.methods.Served.TheVariants.{EveryMethod}
use Rattle.serde_json.specs.View.{view}
use Rattle.ob_server.specs.Directory.{nobody}
use Rattle.ob_server.specs.Request.{request_of}
use Rattle.ob_server.specs.Setup.{over}
use Rattle.ob_server.proofs.AnswerLaws.{body_replies, body_serves, fault_replies, fault_serves, given_as, given_moment, none_taken, one_taken, replies_no_memory, tells_by}
use Rattle.ob_server.proofs.answering.answer.Goals as goal

pub returns-in-Ok-clause-served : goal.returns-in-Ok-clause-served
returns-in-Ok-clause-served g c = λ tables rests.
    let fits : SFits w64 c.now-now.result = search rules in
    inl (record {
      now = _;
      given = given_as _ _ _ (to_z-of_z _ _ fits) c.now-now.ensures.told;
      serves = body_serves (over c.args.terms.now c.args.engine.now.held.models) tables _ _ _ c.args.body.now _ (seen c.in-Ok.envelope) _ c.serve.new.engine.held refl c.in-Ok.ensures.ok (c.serve.ensures.served tables rests);
      taken = one_taken _ _ c.args.body.now (seen c.in-Ok.envelope) c.in-Ok.ensures.ok c.now-now.ensures.rest;
    })

pub returns-in-Err-At-clause-served : goal.returns-in-Err-At-clause-served
returns-in-Err-At-clause-served g c = λ tables rests.
    let models = c.args.engine.now.held.models in
    let moment = given_moment (g.C.Clock.coming c.args.clock.now) in
    inl (record {
      now = moment.0;
      given = moment.1;
      serves = fault_serves (over c.args.terms.now models) tables moment.0 _ c.args.body.now _ (record { place = c.in-Err-At.place; id = view c.in-Err-At.id }) _ _
          (rw c.in-Err-At.field-0-is at c.in-Err-At.ensures.fault) rests
          (tells_by models c.schema.result.now _ (Err (refusal.Request c.in-Err-At.place)) _ c.schema.ensures c.refused.ensures);
      taken = none_taken _ c.args.body.now _ (rw c.in-Err-At.field-0-is at c.in-Err-At.ensures.fault);
    })

pub returns-in-Err-NoMemory-clause-served : goal.returns-in-Err-NoMemory-clause-served
returns-in-Err-NoMemory-clause-served g c = λ tables rests. inr (record { told = refl; rests = rests; coming = refl })

pub returns-in-Ok-clause-causes : goal.returns-in-Ok-clause-causes
returns-in-Ok-clause-causes g c =
    let fits : SFits w64 c.now-now.result = search rules in
    record {
      now = _;
      given = given_as _ _ _ (to_z-of_z _ _ fits) c.now-now.ensures.told;
      replies = (c.serve.ensures.causes.0, body_replies (over c.args.terms.now c.args.engine.now.held.models) c.serve.ensures.causes.0 _ _ _ c.args.body.now _ (seen c.in-Ok.envelope) refl c.in-Ok.ensures.ok c.serve.ensures.causes.1);
    }

pub returns-in-Err-At-clause-causes : goal.returns-in-Err-At-clause-causes
returns-in-Err-At-clause-causes g c =
    let models = c.args.engine.now.held.models in
    let moment = given_moment (g.C.Clock.coming c.args.clock.now) in
    record {
      now = moment.0;
      given = moment.1;
      replies = (
        nobody,
        fault_replies (over c.args.terms.now models) nobody _ moment.0 c.args.body.now _ (record { place = c.in-Err-At.place; id = view c.in-Err-At.id })
            (rw c.in-Err-At.field-0-is at c.in-Err-At.ensures.fault)
            (tells_by models c.schema.result.now _ (Err (refusal.Request c.in-Err-At.place)) _ c.schema.ensures c.refused.ensures),
      );
    }

pub returns-in-Err-NoMemory-clause-causes : goal.returns-in-Err-NoMemory-clause-causes
returns-in-Err-NoMemory-clause-causes g c =
    let models = c.args.engine.now.held.models in
    let moment = given_moment (g.C.Clock.coming c.args.clock.now) in
    record { now = moment.0; given = moment.1; replies = (nobody, replies_no_memory (over c.args.terms.now models) _ moment.0 (request_of (over c.args.terms.now models) nobody (envelope_of EveryMethod c.args.body.now))) }
