use Rattle.ob_cache.specs.Calls.{standpoint}
use Rattle.ob_call.specs.Called.{result_view}
use Rattle.ob_server.proofs.AnswerLaws.{known, known_model, makes_as}
use Rattle.ob_server.specs.declared.request.WriteMethod.TheVariants as writing
use Rattle.ob_server.proofs.answering.make.Goals as goal

pub returns-in-Create-clause-call : goal.returns-in-Create-clause-call
returns-in-Create-clause-call g c =
    let before = standpoint g.K.Keeper c.args.engine.now in
    let after = standpoint g.K.Keeper c.create.new.engine in
    let call = c.args.call.now in
    let result = result_view c.create.result in
    makes_as before after c.args.policy.now call c.args.method writing.Create c.in-Create.is result c.create.ensures.call

pub returns-in-Create-clause-models : goal.returns-in-Create-clause-models
returns-in-Create-clause-models g c = let (info, is) = known_model _ c.requires.model in (known _ info _ is c.create.ensures.call).rests.models_are

pub returns-in-Create-clause-phase : goal.returns-in-Create-clause-phase
returns-in-Create-clause-phase g c = let (info, is) = known_model _ c.requires.model in (known _ info _ is c.create.ensures.call).rests.phase_is

pub returns-in-Create-clause-next_ids : goal.returns-in-Create-clause-next_ids
returns-in-Create-clause-next_ids g c = let (info, is) = known_model _ c.requires.model in (known _ info _ is c.create.ensures.call).rests.next_ids

pub returns-in-Create-clause-same : goal.returns-in-Create-clause-same
returns-in-Create-clause-same g c = let (info, is) = known_model _ c.requires.model in (known _ info _ is c.create.ensures.call).same

pub returns-in-Create-clause-count : goal.returns-in-Create-clause-count
returns-in-Create-clause-count g c = let (info, is) = known_model _ c.requires.model in (known _ info _ is c.create.ensures.call).count

pub returns-in-Write-clause-call : goal.returns-in-Write-clause-call
returns-in-Write-clause-call g c =
    let before = standpoint g.K.Keeper c.args.engine.now in
    let after = standpoint g.K.Keeper c.write.new.engine in
    let call = c.args.call.now in
    let result = result_view c.write.result in
    makes_as before after c.args.policy.now call c.args.method writing.Write c.in-Write.is result c.write.ensures.call

pub returns-in-Write-clause-models : goal.returns-in-Write-clause-models
returns-in-Write-clause-models g c = let (info, is) = known_model _ c.requires.model in (known _ info _ is c.write.ensures.call).rests.models_are

pub returns-in-Write-clause-phase : goal.returns-in-Write-clause-phase
returns-in-Write-clause-phase g c = let (info, is) = known_model _ c.requires.model in (known _ info _ is c.write.ensures.call).rests.phase_is

pub returns-in-Write-clause-next_ids : goal.returns-in-Write-clause-next_ids
returns-in-Write-clause-next_ids g c = let (info, is) = known_model _ c.requires.model in (known _ info _ is c.write.ensures.call).rests.next_ids

pub returns-in-Write-clause-same : goal.returns-in-Write-clause-same
returns-in-Write-clause-same g c = let (info, is) = known_model _ c.requires.model in (known _ info _ is c.write.ensures.call).same

pub returns-in-Write-clause-count : goal.returns-in-Write-clause-count
returns-in-Write-clause-count g c = let (info, is) = known_model _ c.requires.model in (known _ info _ is c.write.ensures.call).count

pub returns-in-Unlink-clause-call : goal.returns-in-Unlink-clause-call
returns-in-Unlink-clause-call g c =
    let before = standpoint g.K.Keeper c.args.engine.now in
    let after = standpoint g.K.Keeper c.unlink.new.engine in
    let call = c.args.call.now in
    let result = result_view c.unlink.result in
    makes_as before after c.args.policy.now call c.args.method writing.Unlink c.in-Unlink.is result c.unlink.ensures.call

pub returns-in-Unlink-clause-models : goal.returns-in-Unlink-clause-models
returns-in-Unlink-clause-models g c = let (info, is) = known_model _ c.requires.model in (known _ info _ is c.unlink.ensures.call).rests.models_are

pub returns-in-Unlink-clause-phase : goal.returns-in-Unlink-clause-phase
returns-in-Unlink-clause-phase g c = let (info, is) = known_model _ c.requires.model in (known _ info _ is c.unlink.ensures.call).rests.phase_is

pub returns-in-Unlink-clause-next_ids : goal.returns-in-Unlink-clause-next_ids
returns-in-Unlink-clause-next_ids g c = let (info, is) = known_model _ c.requires.model in (known _ info _ is c.unlink.ensures.call).rests.next_ids

pub returns-in-Unlink-clause-same : goal.returns-in-Unlink-clause-same
returns-in-Unlink-clause-same g c = let (info, is) = known_model _ c.requires.model in (known _ info _ is c.unlink.ensures.call).same

pub returns-in-Unlink-clause-count : goal.returns-in-Unlink-clause-count
returns-in-Unlink-clause-count g c = let (info, is) = known_model _ c.requires.model in (known _ info _ is c.unlink.ensures.call).count
