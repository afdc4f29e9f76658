use Rattle.ob_cache.specs.Calls.{standpoint}
use Rattle.ob_call.specs.Called.{result_view}
use Rattle.ob_server.proofs.AnswerLaws.{known, known_model, tells_as}
use Rattle.ob_server.specs.declared.request.ReadMethod.TheVariants as reading
use Rattle.ob_server.proofs.answering.tell.Goals as goal

pub returns-in-Read-clause-call : goal.returns-in-Read-clause-call
returns-in-Read-clause-call g c =
    let before = standpoint g.K.Keeper c.args.engine.now in
    let after = standpoint g.K.Keeper c.read.new.engine in
    let call = c.args.call.now in
    let result = result_view c.read.result in
    tells_as before after c.args.policy.now call c.args.method reading.Read c.in-Read.is result c.read.ensures.call

pub returns-in-Read-clause-same : goal.returns-in-Read-clause-same
returns-in-Read-clause-same g c = let (info, is) = known_model _ c.requires.model in (known _ info _ is c.read.ensures.call).same

pub returns-in-Read-clause-count : goal.returns-in-Read-clause-count
returns-in-Read-clause-count g c = let (info, is) = known_model _ c.requires.model in (known _ info _ is c.read.ensures.call).count

pub returns-in-Search-clause-call : goal.returns-in-Search-clause-call
returns-in-Search-clause-call g c =
    let before = standpoint g.K.Keeper c.args.engine.now in
    let after = standpoint g.K.Keeper c.search.new.engine in
    let call = c.args.call.now in
    let result = result_view c.search.result in
    tells_as before after c.args.policy.now call c.args.method reading.Search c.in-Search.is result c.search.ensures.call

pub returns-in-Search-clause-same : goal.returns-in-Search-clause-same
returns-in-Search-clause-same g c = let (info, is) = known_model _ c.requires.model in (known _ info _ is c.search.ensures.call).same

pub returns-in-Search-clause-count : goal.returns-in-Search-clause-count
returns-in-Search-clause-count g c = let (info, is) = known_model _ c.requires.model in (known _ info _ is c.search.ensures.call).count

pub returns-in-SearchCount-clause-call : goal.returns-in-SearchCount-clause-call
returns-in-SearchCount-clause-call g c =
    let before = standpoint g.K.Keeper c.args.engine.now in
    let after = standpoint g.K.Keeper c.search_count.new.engine in
    let call = c.args.call.now in
    let result = result_view c.search_count.result in
    tells_as before after c.args.policy.now call c.args.method reading.SearchCount c.in-SearchCount.is result c.search_count.ensures.call

pub returns-in-SearchCount-clause-same : goal.returns-in-SearchCount-clause-same
returns-in-SearchCount-clause-same g c = let (info, is) = known_model _ c.requires.model in (known _ info _ is c.search_count.ensures.call).same

pub returns-in-SearchCount-clause-count : goal.returns-in-SearchCount-clause-count
returns-in-SearchCount-clause-count g c = let (info, is) = known_model _ c.requires.model in (known _ info _ is c.search_count.ensures.call).count

pub returns-in-SearchRead-clause-call : goal.returns-in-SearchRead-clause-call
returns-in-SearchRead-clause-call g c =
    let before = standpoint g.K.Keeper c.args.engine.now in
    let after = standpoint g.K.Keeper c.search_read.new.engine in
    let call = c.args.call.now in
    let result = result_view c.search_read.result in
    tells_as before after c.args.policy.now call c.args.method reading.SearchRead c.in-SearchRead.is result c.search_read.ensures.call

pub returns-in-SearchRead-clause-same : goal.returns-in-SearchRead-clause-same
returns-in-SearchRead-clause-same g c = let (info, is) = known_model _ c.requires.model in (known _ info _ is c.search_read.ensures.call).same

pub returns-in-SearchRead-clause-count : goal.returns-in-SearchRead-clause-count
returns-in-SearchRead-clause-count g c = let (info, is) = known_model _ c.requires.model in (known _ info _ is c.search_read.ensures.call).count

pub returns-in-ReadGroup-clause-call : goal.returns-in-ReadGroup-clause-call
returns-in-ReadGroup-clause-call g c =
    let before = standpoint g.K.Keeper c.args.engine.now in
    let after = standpoint g.K.Keeper c.read_group.new.engine in
    let call = c.args.call.now in
    let result = result_view c.read_group.result in
    tells_as before after c.args.policy.now call c.args.method reading.ReadGroup c.in-ReadGroup.is result c.read_group.ensures.call

pub returns-in-ReadGroup-clause-same : goal.returns-in-ReadGroup-clause-same
returns-in-ReadGroup-clause-same g c = let (info, is) = known_model _ c.requires.model in (known _ info _ is c.read_group.ensures.call).same

pub returns-in-ReadGroup-clause-count : goal.returns-in-ReadGroup-clause-count
returns-in-ReadGroup-clause-count g c = let (info, is) = known_model _ c.requires.model in (known _ info _ is c.read_group.ensures.call).count

pub returns-in-FieldsGet-clause-call : goal.returns-in-FieldsGet-clause-call
returns-in-FieldsGet-clause-call g c =
    let before = standpoint g.K.Keeper c.args.engine.now in
    let after = standpoint g.K.Keeper c.fields_get.new.engine in
    let call = c.args.call.now in
    let result = result_view c.fields_get.result in
    tells_as before after c.args.policy.now call c.args.method reading.FieldsGet c.in-FieldsGet.is result c.fields_get.ensures.call

pub returns-in-FieldsGet-clause-same : goal.returns-in-FieldsGet-clause-same
returns-in-FieldsGet-clause-same g c = let (info, is) = known_model _ c.requires.model in (known _ info _ is c.fields_get.ensures.call).same

pub returns-in-FieldsGet-clause-count : goal.returns-in-FieldsGet-clause-count
returns-in-FieldsGet-clause-count g c = let (info, is) = known_model _ c.requires.model in (known _ info _ is c.fields_get.ensures.call).count
