-- The text is no JSON, or is read as it.
use Rattle.std.proofs.Common.{◌≡◌, None, sym, ◌∙◌}
use Rattle.std.proofs.lemmas.Bool.{false≢true}
use Rattle.serde_json.specs.Read.{read}
use Rattle.serde_json.specs.View.{view}
use Rattle.ob_load.proofs.DomainTexts.{domain-read, domain-unfit, domain-unread}
use Rattle.ob_load.proofs.entry.domain_from.Goals as goal

pub returns-in-Ok-clause-told : goal.returns-in-Ok-clause-told
returns-in-Ok-clause-told c =
    let models = c.args.schema.now in
    let d = view c.in-Ok.json in
    domain-read models c.args.model c.args.text.now d c.in-Ok.ensures.ok c.read.result c.read.ensures.stands c.read.ensures.few (λ tree. c.one_domain.ensures.taken models c.args.model d tree)

pub returns-in-Ok-clause-fault : goal.returns-in-Ok-clause-fault
returns-in-Ok-clause-fault c = domain-unfit c.args.schema.now c.args.model c.args.text.now (view c.in-Ok.json) c.in-Ok.ensures.ok c.read.result c.read.ensures.fault

pub returns-in-Err-2-clause-fault : goal.returns-in-Err-2-clause-fault
returns-in-Err-2-clause-fault c =
    let none : read c.args.text.now ≡ None = c.in-Err.ensures.err (λ memory. false≢true (sym c.if-is_memory.false ∙ c.is_memory.ensures.1 memory)) in
    λ other. domain-unread c.args.schema.now c.args.model c.args.text.now c.whole.result none c.whole.ensures
