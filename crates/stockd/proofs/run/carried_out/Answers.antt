-- What the action does is what is done.
use Rattle.std.proofs.Common.{ap, inl}
use Rattle.ob_words.specs.Views.{action_view}
use Rattle.ob_server.proofs.CallerLemmas.{reason_weaker}
use Rattle.stockd.proofs.WholeCall.{audited, called, of_door, of_source, served}
use Rattle.stockd.proofs.run.carried_out.Goals as goal

pub returns-in-Call-clause-outcome : goal.returns-in-Call-clause-outcome
returns-in-Call-clause-outcome g c = λ store kept. called _ _ _ store _ _ (ap action_view c.in-Call.is) (c.call.ensures.outcome store _ kept)

pub returns-in-Call-clause-reason : goal.returns-in-Call-clause-reason
returns-in-Call-clause-reason g c =
    reason_weaker _ _ _ _ _ _ _ _ c.call.result (λ none. absurd none) of_source (λ o. o) (λ k. k) c.call.ensures.reason

pub returns-in-Serve-clause-outcome : goal.returns-in-Serve-clause-outcome
returns-in-Serve-clause-outcome g c = λ store kept.
    served _ _ _ store _ _ (ap action_view c.in-Serve.is) (λ streams moments coming given. c.serve.ensures.outcome store streams moments _ _ _ _ kept coming given)

pub returns-in-Serve-clause-reason : goal.returns-in-Serve-clause-reason
returns-in-Serve-clause-reason g c =
    reason_weaker _ _ _ _ _ _ _ _ c.serve.result (λ none. absurd none) of_door (λ none. absurd none) (λ k. k) c.serve.ensures.reason

pub returns-in-Serve-clause-unused : goal.returns-in-Serve-clause-unused
returns-in-Serve-clause-unused g c = λ other. absurd (other (ap action_view c.in-Serve.is))

pub returns-in-Audit-clause-outcome : goal.returns-in-Audit-clause-outcome
returns-in-Audit-clause-outcome g c = λ store kept. audited _ _ _ store _ _ (ap action_view c.in-Audit.is) (c.audit.ensures.outcome store _ _ _ _ kept)

pub returns-in-Audit-clause-reason : goal.returns-in-Audit-clause-reason
returns-in-Audit-clause-reason g c =
    reason_weaker _ _ _ _ _ _ _ _ c.audit.result (λ _. ap action_view c.in-Audit.is) (λ i. inl i) (λ o. o) (λ k. k) c.audit.ensures.reason
