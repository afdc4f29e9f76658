-- A tree holds of a known row by the fields that it asks.
use Rattle.ob_domain.proofs.Agreeing.{holds_by_fields}
use Rattle.ob_domain.proofs.naming.domains_go_by_fields.Goals as goal

pub returns : goal.returns
returns c = λ model tree one other agree user id known. holds_by_fields one other user model tree agree id known
