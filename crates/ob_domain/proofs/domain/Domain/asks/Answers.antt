-- Some term of the domain asks what its tree does.
use Rattle.std.proofs.Common.{sym, ap, ◌∙◌}
use Rattle.ob_domain.proofs.Named.{asks-terms}
use Rattle.ob_domain.specs.Naming.{asks_field}
use Rattle.ob_domain.proofs.domain.Domain.asks.Goals as goal

pub returns : goal.returns
returns c = c.is_asked.ensures ∙ asks-terms c.args.field c.terms.result.now ∙ ap (asks_field c.args.field) (sym c.terms.ensures)
