use Rattle.std.proofs.Common.{ap, ◌∙◌}
use Rattle.std.specs.Map.Iter.{deref_pair}
use Rattle.std_collections.proofs.IterRuns.{shows_in_order}
use Rattle.ob_shared.specs.Trees.{entries_in}
use Rattle.ob_shared.proofs.Ranges.{between_all}
use Rattle.ob_shared.proofs.map.SharedMap.iter.Goals as goal

pub returns-clause-rest : goal.returns-clause-rest
returns-clause-rest g c = c.new.ensures ∙ between_all g.K.Ord.cmp (entries_in c.self.inside.root) ∙ ap (λ m. m.entries) c.self.view_is

pub returns-clause-runs : goal.returns-clause-runs
returns-clause-runs g c = shows_in_order deref_pair
