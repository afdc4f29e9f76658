use Rattle.std.proofs.Common.{Option, sym, subst, option_map}
use Rattle.std.specs.Borrow.{Bor}
use Rattle.ob_base.specs.declared.value.Value.{Value}
use Rattle.ob_tables.specs.Trees.{Names}
use Rattle.ob_tables.proofs.forest.place_of.Goals as goal

pub returns-in-Some : goal.returns-in-Some
returns-in-Some c = subst (λ (o : Option (Bor Value)). Names c.args.ids.now (option_map (λ v. v.now) o) c.place_named.result) (sym c.in-Some.is) c.place_named.ensures
