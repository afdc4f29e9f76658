use Rattle.std.proofs.Common.{◌≡◌, ◌++◌, map}
use Rattle.toml.specs.View.{members_view, table_view}
use Rattle.ob_module.specs.Meaning.{field_from, paired}
use Rattle.ob_module.proofs.definitions.fields_in.Given as goal

abbrev pub invariant-loop-name : goal.invariant-loop-name
invariant-loop-name l = l.fields ++ map (λ m. field_from m.0 m.1) (paired (members_view l.name-iterator)) ≡ map (λ m. field_from m.0 m.1) (paired (table_view l.table))
