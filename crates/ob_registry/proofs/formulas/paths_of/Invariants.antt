use Rattle.std.proofs.Common.{◌≡◌, take}
use Rattle.std.specs.Prelude.{Any}
use Rattle.ob_definition.specs.Findings.{Adds, IsFaultAt}
use Rattle.ob_registry.specs.ModelFields.{member_of}
use Rattle.ob_schema.specs.Paths.{path_from}
use Rattle.ob_registry.specs.Telling.{IsPathWrong, names_in, paths_by_names, spot_of, steps_in}
use Rattle.ob_registry.proofs.formulas.paths_of.Given as goal

abbrev pub invariant-loop-names : goal.invariant-loop-names
invariant-loop-names l = record {
  paths : steps_in l.declared ≡ paths_by_names l.models l.number (names_in (take l.names-index l.paths));
  faults : Adds (λ why. Any (λ path. IsFaultAt (spot_of (member_of l.member)) (IsPathWrong (path_from l.models l.number path)) why) (names_in (take l.names-index l.paths))) l.initial.first l.first;
}
