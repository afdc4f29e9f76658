use Rattle.std.proofs.Common.{List, option_map, sym, subst}
use Rattle.std.specs.Prelude.{Any}
use Rattle.ob_expr.specs.TypedTree.{typed_tree_of}
use Rattle.ob_definition.specs.Findings.{Adds, IsFaultAt}
use Rattle.ob_schema.specs.declared.info.Step.{Step}
use Rattle.ob_registry.specs.ModelFields.{member_of}
use Rattle.ob_registry.specs.Telling.{IsCoverWrong, reads_by, spot_of}
use Rattle.ob_registry.proofs.PathRooms.{found_itself}
use Rattle.ob_registry.proofs.formulas.depends_of.Goals as goal

-- a condition's paths are what it reads
pub returns-then-matches-clause-faults : goal.returns-then-matches-clause-faults
returns-then-matches-clause-faults c =
    let spot = spot_of (member_of c.args.member.now) in
    let reads = reads_by c.args.number (option_map typed_tree_of c.args.typed.now) in
    subst (λ (l : List (List Step)). Adds (λ why. Any (λ read. IsFaultAt spot (IsCoverWrong l read) why) reads) c.args.first.now c.args.first.now) (sym c.in_ok-reads.ensures)
    (found_itself spot reads c.args.first.now)
