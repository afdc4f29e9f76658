use Rattle.std.proofs.Common.{◌≡◌, ℕ, ◌∷◌, List, [], ◌++◌, take, sym, ap, subst, ◌∙◌, Option, Some, Ok, Err}
use Rattle.std.specs.Prelude.{Any}
use Rattle.ob_definition.specs.Findings.{Adds, IsAt, IsFaultAt}
use Rattle.ob_definition.specs.Rooms.{spot_at}
use Rattle.ob_definition.specs.declared.fault.SchemaFault.{SchemaFault}
use Rattle.ob_registry.specs.ModelFields.{member_of}
use Rattle.ob_schema.specs.Paths.{path_from}
use Rattle.ob_registry.specs.Telling.{IsPathWrong, names_in, paths_by_names, spot_of, steps_in, texts_in, told_path}
use Rattle.ob_registry.proofs.PathRooms.{found_bad, found_good, found_none, more_bad, more_good, names_more}
use Rattle.ob_registry.proofs.formulas.paths_of.Goals as goal
use Rattle.ob_registry.proofs.formulas.paths_of.Goals.{in-Ok+in_ok-push-in-Ok, in-Err+in_ok-at_field-in-Err}

pub loop-names-init : goal.loop-names-init
loop-names-init c = record {
  paths = ap steps_in c.new-declared.ensures;
  faults = found_none (λ (path : List (List ℕ)) why. IsFaultAt (spot_of (member_of c.args.member.now)) (IsPathWrong (path_from c.args.models.now c.args.number path)) why) c.args.first.now;
}

pub loop-names-preserved : goal.loop-names-preserved
loop-names-preserved c =
    let models = c.args.models.now in
    let number = c.args.number in
    let spot = spot_of (member_of c.args.member.now) in
    let i = c.loop-names.names-index in
    let before = names_in (take i c.args.paths.now) in
    let one = texts_in c.names-item.result.items in
    let more = names_more c.args.paths.now i c.names-item.result c.loop-names-test.true c.names-item.is in
    let as_given : texts_in c.as_slice.result.now ≡ one = ap texts_in c.as_slice.ensures.value in
    let told : c.in_ok-path.field-0 ≡ told_path (path_from models number one) = c.in_ok-path.ensures ∙ ap (λ (l : List (List ℕ)). told_path (path_from models number l)) as_given in
    elim c.match-branch-2.branch [
      | in-Ok+in_ok-push-in-Ok w ↦
          (let good : told_path (path_from models number one) ≡ Ok w.in-Ok.path = sym told ∙ w.in-Ok.is in
          record {
            paths = ap steps_in (w.declared-is ∙ w.in_ok-push-in-Ok.ensures.ok) ∙ more_good models number spot before one w.in-Ok.path c.loop-names.declared good c.loop-names.invariant.paths ∙ ap (paths_by_names models number) (sym more);
            faults = subst (λ (l : List (List (List ℕ))). Adds (λ why. Any (λ path. IsFaultAt spot (IsPathWrong (path_from models number path)) why) l) c.args.first.now c.match-branch-2.first) (sym more)
                (subst (λ (f : Option SchemaFault). Adds (λ why. Any (λ path. IsFaultAt spot (IsPathWrong (path_from models number path)) why) (before ++ one ∷ [])) c.args.first.now f) (sym w.first-is)
                (found_good models number spot before one w.in-Ok.path c.args.first.now c.loop-names.first good c.loop-names.invariant.faults));
          })
      | in-Err+in_ok-at_field-in-Err w ↦
          (let bad : told_path (path_from models number one) ≡ Err w.in-Err.wrong = sym told ∙ w.in-Err.is in
          record {
            paths = ap steps_in w.declared-is ∙ more_bad models number spot before one w.in-Err.wrong (steps_in c.loop-names.declared) bad c.loop-names.invariant.paths ∙ ap (paths_by_names models number) (sym more);
            faults = subst (λ (l : List (List (List ℕ))). Adds (λ why. Any (λ path. IsFaultAt spot (IsPathWrong (path_from models number path)) why) l) c.args.first.now c.match-branch-2.first) (sym more)
                (subst (λ (f : Option SchemaFault). Adds (λ why. Any (λ path. IsFaultAt spot (IsPathWrong (path_from models number path)) why) (before ++ one ∷ [])) c.args.first.now f) (sym w.first-is)
                (found_bad models number spot before one w.in-Err.wrong c.args.first.now c.loop-names.first w.at_field.new.self bad c.loop-names.invariant.faults
                (subst (λ (name : List ℕ). Adds (IsAt (Some w.in-Err.wrong) (spot_at c.args.member.now.entry name)) c.loop-names.first w.at_field.new.self) w.as_str.ensures w.in_ok-at_field-in-Err.ensures.found)));
          })
    ]
