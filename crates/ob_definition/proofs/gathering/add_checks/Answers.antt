use Rattle.std.proofs.Common.{◌≡◌, ◌+◌, List, [], ◌∷◌, ◌++◌, take, refl, sym, ap, subst, ◌∙◌}
use Rattle.std.proofs.lemmas.List.{take_more}
use Rattle.ob_definition.specs.declared.definition.Check.{Check}
use Rattle.ob_definition.specs.Findings.{Adds}
use Rattle.ob_definition.specs.Gathered.{is_check, with_checks}
use Rattle.ob_definition.specs.Members.{check_name}
use Rattle.ob_definition.specs.Rooms.{IsCheckTwiceFault}
use Rattle.ob_definition.proofs.Entries.{add_check-found, no_checks-found, with_checks-kept, with_checks-new}
use Rattle.ob_definition.proofs.gathering.add_checks.Goals as goal
use Rattle.ob_definition.proofs.gathering.add_checks.Goals.{then-not-is_taken+in_ok-push, else-not-is_taken}

pub loop-check-init : goal.loop-check-init
loop-check-init c = (refl, no_checks-found c.args.entry c.args.checks.now c.args.first.now)

pub loop-check-preserved : goal.loop-check-preserved
loop-check-preserved c =
    let n = c.args.entry in
    let old = c.args.checks.now in
    let ks = take c.loop-check.check-index c.args.given.now in
    let k = c.check-item.result in
    let grown : take (c.loop-check.check-index + 1) c.args.given.now ≡ ks ++ k ∷ [] = take_more c.args.given.now c.loop-check.check-index k c.loop-check-test.true ∙ ap (λ (m : Check). ks ++ m ∷ []) (sym c.check-item.is) in
    let is : c.loop-check.checks ≡ with_checks n old ks = c.loop-check.invariant.0 in
    let taken : c.has-is_taken.result ≡ is_check (with_checks n old ks) k.name = rw (c.as_str.ensures, is) at c.has-is_taken.ensures in
    let checks : c.if-not-is_taken.checks ≡ with_checks n old (ks ++ k ∷ []) = elim c.if-not-is_taken.branch [
      | then-not-is_taken+in_ok-push w ↦ with_checks-new n old c.loop-check.checks c.if-not-is_taken.checks ks k is (sym taken ∙ w.if-not-is_taken.true) (w.checks-is ∙ w.in_ok-push.ensures)
      | else-not-is_taken w ↦ with_checks-kept n old c.loop-check.checks c.if-not-is_taken.checks ks k is (sym taken ∙ w.if-not-is_taken.false) w.checks-is
    ] in
    let spot : c.as_str-in-loop-check-2.result.now ≡ check_name k.name = c.as_str-in-loop-check-2.ensures ∙ c.in_ok-spot.ensures ∙ ap check_name c.as_str-in-loop-check.ensures in
    let now = rw (c.then_some.ensures, spot) at c.in_ok-at_field.ensures.found in
    let found = add_check-found n old ks k c.has-is_taken.result c.args.first.now c.loop-check.first c.at_field.new.self taken c.loop-check.invariant.1 now in
    subst (λ (gs : List Check). (c.if-not-is_taken.checks ≡ with_checks n old gs) × Adds (IsCheckTwiceFault n old gs) c.args.first.now c.at_field.new.self) (sym grown) (checks, found)

pub push-requires : goal.push-requires
push-requires c = ap (is_check c.loop-check.checks) (sym c.as_str.ensures) ∙ sym c.has-is_taken.ensures ∙ c.if-not-is_taken.true
