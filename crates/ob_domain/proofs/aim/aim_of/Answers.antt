-- The steps of a name are its parts between dots.
use Rattle.std.proofs.Common.{◌≡◌, ℕ, ◌<◌, ◌≤◌, List, Bor, length, map, lit<, refl, ap, subst, ◌∙◌, arith}
use Rattle.std.specs.Prelude.{IfOk}
use Rattle.std.proofs.lemmas.Bool.{le-leb}
use Rattle.std.proofs.lemmas.Iterator.Consumers.{map_from_collect}
use Rattle.std.proofs.lemmas.Iterator.Splits.{YieldsList-from_str_split}
use Rattle.std.proofs.lemmas.List.{length-map}
use Rattle.ob_domain.proofs.Counts.{not_enough}
use Rattle.ob_domain.specs.Aims.{aim_along, aim_of, steps_of}
use Rattle.ob_domain.specs.Places.{IsResult}
use Rattle.ob_domain.specs.declared.aim.Aim.{Aim}
use Rattle.ob_domain.proofs.aim.aim_of.Goals as goal

pub returns-then-len-gt-MAX_DOTTED_STEPS-clause-aim :
    goal.returns-then-len-gt-MAX_DOTTED_STEPS-clause-aim
unfolding aim_of
returns-then-len-gt-MAX_DOTTED_STEPS-clause-aim c = λ known.
    let all = map_from_collect c.collect.result c.collect.ensures.ran (YieldsList-from_str_split 46 c.args.name.now (lit< tt) c.split.ensures.text c.split.ensures.has_more c.split.ensures.pattern) in
    let names : map (λ (x : Bor (List ℕ)). x.now) c.in_ok-steps.steps.items ≡ steps_of c.args.name.now =
    subst (λ r. IfOk r (λ w. map (λ (x : Bor (List ℕ)). x.now) w.items ≡ steps_of c.args.name.now)) c.in_ok-steps.was all in
    let drained = c.in_ok-steps.ensures.ran in
    let many : 16 < length (steps_of c.args.name.now) =
    omega (arith, ap length names, length-map c.in_ok-steps.steps.items (λ (x : Bor (List ℕ)). x.now), ap length drained.2.0, drained.2.1) in
    rw (not_enough (length (steps_of c.args.name.now)) 16 many) refl

pub returns-clause-aim : goal.returns-clause-aim
unfolding aim_of
returns-clause-aim c =
    let all = map_from_collect c.collect.result c.collect.ensures.ran (YieldsList-from_str_split 46 c.args.name.now (lit< tt) c.split.ensures.text c.split.ensures.has_more c.split.ensures.pattern) in
    let names : map (λ (x : Bor (List ℕ)). x.now) c.in_ok-steps.steps.items ≡ steps_of c.args.name.now =
    subst (λ r. IfOk r (λ w. map (λ (x : Bor (List ℕ)). x.now) w.items ≡ steps_of c.args.name.now)) c.in_ok-steps.was all in
    let drained = c.in_ok-steps.ensures.ran in
    let few : length (steps_of c.args.name.now) ≤ 16 =
    omega (arith, ap length names, length-map c.in_ok-steps.steps.items (λ (x : Bor (List ℕ)). x.now), ap length drained.2.0, drained.2.1) in
    let same = ap (map (λ (x : Bor (List ℕ)). x.now)) c.as_slice.ensures.value ∙ names in
    let told = subst (λ (ns : List (List ℕ)). IsResult (λ (a : Aim). a) c.aim_along.result (aim_along c.args.schema.now c.args.model ns)) same c.aim_along.ensures.aim in
    rw (le-leb (length (steps_of c.args.name.now)) 16 few) told
