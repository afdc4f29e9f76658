use Rattle.std.proofs.Common.{◌≡◌, ◌<◌, ◌≤◌, ◌*◌, ◌^◌, List, Option, ℕ, None, Some, IsSome, length, ap, refl, subst, arith}
use Rattle.std.specs.Option.{IfSome}
use Rattle.ob_tables.specs.Trees.{AreSteps, IsLeastPlace, step_of}
use Rattle.ob_tables.proofs.InTrees.{found-in-tree}
use Rattle.ob_tables.proofs.Stepping.{parents-inside, some-within, steps-times}
use Rattle.ob_tables.proofs.forest.find_in_tree.Goals as goal

least_low : (P : ℕ → Type 0) (n : ℕ) (o : Option ℕ) → ((place : ℕ) → P place → place < n) → IsLeastPlace P o → IfSome o (λ at. at < n)
least_low P n None low h = tt
least_low P n (Some at) low h = low at h.0

pub doubled-requires : goal.doubled-requires
doubled-requires c = parents-inside c.args.tables.now.tables c.args.model c.args.parent c.args.ids.now c.in_ok-parents.parents.items c.in_ok-parents.ensures

pub add_at-requires-2 : goal.add_at-requires-2
add_at-requires-2 c =
    let long = c.in_ok-parents.ensures.long in
    let deep = c.in_ok-deep.ensures.long in
    let same = ap length c.as_slice-3.ensures.value in
    least_low (λ place. IsSome (step_of c.as_slice-3.result.now place) × (step_of c.as_slice-4.result.now place ≡ None)) (length c.args.ids.now) c.least_leaving-too_deep.result
    (λ place h. let low = some-within c.as_slice-3.result.now place h.0 in omega (arith, low, same, deep, long)) c.least_leaving-too_deep.ensures

-- steps in so many doublings more
far_steps : (one deep next far : List (Option ℕ)) (d n : ℕ) → AreSteps one d deep → AreSteps deep 2 next → AreSteps next n far → AreSteps one (d * 2 * n) far
far_steps one deep next far d n a b c = steps-times one next far (d * 2) n (steps-times one deep next d 2 a b) c

pub returns : goal.returns
returns c =
    let ids = c.args.ids.now in
    let steps = c.in_ok-parents.parents.items in
    let deep = c.in_ok-deep.deep.items in
    let next = c.in_ok-next.next.items in
    let far = c.in_ok-far.far.items in
    let twice : AreSteps deep 2 next = subst (λ l. AreSteps l 2 next) c.as_slice.ensures.value c.in_ok-next.ensures in
    let many = far_steps steps deep next far (2 ^ 6) (2 ^ 57) c.in_ok-deep.ensures twice c.in_ok-far.ensures in
    let long = c.in_ok-parents.ensures.long in
    let few : length ids ≤ 2 ^ 6 * 2 * 2 ^ 57 = omega arith in
    let circled = c.least_led_to-circled.result in
    let too_deep = c.least_leaving-too_deep.result in
    let led = subst (λ l. IsLeastPlace (λ place. (from : ℕ) × (step_of l from ≡ Some place)) circled) c.as_slice-2.ensures.value c.least_led_to-circled.ensures in
    let near = subst (λ l. IsLeastPlace (λ place. IsSome (step_of l place) × (step_of c.as_slice-4.result.now place ≡ None)) too_deep) c.as_slice-3.ensures.value c.least_leaving-too_deep.ensures in
    let leaving = subst (λ l. IsLeastPlace (λ place. IsSome (step_of deep place) × (step_of l place ≡ None)) too_deep) c.as_slice-4.ensures.value near in
    found-in-tree c.args.tables.now.models c.args.tables.now.tables c.args.model c.args.parent ids steps c.requires.ids c.in_ok-parents.ensures far (2 ^ 6 * 2 * 2 ^ 57) many few deep (2 ^ 6) c.in_ok-deep.ensures refl (omega arith)
    c.requires.parent circled too_deep led leaving c.args.findings.now c.add_at.new.findings c.add_at-2.new.findings c.add_at.ensures c.add_at-2.ensures
