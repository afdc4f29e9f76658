-- Each turn looks at one more that is reached; when all were looked at, the test tells.
use Rattle.std.proofs.Common.{◌≡◌, ◌<◌, ◌≤◌, List, ℕ, Some, length, refl, subst, arith, rules}
use Rattle.std.specs.Prelude.{nat_eq, slice_get}
use Rattle.std.specs.List.{IsAnyAnswer}
use Rattle.std.specs.Vec.{vec_len}
use Rattle.std.proofs.lemmas.List.Elements.{All-contains}
use Rattle.std.proofs.lemmas.Option.{slice_get_read, slice_get_within}
use Rattle.ob_load.specs.Rooms.{ReachedBy}
use Rattle.ob_module.specs.Rooms.{modules_in}
use Rattle.ob_module.proofs.CallerLemmas.{Contains-at}
use Rattle.ob_load.proofs.Reached.{AreReached-first, AreReached-more, Is, reached-few, reached-test}
use Rattle.ob_load.proofs.dependencies.is_cyclic.Goals as goal

pub loop-place-init : goal.loop-place-init
loop-place-init c =
    let modules = modules_in c.args.modules.now in
    let new = c.add_depends.new.reached.items in
    AreReached-first modules c.args.number new (subst (λ (l : List ℕ). ReachedBy modules c.args.number l new) c.new-reached.ensures.items c.in_ok-add_depends.ensures)

pub add_depends-requires-in-loop-place : goal.add_depends-requires-in-loop-place
add_depends-requires-in-loop-place c =
    let modules = modules_in c.args.modules.now in
    let reached = c.loop-place.reached.items in
    let next = c.index-next.result.now in
    let same : vec_len c.loop-place.reached ≡ length reached = search rules in
    let low : c.loop-place.place < length reached = omega (arith, same) in
    let at : slice_get reached c.loop-place.place ≡ Some next = slice_get_read reached (length reached) c.loop-place.place next refl low c.index-next.ensures in
    let own = All-contains (Is modules c.args.number) reached next c.loop-place.invariant.each (Contains-at reached c.loop-place.place next at) in
    slice_get_within modules next own.1 own.3

pub loop-place-preserved : goal.loop-place-preserved
loop-place-preserved c =
    let modules = modules_in c.args.modules.now in
    let reached = c.loop-place.reached.items in
    let next = c.index-next.result.now in
    let same : vec_len c.loop-place.reached ≡ length reached = search rules in
    let low : c.loop-place.place < length reached = omega (arith, same) in
    let at : slice_get reached c.loop-place.place ≡ Some next = slice_get_read reached (length reached) c.loop-place.place next refl low c.index-next.ensures in
    AreReached-more modules c.args.number reached c.add_depends-in-loop-place.new.reached.items c.loop-place.place next c.loop-place.invariant at c.in_ok-add_depends-2.ensures

pub returns-then-len-place : goal.returns-then-len-place
returns-then-len-place c = λ m at.
    let modules = modules_in c.args.modules.now in
    let reached = c.loop-place.reached.items in
    let same : vec_len c.loop-place.reached ≡ length reached = search rules in
    let all : length reached ≤ c.loop-place.place = omega (arith, same) in
    let answer : IsAnyAnswer (λ y b. nat_eq y c.args.number ≡ b) reached c.contains.result =
    subst (λ (l : List ℕ). IsAnyAnswer (λ y b. nat_eq y c.args.number ≡ b) l c.contains.result) c.deref.ensures.value c.contains.ensures.cases in
    reached-test modules c.len-place-end.ensures.apart c.args.number reached c.loop-place.place c.loop-place.invariant all m at c.contains.result answer

pub returns : goal.returns
returns c = λ m at.
    let modules = modules_in c.args.modules.now in
    let reached = c.loop-place.reached.items in
    let few = reached-few modules c.args.number reached c.loop-place.place c.loop-place.invariant in
    let all : length reached ≤ c.loop-place.place = omega (arith, few) in
    let answer : IsAnyAnswer (λ y b. nat_eq y c.args.number ≡ b) reached c.contains-2.result =
    subst (λ (l : List ℕ). IsAnyAnswer (λ y b. nat_eq y c.args.number ≡ b) l c.contains-2.result) c.deref-2.ensures.value c.contains-2.ensures.cases in
    reached-test modules c.len-place-end.ensures.apart c.args.number reached c.loop-place.place c.loop-place.invariant all m at c.contains-2.result answer
