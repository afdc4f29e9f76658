-- The names are taken one after another.
use Rattle.std.proofs.Common.{◌≡◌, ◌<◌, ◌≤◌, ◌∷◌, [], List, ℕ, suc, Contains, length, slice_index_or, take, refl, sym, subst, arith}
use Rattle.std.specs.Prelude.{codes}
use Rattle.std.proofs.lemmas.List.{take_all}
use Rattle.ob_load.specs.Dependencies.{Takes}
use Rattle.ob_module.specs.Modules.{wanted}
use Rattle.ob_load.specs.Rooms.{TakesOn}
use Rattle.ob_module.specs.Rooms.{modules_in}
use Rattle.ob_load.proofs.Adding.{take_one_more}
use Rattle.ob_load.proofs.Taking.{TakesOn-append, whole-named, whole-short}
use Rattle.ob_load.proofs.dependencies.in_order.Goals as goal

base-wanted : (names : List (List ℕ)) → Contains (wanted names) (codes "base")
base-wanted names = (0, omega arith, refl)

stock-wanted : (names : List (List ℕ)) → Contains (wanted names) (codes "stock")
stock-wanted names = (1, omega arith, refl)

pub take-requires-clause-short : goal.take-requires-clause-short
take-requires-clause-short c = whole-short (modules_in c.args.modules.now) (wanted c.args.names.now) c.requires.whole c.requires.acyclic 64 c.requires.few (codes "base") (base-wanted c.args.names.now)

pub take-requires-2-clause-whole : goal.take-requires-2-clause-whole
take-requires-2-clause-whole c = whole-named (modules_in c.args.modules.now) (wanted c.args.names.now) c.requires.whole (codes "stock") (stock-wanted c.args.names.now)

pub take-requires-2-clause-short : goal.take-requires-2-clause-short
take-requires-2-clause-short c = whole-short (modules_in c.args.modules.now) (wanted c.args.names.now) c.requires.whole c.requires.acyclic 64 c.requires.few (codes "stock") (stock-wanted c.args.names.now)

pub loop-name-init : goal.loop-name-init
loop-name-init c =
    let modules = modules_in c.args.modules.now in
    let first = subst (λ (l : List ℕ). TakesOn modules l (codes "base" ∷ []) c.take.new.taken.items) c.new-taken.ensures.items c.in_ok-take.ensures in
    TakesOn-append modules [] c.take.new.taken.items c.take-2.new.taken.items (codes "base" ∷ []) (codes "stock" ∷ []) first c.in_ok-take-2.ensures

named-wanted : (names : List (List ℕ)) (i : ℕ) (name text : List ℕ) → i < length names → name ≡ slice_index_or names i name → text ≡ name → Contains (wanted names) text
named-wanted names i name text low is same = subst (λ (l : List ℕ). Contains (wanted names) l) (sym same) (suc (suc i), omega (arith, low), sym is)

pub take-requires-in-loop-name-clause-whole : goal.take-requires-in-loop-name-clause-whole
take-requires-in-loop-name-clause-whole c =
    let low : c.loop-name.name-index < length c.args.names.now = omega arith in
    let held = named-wanted c.args.names.now c.loop-name.name-index c.name-item.result c.as_str.result.now low c.name-item.is c.as_str.ensures in
    whole-named (modules_in c.args.modules.now) (wanted c.args.names.now) c.requires.whole c.as_str.result.now held

pub take-requires-in-loop-name-clause-short : goal.take-requires-in-loop-name-clause-short
take-requires-in-loop-name-clause-short c =
    let low : c.loop-name.name-index < length c.args.names.now = omega arith in
    let held = named-wanted c.args.names.now c.loop-name.name-index c.name-item.result c.as_str.result.now low c.name-item.is c.as_str.ensures in
    whole-short (modules_in c.args.modules.now) (wanted c.args.names.now) c.requires.whole c.requires.acyclic 64 c.requires.few c.as_str.result.now held

pub loop-name-preserved : goal.loop-name-preserved
loop-name-preserved c =
    let modules = modules_in c.args.modules.now in
    let names = c.args.names.now in
    let i = c.loop-name.name-index in
    let name = c.name-item.result in
    let between = c.loop-name.taken.items in
    let new = c.take-in-loop-name.new.taken.items in
    let low : i < length names = omega arith in
    let more = take_one_more names i name low c.name-item.is in
    let step : TakesOn modules between (name ∷ []) new = subst (λ (l : List ℕ). TakesOn modules between (l ∷ []) new) c.as_str.ensures c.in_ok-take-3.ensures in
    subst (λ (l : List (List ℕ)). TakesOn modules [] (codes "base" ∷ codes "stock" ∷ l) new) (sym more) (TakesOn-append modules [] between new (codes "base" ∷ codes "stock" ∷ take i names) (name ∷ []) c.loop-name.invariant step)

pub returns : goal.returns
returns c =
    let modules = modules_in c.args.modules.now in
    let names = c.args.names.now in
    let high : length names ≤ c.loop-name.name-index = omega arith in
    let all = c.loop-name.invariant [] tt in
    (all.0, all.1, subst (λ (l : List (List ℕ)). Takes modules [] (codes "base" ∷ codes "stock" ∷ l) all.0) (take_all c.loop-name.name-index names high) all.2)
