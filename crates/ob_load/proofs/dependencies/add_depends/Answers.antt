-- A name of a module adds its number, another none; in the end all names were passed.
use Rattle.std.proofs.Common.{◌≡◌, ◌+◌, ◌<◌, ◌≤◌, ◌∷◌, [], ◌++◌, false, List, ℕ, length, map, take, sym, ap, subst, ◌∙◌, arith}
use Rattle.toml.specs.View.{table_view, view}
use Rattle.toml.specs.declared.value.Value.{Value}
use Rattle.ob_module.specs.Meaning.{depends_of, text_of}
use Rattle.ob_module.specs.Modules.{has_module}
use Rattle.ob_load.specs.Rooms.{AddsOnce}
use Rattle.ob_module.specs.Rooms.{modules_in}
use Rattle.ob_load.proofs.Adding.{Adds, Adds-known, Adds-unknown, ReachedBy-from, map-take_all, map-take_more}
use Rattle.ob_load.proofs.dependencies.add_depends.Goals as goal
use Rattle.ob_load.proofs.dependencies.add_depends.Goals.{in-Some+in_ok-add_number, in_default}

pub loop-name-preserved : goal.loop-name-preserved
loop-name-preserved c =
    let modules = modules_in c.args.modules.now in
    let own = λ (v : Value). text_of (view v) in
    let items = c.depends_of-name-items.result.now in
    let i = c.loop-name.name-index in
    let names = map own (take i items) in
    let old = c.args.reached.now.items in
    let new = c.loop-name.reached.items in
    let text = c.text_of.result.now in
    let low : i < length items = omega arith in
    let more : map own (take (i + 1) items) ≡ names ++ text ∷ [] = map-take_more own items i c.name-item.result low c.name-item.is ∙ ap (λ (l : List ℕ). names ++ l ∷ []) (sym c.text_of.ensures) in
    subst (λ (l : List (List ℕ)). Adds modules l old c.match-number_of.reached.items) (sym more) (elim c.match-number_of.branch [
      | in-Some+in_ok-add_number w ↦
          let m = w.in-Some.ensures.at in
          let once : AddsOnce w.in-Some.other new c.match-number_of.reached.items = rw w.reached-is w.in_ok-add_number.ensures in
          Adds-known modules names old new text c.loop-name.invariant w.in-Some.ensures.apart w.in-Some.other m.0 m.1 m.2 c.match-number_of.reached.items once
      | in_default w ↦
          let none : has_module modules text ≡ false = w.in_default.ensures.found in
          rw w.reached-is (Adds-unknown modules names old new text c.loop-name.invariant none)
    ])

pub returns : goal.returns
returns c =
    let modules = modules_in c.args.modules.now in
    let own = λ (v : Value). text_of (view v) in
    let items = c.depends_of-name-items.result.now in
    let i = c.loop-name.name-index in
    let document = table_view c.document.result.now in
    let high : length items ≤ i = omega arith in
    let all : map own (take i items) ≡ depends_of document = map-take_all own items i high ∙ c.depends_of-name-items.ensures in
    ReachedBy-from modules c.args.number document c.args.reached.now.items c.loop-name.reached.items c.document.ensures c.requires
    (subst (λ (l : List (List ℕ)). Adds modules l c.args.reached.now.items c.loop-name.reached.items) all c.loop-name.invariant)
