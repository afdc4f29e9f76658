-- The rows of the groups of one module more.
use Rattle.std.proofs.Common.{◌≡◌, ◌<◌, ◌≤◌, ◌++◌, All, List, length, take, get_or, sym, ap, subst, ◌∙◌, arith}
use Rattle.std.proofs.lemmas.List.{append-nil, take-append-drop}
use Rattle.std.proofs.lemmas.List.Elements.{All-nil}
use Rattle.toml.specs.View.{table_view}
use Rattle.ob_load.specs.Preset.{group_rows}
use Rattle.ob_module.specs.Modules.{Module}
use Rattle.ob_load.specs.Rooms.{FitsAnywhere}
use Rattle.ob_module.specs.Rooms.{modules_in}
use Rattle.ob_load.proofs.GroupRowSteps.{groups-next}
use Rattle.ob_load.proofs.Loads.{name-of}
use Rattle.ob_load.proofs.NextModules.{end-at, low-at, next-at}
use Rattle.ob_load.proofs.Taking.{document-at}
use Rattle.ob_load.proofs.preset.rows_of.Goals as goal

pub loop-number-init : goal.loop-number-init
loop-number-init c = (λ all own. c.new-rows.ensures, subst (All (FitsAnywhere c.args.schema.now)) (sym c.new-rows.ensures) (All-nil (FitsAnywhere c.args.schema.now)))

pub name-owner-requires : goal.name-owner-requires
name-owner-requires c = low-at (modules_in c.args.modules.now) c.requires.all.0 c.args.taken.now c.loop-number.number-index c.requires.all.1 (omega arith)

pub document-document-requires : goal.document-document-requires
document-document-requires c = low-at (modules_in c.args.modules.now) c.requires.all.0 c.args.taken.now c.loop-number.number-index c.requires.all.1 (omega arith)

pub loop-number-preserved : goal.loop-number-preserved
loop-number-preserved c =
    let models = c.args.schema.now in
    let modules = modules_in c.args.modules.now in
    let taken = c.args.taken.now in
    let i = c.loop-number.number-index in
    let n = get_or taken i 0 in
    let low : i < length taken = omega arith in
    let document = table_view c.document-document.result.now in (
      λ all own.
          let next = next-at modules all taken i own low in
          groups-next models c.args.model c.requires.model all i next.0 c.loop-number.rows c.add_rows.new.rows c.name-owner.result.now document next.2
          (name-of modules n next.0 c.name-owner.result.now next.1 c.name-owner.ensures) (document-at modules n next.0 document next.1 c.document-document.ensures) (c.loop-number.invariant.0 all own) c.in_ok-add_rows.ensures.made,
      c.in_ok-add_rows.ensures.fit c.loop-number.invariant.1,
    )

pub returns-clause-made : goal.returns-clause-made
returns-clause-made c = λ all own.
    let i = c.loop-number.number-index in
    let high : length c.args.taken.now ≤ i = omega arith in
    let end = end-at (modules_in c.args.modules.now) all c.args.taken.now i own high in
    let whole : take i all ≡ all = sym (append-nil (take i all)) ∙ ap (λ (l : List Module). take i all ++ l) (sym end) ∙ take-append-drop i all in
    c.loop-number.invariant.0 all own ∙ ap (group_rows c.args.schema.now) whole
