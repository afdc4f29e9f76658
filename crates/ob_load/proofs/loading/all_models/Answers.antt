-- The models of one module more.
use Rattle.std.proofs.Common.{◌≡◌, ◌+◌, ◌<◌, ◌≤◌, List, length, get_or, sym, ap, subst, arith}
use Rattle.std.proofs.lemmas.List.{get_or_default}
use Rattle.ob_definition.specs.declared.definition.ModelDef.{ModelDef}
use Rattle.toml.specs.View.{table_view}
use Rattle.ob_module.specs.Meaning.{models_of}
use Rattle.ob_module.specs.Rooms.{modules_in}
use Rattle.ob_load.proofs.Owners.{AreSoFar, AreSoFar-end, AreSoFar-first, AreSoFar-next, numbered-low}
use Rattle.ob_load.proofs.Taking.{document-at}
use Rattle.ob_load.proofs.loading.all_models.Goals as goal

pub loop-number-init : goal.loop-number-init
loop-number-init c = subst (λ (l : List ModelDef). AreSoFar (modules_in c.args.modules.now) c.args.taken.now 0 l) (sym c.new-models.ensures) (AreSoFar-first (modules_in c.args.modules.now) c.args.taken.now)

pub document-requires : goal.document-requires
document-requires c =
    let taken = c.args.taken.now in
    let i = c.loop-number.number-index in
    let low : i < length taken = omega arith in
    let at : get_or taken i 0 ≡ get_or taken i (get_or taken i 0) = get_or_default taken i 0 (get_or taken i 0) low in
    numbered-low (modules_in c.args.modules.now) taken c.requires.0 i (get_or taken i 0) c.requires.1 low at

pub loop-number-preserved : goal.loop-number-preserved
loop-number-preserved c =
    let modules = modules_in c.args.modules.now in
    let taken = c.args.taken.now in
    let i = c.loop-number.number-index in
    let n = get_or taken i 0 in
    let low : i < length taken = omega arith in
    let at : n ≡ get_or taken i n = get_or_default taken i 0 n low in
    let d = table_view c.document.result.now in
    subst (λ (l : List ModelDef). AreSoFar modules taken (i + 1) l) (sym c.in_ok-add_models.ensures)
    (AreSoFar-next modules taken i n c.loop-number.models (models_of d) c.loop-number.invariant low at (λ m is. ap models_of (sym (document-at modules n m d is c.document.ensures))))

pub returns : goal.returns
returns c = λ all own.
    let high : length c.args.taken.now ≤ c.loop-number.number-index = omega arith in
    AreSoFar-end (modules_in c.args.modules.now) c.args.taken.now c.loop-number.number-index c.loop-number.models c.loop-number.invariant high all own
