-- The entry is one of this module, or is so many less behind it.
use Rattle.std.proofs.Common.{◌≡◌, ◌<◌, ◌≤◌, Some, length, get_or, sym, ap, ◌∙◌, arith}
use Rattle.std.specs.Prelude.{slice_get}
use Rattle.std.proofs.lemmas.List.{get_or_default}
use Rattle.toml.specs.View.{table_view}
use Rattle.ob_module.specs.Meaning.{models_of}
use Rattle.ob_module.specs.Modules.{Module}
use Rattle.ob_module.specs.Rooms.{modules_in}
use Rattle.ob_load.proofs.Owners.{IsLeft-end, IsLeft-first, IsLeft-found, IsLeft-next, models-count, numbered-low}
use Rattle.ob_load.proofs.Taking.{document-at}
use Rattle.ob_load.proofs.loading.owner_of.Goals as goal

pub loop-number-init : goal.loop-number-init
loop-number-init c = IsLeft-first (modules_in c.args.modules.now) c.args.taken.now c.args.entry

pub document-requires : goal.document-requires
document-requires c =
    let taken = c.args.taken.now in
    let i = c.loop-number.number-index in
    let low : i < length taken = omega arith in
    let at : get_or taken i 0 ≡ get_or taken i (get_or taken i 0) = get_or_default taken i 0 (get_or taken i 0) low in
    numbered-low (modules_in c.args.modules.now) taken c.requires.0 i (get_or taken i 0) c.requires.1 low at

pub returns-then-left-count-clause-some : goal.returns-then-left-count-clause-some
returns-then-left-count-clause-some c =
    let modules = modules_in c.args.modules.now in
    let taken = c.args.taken.now in
    let i = c.loop-number.number-index in
    let n = get_or taken i 0 in
    let low : i < length taken = omega arith in
    let at : n ≡ get_or taken i n = get_or_default taken i 0 n low in
    let tables = c.listed_at-count.result.now in
    let d = table_view c.document.result.now in
    let counts : (m : Module) → slice_get modules n ≡ Some m → length (models_of m.document) ≡ length tables =
    λ m is. ap (λ e. length (models_of e)) (sym (document-at modules n m d is c.document.ensures)) ∙ models-count d tables c.listed_at-count.ensures in
    let here : c.loop-number.left < length tables = omega arith in
    λ all own. IsLeft-found modules taken c.args.entry i c.loop-number.left n c.loop-number.invariant low at (length tables) counts here all own

pub loop-number-preserved : goal.loop-number-preserved
loop-number-preserved c =
    let modules = modules_in c.args.modules.now in
    let taken = c.args.taken.now in
    let i = c.loop-number.number-index in
    let n = get_or taken i 0 in
    let low : i < length taken = omega arith in
    let at : n ≡ get_or taken i n = get_or_default taken i 0 n low in
    let tables = c.listed_at-count.result.now in
    let d = table_view c.document.result.now in
    let counts : (m : Module) → slice_get modules n ≡ Some m → length (models_of m.document) ≡ length tables =
    λ m is. ap (λ e. length (models_of e)) (sym (document-at modules n m d is c.document.ensures)) ∙ models-count d tables c.listed_at-count.ensures in
    let high : length tables ≤ c.loop-number.left = omega arith in
    IsLeft-next modules taken c.args.entry i c.loop-number.left n c.loop-number.invariant low at (length tables) counts high

pub returns-clause-none : goal.returns-clause-none
returns-clause-none c =
    let high : length c.args.taken.now ≤ c.loop-number.number-index = omega arith in
    IsLeft-end (modules_in c.args.modules.now) c.args.taken.now c.args.entry c.loop-number.number-index c.loop-number.left c.loop-number.invariant high
