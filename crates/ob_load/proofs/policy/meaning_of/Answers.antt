-- Each module is the next of all, and declares and brings behind those before it.
use Rattle.std.proofs.Common.{◌≡◌, ◌<◌, ◌≤◌, ◌++◌, [], List, ℕ, None, Some, Err, length, get_or, map, sym, ap, subst, ◌∙◌, arith}
use Rattle.std.specs.Prelude.{codes}
use Rattle.std.proofs.lemmas.Result.{err_from_is_err_and}
use Rattle.toml.specs.Data.{Members}
use Rattle.toml.specs.View.{table_view}
use Rattle.ob_load.specs.Access.{entries_of, group_from, line_from, name_of, ref_name, rule_from}
use Rattle.ob_load.specs.Preset.{group_rows}
use Rattle.ob_load.specs.RowFaults.{whole_fault}
use Rattle.ob_load.specs.Rooms.{BringsOn, GrowsBy}
use Rattle.ob_module.specs.Rooms.{modules_in}
use Rattle.ob_load.specs.declared.access.Declared.{Declared}
use Rattle.ob_load.specs.declared.rows.Brought.{Brought}
use Rattle.ob_load.specs.declared.fault.LoadFault.TheVariants as load
use Rattle.ob_load.proofs.DeclaredTo.{IsDeclaredTo, declared-all, declared-brought, declared-fails, declared-fits, declared-none, declared-over, declared-rows, declared-step}
use Rattle.ob_load.proofs.GroupRows.{brought-none}
use Rattle.ob_load.proofs.Loads.{name-of}
use Rattle.ob_load.proofs.NextModules.{end-at, low-at, next-at}
use Rattle.ob_load.proofs.Taking.{document-at}
use Rattle.ob_load.proofs.Told.{err_is}
use Rattle.ob_load.proofs.policy.meaning_of.Goals as goal
use Rattle.ob_schema.specs.declared.info.ModelInfo.{ModelInfo}

pub loop-number-init : goal.loop-number-init
loop-number-init c = λ all own.
    let models = c.args.schema.now in
    let made : c.in_ok-rows.rows ≡ group_rows models all = c.in_ok-rows.ensures.made all own in
    let b = c.behind-brought.result in
    let is : b ≡ record { first = length c.in_ok-rows.rows; refs = []; rows = c.in_ok-rows.rows } = c.behind-brought.ensures in
    subst (λ (l : List (List ℕ)). IsDeclaredTo models all 0 l c.new-declared.result b) (sym c.new-groups.ensures)
    (declared-none models all c.new-declared.result b c.new-declared.ensures (ap (λ (k : Brought). k.first) is ∙ ap length made) (ap (λ (k : Brought). k.refs) is) (ap (λ (k : Brought). k.rows) is ∙ made)
    (brought-none models all c.in_ok-rows.rows b made c.in_ok-rows.ensures.fit is))

pub name-owner-requires : goal.name-owner-requires
name-owner-requires c = low-at (modules_in c.args.modules.now) c.requires.0 c.args.taken.now c.loop-number.number-index c.requires.1 (omega arith)

pub document-document-requires : goal.document-document-requires
document-document-requires c = low-at (modules_in c.args.modules.now) c.requires.0 c.args.taken.now c.loop-number.number-index c.requires.1 (omega arith)

pub returns-in_err-add_module-clause-fault : goal.returns-in_err-add_module-clause-fault
returns-in_err-add_module-clause-fault c = λ all own faulty same.
    let models = c.args.schema.now in
    let modules = modules_in c.args.modules.now in
    let taken = c.args.taken.now in
    let i = c.loop-number.number-index in
    let n = get_or taken i 0 in
    let low : i < length taken = omega arith in
    let next = next-at modules all taken i own low in
    let owner = c.name-owner.result.now in
    let document = table_view c.document-document.result.now in
    let more = c.add_group_names.new.names in
    let d = c.loop-number.declared in
    let b = c.loop-number.brought in
    let p = err_from_is_err_and c.from_residual-in_err-add_module.result c.from_residual-in_err-add_module.ensures.1 in
    let told : c.in_err-add_module.field-0.0 ≡ load.Module faulty = sym p.2 ∙ err_is p.0 (load.Module faulty) (sym p.1 ∙ same) in
    let first : whole_fault models more b.first owner b.refs d.names document ≡ Some faulty =
    subst (λ (k : List (List ℕ)). whole_fault models k b.first owner b.refs d.names document ≡ Some faulty) c.as_slice.ensures (c.in_err-add_module.ensures.fault faulty (ap Err told)) in
    declared-fails models all i next.0 next.2 c.loop-number.groups more d b (c.loop-number.invariant all own) owner document
    (name-of modules n next.0 owner next.1 c.name-owner.ensures) (document-at modules n next.0 document next.1 c.document-document.ensures) c.in_ok-add_group_names.ensures faulty first

-- what a document adds, where a list of groups is the known one
grown-by : (models : List ModelInfo) (known more : List (List ℕ)) (old new : Declared) (owner : List ℕ) (document : Members) → known ≡ more
    → GrowsBy models (length known) old new
    (map (name_of owner) (entries_of (codes "group") document) ++ map (name_of owner) (entries_of (codes "rule") document) ++ map (ref_name owner) (entries_of (codes "row") document))
    (map (group_from known owner) (entries_of (codes "group") document))
    (map (line_from models known) (entries_of (codes "access") document))
    (map (rule_from models known owner) (entries_of (codes "rule") document))
    → GrowsBy models (length more) old new
    (map (name_of owner) (entries_of (codes "group") document) ++ map (name_of owner) (entries_of (codes "rule") document) ++ map (ref_name owner) (entries_of (codes "row") document))
    (map (group_from more owner) (entries_of (codes "group") document))
    (map (line_from models more) (entries_of (codes "access") document))
    (map (rule_from models more owner) (entries_of (codes "rule") document))
grown-by models known more old new owner document is =
    subst (λ (k : List (List ℕ)). GrowsBy models (length k) old new
    (map (name_of owner) (entries_of (codes "group") document) ++ map (name_of owner) (entries_of (codes "rule") document) ++ map (ref_name owner) (entries_of (codes "row") document))
    (map (group_from k owner) (entries_of (codes "group") document))
    (map (line_from models k) (entries_of (codes "access") document))
    (map (rule_from models k owner) (entries_of (codes "rule") document))) is

-- and brings
brought-by : (models : List ModelInfo) (known more : List (List ℕ)) (old new : Brought) (owner : List ℕ) (document : Members) → known ≡ more
    → BringsOn models known owner (entries_of (codes "row") document) old new → BringsOn models more owner (entries_of (codes "row") document) old new
brought-by models known more old new owner document is = subst (λ (k : List (List ℕ)). BringsOn models k owner (entries_of (codes "row") document) old new) is

pub loop-number-preserved : goal.loop-number-preserved
loop-number-preserved c = λ all own.
    let models = c.args.schema.now in
    let modules = modules_in c.args.modules.now in
    let taken = c.args.taken.now in
    let i = c.loop-number.number-index in
    let n = get_or taken i 0 in
    let low : i < length taken = omega arith in
    let next = next-at modules all taken i own low in
    let owner = c.name-owner.result.now in
    let document = table_view c.document-document.result.now in
    let more = c.add_group_names.new.names in
    let d = c.loop-number.declared in
    let b = c.loop-number.brought in
    let new = c.add_module.new.declared in
    let brought = c.add_module.new.brought in
    let fits : whole_fault models more b.first owner b.refs d.names document ≡ None =
    subst (λ (k : List (List ℕ)). whole_fault models k b.first owner b.refs d.names document ≡ None) c.as_slice.ensures c.in_ok-add_module.ensures.fits in
    declared-step models all i next.0 next.2 c.loop-number.groups more d b (c.loop-number.invariant all own) new brought owner document
    (name-of modules n next.0 owner next.1 c.name-owner.ensures) (document-at modules n next.0 document next.1 c.document-document.ensures) c.in_ok-add_group_names.ensures fits
    (grown-by models c.as_slice.result.now more d new owner document c.as_slice.ensures c.in_ok-add_module.ensures.grows)
    (brought-by models c.as_slice.result.now more b brought owner document c.as_slice.ensures c.in_ok-add_module.ensures.brings)

pub new-requires : goal.new-requires
new-requires c = declared-over c.args.schema.now c.requires.0 c.loop-number.number-index c.loop-number.groups c.loop-number.declared c.loop-number.brought (c.loop-number.invariant c.requires.0 c.requires.1)

pub returns-clause-fits : goal.returns-clause-fits
returns-clause-fits c = λ all own.
    let high : length c.args.taken.now ≤ c.loop-number.number-index = omega arith in
    declared-fits c.args.schema.now all c.loop-number.number-index c.loop-number.groups c.loop-number.declared c.loop-number.brought (c.loop-number.invariant all own)
    (end-at (modules_in c.args.modules.now) all c.args.taken.now c.loop-number.number-index own high)

pub returns-clause-declared : goal.returns-clause-declared
returns-clause-declared c = λ all own.
    let high : length c.args.taken.now ≤ c.loop-number.number-index = omega arith in
    c.in_ok-policy.ensures.made
    ∙ declared-all c.args.schema.now all c.loop-number.number-index c.loop-number.groups c.loop-number.declared c.loop-number.brought (c.loop-number.invariant all own)
    (end-at (modules_in c.args.modules.now) all c.args.taken.now c.loop-number.number-index own high)

pub returns-clause-brought : goal.returns-clause-brought
returns-clause-brought c = λ all own.
    let high : length c.args.taken.now ≤ c.loop-number.number-index = omega arith in
    declared-brought c.args.schema.now all c.loop-number.number-index c.loop-number.groups c.loop-number.declared c.loop-number.brought (c.loop-number.invariant all own)
    (end-at (modules_in c.args.modules.now) all c.args.taken.now c.loop-number.number-index own high)

pub returns-clause-preset : goal.returns-clause-preset
returns-clause-preset c =
    declared-rows c.args.schema.now c.requires.0 c.loop-number.number-index c.loop-number.groups c.loop-number.declared c.loop-number.brought (c.loop-number.invariant c.requires.0 c.requires.1)
