-- The full name is taken, or is free.
use Rattle.std.proofs.Common.{◌≡◌, [], ◌∷◌, sym, ap, ◌∙◌}
use Rattle.std.specs.Prelude.{codes, false, not, true}
use Rattle.toml.specs.View.{view}
use Rattle.ob_base.specs.declared.place.PathStep.TheVariants.{Key}
use Rattle.ob_load.specs.Access.{is_among, name_of}
use Rattle.ob_load.specs.AccessFaults.{name_is_free}
use Rattle.ob_load.specs.declared.fault.LoadFault.TheVariants as load
use Rattle.ob_load.proofs.AccessForms.{entry-told, unless-false, unless-true}
use Rattle.ob_load.proofs.Told.{err_is}
use Rattle.ob_load.proofs.scope.Scope.free_name.Goals as goal

pub returns-then-is_among-clause-fault : goal.returns-then-is_among-clause-fault
returns-then-is_among-clause-fault c = λ faulty same.
    let taken = c.args.taken.now in
    let owner = c.args.self.now.owner.now in
    let d = view c.args.entry.value.now in
    let among : is_among taken (name_of owner d) ≡ true = ap (is_among taken) (sym (c.as_str.ensures ∙ c.in_ok-name.ensures)) ∙ sym c.is_among.ensures ∙ c.if-is_among.true in
    entry-told owner c.args.entry.table.now c.args.entry.number (name_is_free taken owner d) (Key (codes "name") ∷ []) c.refused_key.result faulty
    (unless-false (codes "name") (not (is_among taken (name_of owner d))) (ap not among)) c.refused_key.ensures.told (err_is c.refused_key.result (load.Module faulty) same)

pub returns-clause-free : goal.returns-clause-free
returns-clause-free c =
    let taken = c.args.taken.now in
    let owner = c.args.self.now.owner.now in
    let d = view c.args.entry.value.now in
    let among : is_among taken (name_of owner d) ≡ false = ap (is_among taken) (sym (c.as_str.ensures ∙ c.in_ok-name.ensures)) ∙ sym c.is_among.ensures ∙ c.if-is_among.false in
    unless-true (codes "name") (not (is_among taken (name_of owner d))) (ap not among)
