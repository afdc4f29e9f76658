use Rattle.std.proofs.Common.{not, sym, subst, ap, ◌∙◌}
use Rattle.std.specs.List.Sorted.{IsStrictlySortedBy}
use Rattle.std.specs.Map.{keys_of}
use Rattle.std.specs.BTreeMap.{is_at}
use Rattle.ob_shared.specs.Trees.{entries_in}
use Rattle.ob_shared.proofs.Updated.{absent, map-removed, map-same, sorted-remove_entry}
use Rattle.ob_shared.proofs.map.SharedMap.remove.Goals as goal

pub invariant_of-self : goal.invariant_of-self
invariant_of-self g c =
    subst (λ es. IsStrictlySortedBy g.K.Ord.cmp (keys_of es)) (sym c.in_ok-self-inside.ensures)
    (sorted-remove_entry g.K.Ord.cmp (is_at (g.K.Ord.cmp c.args.key.now)) (entries_in c.self.inside.root) c.self.invariant)

pub returns-then-is_none-clause-entries : goal.returns-then-is_none-clause-entries
returns-then-is_none-clause-entries g c =
    absent g.met.K.Ord.total (entries_in c.self.inside.root) c.args.self.now c.self.view_is c.args.key.now c.find.result (c.is_none.ensures ∙ ap not c.if-is_none.true) c.find.ensures

pub returns-then-is_none-clause-updates : goal.returns-then-is_none-clause-updates
returns-then-is_none-clause-updates g c =
    map-same g.met.K.Ord.total (entries_in c.self.inside.root) c.args.self.now c.self.view_is c.args.key.now c.find.result (c.is_none.ensures ∙ ap not c.if-is_none.true) c.find.ensures
    c.self.invariant

pub returns-clause-updates : goal.returns-clause-updates
returns-clause-updates g c =
    map-removed g.met.K.Ord.total (entries_in c.self.inside.root) (entries_in c.in_ok-self-inside.field-0) c.args.self.now c.self.view_is c.self.invariant c.args.key.now c.in_ok-self-inside.ensures

pub returns-clause-ordered : goal.returns-clause-ordered
returns-clause-ordered g c =
    subst (λ es. IsStrictlySortedBy g.K.Ord.cmp (keys_of es)) (sym c.in_ok-self-inside.ensures)
    (sorted-remove_entry g.K.Ord.cmp (is_at (g.K.Ord.cmp c.args.key.now)) (entries_in c.self.inside.root) c.self.invariant)
