use Rattle.std.proofs.Common.{sym, subst}
use Rattle.std.specs.List.Sorted.{IsStrictlySortedBy}
use Rattle.std.specs.Map.{keys_of}
use Rattle.ob_shared.specs.Trees.{entries_in}
use Rattle.ob_shared.proofs.Updated.{map-inserted, sorted-insert_entry}
use Rattle.ob_shared.proofs.map.SharedMap.insert.Goals as goal

pub invariant_of-self : goal.invariant_of-self
invariant_of-self g c =
    subst (λ es. IsStrictlySortedBy g.K.Ord.cmp (keys_of es)) (sym c.in_ok-self-inside.ensures)
    (sorted-insert_entry g.met.K.Ord.total c.args.key c.in_ok-value.value.value (entries_in c.self.inside.root) c.self.invariant)

pub returns-clause-updates : goal.returns-clause-updates
returns-clause-updates g c =
    map-inserted g.met.K.Ord.total (entries_in c.self.inside.root) (entries_in c.in_ok-self-inside.field-0) c.args.self.now c.self.view_is c.self.invariant c.args.key
    c.args.value c.in_ok-value.value.value c.in_ok-self-inside.ensures c.in_ok-value.ensures.ok

pub returns-clause-ordered : goal.returns-clause-ordered
returns-clause-ordered g c =
    subst (λ es. IsStrictlySortedBy g.K.Ord.cmp (keys_of es)) (sym c.in_ok-self-inside.ensures)
    (sorted-insert_entry g.met.K.Ord.total c.args.key c.in_ok-value.value.value (entries_in c.self.inside.root) c.self.invariant)
