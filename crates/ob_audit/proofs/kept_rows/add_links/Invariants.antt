use Rattle.std.proofs.Common.{◌≡◌, ◌++◌, map, take}
use Rattle.ob_base.specs.declared.id.RecId.{RecId}
use Rattle.ob_audit.proofs.kept_rows.add_links.Given as goal

-- the links to the rows so far are added
abbrev pub invariant-loop-target : goal.invariant-loop-target
invariant-loop-target l = l.links ≡ l.initial.links ++ map (λ (id : RecId). record { field = l.field; target = id }) (take l.target-index l.target-items)
