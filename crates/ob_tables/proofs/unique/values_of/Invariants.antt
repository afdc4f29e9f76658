use Rattle.std.proofs.Common.{◌≡◌, ◌++◌, drop, option_map}
use Rattle.ob_tables.specs.Sets.{set_values, values_in}
use Rattle.ob_tables.proofs.unique.values_of.Given as goal

-- the values so far and those of the fields that are left are the set's
abbrev pub invariant-loop-field : goal.invariant-loop-field
invariant-loop-field l =
    set_values l.fn.tables.tables l.fn.model l.fn.id l.set ≡ option_map (λ rest. values_in l.values.items ++ rest) (set_values l.fn.tables.tables l.fn.model l.fn.id (drop l.field-index l.set))
