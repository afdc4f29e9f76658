use Rattle.std.proofs.Common.{◌≡◌, drop}
use Rattle.std.specs.Hash.FoldHasher as folding
use Rattle.ob_tables.specs.Digests.{fed_in}
use Rattle.ob_tables.specs.Rooms.{shown_row}
use Rattle.ob_tables.proofs.digests.digest_in.Given as goal

-- the hasher after the fields so far comes to the same by those that are left
abbrev pub invariant-loop-field : goal.invariant-loop-field
invariant-loop-field l = fed_in (shown_row l.fn.row) (drop l.field-index l.set) l.hasher ≡ fed_in (shown_row l.fn.row) l.fn.set folding.initial
