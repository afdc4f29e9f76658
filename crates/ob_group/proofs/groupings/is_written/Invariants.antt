use Rattle.std.proofs.Common.{◌≡◌, drop, map}
use Rattle.ob_call.specs.Arguments.{is_among}
use Rattle.ob_group.specs.GroupParts.{text_of}
use Rattle.ob_group.proofs.groupings.is_written.Given as goal

-- none of the first ones has the text
abbrev pub invariant-loop-grouping : goal.invariant-loop-grouping
invariant-loop-grouping l = is_among l.text (map text_of l.groupings) ≡ is_among l.text (map text_of (drop l.grouping-index l.groupings))
