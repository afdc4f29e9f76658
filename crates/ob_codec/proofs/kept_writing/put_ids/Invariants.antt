use Rattle.std.proofs.Common.{◌≡◌, ◌++◌, drop}
use Rattle.std.specs.Int.{w64, to_be_bytes}
use Rattle.std.specs.List.{flat_map}
use Rattle.ob_codec.proofs.kept_writing.put_ids.Given as goal

-- what stands in `out`, with the ids that are left, is all
abbrev pub invariant-loop-id : goal.invariant-loop-id
invariant-loop-id l = l.out.items ++ flat_map (λ id. to_be_bytes w64 id.0) (drop l.id-index l.ids) ≡ l.initial.out.items ++ flat_map (λ id. to_be_bytes w64 id.0) l.ids
