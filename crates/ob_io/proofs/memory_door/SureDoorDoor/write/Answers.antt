-- The last part is longer by what was taken of the piece.
use Rattle.std.proofs.Common.{◌≡◌, ◌+◌, ◌-◌, suc, List, ℕ, length, take, get_or, set, ap, ◌∙◌, arith, rules}
use Rattle.std.specs.Vec.{vec_len}
use Rattle.std.proofs.lemmas.List.{length-take-le}
use Rattle.ob_io.specs.MemoryDoor.{Streams, parts_of}
use Rattle.ob_io.specs.Connections.{extend_last}
use Rattle.ob_io.proofs.DoorParts.{parts-grow}
use Rattle.ob_io.proofs.memory_door.SureDoorDoor.write.Goals as goal

pub returns-in-Ok-clause-writes : goal.returns-in-Ok-clause-writes
returns-in-Ok-clause-writes c =
    let sizes = c.self.inside.sizes.items in
    let last = vec_len c.self.inside.sizes - 1 in
    let count = c.min-count.result in
    let taken = take count c.args.piece.now in
    let same : vec_len c.self.inside.sizes ≡ length sizes = search rules in
    let is_last : suc last ≡ length sizes = omega (arith, same, c.in-Some.ensures.item.3.0) in
    let size : c.in-Some.size.now ≡ get_or sizes last 0 = c.in-Some.ensures.item.3.1 0 in
    let long : length taken ≡ count = length-take-le count c.args.piece.now (omega arith) in
    let grown = parts-grow sizes c.self.inside.written.items taken last (c.in-Some.size.now + count) is_last c.self.invariant.2 (omega (arith, size, long)) in
    ap (λ (b : List ℕ). parts_of (set sizes last (c.in-Some.size.now + count)) b) c.in-Ok.ensures.items ∙ grown ∙ ap (λ (s : Streams). extend_last taken s.written) c.self.view_is
