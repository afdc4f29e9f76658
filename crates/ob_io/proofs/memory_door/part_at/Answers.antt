-- A part stands after those before it, and there are no more of them than sizes.
use Rattle.std.proofs.Common.{◌≡◌, ◌+◌, ◌-◌, Some, take, drop, get_or, ap, ◌∙◌, sym, arith}
use Rattle.ob_io.proofs.DoorParts.{parts-at, parts-none}
use Rattle.ob_io.proofs.memory_door.part_at.Goals as goal

pub returns-then-number-sizes : goal.returns-then-number-sizes
returns-then-number-sizes c = sym (parts-none c.args.sizes.now c.args.bytes.now c.args.number (omega arith))

pub returns : goal.returns
returns c =
    let start = c.size_before-start.result in
    let size = get_or c.args.sizes.now c.args.number 0 in
    let bytes = c.args.bytes.now in
    let size_is : start + size - start ≡ size = omega arith in
    ap (λ n. Some (take n (drop start bytes))) size_is ∙ ap (λ n. Some (take size (drop n bytes))) c.size_before-start.ensures
    ∙ sym (parts-at c.args.sizes.now bytes c.args.number (omega arith))
