-- The first of the connections that were to come is the current one, with an empty part for it.
use Rattle.std.proofs.Common.{[], ◌∷◌, ◌++◌, Some, map, refl, ap, ◌∙◌, sym}
use Rattle.std.specs.Vec.Iter.{into_iter_items}
use Rattle.ob_io.specs.Memory.{Stream}
use Rattle.ob_io.specs.MemoryDoor.{Streams, parts_of}
use Rattle.ob_io.proofs.DoorParts.{parts-push}
use Rattle.ob_io.proofs.memory_door.SureDoorDoor.next.Goals as goal

pub returns-in-Ok-clause-admits : goal.returns-in-Ok-clause-admits
returns-in-Ok-clause-admits c =
    let written = c.self.inside.written.items in (
      (
        c.in-Some.bytes.items,
        map (λ bytes. bytes.items) (into_iter_items c.next.new.self),
        ap (λ (s : Streams). s.coming) (sym c.self.view_is) ∙ ap (map (λ bytes. bytes.items)) c.in-Some.ensures.cases.0,
        refl,
        ap (λ (s : Stream). Some s.left) c.restart.ensures,
      ),
      ap Some (ap (λ sizes. parts_of sizes written) c.in-Ok.ensures.items ∙ parts-push c.self.inside.sizes.items written ∙ ap (λ (s : Streams). s.written ++ [] ∷ []) c.self.view_is),
    )
