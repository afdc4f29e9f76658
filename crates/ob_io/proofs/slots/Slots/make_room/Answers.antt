use Rattle.std.proofs.Common.{sym, subst, arith, ◌∙◌}
use Rattle.std.proofs.lemmas.List.{take_all}
use Rattle.std.proofs.lemmas.List.Elements.{All-more, All-weaker, All-same}
use Rattle.ob_io.specs.Slots.{HasRoom}
use Rattle.ob_io.proofs.slots.Slots.make_room.Goals as goal

pub loop-change-preserved : goal.loop-change-preserved
loop-change-preserved c =
    let room = HasRoom c.make_one_slot.new.self in
    record {
      same = c.make_one_slot.ensures.same ∙ c.loop-change.invariant.same;
      room = All-more room c.args.changes.now c.loop-change.change-index c.change-item.result (omega arith)
          (All-weaker (HasRoom c.loop-change.self) room c.make_one_slot.ensures.kept _ c.loop-change.invariant.room)
          (subst room c.change-item.is c.in_ok-make_one_slot.ensures.room);
    }

pub returns-clause-room : goal.returns-clause-room
returns-clause-room c =
    All-same (HasRoom c.loop-change.self) _ _ (sym (take_all c.loop-change.change-index c.args.changes.now (omega arith))) c.loop-change.invariant.room
