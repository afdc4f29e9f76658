use Rattle.std.proofs.Common.{All, sym, subst}
use Rattle.ob_io.specs.Store.{IsChangeFit}
use Rattle.ob_io.specs.Slots.{shown_store}
use Rattle.ob_io.specs.Kept.{IsStoreFit}
use Rattle.ob_io.proofs.StoreFit.{IsStoreFit-empty, IsStoreFit-all_changed}
use Rattle.ob_io.proofs.sure_keeper.SureKeeper.new.Goals as goal

pub invariant_of-result : goal.invariant_of-result
invariant_of-result c =
    subst IsStoreFit (sym c.in_ok-change_all.ensures.ok)
    (IsStoreFit-all_changed c.in_ok-changes.changes.items (shown_store c.new-slots.result) (subst IsStoreFit (sym c.new-slots.ensures) IsStoreFit-empty)
    (subst (All IsChangeFit) (sym c.in_ok-changes.ensures) c.requires))
