use Rattle.std.proofs.Common.{All, sym, subst, ◌∙◌}
use Rattle.ob_io.specs.Store.{IsChangeFit}
use Rattle.ob_io.specs.Slots.{shown_store}
use Rattle.ob_io.specs.Kept.{IsStoreFit}
use Rattle.ob_io.proofs.StoreFit.{IsStoreFit-all_changed}
use Rattle.ob_io.proofs.sure_keeper.SureKeeperKeeper.commit.Goals as goal

pub invariant_of-self-2 : goal.invariant_of-self-2
invariant_of-self-2 c =
    subst IsStoreFit (sym (c.drop_vacant.ensures ∙ c.in_ok-done.ensures.ok))
    (IsStoreFit-all_changed c.in_ok-copies.copies.items (shown_store c.self.inside.slots) c.self.invariant
    (subst (All IsChangeFit) (sym c.in_ok-copies.ensures) c.requires))
