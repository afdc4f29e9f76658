-- An id above all of them keeps the list rising.
use Rattle.ob_base.proofs.Risen.{IsRising-push}
use Rattle.ob_base.proofs.ref_list.RefList.push.Goals as goal

pub invariant_of-self-2 : goal.invariant_of-self-2
invariant_of-self-2 c =
    rw c.in_ok-push.ensures.items
    (IsRising-push c.self.inside.ids.items c.args.id c.self.invariant (rw c.self.view_is c.requires))
