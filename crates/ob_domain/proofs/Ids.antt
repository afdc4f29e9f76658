-- Ids that compare as equal are the same.
use Rattle.std.proofs.Common.{◌≡◌, ℕ, ap}
use Rattle.std.specs.FinMap.{nat_cmp-IsAntisymmetric}
use Rattle.std.specs.Ordering.{nat_cmp}
use Rattle.std.specs.declared.cmp.Ordering.TheVariants.{Equal}
use Rattle.ob_base.specs.declared.id.RecId.{RecId}

pub same_id : (k x : RecId) → nat_cmp k.0 x.0 ≡ Equal → k ≡ x
same_id k x e = ap (λ (n : ℕ). let id : RecId = record { 0 = n } in id) (nat_cmp-IsAntisymmetric k.0 x.0 e)
