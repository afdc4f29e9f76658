use Rattle.std.proofs.Common.{◌∙◌, ap, pos, w64}
use Rattle.std.proofs.lemmas.Int.{to_z_pos}
use Rattle.ob_base.specs.declared.value.Value.TheVariants.{Int}
use Rattle.ob_expr.proofs.computing.counted.Goals as goal

pub returns : goal.returns
returns c = ap Int (to_z_pos w64 c.count_true.result c.count_true.ensures.fits ∙ ap pos c.count_true.ensures.count)
