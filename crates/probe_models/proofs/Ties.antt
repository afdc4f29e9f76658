-- In which tables rows can be followed.
use Rattle.std.proofs.Common.{◌≡◌, ◌⊎◌, List, inl, inr, subst, sym}
use Rattle.ob_base.specs.declared.refusal.BrokenKind.{BrokenKind}
use Rattle.ob_base.specs.declared.refusal.BrokenKind.TheVariants as kind
use Rattle.ob_schema.specs.declared.info.ModelInfo.{ModelInfo}
use Rattle.ob_schema.specs.Broken.{Sound}
use Rattle.ob_schema.specs.Tables.{Tables}
use Rattle.ob_schema.specs.Tied.{IsTied}
use Rattle.probe_models.specs.Asking.{ShowsTied}

-- in those that break nothing
pub sound_ties : (models : List ModelInfo) (tables : Tables) → Sound models tables → IsTied models tables
sound_ties models tables sound = (
  λ cell dangles. sound (record { kind = kind.MissingRef; cell = cell }) dangles,
  λ cell circled. sound (record { kind = kind.Tree; cell = cell }) circled,
  λ cell deep. sound (record { kind = kind.Depth; cell = cell }) deep,
)

-- and in those where a formula is broken, or a check
pub formulas_tie : (how : BrokenKind) → how ≡ kind.Overflow ⊎ (how ≡ kind.TooLong ⊎ (how ≡ kind.ZeroDivisor ⊎ how ≡ kind.Check)) → ShowsTied how
formulas_tie how (inl is) = subst ShowsTied (sym is) (λ models tables cell broken. broken.0)
formulas_tie how (inr (inl is)) = subst ShowsTied (sym is) (λ models tables cell broken. broken.0)
formulas_tie how (inr (inr (inl is))) = subst ShowsTied (sym is) (λ models tables cell broken. broken.0)
formulas_tie how (inr (inr (inr is))) = subst ShowsTied (sym is) (λ models tables cell broken. broken.0)
