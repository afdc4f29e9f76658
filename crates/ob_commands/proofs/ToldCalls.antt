-- A create or a write is the one of two that its model and its keys make it.
use Rattle.std.proofs.Common.{◌≡◌, Bool, true, false, Option, Some, None, Result, sym, subst, ◌∙◌}
use Rattle.std.specs.Prelude.{IfSome}
use Rattle.ob_base.specs.declared.refusal.Refusal.{Refusal}
use Rattle.ob_cache.specs.Calls.{IsCalled, Standpoint}
use Rattle.ob_commands.specs.Told.{MayComeBy, MeansBy}
use Rattle.ob_schema.specs.Tables.{Tables}
use Rattle.ob_schema.specs.declared.info.ModelInfo.{ModelInfo}
use Rattle.serde_json.specs.Data.{Data}

module _ (test : ModelInfo → Bool) (Exact Loose : ModelInfo → Tables → Result Data Refusal → Tables → Type 0) (ExactMay LooseMay : ModelInfo → Refusal → Type 0) (before after : Standpoint) (r : Result Data Refusal) where
  -- a call by the meaning of its own test
  abbrev pub IsCalledBy : ModelInfo → Type 0
  IsCalledBy info = IsCalled (MeansBy (test info) (Exact info) (Loose info)) before after (MayComeBy (test info) (ExactMay info) (LooseMay info)) r

  -- one that passes
  pub called-told : (o : Option ModelInfo) (b : Bool) → IfSome o (λ info. b ≡ test info) → b ≡ true → IfSome o (λ info. IsCalled (Exact info) before after (ExactMay info) r) → IfSome o IsCalledBy
  called-told None b tested is own = tt
  called-told (Some info) b tested is own =
      subst (λ (t : Bool). IsCalled (MeansBy t (Exact info) (Loose info)) before after (MayComeBy t (ExactMay info) (LooseMay info)) r) (sym is ∙ tested) own

  -- one that doesn't
  pub called-loose : (o : Option ModelInfo) (b : Bool) → IfSome o (λ info. b ≡ test info) → b ≡ false → IfSome o (λ info. IsCalled (Loose info) before after (LooseMay info) r) → IfSome o IsCalledBy
  called-loose None b tested is own = tt
  called-loose (Some info) b tested is own =
      subst (λ (t : Bool). IsCalled (MeansBy t (Exact info) (Loose info)) before after (MayComeBy t (ExactMay info) (LooseMay info)) r) (sym is ∙ tested) own
