-- What the code gives for what a definition says of a part of a request.
use Rattle.std.specs.Prelude.{◌≡◌, List, Result, Ok, Err, ⊤}
use Rattle.ob_base.specs.declared.place.PathStep.{PathStep}
use Rattle.ob_base.specs.declared.refusal.Refusal.{Refusal}
use Rattle.ob_base.specs.declared.refusal.Refusal.TheVariants as refusal

-- the value as it stands for the defined one, or a refusal at the defined place; or want of memory
abbrev pub IsResultOf : {A B : Type 0} → (A → B) → Result A Refusal → Result B (List PathStep) → Type 0
IsResultOf of (Ok a) meant = meant ≡ Ok (of a)
IsResultOf of (Err (refusal.Request place)) meant = meant ≡ Err place
IsResultOf of (Err refusal.NoMemory) meant = ⊤
IsResultOf of (Err _) meant = ⊥
