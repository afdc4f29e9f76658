-- Modules by their numbers, one after another.
use Rattle.std.proofs.Common.{◌≡◌, ◌<◌, ◌≤◌, [], List, ℕ, Some, length, drop, get_or}
use Rattle.std.specs.Prelude.{slice_get}
use Rattle.std.proofs.lemmas.List.{get_or_default}
use Rattle.ob_module.specs.Modules.{Module, numbered}
use Rattle.ob_load.proofs.AccessSteps.{gets-at}
use Rattle.ob_load.proofs.Owners.{numbered-end, numbered-low, numbered-next, numbered-rest}

-- each number is that of a module
pub low-at : (modules all : List Module) (taken : List ℕ) (i : ℕ) → numbered modules taken all → i < length taken → get_or taken i 0 < length modules
low-at modules all taken i own low = numbered-low modules taken all i (get_or taken i 0) own low (get_or_default taken i 0 (get_or taken i 0) low)

-- the module of a number among all
pub next-at : (modules all : List Module) (taken : List ℕ) (i : ℕ) → numbered modules taken all → i < length taken → (m : Module) × (slice_get modules (get_or taken i 0) ≡ Some m) × (slice_get all i ≡ Some m)
next-at modules all taken i own low =
    let step = numbered-next modules taken i (get_or taken i 0) (drop i all) low (get_or_default taken i 0 (get_or taken i 0) low) (numbered-rest modules taken all i own) in
    (step.0, step.3, gets-at all step.1 i step.0 step.2)

-- with no number left there is no module left
pub end-at : (modules all : List Module) (taken : List ℕ) (i : ℕ) → numbered modules taken all → length taken ≤ i → ◌≡◌ {A = List Module} (drop i all) []
end-at modules all taken i own high = numbered-end modules taken i (drop i all) high (numbered-rest modules taken all i own)
