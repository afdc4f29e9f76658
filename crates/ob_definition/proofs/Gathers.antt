-- The models of the entries so far and what is found of them, with one entry more.
use Rattle.std.proofs.Common.{◌≡◌, ◌⊎◌, ℕ, ◌<◌, ◌+◌, List, [], ◌∷◌, ◌++◌, length, get_or, take, Option, Some, None, sym, ap, subst, ◌∙◌, arith}
use Rattle.std.specs.Prelude.{slice_get}
use Rattle.std.proofs.lemmas.List.{length-take-le}
use Rattle.ob_definition.specs.declared.definition.ModelDef.{ModelDef}
use Rattle.ob_definition.specs.declared.fault.SchemaFault.{SchemaFault}
use Rattle.ob_definition.specs.EntryFaults.{IsEntryFault, IsGatheringFault}
use Rattle.ob_definition.specs.Findings.{Adds}
use Rattle.ob_definition.specs.Gathered.{Gathered, gathered, with_entry}
use Rattle.ob_definition.proofs.Adding.{Adds-both, Adds-none, Adds-same}
use Rattle.ob_definition.proofs.Copies.{next_front}
use Rattle.ob_definition.proofs.EntryFaults.{IsGatheringFault-before, IsGatheringFault-push, gathered-push}

no_entry : (n : ℕ) (def : ModelDef) → slice_get [] n ≡ Some def → ⊥
no_entry n def e = absurd (let s : ◌≡◌ {A = Option ModelDef} None (Some def) = e in cc)

-- nothing is found of no entries
pub gather-none : (a : Option SchemaFault) → Adds (IsGatheringFault []) a a
gather-none a = Adds-none (IsGatheringFault []) a (λ why w. no_entry w.0 w.1 w.2)

pub gather-more : (defs : List ModelDef) (i n : ℕ) (def : ModelDef) (old new : List Gathered) (a b c : Option SchemaFault) → i < length defs → n ≡ i → def ≡ get_or defs i def → old ≡ gathered (take i defs)
    → new ≡ with_entry n old def → Adds (IsGatheringFault (take i defs)) a b → Adds (IsEntryFault old n def) b c → (new ≡ gathered (take (i + 1) defs)) × Adds (IsGatheringFault (take (i + 1) defs)) a c
gather-more defs i n def old new a b c within same is models grown before now =
    let front = take i defs in
    let size : n ≡ length front = same ∙ sym (length-take-le i defs (omega (arith, within))) in
    let made : new ≡ gathered (front ++ def ∷ []) =
    grown ∙ ap (λ (l : List Gathered). with_entry n l def) models ∙ ap (λ (k : ℕ). with_entry k (gathered front) def) size ∙ sym (gathered-push front def) in
    let entry : Adds (IsEntryFault (gathered front) (length front) def) b c =
    subst (λ (k : ℕ). Adds (IsEntryFault (gathered front) k def) b c) size (subst (λ (l : List Gathered). Adds (IsEntryFault l n def) b c) models now) in
    let found : Adds (IsGatheringFault (front ++ def ∷ [])) a c =
    Adds-same (λ why. IsGatheringFault front why ⊎ IsEntryFault (gathered front) (length front) def why) (IsGatheringFault (front ++ def ∷ [])) a c
    (IsGatheringFault-before front def) (IsGatheringFault-push front def) (Adds-both (IsGatheringFault front) (IsEntryFault (gathered front) (length front) def) a b c before entry) in
    subst (λ (ds : List ModelDef). (new ≡ gathered ds) × Adds (IsGatheringFault ds) a c) (next_front defs i def within is) (made, found)
