-- What is found of the keys of models in turn, with one model more.
use Rattle.std.proofs.Common.{◌≡◌, ◌⊎◌, ℕ, ◌<◌, ◌+◌, List, [], length, get_or, take, Option, subst, arith}
use Rattle.ob_definition.specs.declared.fault.SchemaFault.{SchemaFault}
use Rattle.ob_definition.specs.Findings.{Adds}
use Rattle.ob_definition.specs.Gathered.{Gathered}
use Rattle.ob_definition.specs.Making.{AreMadeFaults, IsLinkFault, IsPathFault}
use Rattle.ob_definition.proofs.Adding.{Adds-both, Adds-none}
use Rattle.ob_definition.proofs.Copies.{next_front}
use Rattle.ob_definition.proofs.Tellings.{Adds-more}

pub made-found : (models some : List Gathered) (i : ℕ) (g : Gathered) (a b c d : Option SchemaFault) → i < length some → g ≡ get_or some i g → Adds (AreMadeFaults models (take i some)) a b → Adds (IsPathFault g) b c
    → Adds (IsLinkFault models g) c d → Adds (AreMadeFaults models (take (i + 1) some)) a d
made-found models some i g a b c d within is before path links =
    subst (λ (gs : List Gathered). Adds (AreMadeFaults models gs) a d) (next_front some i g within is)
    (Adds-more (λ (h : Gathered) (why : SchemaFault). IsPathFault h why ⊎ IsLinkFault models h why) (take i some) g a b d before (Adds-both (IsPathFault g) (IsLinkFault models g) b c d path links))

-- nothing of none
pub made-none : (models : List Gathered) (a : Option SchemaFault) → Adds (AreMadeFaults models []) a a
made-none models a = Adds-none (AreMadeFaults models []) a (λ why w. absurd (omega (arith, w.2)))
