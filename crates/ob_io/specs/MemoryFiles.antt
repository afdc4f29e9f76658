-- What the files in memory hold, as contracts see them.
use Rattle.std.specs.Prelude.{ℕ, List, map, Bool, true, false, Option, Result, Ok, Err, Vec}
use Rattle.std.specs.Map.{lookup}
use Rattle.std.specs.Str.{bytes_eq}
use Rattle.std.specs.declared.alloc.Global.{Global}
use Rattle.ob_io.specs.declared.files.FileFault.{FileFault}
use Rattle.ob_io.specs.declared.files.FileFault.TheVariants.{Failed}
use Rattle.ob_io.specs.Plan.{Plan}

-- each text beside its name
abbrev pub texts_in : List (List ℕ × Vec ℕ Global) → List (List ℕ × List ℕ)
texts_in pairs = map (λ p. (p.0, p.1.items)) pairs

-- the text of a name: of two the first
abbrev pub text_at : List (List ℕ × List ℕ) → List ℕ → Option (List ℕ)
text_at texts name = lookup (bytes_eq name) texts

-- texts, and which reads of them fail
pub record PlannedFiles : Type 0 where
  pub files : List (List ℕ × List ℕ)
  pub plan : Plan

-- whether a read answered that the files failed
abbrev pub has_failed : {T : Type 0} → Result T FileFault → Bool
has_failed (Ok answer) = false
has_failed (Err Failed) = true
has_failed (Err _) = false
