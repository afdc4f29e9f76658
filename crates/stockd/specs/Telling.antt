-- How a run ends that only tells help or the version.
use Rattle.std.specs.Prelude.{⊤}
use Rattle.ob_server.specs.declared.ending.Ending.{Ending}
use Rattle.ob_server.specs.declared.ending.Ending.TheVariants as ending

-- how a run may end that only tells something
abbrev pub EndsTelling : (output_rose : Type 0) → Ending → Type 0
EndsTelling output_rose ending.Done = ⊤
EndsTelling output_rose ending.WriteFault = output_rose
EndsTelling output_rose ending.NoMemory = ⊤
EndsTelling output_rose _ = ⊥
