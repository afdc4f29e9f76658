-- How faults of an opening become endings.
use Rattle.std.specs.Prelude.{◌≡◌, ◌<◌, List, length, slice_get, IsSomeAnd, ⊤}
use Rattle.ob_io.specs.declared.keeper.KeepFault.{KeepFault}
use Rattle.ob_io.specs.declared.keeper.KeepFault.TheVariants as keep
use Rattle.ob_install.specs.declared.installing.InstallFault.{InstallFault}
use Rattle.ob_install.specs.declared.installing.InstallFault.TheVariants as install
use Rattle.ob_schema.specs.declared.preset.PresetRow.{PresetRow}
use Rattle.ob_server.specs.Opening.{row_text}
use Rattle.ob_server.specs.declared.ending.Ending.{Ending}
use Rattle.ob_server.specs.declared.ending.Ending.TheVariants as ending

-- the ending where it isn't known whether a store is new
abbrev pub IsAskingEnding : KeepFault → Ending → Type 0
IsAskingEnding keep.Failed why = why ≡ ending.KeeperFault
IsAskingEnding keep.NoMemory why = why ≡ ending.NoMemory

-- the ending that tells a row; or memory is wanting for its text
abbrev pub IsRowEnding : PresetRow → Ending → Type 0
IsRowEnding row (ending.Module line) = line ≡ row_text row
IsRowEnding row ending.NoMemory = ⊤
IsRowEnding row _ = ⊥

-- a row that is refused is one of these
abbrev pub NamesOne : List PresetRow → InstallFault → Type 0
NamesOne rows (install.Refused n b) = n < length rows
NamesOne rows _ = ⊤

-- the ending where rows aren't made
abbrev pub IsFillingEnding : List PresetRow → InstallFault → Ending → Type 0
IsFillingEnding rows install.Keeper why = why ≡ ending.KeeperFault
IsFillingEnding rows (install.Refused n b) why = IsSomeAnd (slice_get rows n) (λ row. IsRowEnding row why)
IsFillingEnding rows install.NoMemory why = why ≡ ending.NoMemory
