-- What of its report an audit writes, by how it ends.
use Rattle.std.specs.Prelude.{◌≡◌, ◌++◌, ℕ, List, [], Option, option_map, true, false}
use Rattle.ob_audit.specs.Report.{IsReport}
use Rattle.ob_audit.specs.declared.report.Report.{Report}
use Rattle.ob_io.specs.Store.{Store}
use Rattle.ob_schema.specs.declared.info.ModelInfo.{ModelInfo}
use Rattle.ob_server.specs.Ending.{IsCutShort, WritesPart}
use Rattle.ob_server.specs.Session.{reply_lines}
use Rattle.ob_server.specs.declared.ending.Ending.{Ending}
use Rattle.ob_server.specs.declared.ending.Ending.TheVariants as ending

-- the lines of a report, each with its line feed
abbrev pub report_text : Report → List ℕ
report_text report = reply_lines report.lines

-- All of the report was written, by whether it is equal; or a front of it, where the sink failed; or nothing, where the keeper failed or memory was wanting.
abbrev pub TellsReport : List ModelInfo → Store → (keeper_rose : Type 0) → Ending → List ℕ → Type 0
TellsReport models store keeper_rose ending.Done written = (report : Report) × IsReport models store report × (report.equal ≡ true) × (written ≡ report_text report)
TellsReport models store keeper_rose ending.Differs written = (report : Report) × IsReport models store report × (report.equal ≡ false) × (written ≡ report_text report)
TellsReport models store keeper_rose ending.WriteFault written = (report : Report) × IsReport models store report × IsCutShort written (report_text report)
TellsReport models store keeper_rose ending.KeeperFault written = keeper_rose × (written ≡ [])
TellsReport models store keeper_rose ending.NoMemory written = written ≡ []
TellsReport models store keeper_rose _ written = ⊥

-- a report was written: all of it, by whether it is equal; or a front of it
abbrev pub WritesReport : Report → Ending → (before now : Option (List ℕ)) → Type 0
WritesReport report ending.Done before now = (report.equal ≡ true) × (now ≡ option_map (λ w. w ++ report_text report) before)
WritesReport report ending.Differs before now = (report.equal ≡ false) × (now ≡ option_map (λ w. w ++ report_text report) before)
WritesReport report ending.WriteFault before now = WritesPart before now (report_text report)
WritesReport report _ before now = ⊥
