-- The last line comes after what the command did, and other words are told at once.
use Rattle.std.proofs.Common.{◌≡◌, ap, arith, inl, inr, refl, sym, ◌∙◌}
use Rattle.ob_words.specs.Views.{command_view}
use Rattle.ob_words.specs.Words.{Command}
use Rattle.ob_server.specs.declared.ending.Ending.TheVariants as ending
use Rattle.stockd.proofs.WholeCall.{not_begun}
use Rattle.stockd.proofs.WordsAsked.{no_command, no_room, none_told, not_told, run_asked, some_asked, told_causes, told_status}
use Rattle.stockd.proofs.run.run.Goals as goal

pub returns-in-Ok-Some-Command-clause-runs : goal.returns-in-Ok-Some-Command-clause-runs
returns-in-Ok-Some-Command-clause-runs g c = λ command is store kept.
    let told = rw (c.in-Ok-Some-Command.field-0-is, c.in-Ok-Some-Command.field-0-0-is) at c.in-Ok-Some-Command.ensures in
    let same : command ≡ command_view c.in-Ok-Some-Command.command = cc in
    record {
      why = c.carried_out-ending.result;
      status_is = c.finish.ensures.status;
      written = _;
      sink_faults = _;
      done = rw same (c.carried_out-ending.ensures.outcome store kept);
      since = c.carried_out-ending.ensures.output_count;
      last = c.finish.ensures.line;
    }

pub returns-in-Ok-Some-Command-clause-unused : goal.returns-in-Ok-Some-Command-clause-unused
returns-in-Ok-Some-Command-clause-unused g c = λ command is other.
    let told = rw (c.in-Ok-Some-Command.field-0-is, c.in-Ok-Some-Command.field-0-0-is) at c.in-Ok-Some-Command.ensures in
    let same : command ≡ command_view c.in-Ok-Some-Command.command = cc in
    c.carried_out-ending.ensures.unused (λ serves. other (ap (λ (asked : Command). asked.action) same ∙ serves))

pub returns-in-Ok-Some-Command-clause-untouched : goal.returns-in-Ok-Some-Command-clause-untouched
returns-in-Ok-Some-Command-clause-untouched g c = λ none.
    let told = rw (c.in-Ok-Some-Command.field-0-is, c.in-Ok-Some-Command.field-0-0-is) at c.in-Ok-Some-Command.ensures in
    absurd (run_asked _ (command_view c.in-Ok-Some-Command.command) told none)

pub returns-in-Ok-Some-Command-clause-told : goal.returns-in-Ok-Some-Command-clause-told
returns-in-Ok-Some-Command-clause-told g c = λ tells.
    let told = rw (c.in-Ok-Some-Command.field-0-is, c.in-Ok-Some-Command.field-0-0-is) at c.in-Ok-Some-Command.ensures in
    absurd (not_told _ (command_view c.in-Ok-Some-Command.command) told tells)

pub returns-in-Ok-Some-Help-clause-told : goal.returns-in-Ok-Some-Help-clause-told
returns-in-Ok-Some-Help-clause-told g c = λ _.
    told_status _ _ c.told_help-ending.result c.finish-in-Ok-Some-Help.ensures.status c.told_help-ending.ensures.ending

pub returns-in-Ok-Some-Help-clause-causes : goal.returns-in-Ok-Some-Help-clause-causes
returns-in-Ok-Some-Help-clause-causes g c =
    let told = rw (c.in-Ok-Some-Help.field-0-is, c.in-Ok-Some-Help.field-0-0-is) at c.in-Ok-Some-Help.ensures in
    told_causes _ _ _ _ (some_asked _ _ told) _ c.told_help-ending.result c.finish-in-Ok-Some-Help.ensures.count c.finish-in-Ok-Some-Help.ensures.status c.told_help-ending.ensures.ending

pub returns-in-Ok-Some-Version-clause-told : goal.returns-in-Ok-Some-Version-clause-told
returns-in-Ok-Some-Version-clause-told g c = λ _.
    told_status _ _ c.told_version-ending.result c.finish-in-Ok-Some-Version.ensures.status c.told_version-ending.ensures.ending

pub returns-in-Ok-Some-Version-clause-causes : goal.returns-in-Ok-Some-Version-clause-causes
returns-in-Ok-Some-Version-clause-causes g c =
    let told = rw (c.in-Ok-Some-Version.field-0-is, c.in-Ok-Some-Version.field-0-0-is) at c.in-Ok-Some-Version.ensures in
    told_causes _ _ _ _ (some_asked _ _ told) _ c.told_version-ending.result c.finish-in-Ok-Some-Version.ensures.count c.finish-in-Ok-Some-Version.ensures.status c.told_version-ending.ensures.ending

pub returns-in-Ok-None-clause-usage : goal.returns-in-Ok-None-clause-usage
returns-in-Ok-None-clause-usage g c = λ _. inl (c.finish-in-Ok-None.ensures.status, c.finish-in-Ok-None.ensures.line)

pub returns-in-Ok-None-clause-told : goal.returns-in-Ok-None-clause-told
returns-in-Ok-None-clause-told g c = λ tells.
    let told = rw c.in-Ok-None.field-0-is at c.in-Ok-None.ensures in
    absurd (none_told _ told tells)

pub returns-in-Ok-None-clause-causes : goal.returns-in-Ok-None-clause-causes
returns-in-Ok-None-clause-causes g c =
    let told = rw c.in-Ok-None.field-0-is at c.in-Ok-None.ensures in
    no_command _ _ _ _ c.finish-in-Ok-None.ensures.status (sym told)

pub returns-in-Err-clause-usage : goal.returns-in-Err-clause-usage
returns-in-Err-clause-usage g c = λ _. inr (c.finish-in-Err.ensures.status, c.finish-in-Err.ensures.line)

pub returns-in-Err-clause-runs : goal.returns-in-Err-clause-runs
returns-in-Err-clause-runs g c = λ command is store kept. record {
  why = ending.NoMemory;
  status_is = c.finish-in-Err.ensures.status;
  written = _;
  sink_faults = _;
  done = not_begun command.action command store _ _ (record { left = refl; kept = refl; coming = refl; written = refl }) refl;
  since = omega arith;
  last = c.finish-in-Err.ensures.line;
}

pub returns-in-Err-clause-causes : goal.returns-in-Err-clause-causes
returns-in-Err-clause-causes g c = no_room _ _ _ _ c.finish-in-Err.ensures.status
