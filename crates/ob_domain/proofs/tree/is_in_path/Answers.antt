-- A value that is no text has no parts.
use Rattle.std.proofs.Common.{sym}
use Rattle.ob_domain.proofs.Tested.{no_text}
use Rattle.ob_domain.proofs.tree.is_in_path.Goals as goal

pub returns-in_default : goal.returns-in_default
returns-in_default c = sym (no_text c.args.path.now c.args.texts.now c.in_default.not-Word)
