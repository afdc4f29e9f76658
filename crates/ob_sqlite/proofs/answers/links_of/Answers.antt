-- No links are such, too.
use Rattle.ob_sqlite.proofs.Pushed.{no_links}
use Rattle.ob_sqlite.proofs.answers.links_of.Goals as goal

pub loop-row-init : goal.loop-row-init
loop-row-init c = rw c.new-links.ensures no_links
