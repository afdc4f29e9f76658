use Rattle.std.proofs.Common.{refl}
use Rattle.ob_server.proofs.Others.{others_same}
use Rattle.ob_server.proofs.session.serve_line.Goals as goal

pub returns-then-is_blank-clause-others : goal.returns-then-is_blank-clause-others
returns-then-is_blank-clause-others g c = others_same _ _ _ refl
