-- Where it isn't due nothing is written.
use Rattle.std.proofs.Common.{sym, subst, [], if◌then◌else◌}
use Rattle.ob_http.specs.Reply.{interim_bytes}
use Rattle.ob_http.specs.Written.{Wrote}
use Rattle.ob_http.proofs.WrittenParts.{wrote_nothing}
use Rattle.ob_http.proofs.request.write_due.Goals as goal

pub returns-clause-ok : goal.returns-clause-ok
returns-clause-ok g c = subst (λ b. Wrote (g.D.Door.written c.args.door.now) (g.D.Door.written c.args.door.now) (if b then interim_bytes else [])) (sym c.if-due.false) (wrote_nothing _)
