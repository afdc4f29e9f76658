-- Three cuts leave four words or more.
use Rattle.std.proofs.Common.{sym}
use Rattle.ob_http.proofs.Cuts.{four_words}
use Rattle.ob_http.proofs.head.has_other_version.Goals as goal

pub returns-in-Some-cut_at-2 : goal.returns-in-Some-cut_at-2
returns-in-Some-cut_at-2 c = sym (four_words c.args.line.now c.in-Some.after_method.now c.in-Some-cut_at.version.now c.in-Some-cut_at-2.field-0.1.now
    c.in-Some.method.now c.in-Some-cut_at.target.now c.in-Some-cut_at-2.field-0.0.now c.in-Some.ensures.some c.in-Some-cut_at.ensures.some c.in-Some-cut_at-2.ensures.some)
