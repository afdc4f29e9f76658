-- The link is above the last, where there is one.
use Rattle.std.proofs.Common.{◌≡◌, IfSome, sym, ◌∙◌}
use Rattle.std.specs.Option.{option_copied}
use Rattle.std.specs.declared.cmp.Ordering.TheVariants.{Less}
use Rattle.ob_io.specs.Store.{link_cmp}
use Rattle.ob_sqlite.proofs.Pushed.{one_more_link, link_below}
use Rattle.ob_sqlite.proofs.answers.push_link.Goals as goal
use Rattle.ob_sqlite.proofs.answers.push_link.Goals.{in-Some+else-ge, in_default}

pub returns : goal.returns
returns c =
    let above : IfSome (option_copied c.last.result) (λ before. link_cmp before c.args.link ≡ Less) = elim c.match-last.branch [
      | in-Some+else-ge w ↦ rw w.in-Some.is (link_below w.in-Some.before.now c.args.link (sym w.ge.ensures ∙ w.if-ge.false))
      | in_default w ↦ rw w.in_default.is tt
    ] in
    rw c.in_ok-push.ensures.ok
    (one_more_link c.args.links.now c.args.link (option_copied c.last.result) (rw c.as_slice.ensures at c.last.ensures.value) above c.requires.links c.requires.target)
