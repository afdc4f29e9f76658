use Rattle.std.proofs.Common.{◌≡◌, None, Some, ap, nat_lt, sym, ◌∙◌}
use Rattle.std.specs.Prelude.{position}
use Rattle.ob_install.proofs.RowOwners.{owner-found, some-above}
use Rattle.ob_install.proofs.installing.owners.owner.Goals as goal
use Rattle.ob_install.specs.InstallSteps.{makes}

pub returns-in_err-behind-clause-none : goal.returns-in_err-behind-clause-none
returns-in_err-behind-clause-none c =
    let placed = c.args.placed.now in
    let place = c.in_ok-place.place in
    let found : position (makes c.args.cell) placed.making.edits.items ≡ Some place = ap (position (makes c.args.cell)) (sym c.as_slice.ensures.value) ∙ sym c.in_ok-place.ensures in
    let above : position (nat_lt place) placed.counts.items ≡ None = ap (position (nat_lt place)) (sym c.as_slice-2.ensures.value) ∙ sym c.in_err-behind.ensures in
    absurd (some-above placed c.requires c.args.cell place found above)

pub returns-clause-found : goal.returns-clause-found
returns-clause-found c =
    let placed = c.args.placed.now in
    let place = c.in_ok-place.place in
    let behind = c.in_ok-behind.behind in
    let found : position (makes c.args.cell) placed.making.edits.items ≡ Some place = ap (position (makes c.args.cell)) (sym c.as_slice.ensures.value) ∙ sym c.in_ok-place.ensures in
    let above : position (nat_lt place) placed.counts.items ≡ Some behind = ap (position (nat_lt place)) (sym c.as_slice-2.ensures.value) ∙ sym c.in_ok-behind.ensures in
    owner-found placed c.requires c.args.cell place found behind above c.checked_sub.result c.checked_sub.ensures
