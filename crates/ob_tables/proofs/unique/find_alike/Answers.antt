use Rattle.std.proofs.Common.{◌≡◌, ◌-◌, ◌<◌, ◌≤◌, length, refl, subst, arith}
use Rattle.std.specs.Prelude.{IsTrue}
use Rattle.std.proofs.lemmas.Option.{slice_get_read}
use Rattle.ob_base.specs.declared.refusal.BrokenKind.TheVariants as kind
use Rattle.ob_tables.specs.Finding.{Finds}
use Rattle.ob_tables.proofs.Finds.{below-none}
use Rattle.ob_tables.proofs.Neighbours.{AreAlike, alike-all, alike-more, alike-told}
use Rattle.ob_tables.proofs.unique.find_alike.Goals as goal

pub loop-place-init : goal.loop-place-init
loop-place-init c = below-none (AreAlike c.args.model c.args.first c.args.members.now) c.args.findings.now

pub loop-place-preserved : goal.loop-place-preserved
loop-place-preserved c =
    let members = c.args.members.now in
    let one = c.index-members-place.result in
    let next = c.index-members-place-in-loop-place.result in
    let alike = c.is_eq-are_alike.result in
    let low : 1 ≤ c.loop-place.place = c.loop-place.auto.place in
    let inside : c.loop-place.place < length members = c.loop-place-test.true in
    alike-more c.args.model c.args.first members c.loop-place.place one next alike c.args.findings.now c.loop-place.findings c.add_if.new.findings c.add_if-in-loop-place.new.findings low
    (slice_get_read members (length members) (c.loop-place.place - 1) one refl (omega arith) c.index-members-place.is) (slice_get_read members (length members) c.loop-place.place next refl inside c.index-members-place-in-loop-place.is)
    (alike-told one next c.as_slice.result.now c.as_slice-in-loop-place.result.now c.values_cmp.result alike c.as_slice.ensures.value c.as_slice-in-loop-place.ensures.value c.values_cmp.ensures c.is_eq-are_alike.ensures)
    c.loop-place.invariant
    (subst (λ cell. Finds (λ b. (b ≡ record { kind = kind.Unique; cell = cell }) × IsTrue alike) c.loop-place.findings c.add_if.new.findings) c.first_cell.ensures c.add_if.ensures)
    (subst (λ cell. Finds (λ b. (b ≡ record { kind = kind.Unique; cell = cell }) × IsTrue alike) c.add_if.new.findings c.add_if-in-loop-place.new.findings) c.first_cell-in-loop-place.ensures c.add_if-in-loop-place.ensures)

pub returns : goal.returns
returns c = alike-all c.args.model c.args.first c.args.members.now c.requires c.loop-place.place c.args.findings.now c.loop-place.findings c.loop-place-test.false c.loop-place.invariant
