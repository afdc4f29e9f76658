-- The cell itself, and then the lists of the rows that it names on one side alone.
use Rattle.std.proofs.Common.{List, Option, subst, sym}
use Rattle.std.specs.Prelude.{OnOk}
use Rattle.std.proofs.lemmas.Result.{on_ok_weaker}
use Rattle.ob_base.specs.declared.id.ModelNo.{ModelNo}
use Rattle.ob_base.specs.declared.id.RecId.{RecId}
use Rattle.ob_change.proofs.CellSteps.{relation-edited}
use Rattle.ob_change.proofs.Gaining.{gains_pushed}
use Rattle.ob_change.proofs.edited.add_kept.Goals as goal
use Rattle.ob_change.specs.Changing.{models_of, sides_of}
use Rattle.ob_change.specs.EditedSteps.{EditsKept, Gains, NamesOnce}

pub returns-in-Some-relation : goal.returns-in-Some-relation
returns-in-Some-relation c =
    let models = models_of c.args.change in
    let sides = sides_of c.args.change in
    let own = c.args.own in
    let old = c.args.cells.now.items in
    let middle = c.push.new.self.items in
    let new = c.add_named.new.cells.items in
    let named : NamesOnce models sides own c.in-Some.ids.items = rw c.in-Some.is at c.in_ok-ids.ensures.once in
    let once = subst (λ (l : List RecId). NamesOnce models sides own l) (sym c.as_slice.ensures.value) named in
    subst (λ (r : Option ModelNo). OnOk c.add_named.result (Gains (EditsKept models sides r own) old new)) (sym c.in-Some-relation.is)
    (on_ok_weaker c.add_named.result
    (relation-edited models sides own c.in-Some-relation.target c.as_slice.result.now once old middle new (gains_pushed old middle own c.in_ok-push.ensures.items))
    c.add_named.ensures)
