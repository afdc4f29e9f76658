-- One cell more whose readers are marked.
use Rattle.std.proofs.Common.{◌≡◌, ◌+◌, ◌∷◌, [], length, length-append, ap, ◌∙◌, arith}
use Rattle.std.proofs.lemmas.List.{nil_from_length}
use Rattle.std.proofs.lemmas.Result.{err_from_is_err_and}
use Rattle.ob_trigger.proofs.Asking.{alone_none, alone_then, fault_behind}
use Rattle.ob_trigger.proofs.Marking.{none_marked}
use Rattle.ob_trigger.proofs.Searching.{begun, ended, marked_only, searched}
use Rattle.ob_trigger.proofs.triggers.Triggers.reached.Goals as goal

pub loop-cell-init : goal.loop-cell-init
loop-cell-init g c = record {
  told = λ sides tells. begun c.args.self.now sides c.args.edited.now c.new-marked.result c.in_ok-waiting.waiting.items c.new-marked.ensures.empty c.in_ok-waiting.ensures;
  computed = λ cell marks. absurd (none_marked c.new-marked.result cell c.new-marked.ensures.empty marks);
  stays = alone_none _;
}

pub mark_readers-requires : goal.mark_readers-requires
mark_readers-requires g c = c.loop-cell.invariant.stays.same ∙ c.requires

pub loop-cell-preserved : goal.loop-cell-preserved
loop-cell-preserved g c = record {
  told = λ sides tells. searched c.args.self.now sides c.args.edited.now c.loop-cell.marked c.mark_readers.new.marked c.loop-cell.waiting.items c.pop.new.self.items c.mark_readers.new.waiting.items c.in-Some.cell
      (c.loop-cell.invariant.told sides tells) c.in-Some.ensures.items (c.in_ok-mark_readers.ensures.told sides (c.loop-cell.invariant.stays.kept sides tells));
  computed = marked_only c.args.self.now c.loop-cell.marked c.mark_readers.new.marked c.loop-cell.invariant.computed c.in_ok-mark_readers.ensures.computed;
  stays = alone_then _ _ _ c.loop-cell.invariant.stays c.mark_readers.ensures.stays;
}

pub loop-cell-smaller : goal.loop-cell-smaller
loop-cell-smaller g c =
    let one : length c.loop-cell.waiting.items ≡ length c.pop.new.self.items + length (c.in-Some.cell ∷ []) = ap length c.in-Some.ensures.items ∙ length-append c.pop.new.self.items (c.in-Some.cell ∷ []) in
    omega (arith, one, c.in_ok-mark_readers.ensures.count.0, c.in_ok-mark_readers.ensures.count.1, c.len.ensures.len, c.len.ensures.small)

pub returns-clause-told : goal.returns-clause-told
returns-clause-told g c = λ sides tells.
    let none = nil_from_length c.loop-cell.waiting.items (omega (arith, c.in_default.ensures.cases.0, c.loop-cell.waiting.ok.0)) in
    ended c.args.self.now sides c.args.edited.now c.loop-cell.marked c.loop-cell.waiting.items (c.loop-cell.invariant.told sides tells) none

pub returns-in_err-waiting-clause-stays : goal.returns-in_err-waiting-clause-stays
returns-in_err-waiting-clause-stays g c = alone_none _

pub returns-in_err-mark_readers-clause-fault : goal.returns-in_err-mark_readers-clause-fault
returns-in_err-mark_readers-clause-fault g c =
    let p = err_from_is_err_and c.from_residual-in_err-mark_readers.result c.from_residual-in_err-mark_readers.ensures.1 in
    rw (p.1, p.2) (fault_behind g.W.Links.has_failed _ _ c.mark_readers.new.worlds c.in_err-mark_readers.field-0.0 c.loop-cell.invariant.stays.asked c.in_err-mark_readers.ensures.fault)

pub returns-in_err-mark_readers-clause-stays : goal.returns-in_err-mark_readers-clause-stays
returns-in_err-mark_readers-clause-stays g c = alone_then _ _ _ c.loop-cell.invariant.stays c.mark_readers.ensures.stays
