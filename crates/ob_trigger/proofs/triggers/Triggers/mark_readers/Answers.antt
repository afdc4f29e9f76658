-- One reader more.
use Rattle.std.proofs.Common.{inl, List, sym, subst, ◌∙◌}
use Rattle.std.specs.Prelude.{Any}
use Rattle.std.proofs.lemmas.List.{take_all}
use Rattle.std.proofs.lemmas.Result.{err_from_is_err_and}
use Rattle.ob_schema.specs.Models.{IsRegistry}
use Rattle.ob_schema.specs.Plain.{plain_at}
use Rattle.ob_schema.specs.declared.info.ModelInfo.{ModelInfo}
use Rattle.ob_trigger.specs.Affected.{cell_step}
use Rattle.ob_trigger.specs.Marks.{MarksMore}
use Rattle.ob_trigger.specs.Readers.{AllLead, IsReaderIndex, ReadsBy}
use Rattle.ob_trigger.specs.declared.index.Reader.{Reader}
use Rattle.ob_trigger.proofs.Asking.{alone_none, alone_then, fault_behind}
use Rattle.ob_trigger.proofs.Marking.{by-more, by-none, computed-then, counts-none, counts-then, marks-as, marks-none, marks-then}
use Rattle.ob_trigger.proofs.Reading.{found_reader, reader-computes, reader-leads, readers-all}
use Rattle.ob_trigger.proofs.triggers.Triggers.mark_readers.Goals as goal

pub mark_reader-requires : goal.mark_reader-requires
mark_reader-requires g c =
    let models = c.args.self.now in
    let index = subst (λ (m : List ModelInfo). IsReaderIndex m c.self.inside.index) c.self.view_is c.self.invariant in
    let registry = subst IsRegistry c.self.view_is c.parts_fit_together.ensures in
    let reads = found_reader models c.self.inside.index index (cell_step c.args.cell) c.readers_of-reader-items.result.now c.readers_of-reader-items.ensures c.loop-reader.reader-index c.reader-item.result
    c.loop-reader-test.true c.reader-item.is in
    subst (λ (m : List ModelInfo). AllLead m c.reader-item.result.front) (sym (c.loop-reader.invariant.stays.same ∙ c.requires)) (reader-leads models registry (cell_step c.args.cell) c.reader-item.result reads)

pub loop-reader-init : goal.loop-reader-init
loop-reader-init g c = record {
  told = λ sides tells. marks-none _ _ _ (λ cell. by-none (plain_at sides.before (g.W.Links.registry c.args.worlds.now)) c.args.cell.id cell);
  computed = λ cell marks. inl marks;
  count = counts-none _ _;
  stays = alone_none _;
}

pub loop-reader-preserved : goal.loop-reader-preserved
loop-reader-preserved g c =
    let models = c.args.self.now in
    let known = g.W.Links.registry c.args.worlds.now in
    let index = subst (λ (m : List ModelInfo). IsReaderIndex m c.self.inside.index) c.self.view_is c.self.invariant in
    let registry = subst IsRegistry c.self.view_is c.parts_fit_together.ensures in
    let reader = c.reader-item.result in
    let reads = found_reader models c.self.inside.index index (cell_step c.args.cell) c.readers_of-reader-items.result.now c.readers_of-reader-items.ensures c.loop-reader.reader-index reader
    c.loop-reader-test.true c.reader-item.is in
    record {
      told = λ sides tells. marks-as _ _ _ _ _ _ (marks-then _ _ _ _ _ _ _ _ (c.loop-reader.invariant.told sides tells)
          (subst (λ (m : List ModelInfo). MarksMore c.loop-reader.marked c.mark_reader.new.marked c.loop-reader.waiting.items c.mark_reader.new.waiting.items (ReadsBy (plain_at sides.before m) c.args.cell.id reader))
          c.loop-reader.invariant.stays.same (c.in_ok-mark_reader.ensures.told sides (c.loop-reader.invariant.stays.kept sides tells))))
          (by-more (plain_at sides.before known) c.args.cell.id c.readers_of-reader-items.result.now c.loop-reader.reader-index reader c.loop-reader-test.true c.reader-item.is);
      computed = computed-then models _ _ _ reader.computed (reader-computes models registry (cell_step c.args.cell) reader reads) c.loop-reader.invariant.computed c.in_ok-mark_reader.ensures.computed;
      count = counts-then _ _ _ _ _ _ c.loop-reader.invariant.count c.in_ok-mark_reader.ensures.count;
      stays = alone_then _ _ _ c.loop-reader.invariant.stays c.mark_reader.ensures.stays;
    }

pub returns-clause-told : goal.returns-clause-told
returns-clause-told g c = λ sides tells.
    let models = c.args.self.now in
    let known = g.W.Links.registry c.args.worlds.now in
    let readers = c.readers_of-reader-items.result.now in
    let index = subst (λ (m : List ModelInfo). IsReaderIndex m c.self.inside.index) c.self.view_is c.self.invariant in
    let all = subst (λ (l : List Reader). MarksMore c.args.marked.now c.loop-reader.marked c.args.waiting.now.items c.loop-reader.waiting.items (λ other. Any (λ reader. ReadsBy (plain_at sides.before known) c.args.cell.id reader other) l))
    (take_all c.loop-reader.reader-index readers c.loop-reader-test.false) (c.loop-reader.invariant.told sides tells) in
    marks-as _ _ _ _ _ _ all (readers-all models known c.self.inside.index index c.requires sides.before c.args.cell readers c.readers_of-reader-items.ensures)

pub returns-in_err-mark_reader-clause-fault : goal.returns-in_err-mark_reader-clause-fault
returns-in_err-mark_reader-clause-fault g c =
    let p = err_from_is_err_and c.from_residual.result c.from_residual.ensures.1 in
    rw (p.1, p.2) (fault_behind g.W.Links.has_failed _ _ c.mark_reader.new.worlds c.in_err-mark_reader.field-0.0 c.loop-reader.invariant.stays.asked c.in_err-mark_reader.ensures.fault)

pub returns-in_err-mark_reader-clause-stays : goal.returns-in_err-mark_reader-clause-stays
returns-in_err-mark_reader-clause-stays g c = alone_then _ _ _ c.loop-reader.invariant.stays c.mark_reader.ensures.stays
