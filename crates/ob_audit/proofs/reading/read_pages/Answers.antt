use Rattle.std.proofs.Common.{◌≡◌, List, Option, arith, subst, take, ◌∙◌}
use Rattle.std.specs.Prelude.{IfSome}
use Rattle.std.proofs.lemmas.Result.{err_from_is_err_and}
use Rattle.ob_audit.specs.Reading.{IsUnreadAmong, ReadsRows, TellsUpTo}
use Rattle.ob_audit.proofs.ReadPages.{last-at, page-falls, page-more, page-rises, reads-join, unread-stops}
use Rattle.ob_io.specs.Store.{RowsNamed, Store, rows_after}
use Rattle.ob_io.specs.declared.store.KeptRow.{KeptRow}
use Rattle.ob_schema.specs.Models.{model_at}
use Rattle.ob_audit.proofs.reading.read_pages.Goals as goal

pub returns-in_err-read_page-clause-fault : goal.returns-in_err-read_page-clause-fault
returns-in_err-read_page-clause-fault g c =
    let p = err_from_is_err_and c.from_residual-in_err-read_page.result c.from_residual-in_err-read_page.ensures.1 in
    let keeper = g.K.Keeper in
    let kept = keeper.kept c.args.keeper.now in
    let model = c.args.model in
    let after = c.loop-page.after in
    let page = c.in_ok-page.page in
    let same = c.loop-page.invariant.same in
    let fault = c.in_err-read_page.field-0.0 in
    rw (p.1, p.2) (unread-stops c.args.schema.now kept _ model c.args.next after page fault c.args.rows.now c.loop-page.rows c.requires.model (subst (λ (o : Option Store). IfSome o RowsNamed) same c.in_ok-page.ensures.named)
    (subst (λ (o : Option Store). IfSome o (λ store. page ≡ take 256 (rows_after store model after))) same c.in_ok-page.ensures.told)
    c.requires.next c.loop-page.invariant.read
    (subst (λ (l : List KeptRow). IfSome (model_at c.args.schema.now model) (λ info. IsUnreadAmong c.args.schema.now c.args.next info l model fault)) c.as_slice-in-loop-page.ensures c.in_err-read_page.ensures.fault))

pub loop-page-smaller : goal.loop-page-smaller
loop-page-smaller g c =
    let page = c.in_ok-page.page in
    let at = last-at c.last.result c.in-Some.last c.as_slice.result.now page c.in-Some.is c.last.ensures.value c.as_slice.ensures in
    let rises = page-rises c.args.model c.loop-page.after 256 page c.in-Some.last.now c.in_ok-page.ensures.fits.0 at in
    page-falls c.loop-page.after.0 c.in-Some.last.now.id.0 rises.0 rises.1

pub loop-page-preserved : goal.loop-page-preserved
loop-page-preserved g c =
    let i = c.loop-page.invariant in
    let keeper = g.K.Keeper in
    let models = c.args.schema.now in
    let kept = keeper.kept c.args.keeper.now in
    let model = c.args.model in
    let after = c.loop-page.after in
    let page = c.in_ok-page.page in
    let last = c.in-Some.last.now in
    let at = last-at c.last.result c.in-Some.last c.as_slice.result.now page c.in-Some.is c.last.ensures.value c.as_slice.ensures in
    record {
      read = reads-join models model c.args.next (TellsUpTo kept model after) (λ read. read ≡ page) (TellsUpTo kept model last.id) c.args.rows.now c.loop-page.rows c.read_page.new.rows
          (page-more model after 256 page kept last (subst (λ (o : Option Store). IfSome o RowsNamed) i.same c.in_ok-page.ensures.named)
          (subst (λ (o : Option Store). IfSome o (λ store. page ≡ take 256 (rows_after store model after))) i.same c.in_ok-page.ensures.told) at)
          i.read
          (subst (λ (l : List KeptRow). ReadsRows models model c.args.next (λ read. read ≡ l) c.loop-page.rows c.read_page.new.rows) c.as_slice-in-loop-page.ensures c.in_ok-read_page.ensures.read);
      same = c.page.ensures.same ∙ i.same;
      count = omega (arith, i.count, c.page.ensures.cause.no_fall);
      fits = (page-rises model after 256 page last c.in_ok-page.ensures.fits.0 at).1;
    }
