-- The rows so far and one more, whose id is above theirs.
use Rattle.std.proofs.Common.{◌∷◌, [], ◌≤◌, length, arith, rules, length-append}
use Rattle.std.proofs.lemmas.List.Elements.{All-nil, All-push}
use Rattle.ob_io.specs.Store.{IsAnswerOf}
use Rattle.ob_io.specs.declared.store.KeptRow.{KeptRow}
use Rattle.ob_sqlite.proofs.Risen.{none_risen, one_more_row, own_answer, page_of}
use Rattle.ob_sqlite.proofs.reading.page.Goals as goal

pub loop-row-init : goal.loop-row-init
loop-row-init g c = rw c.new-rows.ensures (record { each = omega arith; ids = none_risen c.args.after; answers = All-nil (λ (row : KeptRow). IsAnswerOf row.id row) })

pub loop-row-preserved : goal.loop-row-preserved
loop-row-preserved g c =
    let rows = c.loop-row.rows in
    let row = c.in_ok-with_links.field-0 in
    let id = c.in_ok-last.last in
    let so_far = c.loop-row.invariant in
    rw c.in_ok-push.ensures.ok
    (record {
      each = omega (arith, length-append rows (row ∷ []));
      ids = one_more_row c.args.after c.loop-row.last id rows row so_far.ids c.in_ok-with_links.ensures c.in_ok-last.ensures.above c.in_ok-last.ensures.fits;
      answers = All-push (λ (r : KeptRow). IsAnswerOf r.id r) rows row so_far.answers (own_answer id row c.in_ok-with_links.ensures);
    })

pub returns-clause-page : goal.returns-clause-page
returns-clause-page g c =
    let few : length c.loop-row.rows ≤ c.args.most = search rules in
    page_of c.args.after c.loop-row.last c.args.most c.loop-row.rows c.loop-row.invariant.ids few
