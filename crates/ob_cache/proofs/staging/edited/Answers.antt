use Rattle.std.proofs.Common.{◌≡◌, subst, sym}
use Rattle.std.proofs.lemmas.Result.{IfOk-weaker}
use Rattle.ob_cache.proofs.Listed.{edits-touch, touches-none}
use Rattle.ob_schema.specs.Tables.{Standing}
use Rattle.ob_sound.specs.Touched.{TouchesOnly}
use Rattle.ob_tables.specs.After.{after}
use Rattle.ob_cache.proofs.staging.edited.Goals as goal

pub returns-in-None-clause-touches : goal.returns-in-None-clause-touches
returns-in-None-clause-touches c =
    let s = c.args.settled.now in
    let old = c.args.touched.now.items in
    let new = c.add_edited.new.touched.items in
    IfOk-weaker c.after.result (λ tables. tables ≡ record { models = s.models; tables = after s.models s.tables c.args.edits.now }) (λ tables. TouchesOnly new (record { before = s.tables; behind = tables.tables }))
    (λ tables is. subst (λ (t : Standing). TouchesOnly new (record { before = s.tables; behind = t.tables })) (sym is)
    (edits-touch c.edits_touch_their_rows.ensures s.models s.tables s.tables c.args.edits.now old new (touches-none old s.tables) c.in_ok-add_edited.ensures.kept c.in_ok-add_edited.ensures.edited)) c.after.ensures
