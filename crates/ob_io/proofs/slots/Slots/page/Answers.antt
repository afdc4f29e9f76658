use Rattle.std.proofs.Common.{◌≡◌, take, ap, ◌∙◌, arith, ◌-◌, ◌^◌}
use Rattle.std.proofs.lemmas.Result.{IfOk-weaker}
use Rattle.std.specs.BTreeMap.Range.{entries_between}
use Rattle.ob_base.specs.Ids.{row_key_cmp}
use Rattle.ob_io.specs.Store.{rows_after}
use Rattle.ob_io.specs.Slots.{shown_store}
use Rattle.ob_io.proofs.Held.{held}
use Rattle.ob_io.proofs.Paged.{held-between}
use Rattle.ob_io.proofs.slots.Slots.page.Goals as goal

pub returns : goal.returns
returns c =
    let s = c.args.self.now in
    let all : held c.range.result ≡ rows_after (shown_store s) c.args.model c.args.after =
    ap held (c.range.ensures.between tt ∙ ap (λ b. entries_between row_key_cmp b.0 b.1 s.rows.entries) c.keys_after-start.ensures)
    ∙ held-between s c.args.model c.args.after (2 ^ 64 - 1) (omega arith) c.range.ensures.ordered c.requires in
    IfOk-weaker c.copy_first.result _ _ (λ rows is. is ∙ ap (take c.args.most) all) c.copy_first.ensures
