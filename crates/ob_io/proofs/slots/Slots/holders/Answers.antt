use Rattle.std.proofs.Common.{◌≡◌, take, filter, sym, subst, ap, ◌∙◌, arith, ◌-◌, ◌^◌}
use Rattle.std.proofs.lemmas.Result.{IfOk-weaker}
use Rattle.std.specs.BTreeMap.Range.{entries_between}
use Rattle.ob_base.specs.Rising.{IsRising}
use Rattle.ob_base.specs.Ids.{row_key_cmp}
use Rattle.ob_io.specs.Store.{rows_after, has_link}
use Rattle.ob_io.specs.Slots.{shown_store}
use Rattle.ob_io.proofs.Held.{held, ids_of}
use Rattle.ob_io.proofs.Paged.{held-between}
use Rattle.ob_io.proofs.PageFits.{rising_ids}
use Rattle.ob_io.proofs.slots.Slots.holders.Goals as goal

pub first_holders-requires : goal.first_holders-requires
first_holders-requires c =
    let s = c.args.self.now in
    let all : held c.range.result ≡ rows_after (shown_store s) c.args.model c.args.after =
    ap held (c.range.ensures.between tt ∙ ap (λ b. entries_between row_key_cmp b.0 b.1 s.rows.entries) c.keys_after-start.ensures)
    ∙ held-between s c.args.model c.args.after (2 ^ 64 - 1) (omega arith) c.range.ensures.ordered c.requires in
    subst (λ rows. IsRising (ids_of rows)) (sym all) (rising_ids (shown_store s) c.requires c.args.model c.args.after)

pub returns : goal.returns
returns c =
    let s = c.args.self.now in
    let all : held c.range.result ≡ rows_after (shown_store s) c.args.model c.args.after =
    ap held (c.range.ensures.between tt ∙ ap (λ b. entries_between row_key_cmp b.0 b.1 s.rows.entries) c.keys_after-start.ensures)
    ∙ held-between s c.args.model c.args.after (2 ^ 64 - 1) (omega arith) c.range.ensures.ordered c.requires in
    IfOk-weaker c.first_holders.result _ _ (λ ids is. is ∙ ap (λ rows. take c.args.most (ids_of (filter (has_link c.args.field c.args.target) rows))) all) c.first_holders.ensures
