use Rattle.std.proofs.Common.{◌≡◌, ◌+◌, ◌∙◌, ℕ, Option, Some, None, ap, sym, subst, unwrap_or, map, filter, length, List, count_by}
use Rattle.std.specs.Option.{IfSome, IsSomeAnd, option_copied}
use Rattle.std.specs.BTreeMap as tree
use Rattle.std.specs.BTreeMap.{BTreeMap}
use Rattle.std.specs.Map.{lookup}
use Rattle.std.proofs.Common.{zero-add}
use Rattle.ob_base.specs.declared.id.RowKey.{RowKey}
use Rattle.std.specs.FinMap as finite
use Rattle.std.specs.Ordering.{nat_cmp}
use Rattle.ob_base.specs.declared.id.RecId.{RecId}
use Rattle.ob_base.specs.declared.value.Value.{Value}
use Rattle.ob_base.specs.declared.value.Value.TheVariants as value
use Rattle.ob_base.specs.Rising.{IsRising}
use Rattle.ob_schema.specs.declared.info.FieldInfo.{FieldInfo}
use Rattle.ob_schema.specs.Models.{field_at}
use Rattle.ob_schema.specs.Fields.{IsGivable}
use Rattle.ob_schema.specs.Plain.{names, naming}
use Rattle.ob_schema.specs.Plain.{targets_of}
use Rattle.ob_tables.specs.Rooms.{shown_row}
use Rattle.ob_schema.specs.Tables.{PlainRow, kept_in}
use Rattle.ob_tables.proofs.Counted.{holder-more, holder-passed, holders, is_id, rising-targets, there-all, there-first, there-rest}
use Rattle.ob_tables.proofs.Rising.{shown_entry}
use Rattle.ob_tables.proofs.Shown.{get-shown_row}
use Rattle.ob_tables.proofs.cells.count_holders.Goals as goal

givable : (o : Option FieldInfo) (v : Value) → IsSomeAnd o (λ info. IsGivable info v) → IsRising (targets_of v)
givable None v h = absurd h
givable (Some info) v h = rising-targets info v h

pub loop-row-preserved-in-Continue-1 : goal.loop-row-preserved-in-Continue-1
loop-row-preserved-in-Continue-1 c =
    let t = c.args.tables.now.tables in
    let row = shown_row c.in-Some.row.now in
    let v = c.in-Some-get.value.now in
    let e : RowKey × BTreeMap ℕ Value = (c.in-Some.field-0-0.now, c.in-Some.row.now) in
    let got : finite.get row c.args.field.0 ≡ Some v = get-shown_row c.in-Some.row.now c.args.field.0 ∙ sym c.get.ensures.value ∙ ap option_copied c.in-Some-get.is in
    let there = there-first t c.args.model c.args.field c.loop-row.row-iterator c.next.new.self e c.in-Some.ensures.steps c.loop-row.invariant.there in
    let values : IfSome (Some row) (λ (r : PlainRow). IfSome (finite.get r c.args.field.0) (λ w. IsSomeAnd (field_at c.args.tables.now.models c.args.model c.args.field) (λ info. IsGivable info w))) =
    subst (λ (o : Option PlainRow). IfSome o (λ r. IfSome (finite.get r c.args.field.0) (λ w. IsSomeAnd (field_at c.args.tables.now.models c.args.model c.args.field) (λ info. IsGivable info w)))) there
    (c.fit_together.ensures.fits.values c.args.model c.in-Some.field-0-0.now.id c.args.field) in
    let one = subst (λ (o : Option Value). IfSome o (λ w. IsSomeAnd (field_at c.args.tables.now.models c.args.model c.args.field) (λ info. IsGivable info w))) got values in
    let rising = givable (field_at c.args.tables.now.models c.args.model c.args.field) v one in
    record {
      all = λ id. holder-more t c.args.model c.args.field (unwrap_or (tree.get nat_cmp c.loop-row.counts id.0) 0) (unwrap_or (tree.get nat_cmp c.count_targets.new.counts id.0) 0) c.loop-row.row-iterator c.next.new.self e v id
          (length (naming t c.args.model c.args.field id)) c.in-Some.ensures.steps (ap (λ o. unwrap_or o value.Nil) got) rising
          (c.in_ok-count_targets.ensures id ∙ ap (λ ts. unwrap_or (tree.get nat_cmp c.loop-row.counts id.0) 0 + count_by (is_id id) ts) c.targets_of.ensures.same) (c.loop-row.invariant.all id);
      there = there-rest t c.args.model c.args.field c.loop-row.row-iterator c.next.new.self e c.in-Some.ensures.steps c.loop-row.invariant.there;
    }

pub loop-row-preserved : goal.loop-row-preserved
loop-row-preserved c =
    let t = c.args.tables.now.tables in
    let e : RowKey × BTreeMap ℕ Value = (c.in-Some.field-0-0.now, c.in-Some.row.now) in
    let got = get-shown_row c.in-Some.row.now c.args.field.0 ∙ sym c.get.ensures.value ∙ ap option_copied c.in_default.is in
    record {
      all = λ id. holder-passed t c.args.model c.args.field (unwrap_or (tree.get nat_cmp c.loop-row.counts id.0) 0) c.loop-row.row-iterator c.next.new.self e id (length (naming t c.args.model c.args.field id)) c.in-Some.ensures.steps
          (ap (λ o. unwrap_or o value.Nil) got) (c.loop-row.invariant.all id);
      there = there-rest t c.args.model c.args.field c.loop-row.row-iterator c.next.new.self e c.in-Some.ensures.steps c.loop-row.invariant.there;
    }

pub loop-row-init : goal.loop-row-init
loop-row-init c =
    let t = c.args.tables.now.tables in
    let left = c.into_iter-row-iterator.result in
    let all = ap (map shown_entry) c.into_iter-row-iterator.ensures.into_iter_gives ∙ c.rows_of-row-items.ensures in
    record {
      all = λ id.
          ap (λ (es : List (ℕ × ℕ)). unwrap_or (lookup (tree.is_at (nat_cmp id.0)) es) 0 + length (holders t c.args.model c.args.field id left)) c.new-counts.ensures.empty
          ∙ zero-add (length (holders t c.args.model c.args.field id left))
          ∙ ap (λ (rows : List (RecId × PlainRow)). length (map (λ (e : RecId × PlainRow). e.0) (filter (λ entry. names id (kept_in entry.1 c.args.field)) rows))) all;
      there = there-all t c.args.model c.args.field left all;
    }
