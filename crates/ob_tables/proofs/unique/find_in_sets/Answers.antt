use Rattle.std.proofs.Common.{◌≡◌, ◌∙◌, Some, ap, sym, subst, refl, List, true, false, IsSome}
use Rattle.ob_schema.specs.Tables.{row_at}
use Rattle.std.specs.Prelude.{All, Any, slice_get}
use Rattle.std.proofs.lemmas.Option.{get_or_from_slice_get, slice_get_read, slice_get_within, slice_get-get_or}
use Rattle.ob_base.specs.declared.id.FieldNo.{FieldNo}
use Rattle.ob_base.specs.declared.refusal.BrokenKind.{BrokenKind}
use Rattle.ob_base.specs.declared.refusal.BrokenKind.TheVariants as kind
use Rattle.ob_schema.specs.Fields.{is_plain_kept}
use Rattle.ob_schema.specs.Models.{FieldHas, IsModel, model_at}
use Rattle.ob_schema.specs.Broken.{BreaksAs, IsSharedSet}
use Rattle.ob_tables.specs.Finding.{BreaksIn, IsOf, is_of_sets}
use Rattle.ob_tables.specs.Sets.{SharesInSet}
use Rattle.ob_tables.proofs.FitTables.{known_at, known_by}
use Rattle.ob_tables.proofs.Finds.{AtItem, below-none, items-all, items-more}
use Rattle.ob_tables.proofs.PlainCells.{all-at}
use Rattle.ob_tables.proofs.unique.find_in_sets.Goals as goal

contrary : {P : Type 0} → false ≡ true → P
contrary e = cc

is_unique : (k : BrokenKind) → is_of_sets k ≡ true → k ≡ kind.Unique
is_unique kind.Unique such = refl
is_unique _ such = contrary such

pub find_in_set-requires : goal.find_in_set-requires
find_in_set-requires c =
    let models = c.args.tables.now.models in
    let m = c.model_info-info.result.now in
    let law = subst (λ s. IsModel s.models c.args.model m) c.tables.view_is c.model_info-info.ensures.fit in
    let sets = c.as_slice-set-items.result.now in
    let is : slice_get m.unique c.loop-set.set-index ≡ Some c.set-item.result = ap (λ l. slice_get l c.loop-set.set-index) (sym c.as_slice-set-items.ensures)
    ∙ slice_get_read sets _ c.loop-set.set-index c.set-item.result refl c.loop-set-test.true c.set-item.is in
    let P : List FieldNo → Type 0 = λ set. All (FieldHas models (λ field. is_plain_kept field ≡ true) c.args.model) set in
    record {
      fields = subst P (sym c.as_slice.ensures) (all-at P m.unique c.loop-set.set-index c.set-item.result law.unique is);
      ids = c.requires.ids;
    }

pub loop-set-init : goal.loop-set-init
loop-set-init c = below-none (AtItem c.as_slice-set-items.result.now (λ set. SharesInSet c.args.tables.now.models c.args.tables.now.tables c.args.model set)) c.args.findings.now

pub loop-set-preserved : goal.loop-set-preserved
loop-set-preserved c =
    let sets = c.as_slice-set-items.result.now in
    items-more sets (λ set. SharesInSet c.args.tables.now.models c.args.tables.now.tables c.args.model set) c.loop-set.set-index c.as_slice.result.now c.args.findings.now c.loop-set.findings c.find_in_set.new.findings
    (slice_get_read sets _ c.loop-set.set-index c.set-item.result refl c.loop-set-test.true c.set-item.is ∙ ap Some (sym c.as_slice.ensures)) c.loop-set.invariant c.in_ok-find_in_set.ensures

pub returns : goal.returns
returns c =
    let models = c.args.tables.now.models in
    let t = c.args.tables.now.tables in
    let m = c.model_info-info.result.now in
    let sets = c.as_slice-set-items.result.now in
    let at = subst (λ s. model_at s.models c.args.model ≡ Some m) c.tables.view_is c.model_info-info.ensures.at in
    items-all sets (λ set. SharesInSet models t c.args.model set) (BreaksIn models t is_of_sets (IsOf c.args.model)) c.loop-set.set-index c.args.findings.now c.loop-set.findings c.loop-set-test.false
    (λ b k set is h. (
      ap is_of_sets h.kind_is,
      h.model_is,
      subst (λ k. BreaksAs models t k b.cell) (sym h.kind_is) (
        subst (λ i. IsSome (row_at t i b.cell.id)) (sym h.model_is) h.there,
        known_by (model_at models b.cell.model) (λ info. Any (IsSharedSet models t b.cell) info.unique) m (ap (model_at models) h.model_is ∙ at) (
          k,
          set,
          slice_get_within m.unique k set (ap (λ l. slice_get l k) (sym c.as_slice-set-items.ensures) ∙ is),
          get_or_from_slice_get m.unique k set set (ap (λ l. slice_get l k) (sym c.as_slice-set-items.ensures) ∙ is),
          h.shared,
        ),
      ),
    ))
    (λ b h.
    let q = subst (λ k. BreaksAs models t k b.cell) (is_unique b.kind h.0) h.2 in
    let any = known_at (model_at models b.cell.model) (λ info. Any (IsSharedSet models t b.cell) info.unique) m (ap (model_at models) h.1 ∙ at) q.1 in (
      any.0,
      any.1,
      ap (λ l. slice_get l any.0) c.as_slice-set-items.ensures ∙ slice_get-get_or m.unique any.0 any.1 any.2 ∙ ap Some any.3,
      record { kind_is = is_unique b.kind h.0; model_is = h.1; there = subst (λ i. IsSome (row_at t i b.cell.id)) h.1 q.0; shared = any.4 },
    ))
    c.loop-set.invariant
