-- One field more by which none is named, or one by which one is.
use Rattle.std.proofs.Common.{◌≡◌, ◌≤◌, ◌+◌, ℕ, List, Some, length, refl, sym, ap, subst, add-one, arith, below_more}
use Rattle.std.specs.Prelude.{Any}
use Rattle.ob_base.specs.Limits.{max_fields}
use Rattle.ob_base.specs.declared.id.FieldNo.{FieldNo}
use Rattle.ob_base.specs.declared.id.RecId.{RecId}
use Rattle.ob_base.specs.declared.id.RowKey.{RowKey}
use Rattle.ob_schema.specs.Models.{field_at}
use Rattle.ob_schema.specs.declared.info.FieldInfo.{FieldInfo}
use Rattle.ob_schema.specs.declared.info.ModelInfo.{ModelInfo}
use Rattle.ob_tables.proofs.CallerLemmas.{known_at, tell_and}
use Rattle.ob_change.specs.Changing.{models_of, sides_of}
use Rattle.ob_change.specs.Testing.{HoldsOne, IsHeldBy}
use Rattle.ob_change.proofs.GoneRows.{HoldsAt, held-placed}
use Rattle.ob_change.proofs.KeptCells.{field-read}
use Rattle.ob_change.proofs.Turns.{none-told, one-told}
use Rattle.ob_change.proofs.gone.holding.Goals as goal

pub overflow_cast-field : goal.overflow_cast-field
overflow_cast-field c =
    let few : length c.in-Some.info.now.fields ≤ max_fields = (c.parts_fit_together.ensures.each c.args.model c.in-Some.info.now (sym c.in-Some.ensures)).few in
    omega (arith, few, ap length c.as_slice-info-items.ensures, c.loop-place-test.true)

pub overflow_add-field : goal.overflow_add-field
overflow_add-field c =
    let few : length c.in-Some.info.now.fields ≤ max_fields = (c.parts_fit_together.ensures.each c.args.model c.in-Some.info.now (sym c.in-Some.ensures)).few in
    omega (arith, few, ap length c.as_slice-info-items.ensures, c.loop-place-test.true)

pub holder_by-requires : goal.holder_by-requires
holder_by-requires c =
    subst (λ (m : List ModelInfo). field_at m c.args.model (record { 0 = c.loop-place.place + 1 }) ≡ Some c.info-item.result) (sym c.args.change.behind_over)
    (field-read c.args.change.schema.now c.args.model c.in-Some.info.now c.as_slice-info-items.result.now c.loop-place.place c.info-item.result (sym c.in-Some.ensures) c.as_slice-info-items.ensures
    c.loop-place-test.true c.info-item.is)

pub returns-in-Some-2 : goal.returns-in-Some-2
returns-in-Some-2 c =
    let models = models_of c.args.change in
    let sides = sides_of c.args.change in
    let number : FieldNo = record { 0 = c.loop-place.place + 1 } in
    let field = field-read models c.args.model c.in-Some.info.now c.as_slice-info-items.result.now c.loop-place.place c.info-item.result (sym c.in-Some.ensures) c.as_slice-info-items.ensures
    c.loop-place-test.true c.info-item.is in
    let By : FieldInfo → RecId → Type 0 = λ info holder. Any (λ (key : RowKey). IsHeldBy sides.behind c.args.model number info key holder) c.args.keys.now in (
      refl,
      tell_and (field_at models c.args.model number) c.info-item.result (λ (info : FieldInfo). By info c.in-Some-2.id) field
          (one-told (By c.info-item.result) _ c.in-Some-2.id c.in-Some-2.is c.in_ok-id.ensures),
    )

pub loop-place-preserved : goal.loop-place-preserved
loop-place-preserved c =
    let models = models_of c.args.change in
    let sides = sides_of c.args.change in
    let model = c.args.model in
    let keys = c.args.keys.now in
    let number : FieldNo = record { 0 = c.loop-place.place + 1 } in
    let field = field-read models model c.in-Some.info.now c.as_slice-info-items.result.now c.loop-place.place c.info-item.result (sym c.in-Some.ensures) c.as_slice-info-items.ensures
    c.loop-place-test.true c.info-item.is in
    let By : FieldInfo → RecId → Type 0 = λ info holder. Any (λ (key : RowKey). IsHeldBy sides.behind model number info key holder) keys in
    below_more (λ k. HoldsAt models sides keys model k → ⊥) c.loop-place.place c.loop-place.invariant (λ holds.
    let here = subst (λ (n : ℕ). HoldsOne models sides.behind keys (record { model = model; id = holds.0; field = record { 0 = n } })) (sym (add-one c.loop-place.place)) holds.1 in
    none-told (By c.info-item.result) _ c.in_default-2.is c.in_ok-id.ensures holds.0
    (known_at (field_at models model number) c.info-item.result (λ (info : FieldInfo). By info holds.0) field here))

pub returns : goal.returns
returns c =
    let models = models_of c.args.change in
    let sides = sides_of c.args.change in
    let end = subst (λ (l : List FieldInfo). length l ≤ c.loop-place.place) c.as_slice-info-items.ensures c.loop-place-test.false in
    held-placed models sides c.args.keys.now c.args.model c.in-Some.info.now c.parts_fit_together.ensures (sym c.in-Some.ensures) c.loop-place.place end c.loop-place.invariant
