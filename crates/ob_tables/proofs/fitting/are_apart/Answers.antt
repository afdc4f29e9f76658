use Rattle.std.proofs.Common.{◌<◌, ◌∙◌, ℕ, arith, ap, false, length, refl, subst, sym, true}
use Rattle.std.proofs.lemmas.List.{get_or-replicate, length-set, take_all}
use Rattle.ob_base.specs.declared.id.FieldNo.{FieldNo}
use Rattle.ob_base.specs.declared.value.Value.{Value}
use Rattle.ob_tables.proofs.Apart.{AreApart, marks_next, met_twice, pairs_next}
use Rattle.ob_tables.proofs.fitting.are_apart.Goals as goal

pub loop-field-init : goal.loop-field-init
loop-field-init c = record { marks = refl; marked = λ n lt. get_or-replicate 257 n false false lt; apart = λ i j d before lt. absurd (omega arith) }

pub returns-then-met-place : goal.returns-then-met-place
returns-then-met-place c =
    let values = c.args.values.now in
    let here = c.from-place.ensures ∙ ap (λ (given : FieldNo × Value). given.0.0) c.loop-field-item.is in
    let few = c.requires c.loop-field.field-index c.loop-field-item.result c.loop-field-test.true in
    let low : c.from-place.result < length c.loop-field.met = omega (arith, here, few, c.loop-field.invariant.marks) in
    let met = sym (c.loop-field.invariant.marked c.from-place.result low) ∙ c.if-met-place.true in
    (λ e. absurd cc, λ apart. absurd (met_twice values c.loop-field.field-index c.loop-field-item.result c.from-place.result c.loop-field-test.true here met apart))

pub loop-field-preserved : goal.loop-field-preserved
loop-field-preserved c =
    let values = c.args.values.now in
    let here = c.from-place.ensures ∙ ap (λ (given : FieldNo × Value). given.0.0) c.loop-field-item.is in
    let few = c.requires c.loop-field.field-index c.loop-field-item.result c.loop-field-test.true in
    let low : c.from-place.result < length c.loop-field.met = omega (arith, here, few, c.loop-field.invariant.marks) in
    let unmet = sym (c.loop-field.invariant.marked c.from-place.result low) ∙ c.if-met-place.false in
    let marked = marks_next values c.loop-field.field-index c.loop-field-item.result c.from-place.result c.loop-field-test.true here c.loop-field.met low c.loop-field.invariant.marked in
    record {
      marks = length-set c.loop-field.met c.from-place.result true ∙ c.loop-field.invariant.marks;
      marked = λ n lt. marked n (subst (λ (k : ℕ). n < k) (length-set c.loop-field.met c.from-place.result true) lt);
      apart = pairs_next values c.loop-field.field-index c.loop-field-item.result c.from-place.result c.loop-field-test.true here unmet c.loop-field.invariant.apart;
    }

pub returns : goal.returns
returns c = (λ e. subst AreApart (take_all c.loop-field.field-index c.args.values.now c.loop-field-test.false) c.loop-field.invariant.apart, λ apart. refl)
