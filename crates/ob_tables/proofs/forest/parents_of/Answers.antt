use Rattle.std.proofs.Common.{◌≡◌, ◌<◌, ◌+◌, ℕ, [], ◌∷◌, Option, Some, ap, sym, subst, map, length, length-append, arith}
use Rattle.std.specs.Prelude.{slice_get}
use Rattle.std.specs.List.Sorted.{IsStrictlyIncreasing}
use Rattle.std.proofs.lemmas.Option.{get_or_from_slice_get, slice_get_within}
use Rattle.ob_base.specs.declared.id.RecId.{RecId}
use Rattle.ob_schema.specs.Tables.{kept_at}
use Rattle.ob_tables.specs.Trees.{Names}
use Rattle.ob_tables.proofs.Places.{ids-increase}
use Rattle.ob_tables.proofs.Stepping.{pushed-step}
use Rattle.ob_tables.proofs.forest.parents_of.Goals as goal

pub place_of-place-requires : goal.place_of-place-requires
place_of-place-requires c = subst (λ ids. IsStrictlyIncreasing (map (λ i. i.0) ids)) (sym c.requires) (ids-increase c.args.tables.now.tables c.args.model)

pub loop-id-preserved : goal.loop-id-preserved
loop-id-preserved c =
    let t = c.args.tables.now.tables in
    let ids = c.args.ids.now in
    let xs = c.loop-id.steps.items in
    let v = c.place_of-place.result in
    let long = c.loop-id.invariant.long in
    let P : ℕ → Option ℕ → Type 0 = λ k step. (id : RecId) → slice_get ids k ≡ Some id → Names ids (kept_at t (record { model = c.args.model; id = id; field = c.args.parent })) step in
    let last : P (length xs) v = λ id is.
    let here : slice_get ids c.loop-id.id-index ≡ Some id = subst (λ n. slice_get ids n ≡ Some id) long is in
    let same = get_or_from_slice_get ids c.loop-id.id-index id (record { 0 = 0 }) here in
    subst (λ i. Names ids (kept_at t (record { model = c.args.model; id = i; field = c.args.parent })) v) same (subst (λ o. Names ids o v) c.kept.ensures c.place_of-place.ensures) in
    record {
      long = omega (arith, ap length c.in_ok-push.ensures.items, length-append xs (v ∷ []));
      up = λ k id low is. pushed-step xs c.push.new.self.items v P c.in_ok-push.ensures.items (λ k low id is. c.loop-id.invariant.up k id (subst (λ n. k < n) long low) is) last k (subst (λ n. k < n + 1) (sym long) low) id is;
    }

pub returns : goal.returns
returns c = record {
  long = omega arith;
  up = λ place id is. let low = slice_get_within c.args.ids.now place id is in c.loop-id.invariant.up place id (omega arith) is;
}
