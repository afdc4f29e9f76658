use Rattle.std.proofs.Common.{◌≡◌, ◌++◌, ◌∙◌, [], ◌∷◌, length, refl, sym, ap}
use Rattle.std.proofs.lemmas.List.{length_push}
use Rattle.std.proofs.lemmas.Slice.Zip.{zip_end, zip_turn}
use Rattle.std.specs.Cmp.Lexicographic.{slice_cmp}
use Rattle.std.specs.Iterator.Adapters.{zip_first, zip_second}
use Rattle.std.specs.Slice.Iter.{iter_rest}
use Rattle.std.specs.Ordering.{is_ne}
use Rattle.std.specs.Borrow.{Bor}
use Rattle.ob_base.specs.ValueOrder.{value_order}
use Rattle.ob_base.specs.declared.value.Value.{Value}
use Rattle.ob_tables.specs.Sets.{values_in}
use Rattle.ob_tables.proofs.FrontOrder.{left-alike, left-apart, left-none}
use Rattle.ob_tables.proofs.unique.values_cmp.Goals as goal

abbrev shows : Bor Value → Value
shows v = v.now

pub loop-x-init : goal.loop-x-init
loop-x-init c = refl

pub returns-then-is_ne : goal.returns-then-is_ne
returns-then-is_ne c =
    let a = c.args.a.now in
    let b = c.args.b.now in
    let s = c.into_iter-x-iterator.result in
    let first : iter_rest (zip_first s) ≡ a = ap (λ z. iter_rest (zip_first z)) c.into_iter-x-iterator.ensures.into_iter_gives ∙ ap iter_rest c.zip-x-items.ensures.first ∙ c.iter.ensures.rest in
    let second : iter_rest (zip_second s) ≡ b = ap (λ z. iter_rest (zip_second z)) c.into_iter-x-iterator.ensures.into_iter_gives ∙ ap iter_rest c.zip-x-items.ensures.second ∙ c.iter-2.ensures.rest in
    let t = zip_turn a b c.loop-x.yielded s c.loop-x.x-iterator c.next.new.self c.next.result first second c.loop-x.yielded_by (c.in-Some.x, c.in-Some.y) c.in-Some.is c.next.ensures.steps in
    c.value_cmp-order.ensures.order ∙ sym (left-apart value_order shows a b (slice_cmp value_order (values_in a) (values_in b)) (length c.loop-x.yielded) c.in-Some.x.now c.in-Some.y.now t.0 t.1 (t.2 c.in-Some.x.now) (t.3 c.in-Some.y.now)
    (ap is_ne (sym c.value_cmp-order.ensures.order) ∙ sym c.is_ne.ensures ∙ c.if-is_ne.true) c.loop-x.invariant)

pub loop-x-preserved : goal.loop-x-preserved
loop-x-preserved c =
    let a = c.args.a.now in
    let b = c.args.b.now in
    let s = c.into_iter-x-iterator.result in
    let first : iter_rest (zip_first s) ≡ a = ap (λ z. iter_rest (zip_first z)) c.into_iter-x-iterator.ensures.into_iter_gives ∙ ap iter_rest c.zip-x-items.ensures.first ∙ c.iter.ensures.rest in
    let second : iter_rest (zip_second s) ≡ b = ap (λ z. iter_rest (zip_second z)) c.into_iter-x-iterator.ensures.into_iter_gives ∙ ap iter_rest c.zip-x-items.ensures.second ∙ c.iter-2.ensures.rest in
    let t = zip_turn a b c.loop-x.yielded s c.loop-x.x-iterator c.next.new.self c.next.result first second c.loop-x.yielded_by (c.in-Some.x, c.in-Some.y) c.in-Some.is c.next.ensures.steps in
    left-alike value_order shows a b (slice_cmp value_order (values_in a) (values_in b)) (length c.loop-x.yielded) (length (c.loop-x.yielded ++ (c.in-Some.x, c.in-Some.y) ∷ []))
    c.in-Some.x.now c.in-Some.y.now t.0 t.1 (t.2 c.in-Some.x.now) (t.3 c.in-Some.y.now) (length_push c.loop-x.yielded (c.in-Some.x, c.in-Some.y))
    (ap is_ne (sym c.value_cmp-order.ensures.order) ∙ sym c.is_ne.ensures ∙ c.if-is_ne.false) c.loop-x.invariant

pub returns : goal.returns
returns c =
    let a = c.args.a.now in
    let b = c.args.b.now in
    let s = c.into_iter-x-iterator.result in
    let first : iter_rest (zip_first s) ≡ a = ap (λ z. iter_rest (zip_first z)) c.into_iter-x-iterator.ensures.into_iter_gives ∙ ap iter_rest c.zip-x-items.ensures.first ∙ c.iter.ensures.rest in
    let second : iter_rest (zip_second s) ≡ b = ap (λ z. iter_rest (zip_second z)) c.into_iter-x-iterator.ensures.into_iter_gives ∙ ap iter_rest c.zip-x-items.ensures.second ∙ c.iter-2.ensures.rest in
    let long = zip_end a b c.loop-x.yielded s c.loop-x.x-iterator c.next.new.self c.next.result first second c.loop-x.yielded_by c.in-None.is c.next.ensures.steps in
    c.cmp.ensures ∙ sym (left-none value_order shows a b (slice_cmp value_order (values_in a) (values_in b)) (length c.loop-x.yielded) long c.loop-x.invariant)
