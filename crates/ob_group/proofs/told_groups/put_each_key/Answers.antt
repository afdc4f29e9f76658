use Rattle.std.proofs.Common.{◌≡◌, ◌<◌, ◌+◌, ◌∷◌, List, length, drop, get_or, map, false, sym, ap, subst, ◌∙◌, arith}
use Rattle.ob_base.specs.declared.value.Value.{Value}
use Rattle.ob_base.specs.declared.value.Value.TheVariants as value
use Rattle.ob_call.proofs.CallerLemmas.{put_plain}
use Rattle.ob_query.proofs.CallerLemmas.{map-left}
use Rattle.ob_group.proofs.ToldGroups.{keys-more}
use Rattle.ob_group.specs.GroupForms as forms
use Rattle.ob_group.specs.GroupParts.{grouping_view, key_at, text_of}
use Rattle.ob_query.specs.SearchKeys.{rising}
use Rattle.ob_group.specs.declared.groupings.Grouping.{Grouping}
use Rattle.ob_query.specs.declared.searching.order.Key.{Key}
use Rattle.serde_json.specs.Data.{Members}
use Rattle.serde_json.specs.View.{members_view, view}
use Rattle.serde_json.specs.Written.{members_have_float}
use Rattle.ob_group.proofs.told_groups.put_each_key.Goals as goal

pub loop-number-preserved : goal.loop-number-preserved
loop-number-preserved c =
    let gs = c.args.groupings.now in
    let keys = c.args.keys.now in
    let i = c.loop-number.number in
    let its = λ (key : Key). key.value in
    let own = view c.in_ok-json.json in
    let now = members_view c.loop-number.members.entries in
    let next = members_view c.put_key.new.members.entries in
    let lt : i < length gs = c.loop-number-test.true in
    record {
      told = λ sized after h.
          let within : i < length keys = omega (arith, sized, lt) in
          let front : map its (drop i keys) ≡ (key_at keys i).value ∷ map its (drop (i + 1) keys) = map-left its keys i (rising value.Nil) within in
          keys-more (map grouping_view gs) (map grouping_view (drop i gs)) (map grouping_view (drop (i + 1) gs)) (map its keys) (map its (drop i keys)) (map its (drop (i + 1) keys)) (grouping_view (get_or gs i _)) (key_at keys i).value
          (members_view c.args.members.now.entries) now next own (map-left grouping_view gs i _ lt) front c.in_ok-put_key.ensures c.in_ok-json.ensures.told (c.loop-number.invariant.told sized) after h;
      plain = subst (λ (m : Members). members_have_float m ≡ false) (sym c.in_ok-put_key.ensures) (put_plain _ own now c.in_ok-json.ensures.plain c.loop-number.invariant.plain);
    }
