use Rattle.std.proofs.Common.{◌≡◌, ◌+◌, ◌∷◌, ◌++◌, [], false, List, drop, map, sym, ap, subst, ◌∙◌, arith}
use Rattle.std.proofs.lemmas.Grind.{common_steps}
use Rattle.std.proofs.lemmas.List.{map-append}
use Rattle.std.proofs.lemmas.List.Elements.{All-get_or}
use Rattle.std.specs.Prelude.{All}
use Rattle.ob_query.proofs.CallerLemmas.{map-left, map-past, window-map}
use Rattle.ob_group.proofs.ToldGroups.{groups-all, groups-more, plain_more, window-all}
use Rattle.ob_base.specs.declared.value.Value.{Value}
use Rattle.ob_group.specs.GroupParts.{HasTexts, IsGroupOf, asked_view, own_keys}
use Rattle.ob_group.specs.Groups.{TellsEachGroup}
use Rattle.ob_query.specs.SearchOrder.{window}
use Rattle.ob_group.specs.declared.told_groups.Group.{Group}
use Rattle.serde_json.specs.Data.{Data}
use Rattle.serde_json.specs.View.{items_of, view}
use Rattle.serde_json.specs.Written.{items_have_float}
use Rattle.serde_json.specs.declared.value.Value.{Value as Json}
use Rattle.ob_group.proofs.told_groups.group_objects.Goals as goal

pub group_object-requires : goal.group_object-requires
group_object-requires c =
    let asked = asked_view c.args.asked.now in
    let shown = c.window_of-window.result.now in
    let cut : shown ≡ window asked.offset asked.limit c.in_ok-groups.groups.items = c.window_of-window.ensures ∙ ap (λ (l : List Group). window asked.offset asked.limit l) c.as_slice.ensures.value in
    let every : All HasTexts shown = subst (All HasTexts) (sym cut) (window-all HasTexts asked.offset asked.limit c.in_ok-groups.groups.items c.in_ok-groups.ensures.texts) in
    subst HasTexts (sym c.group-item.is) (All-get_or HasTexts shown c.loop-group.group-index c.group-item.result c.loop-group-test.true every)

pub loop-group-preserved : goal.loop-group-preserved
loop-group-preserved c =
    let asked = asked_view c.args.asked.now in
    let groups = c.window_of-window.result.now in
    let i = c.loop-group.group-index in
    let group = c.group-item.result in
    let object = c.in_ok-object.object in
    let objects = c.loop-group.objects.items in
    let pushed : c.push.new.self.items ≡ objects ++ object ∷ [] = grind (arith, common_steps) in
    let viewed : map view c.push.new.self.items ≡ map view objects ++ view object ∷ [] = ap (map view) pushed ∙ map-append view objects (object ∷ []) in
    let front : map (own_keys asked) (drop i groups) ≡ own_keys asked group ∷ map (own_keys asked) (drop (i + 1) groups) =
    map-left (own_keys asked) groups i group c.loop-group-test.true ∙ ap (λ (g : Group). own_keys asked g ∷ map (own_keys asked) (drop (i + 1) groups)) (sym c.group-item.is) in
    record {
      told = λ held ids all ds h.
          let own : IsGroupOf held asked ids group = subst (IsGroupOf held asked ids) (sym c.group-item.is) (All-get_or (IsGroupOf held asked ids) groups i group c.loop-group-test.true all) in
          subst (λ (l : List Data). TellsEachGroup held asked ids (map (own_keys asked) groups) (l ++ ds)) (sym viewed)
          (groups-more held asked ids (map (own_keys asked) groups) (map (own_keys asked) (drop i groups)) (map (own_keys asked) (drop (i + 1) groups)) (own_keys asked group) (map view objects) (view object) front (c.in_ok-object.ensures.told held ids own)
          (c.loop-group.invariant.told held ids all) ds h);
      plain = subst (λ (l : List Data). items_have_float (items_of l) ≡ false) (sym viewed) (plain_more (map view objects) (view object) c.loop-group.invariant.plain c.in_ok-object.ensures.plain);
    }

pub returns-clause-told : goal.returns-clause-told
returns-clause-told c = λ held ids gathered.
    let asked = asked_view c.args.asked.now in
    let list = c.in_ok-groups.groups.items in
    let ordered = c.in_ok-groups.ensures.told held ids gathered in
    let shown = c.window_of-window.result.now in
    let own = own_keys asked in
    let objects = map view c.loop-group.objects.items in
    let cut : shown ≡ window asked.offset asked.limit list = c.window_of-window.ensures ∙ ap (λ (l : List Group). window asked.offset asked.limit l) c.as_slice.ensures.value in
    let every : All (IsGroupOf held asked ids) shown = subst (All (IsGroupOf held asked ids)) (sym cut) (window-all (IsGroupOf held asked ids) asked.offset asked.limit list ordered.each) in
    let past = map-past own shown c.loop-group.group-index c.loop-group-test.false in
    let told = groups-all held asked ids (map own shown) (map own (drop c.loop-group.group-index shown)) objects past (c.loop-group.invariant.told held ids every) in
    record {
      groups = map own list;
      each_once = ordered.each_once;
      told = subst (λ (l : List (List Value)). TellsEachGroup held asked ids l objects) (ap (map own) cut ∙ sym (window-map own asked.offset asked.limit list)) told;
    }
