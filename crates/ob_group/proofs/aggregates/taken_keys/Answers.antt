use Rattle.std.proofs.Common.{◌≡◌, ◌+◌, ◌∷◌, [], ℕ, List, Bor, Some, None, true, get_or, option_map, drop, map, string_bytes, sym, ap, subst, rules, arith, ◌∙◌}
use Rattle.std.proofs.lemmas.Grind.{common_steps}
use Rattle.std.proofs.lemmas.Map.Text.{btree_set_updates_text}
use Rattle.ob_query.proofs.CallerLemmas.{map-past}
use Rattle.ob_group.proofs.GroupTexts.{AreTakenTo, AreTakenTo-all, AreTakenTo-first, AreTakenTo-more, texts-none, texts-some}
use Rattle.ob_group.specs.GroupForms.{count_key, taken_keys, texts_in}
use Rattle.ob_group.specs.GroupParts.{written_view}
use Rattle.serde_json.specs.Find.{as_str}
use Rattle.serde_json.specs.View.{view}
use Rattle.ob_group.proofs.aggregates.taken_keys.Goals as goal
use Rattle.ob_group.proofs.aggregates.taken_keys.Goals.{in-Some+in_ok-take_key, in_default}

pub loop-item-init : goal.loop-item-init
loop-item-init c =
    let written = c.args.written.now in
    let own = c.in_ok-count_key.field-0 in
    let updates = λ (name : List ℕ). rw c.in_ok-count_key.ensures at (btree_set_updates_text (string_bytes own) c.new-taken.result c.insert.new.self true c.in_ok-insert.ensures.updates name) in
    AreTakenTo-first (count_key (written_view written)) (texts_in (map view written.items.now)) c.new-taken.result c.insert.new.self c.new-taken.ensures.empty updates

pub loop-item-preserved : goal.loop-item-preserved
loop-item-preserved c =
    let all = taken_keys (written_view c.args.written.now) in
    let items = c.args.written.now.items.now in
    let i = c.loop-item.item-index in
    let item = c.item-item.result in
    let at : item ≡ get_or items i item = search rules in
    let rest = texts_in (map view (drop (i + 1) items)) in
    elim c.match-as_str.branch [
      | in-Some+in_ok-take_key w ↦ (
          let text : as_str (view item) ≡ Some w.in-Some.text.now = sym c.as_str.ensures ∙ ap (option_map (λ (s : Bor (List ℕ)). s.now)) w.in-Some.is in
          let kept : w.take_key.new.taken ≡ c.match-as_str.taken = grind (arith, common_steps) in
          subst (λ t. AreTakenTo all rest t) kept (AreTakenTo-more all rest w.in-Some.text.now c.loop-item.taken w.take_key.new.taken
          (subst (λ (l : List (List ℕ)). AreTakenTo all l c.loop-item.taken) (texts-some items i item c.loop-item-test.true at w.in-Some.text.now text) c.loop-item.invariant) w.in_ok-take_key.ensures.taken))
      | in_default w ↦ (
          let none : as_str (view item) ≡ None = sym c.as_str.ensures ∙ ap (option_map (λ (s : Bor (List ℕ)). s.now)) w.in_default.is in
          let kept : c.loop-item.taken ≡ c.match-as_str.taken = grind (arith, common_steps) in
          subst (λ t. AreTakenTo all rest t) kept (subst (λ (l : List (List ℕ)). AreTakenTo all l c.loop-item.taken) (texts-none items i item c.loop-item-test.true at none) c.loop-item.invariant))
    ]

pub returns : goal.returns
returns c =
    let all = taken_keys (written_view c.args.written.now) in
    let end : texts_in (map view (drop c.loop-item.item-index c.args.written.now.items.now)) ≡ [] = ap texts_in (map-past view c.args.written.now.items.now c.loop-item.item-index c.loop-item-test.false) in
    AreTakenTo-all all c.loop-item.taken (subst (λ (l : List (List ℕ)). AreTakenTo all l c.loop-item.taken) end c.loop-item.invariant)
