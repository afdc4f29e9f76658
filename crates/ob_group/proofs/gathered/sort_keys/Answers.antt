use Rattle.std.proofs.Common.{◌≡◌, ◌<◌, ◌+◌, ◌∷◌, ◌++◌, [], List, length, map, take, refl, sym, ap, subst, ◌∙◌, arith, append_assoc}
use Rattle.std.specs.Prelude.{All}
use Rattle.std.specs.List.{slice_index_or}
use Rattle.std.proofs.lemmas.Grind.{common_steps}
use Rattle.std.proofs.lemmas.List.{take_all}
use Rattle.std.proofs.lemmas.List.Elements.{All-get_or, All-push}
use Rattle.ob_base.specs.declared.value.Value.{Value}
use Rattle.ob_base.specs.declared.value.Value.TheVariants as value
use Rattle.ob_codec.specs.Held.{HasText}
use Rattle.ob_query.proofs.CallerLemmas.{map-map, map-taken}
use Rattle.ob_group.specs.GroupForms as forms
use Rattle.ob_group.specs.GroupParts.{term_key, term_view}
use Rattle.ob_query.specs.SearchKeys.{rising}
use Rattle.ob_query.specs.declared.searching.order.Key.{Key}
use Rattle.ob_group.proofs.gathered.sort_keys.Goals as goal

pub loop-value-preserved : goal.loop-value-preserved
loop-value-preserved c =
    let values = c.args.values.now in
    let i = c.loop-value.value-index in
    let key : Key = rising c.in_ok-value.value in
    let base = map (term_key values) c.args.terms.now in
    let lt : i < length values = omega arith in
    let pushed : c.push.new.self.items ≡ c.loop-value.keys.items ++ key ∷ [] = grind (arith, common_steps) in
    let more = map-taken rising values i c.value-item.result (map rising (take i values)) key lt refl (ap rising (c.in_ok-value.ensures ∙ c.value-item.is)) in
    let text : HasText c.in_ok-value.value = subst HasText (sym (c.in_ok-value.ensures ∙ c.value-item.is)) (All-get_or HasText values i c.value-item.result lt c.requires) in
    record {
      are = pushed ∙ ap (λ (l : List Key). l ++ key ∷ []) c.loop-value.invariant.are ∙ append_assoc base (map rising (take i values)) (key ∷ []) ∙ ap (λ (l : List Key). base ++ l) more;
      texts = subst (All (λ (key : Key). HasText key.value)) (sym pushed) (All-push (λ (key : Key). HasText key.value) c.loop-value.keys.items key c.loop-value.invariant.texts text);
    }

pub returns-clause-keys : goal.returns-clause-keys
returns-clause-keys c =
    let values = c.args.values.now in
    let f : forms.GroupTerm → Key = λ (t : forms.GroupTerm). record { descending = t.descending; value = slice_index_or values t.number value.Nil } in
    c.loop-value.invariant.are ∙ ap (λ (l : List Value). map (term_key values) c.args.terms.now ++ map rising l) (take_all c.loop-value.value-index values c.loop-value-test.false)
    ∙ ap (λ (l : List Key). l ++ map rising values) (sym (map-map f term_view c.args.terms.now))
