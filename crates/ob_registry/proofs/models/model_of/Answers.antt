use Rattle.std.proofs.Common.{rules, ◌≡◌, ℕ, ◌<◌, ◌≤◌, Some, List, length, get_or, refl, sym, ap, subst, ◌∙◌, arith}
use Rattle.std.specs.Prelude.{slice_get}
use Rattle.std.specs.List.Sorted.{IsPermutation}
use Rattle.std.proofs.lemmas.List.Sorted.{IsPermutation-trans}
use Rattle.std.proofs.lemmas.Option.{same_Some, slice_get_read}
use Rattle.ob_definition.specs.declared.made.ParentLink.{ParentLink}
use Rattle.ob_definition.specs.Gathered.{AreWellNamed, Gathered, IsWellNamed}
use Rattle.ob_definition.specs.Making.{AreHidden, AreLinks, IsMade, conditions_of}
use Rattle.ob_definition.specs.Members.{AreInNameOrder, Member, links_of, members_of, own_members}
use Rattle.ob_registry.specs.ModelFields.{max_numbers, members_in}
use Rattle.ob_registry.proofs.Delegating.{own_at}
use Rattle.ob_registry.proofs.MadeMembers.{hidden-back, named-front, named-within, some_and, some_at}
use Rattle.ob_registry.proofs.NameSort.{apart-moved}
use Rattle.ob_registry.proofs.OwnNames.{members_once}
use Rattle.ob_registry.proofs.models.model_of.Goals as goal

-- what is read at a place of the models
there : (models result : List Gathered) (place : ℕ) (g : Gathered) → result ≡ models → place < length models → g ≡ get_or result place g → slice_get models place ≡ Some g
there models result place g same low is = slice_get_read models (length models) place g refl low (is ∙ ap (λ (l : List Gathered). get_or l place g) same)

well : (models result : List Gathered) (place : ℕ) (g : Gathered) → AreWellNamed models → result ≡ models → place < length models → g ≡ get_or result place g → IsWellNamed g
well models result place g named same low is = subst IsWellNamed (sym (is ∙ ap (λ (l : List Gathered). get_or l place g) same)) (named.each place g low)

pub add_delegated-requires-clause-members : goal.add_delegated-requires-clause-members
add_delegated-requires-clause-members c =
    let models = c.args.gathering.now in
    let g = c.index-models-place.result in
    let own = own_at models c.args.own.now c.args.place c.index-own-place.result c.requires.own c.requires.place c.index-own-place.is in
    let same : own.0 ≡ g = same_Some own.0 g (sym own.1 ∙ there models c.models.result.now c.args.place g c.models.ensures c.requires.place c.index-models-place.is) in
    let copied = c.in_ok-members.ensures.items_if_clones_equal (λ x y e. e) in
    ap members_in (copied ∙ c.as_slice.ensures.value) ∙ own.2 ∙ ap (own_members models) same

pub sort-requires : goal.sort-requires
sort-requires c =
    let models = c.args.gathering.now in
    let g = c.index-models-place.result in
    apart-moved (members_of models g) (members_in c.add_delegated.new.members.items) c.in_ok-add_delegated.ensures
    (members_once models c.requires.named.each g (well models c.models.result.now c.args.place g c.requires.named c.models.ensures c.requires.place c.index-models-place.is))

pub invariant_of-result : goal.invariant_of-result
invariant_of-result c =
    let items = c.add_hidden.new.members.items in
    let sorted = c.sort.new.members.items in
    let more = conditions_of c.args.made.now.hidden.items in
    let many : c.len-named.result ≡ length sorted = search rules in
    let front = named-front items sorted c.len-named.result more many c.in_ok-add_hidden.ensures in
    let all : c.len.result ≡ length items = search rules in
    let fits : length items ≤ max_numbers = omega arith in
    record {
      within = named-within items sorted c.len-named.result more many c.in_ok-add_hidden.ensures;
      small = fits;
      ordered = subst AreInNameOrder (sym front) c.in_ok-sort.ensures.ordered;
    }

pub returns : goal.returns
returns c =
    let models = c.args.gathering.now in
    let g = c.index-models-place.result in
    let made = c.args.made.now in
    let items = c.add_hidden.new.members.items in
    let sorted = c.sort.new.members.items in
    let more = conditions_of made.hidden.items in
    let many : c.len-named.result ≡ length sorted = search rules in
    let at = there models c.models.result.now c.args.place g c.models.ensures c.requires.place c.index-models-place.is in
    let is : IsMade models g made = some_at (λ m. IsMade models m made) (slice_get models c.args.place) g at c.requires.made in
    let front = named-front items sorted c.len-named.result more many c.in_ok-add_hidden.ensures in
    let back = hidden-back items sorted c.len-named.result more many c.in_ok-add_hidden.ensures in
    let moved = IsPermutation-trans (members_of models g) (members_in c.add_delegated.new.members.items) (members_in sorted) c.in_ok-add_delegated.ensures c.in_ok-sort.ensures.permutation in
    some_and _ (slice_get models c.args.place) g at (record {
      gathered = refl;
      links = subst (λ (l : List ParentLink). AreLinks (links_of models g) l) (sym c.as_slice-links.ensures.value) is.links;
      named = subst (λ (l : List Member). IsPermutation (members_of models g) l) (sym front) moved;
      hidden = subst (λ (l : List Member). AreHidden g l) (sym back) is.hidden;
    })
