use Rattle.std.proofs.Common.{◌≡◌, ℕ, ◌<◌, ◌≤◌, is_some, Some, None, List, length, sym, ap, subst, ◌∙◌, arith}
use Rattle.std.proofs.lemmas.List.{length-map}
use Rattle.ob_definition.specs.declared.definition.Inherits.{Inherits}
use Rattle.ob_definition.specs.declared.made.ParentLink.{ParentLink}
use Rattle.ob_definition.specs.ByName.{place_of}
use Rattle.ob_definition.specs.Gathered.{Gathered, model_of}
use Rattle.ob_definition.specs.Members.{links_of, named}
use Rattle.ob_registry.specs.declared.model.Member.{Member as KeptMember}
use Rattle.ob_registry.specs.ModelFields.{members_in}
use Rattle.ob_registry.proofs.Delegating.{AreJoined-more, AreJoined-none, AreJoined-skip, IsParent, IsParent-at, no_model, parent-apart}
use Rattle.ob_registry.proofs.models.add_delegated.Goals as goal

pub loop-left-init : goal.loop-left-init
loop-left-init c =
    let links = links_of c.args.gathering.now c.args.gathered.now in
    let size : length links ≡ length c.args.links.now = ap (λ (l : List Inherits). length l) (sym c.requires.links) ∙ length-map c.args.links.now (λ (l : ParentLink). l.parent.now) in
    let past : length links ≤ length c.args.links.now = omega arith in
    record {
      names = λ name. c.in_ok-names.ensures name ∙ ap (λ (l : List KeptMember). is_some (named (members_in l) name)) c.as_slice.ensures.value;
      joined = AreJoined-none c.args.gathering.now c.args.gathered.now links (length c.args.links.now) (members_in c.args.members.now.items) past c.requires.members;
    }

pub loop-left-preserved : goal.loop-left-preserved
loop-left-preserved c =
    let within : c.loop-left.left ≤ length c.args.links.now = c.loop-left.auto.left in
    let some : 0 < c.loop-left.left = omega arith in
    let at : place_of c.args.gathering.now c.as_str.result.now ≡ None = sym c.place.ensures.at ∙ c.in_default.is in
    let none = subst (λ (name : List ℕ). model_of c.args.gathering.now name ≡ None) c.as_str.ensures (no_model c.args.gathering.now c.as_str.result.now at) in
    record {
      names = c.loop-left.invariant.names;
      joined = AreJoined-skip c.args.gathering.now c.args.gathered.now c.args.links.now c.loop-left.left c.index-links-left.result c.requires.links some within (members_in c.loop-left.members.items) none c.loop-left.invariant.joined;
    }

pub delegate-requires-clause-distinct : goal.delegate-requires-clause-distinct
delegate-requires-clause-distinct c =
    let at : place_of c.args.gathering.now c.as_str.result.now ≡ Some c.in-Some.target = sym c.place.ensures.at ∙ c.in-Some.is in
    let low : c.in-Some.target < length c.args.gathering.now = c.in-Some.ensures.within in
    let parent = IsParent-at c.args.gathering.now c.args.own.now c.as_str.result.now c.in-Some.target c.index-own-target.result c.as_slice-parent.result.now c.requires.named c.requires.own low c.index-own-target.is
    c.as_slice-parent.ensures.value at in
    parent-apart c.args.gathering.now c.as_str.result.now (members_in c.as_slice-parent.result.now) parent

pub loop-left-preserved-in-Continue-branch-2 : goal.loop-left-preserved-in-Continue-branch-2
loop-left-preserved-in-Continue-branch-2 c =
    let within : c.loop-left.left ≤ length c.args.links.now = c.loop-left.auto.left in
    let some : 0 < c.loop-left.left = omega arith in
    let at : place_of c.args.gathering.now c.as_str.result.now ≡ Some c.in-Some.target = sym c.place.ensures.at ∙ c.in-Some.is in
    let low : c.in-Some.target < length c.args.gathering.now = c.in-Some.ensures.within in
    let parent = IsParent-at c.args.gathering.now c.args.own.now c.as_str.result.now c.in-Some.target c.index-own-target.result c.as_slice-parent.result.now c.requires.named c.requires.own low c.index-own-target.is
    c.as_slice-parent.ensures.value at in
    let this = subst (λ (name : List ℕ). IsParent c.args.gathering.now name (members_in c.as_slice-parent.result.now)) c.as_str.ensures parent in
    record {
      names = c.in_ok-delegate.ensures.names;
      joined = AreJoined-more c.args.gathering.now c.args.gathered.now c.args.links.now c.loop-left.left c.index-links-left.result c.requires.links some within c.gathered.inside.entry
          (members_in c.as_slice-parent.result.now) (members_in c.loop-left.members.items) (members_in c.delegate.new.members.items) (ap (λ (g : Gathered). g.entry) c.gathered.view_is) this c.loop-left.invariant.joined
          c.in_ok-delegate.ensures.members;
    }
