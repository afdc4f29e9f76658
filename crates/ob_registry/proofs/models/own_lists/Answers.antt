use Rattle.std.proofs.Common.{◌≡◌, ◌<◌, List, Vec, length, get_or, ap, ◌∙◌, arith}
use Rattle.std.specs.declared.alloc.Global.{Global}
use Rattle.ob_definition.specs.Gathered.{Gathered}
use Rattle.ob_definition.specs.Making.{IsMade}
use Rattle.ob_definition.specs.Members.{own_members}
use Rattle.ob_definition.proofs.CallerLemmas.{view_more, zip_length}
use Rattle.ob_registry.specs.declared.model.Member.{Member as KeptMember}
use Rattle.ob_registry.specs.ModelFields.{members_in}
use Rattle.ob_registry.specs.Modelling.{own_in}
use Rattle.ob_registry.proofs.MadeMembers.{made-at, own-made}
use Rattle.ob_registry.proofs.models.own_lists.Goals as goal

pub bounds-made-place : goal.bounds-made-place
bounds-made-place c =
    let size : length c.args.made.now ≡ length c.args.gathering.now = zip_length (IsMade c.args.gathering.now) c.args.gathering.now c.args.made.now c.requires.made in
    let all = ap (λ (l : List Gathered). length l) c.models-place-end.ensures in
    omega arith

pub own_members-requires-clause-path : goal.own_members-requires-clause-path
own_members-requires-clause-path c =
    let models = c.args.gathering.now in
    let g = c.index-models-place.result in
    let all = ap (λ (l : List Gathered). length l) c.models-place-end.ensures in
    let low : c.loop-place.place < length models = omega arith in
    let at : g ≡ get_or models c.loop-place.place g = c.index-models-place.is ∙ ap (λ (l : List Gathered). get_or l c.loop-place.place g) c.models.ensures in
    (made-at models c.args.made.now c.loop-place.place g c.index-made-place.result c.requires.made low at c.index-made-place.is).path

pub loop-place-preserved : goal.loop-place-preserved
loop-place-preserved c =
    let models = c.args.gathering.now in
    let g = c.index-models-place.result in
    let own = c.in_ok-own_members.field-0 in
    let all = ap (λ (l : List Gathered). length l) c.models-place-end.ensures in
    let low : c.loop-place.place < length models = omega arith in
    let at : g ≡ get_or models c.loop-place.place g = c.index-models-place.is ∙ ap (λ (l : List Gathered). get_or l c.loop-place.place g) c.models.ensures in
    let is = made-at models c.args.made.now c.loop-place.place g c.index-made-place.result c.requires.made low at c.index-made-place.is in
    let same : members_in own.items ≡ own_members models g = c.in_ok-own_members.ensures ∙ own-made models g c.index-made-place.result is in
    ap own_in c.in_ok-push.ensures.items
    ∙ view_more (λ (v : Vec KeptMember Global). members_in v.items) (own_members models) models c.loop-place.place g own c.loop-place.own.items low at c.loop-place.invariant same
