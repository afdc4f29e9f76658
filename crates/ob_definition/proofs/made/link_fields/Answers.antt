use Rattle.std.proofs.Common.{rules, ◌≡◌, ◌||◌, ◌&&◌, not, ℕ, Bool, true, false, Option, List, [], ◌∷◌, ◌++◌, take, refl, sym, ap, subst, ◌∙◌, string_bytes, BTreeSet, Global, String, Vec}
use Rattle.std.proofs.lemmas.List.{take_all}
use Rattle.std.proofs.lemmas.Map.Text.{btree_set_updates_text}
use Rattle.std.specs.BTreeSet.{contains_text}
use Rattle.std.specs.Bool.{then_some}
use Rattle.ob_definition.specs.declared.definition.Inherits.{Inherits}
use Rattle.ob_definition.specs.declared.made.ParentLink.{ParentLink}
use Rattle.ob_definition.specs.declared.wrong.Wrong.{Wrong}
use Rattle.ob_definition.specs.declared.wrong.Wrong.TheVariants as wrong
use Rattle.ob_definition.specs.Definitions.{is_one_of}
use Rattle.ob_definition.specs.Findings.{Adds, IsAt}
use Rattle.ob_definition.specs.Gathered.{Gathered}
use Rattle.ob_definition.specs.Making.{AreLinkFaults, AreLinks, with_links, wrong_parent}
use Rattle.ob_definition.specs.Members.{given_members, links_from, may_inherit, names_of}
use Rattle.ob_definition.specs.Rooms.{spot_at}
use Rattle.ob_definition.proofs.Copies.{next_front}
use Rattle.ob_definition.proofs.LinkSteps.{AreTaken, and_first, and_none, is_parent-by, link-found, link_test, links-kept, links-new, names-kept, names-new, no_links-found, or_first, or_second, other_test, taken_test}
use Rattle.ob_definition.proofs.made.link_fields.Goals as goal
use Rattle.ob_definition.proofs.made.link_fields.Goals.{then-has_own_name, else-has_own_name, then-is_parent, else-is_parent, then-is_parent-2+then-not-is_taken+in_ok-from_str+in_ok-insert+in_ok-field+in_ok-push, else-is_parent-2}
use Rattle.ob_definition.proofs.made.link_fields.Goals.{else-is_parent-2-via-then-is_parent-2+else-not-is_taken, else-is_parent-2-via-else-is_parent-2}

or_none : (b : Bool) → b ≡ (b || false)
or_none true = refl
or_none false = refl

pub loop-parent-init : goal.loop-parent-init
loop-parent-init c =
    let models = c.args.gathering.now in
    let g = c.args.model.now in
    let taken = names_of (given_members g) in
    let free : (name : List ℕ) → contains_text c.new-names.result name ≡ false = λ name. search rules in
    (record { parents = search rules; fields = search rules }, (λ name. or_none (is_one_of taken name) ∙ ap (λ (b : Bool). is_one_of taken name || b) (sym (free name))), no_links-found models g taken c.args.first.now)

pub loop-parent-preserved : goal.loop-parent-preserved
loop-parent-preserved c =
    let models = c.args.gathering.now in
    let g = c.args.model.now in
    let taken = names_of (given_members g) in
    let items = c.model.inside.inherits.now in
    let index = c.loop-parent.parent-index in
    let i = c.parent-item.result in
    let links = take index items in
    let all = is_one_of (with_links models g taken links) i.link in
    let may = may_inherit models g i in
    let test = c.is_none-is_parent.result in
    let named = c.if-has_own_name.is_taken in
    let twice = c.if-is_parent.is_twice in
    let mid = c.at_entry.new.self in
    let last = c.at_entry-in-loop-parent.new.self in
    let link : c.as_str-link.result.now ≡ i.link = c.as_str-link.ensures in
    let same : c.model.inside.entry ≡ g.entry = ap (λ (m : Gathered). m.entry) c.model.view_is in
    let what : c.wrong_parent-wrong.result ≡ wrong_parent models g i = c.wrong_parent-wrong.ensures in
    let parent : test ≡ may = is_parent-by models g i c.wrong_parent-wrong.result test c.is_none-is_parent.ensures what in
    let own : c.has_own_name.result ≡ is_one_of taken i.link = c.has_own_name.ensures ∙ ap (is_one_of taken) link in
    let either : all ≡ (c.has_own_name.result || contains_text c.loop-parent.names i.link) =
    c.loop-parent.invariant.1 i.link ∙ ap (λ (b : Bool). b || contains_text c.loop-parent.names i.link) (sym own) in
    let is_taken : named ≡ all = elim c.if-has_own_name.branch [
      | then-has_own_name w ↦ or_first c.has_own_name.result (contains_text c.loop-parent.names i.link) named all either w.if-has_own_name.true w.is_taken-is
      | else-has_own_name w ↦ or_second c.has_own_name.result (contains_text c.loop-parent.names i.link) named all either w.if-has_own_name.false (w.is_taken-is ∙ w.contains-is_taken.ensures ∙ ap (contains_text c.loop-parent.names) link)
    ] in
    let both : twice ≡ (test && named) = elim c.if-is_parent.branch [
      | then-is_parent w ↦ and_first test named twice w.if-is_parent.true w.is_twice-is
      | else-is_parent w ↦ and_none test named twice w.if-is_parent.false w.is_twice-is
    ] in
    let tests : twice ≡ (may && all) = both ∙ ap (λ (b : Bool). b && named) parent ∙ ap (λ (b : Bool). may && b) is_taken in
    let told : Adds (IsAt c.wrong_parent-wrong.result (spot_at g.entry [])) c.loop-parent.first mid =
    subst (λ (k : ℕ). Adds (IsAt c.wrong_parent-wrong.result (spot_at k [])) c.loop-parent.first mid) same c.in_ok-at_entry.ensures.found in
    let later : Adds (IsAt c.then_some.result (spot_at c.model.inside.entry [])) mid last = c.in_ok-at_entry-2.ensures.found in
    let told_twice : Adds (IsAt (then_some twice wrong.Twice) (spot_at g.entry [])) mid last =
    subst (λ (k : ℕ). Adds (IsAt (then_some twice wrong.Twice) (spot_at k [])) mid last) same (subst (λ (o : Option Wrong). Adds (IsAt o (spot_at c.model.inside.entry [])) mid last) c.then_some.ensures later) in
    let found : Adds (AreLinkFaults models g taken (links ++ i ∷ [])) c.args.first.now last =
    link-found models g taken links i c.wrong_parent-wrong.result twice c.args.first.now c.loop-parent.first mid last what tests c.loop-parent.invariant.2 told told_twice in
    let made : AreLinks (links_from models g taken (links ++ i ∷ [])) c.if-is_parent-2.links.items = elim c.if-is_parent-2.branch [
      | then-is_parent-2+then-not-is_taken+in_ok-from_str+in_ok-insert+in_ok-field+in_ok-push w ↦
          (let is = link_test may all test named parent is_taken w.if-is_parent-2.true w.if-not-is_taken.true in
          links-new models g taken links c.loop-parent.links.items c.if-is_parent-2.links.items i _ is refl w.in_ok-field.ensures
          (ap (λ (v : Vec ParentLink Global). v.items) w.links-is ∙ w.in_ok-push.ensures.items) c.loop-parent.invariant.0)
      | else-is_parent-2 w ↦
          (let is : (may && not all) ≡ false = elim w.else-is_parent-2.branch [
            | else-is_parent-2-via-then-is_parent-2+else-not-is_taken v ↦ taken_test may all named is_taken v.if-not-is_taken.false
            | else-is_parent-2-via-else-is_parent-2 v ↦ other_test may all test parent v.if-is_parent-2.false
          ] in
          links-kept models g taken links c.loop-parent.links.items c.if-is_parent-2.links.items i is (ap (λ (v : Vec ParentLink Global). v.items) w.links-is) c.loop-parent.invariant.0)
    ] in
    let names : AreTaken taken (with_links models g taken (links ++ i ∷ [])) c.if-is_parent-2.names = elim c.if-is_parent-2.branch [
      | then-is_parent-2+then-not-is_taken+in_ok-from_str+in_ok-insert+in_ok-field+in_ok-push w ↦
          (let is = link_test may all test named parent is_taken w.if-is_parent-2.true w.if-not-is_taken.true in
          let bytes = string_bytes w.in_ok-from_str.field-0 in
          let key : bytes ≡ i.link = w.in_ok-from_str.ensures.ok ∙ link in
          names-new models g taken links i c.loop-parent.names c.if-is_parent-2.names is c.loop-parent.invariant.1
          (λ name. ap (λ (ns : BTreeSet (String Global)). contains_text ns name) w.names-is ∙ rw key at (btree_set_updates_text bytes c.loop-parent.names w.insert.new.self true w.in_ok-insert.ensures.updates name)))
      | else-is_parent-2 w ↦
          (let is : (may && not all) ≡ false = elim w.else-is_parent-2.branch [
            | else-is_parent-2-via-then-is_parent-2+else-not-is_taken v ↦ taken_test may all named is_taken v.if-not-is_taken.false
            | else-is_parent-2-via-else-is_parent-2 v ↦ other_test may all test parent v.if-is_parent-2.false
          ] in
          names-kept models g taken links i c.loop-parent.names c.if-is_parent-2.names is w.names-is c.loop-parent.invariant.1)
    ] in
    subst (λ (ls : List Inherits). AreLinks (links_from models g taken ls) c.if-is_parent-2.links.items × AreTaken taken (with_links models g taken ls) c.if-is_parent-2.names × Adds (AreLinkFaults models g taken ls) c.args.first.now last)
    (next_front items index i c.loop-parent-test.true c.parent-item.is) (made, names, found)

pub returns : goal.returns
returns c =
    let models = c.args.gathering.now in
    let g = c.args.model.now in
    let taken = names_of (given_members g) in
    let held : c.model.inside.inherits.now ≡ g.inherits = ap (λ (m : Gathered). m.inherits) c.model.view_is in
    let all : take c.loop-parent.parent-index c.model.inside.inherits.now ≡ g.inherits = take_all c.loop-parent.parent-index c.model.inside.inherits.now c.loop-parent-test.false ∙ held in
    record {
      links = subst (λ (ls : List Inherits). AreLinks (links_from models g taken ls) c.loop-parent.links.items) all c.loop-parent.invariant.0;
      faults = subst (λ (ls : List Inherits). Adds (AreLinkFaults models g taken ls) c.args.first.now c.loop-parent.first) all c.loop-parent.invariant.2;
    }
