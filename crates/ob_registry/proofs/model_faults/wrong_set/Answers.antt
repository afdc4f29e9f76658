use Rattle.std.proofs.Common.{◌≡◌, ◌∙◌, Bool, true, false, not, Some, None, ap, sym, take, List, ℕ}
use Rattle.std.specs.List.{list_all, list_any}
use Rattle.std.proofs.lemmas.List.{take_all}
use Rattle.std.specs.Prelude.{◌&&◌}
use Rattle.ob_definition.specs.Members.{named}
use Rattle.ob_registry.specs.Faults.{is_plain_kept, is_unknown}
use Rattle.ob_registry.specs.ModelFields.{member_of, named_in}
use Rattle.ob_registry.proofs.NameTests.{known_more, missed_at, passes, tells_set_kept, tells_set_missed, tells_set_unkept, tested_more, told_empty, told_some}
use Rattle.ob_registry.proofs.model_faults.wrong_set.Goals as goal
use Rattle.ob_registry.proofs.model_faults.wrong_set.Goals.{then-is_kept, else-is_kept}

pub loop-name-preserved : goal.loop-name-preserved
loop-name-preserved c =
    let members = named_in c.args.model.now.named c.args.model.now.members.items in
    let names = c.args.set.now.names.now in
    let member = member_of c.in-Some.member.now in
    let found : named members c.name-item.result ≡ Some member = ap (named members) (sym c.as_str.ensures) ∙ sym c.in-Some.ensures in
    let kept : c.if-is_kept.is_kept ≡ (c.loop-name.is_kept && is_plain_kept member) = elim c.if-is_kept.branch [
      | then-is_kept w ↦ w.is_kept-is ∙ w.is_plain_kept-is_kept.ensures ∙ sym (ap (λ (b : Bool). b && is_plain_kept member) w.if-is_kept.true)
      | else-is_kept w ↦ w.is_kept-is ∙ w.if-is_kept.false ∙ sym (ap (λ (b : Bool). b && is_plain_kept member) w.if-is_kept.false)
    ] in
    record {
      kept = kept ∙ tested_more (λ x. x) members is_plain_kept names c.loop-name.name-index c.name-item.result member _ _ c.loop-name-test.true c.name-item.is found c.loop-name.invariant.kept;
      known = known_more (λ x. x) members names c.loop-name.name-index c.name-item.result member c.loop-name-test.true c.name-item.is found c.loop-name.invariant.known;
    }

pub returns-in-None : goal.returns-in-None
returns-in-None c =
    let members = named_in c.args.model.now.named c.args.model.now.members.items in
    let names = c.args.set.now.names.now in
    let found : named members c.name-item.result ≡ None = ap (named members) (sym c.as_str.ensures) ∙ sym c.in-None.ensures in
    tells_set_missed members names (missed_at (λ x. x) members names c.loop-name.name-index c.name-item.result c.loop-name-test.true c.name-item.is found)

pub returns-then-is_kept-2 : goal.returns-then-is_kept-2
returns-then-is_kept-2 c =
    let members = named_in c.args.model.now.named c.args.model.now.members.items in
    let names = c.args.set.now.names.now in
    let begun = not c.is_empty-is_kept.result in
    let front : names ≡ take c.loop-name.name-index names = sym (take_all c.loop-name.name-index names c.loop-name-test.false) in
    let known : list_any (is_unknown members) names ≡ false = ap (list_any (is_unknown members)) front ∙ c.loop-name.invariant.known in
    let kept : (list_all (passes (λ x. x) members is_plain_kept) names && begun) ≡ true =
    ap (λ (l : List (List ℕ)). list_all (passes (λ x. x) members is_plain_kept) l && begun) front ∙ sym c.loop-name.invariant.kept ∙ c.if-is_kept-2.true in
    tells_set_kept members names begun known kept (told_some names c.is_empty-is_kept.result c.is_empty-is_kept.ensures)

pub returns-else-is_kept-2 : goal.returns-else-is_kept-2
returns-else-is_kept-2 c =
    let members = named_in c.args.model.now.named c.args.model.now.members.items in
    let names = c.args.set.now.names.now in
    let begun = not c.is_empty-is_kept.result in
    let front : names ≡ take c.loop-name.name-index names = sym (take_all c.loop-name.name-index names c.loop-name-test.false) in
    let known : list_any (is_unknown members) names ≡ false = ap (list_any (is_unknown members)) front ∙ c.loop-name.invariant.known in
    let unkept : (list_all (passes (λ x. x) members is_plain_kept) names && begun) ≡ false =
    ap (λ (l : List (List ℕ)). list_all (passes (λ x. x) members is_plain_kept) l && begun) front ∙ sym c.loop-name.invariant.kept ∙ c.if-is_kept-2.false in
    tells_set_unkept members names begun known unkept (told_empty names c.is_empty-is_kept.result c.is_empty-is_kept.ensures) (told_some names c.is_empty-is_kept.result c.is_empty-is_kept.ensures)
