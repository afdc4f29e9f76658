use Rattle.std.proofs.Common.{◌≡◌, ◌∙◌, map, true, subst, sym}
use Rattle.std.specs.Prelude.{All}
use Rattle.std.proofs.lemmas.List.{take_all}
use Rattle.std.proofs.lemmas.List.Elements.{All-map}
use Rattle.ob_base.specs.declared.id.ModelNo.{ModelNo}
use Rattle.ob_base.specs.declared.refusal.Op.TheVariants as op
use Rattle.ob_orm.proofs.Withheld.{withheld-none}
use Rattle.ob_rows.specs.Rights.{may}
use Rattle.ob_orm.proofs.writing.barring.withheld.Goals as goal
use Rattle.ob_schema.specs.declared.info.ParentInfo.{ParentInfo}

-- he lacks none
pub returns : goal.returns
returns c =
    let policy = c.args.by.now.policy.now in let own = c.args.by.now.groups.now in let user = c.args.by.now.user in
    let parents = c.args.parents.now in
    let all = subst (All (λ (parent : ParentInfo). may policy own user (op.Write, parent.model) ≡ true)) (take_all c.loop-parent.parent-index parents c.loop-parent-test.false) c.loop-parent.invariant in
    withheld-none policy own user c.args.model c.args.rows.now (map (λ parent. parent.model) parents) c.requires.models (sym c.may.ensures ∙ c.if-not-may.false)
    (All-map (λ (m : ModelNo). may policy own user (op.Write, m) ≡ true) (λ (parent : ParentInfo). parent.model) parents all)
