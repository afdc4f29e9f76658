-- The list has the groups that were found.
use Rattle.std.proofs.Common.{◌≡◌, List, ap, sym, subst, ◌∙◌}
use Rattle.std.specs.Prelude.{Contains}
use Rattle.ob_base.specs.declared.id.RecId.{RecId}
use Rattle.ob_access.specs.Groups.{IsMember}
use Rattle.ob_access.specs.Policies.{PolicyData}
use Rattle.ob_access.specs.declared.policy.Group.{Group}
use Rattle.ob_access.proofs.Having.{Contains-from_has, has-from_Contains}
use Rattle.ob_access.proofs.policy.Policy.groups_of.Goals as goal

pub returns-clause-members : goal.returns-clause-members
returns-clause-members c = λ id.
    let same : c.of.result ≡ c.in_ok-found.found.keys = c.of.ensures.same ∙ c.in_ok-listed.ensures in
    let groups : c.as_slice.result.now ≡ c.args.self.now.groups = c.as_slice.ensures ∙ ap (λ (p : PolicyData). p.groups) c.self.view_is in
    let member : c.as_slice-2.result.now ≡ c.args.member.now = c.as_slice-2.ensures.same in (
      λ is. subst (λ (l : List RecId). IsMember c.args.self.now.groups l id) member (subst (λ (gs : List Group). IsMember gs c.as_slice-2.result.now id) groups
          ((c.in_ok-found.ensures id).0 (has-from_Contains c.in_ok-found.found.keys id (subst (λ (l : List RecId). Contains l id) same is)))),
      λ is. subst (λ (l : List RecId). Contains l id) (sym same) (Contains-from_has c.in_ok-found.found.keys id
          ((c.in_ok-found.ensures id).1 (subst (λ (gs : List Group). IsMember gs c.as_slice-2.result.now id) (sym groups) (subst (λ (l : List RecId). IsMember c.args.self.now.groups l id) (sym member) is)))),
    )
