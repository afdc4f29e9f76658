-- The lines that are listed are the model's for the operation.
use Rattle.std.proofs.Common.{◌≡◌, ◌||◌, Bool, List, [], ◌∷◌, map, filter, refl, ap, sym, ◌∙◌}
use Rattle.std.specs.List.{list_any}
use Rattle.ob_base.specs.declared.id.RecId.{RecId}
use Rattle.ob_access.specs.Index.{asks_for}
use Rattle.ob_access.specs.Policies.{PolicyData}
use Rattle.ob_access.specs.Rights.{is_for, lines_for}
use Rattle.ob_access.specs.declared.policy.AccessLine.{AccessLine}
use Rattle.ob_access.proofs.policy.Policy.right.Goals as goal

of_groups : (own : List RecId) (lines : List AccessLine) → list_any (is_for own) (map (λ (line : AccessLine). line.group) lines) ≡ list_any (λ (line : AccessLine). is_for own line.group) lines
of_groups own [] = refl
of_groups own (line ∷ lines) = ap (λ (b : Bool). is_for own line.group || b) (of_groups own lines)

pub returns-else-is_superuser : goal.returns-else-is_superuser
returns-else-is_superuser c =
    c.is_for_some.ensures ∙ ap (list_any (is_for c.args.groups.now)) (c.listed.ensures ∙ c.self.invariant.lines c.args.model c.args.op)
    ∙ of_groups c.args.groups.now (filter (λ (line : AccessLine). asks_for c.args.model c.args.op line.model line.ops) c.self.inside.accesses)
    ∙ ap (λ (p : PolicyData). list_any (λ (line : AccessLine). is_for c.args.groups.now line.group) (lines_for p c.args.model c.args.op)) c.self.view_is
    ∙ sym (ap (λ (b : Bool). b || list_any (λ (line : AccessLine). is_for c.args.groups.now line.group) (lines_for c.args.self.now c.args.model c.args.op)) (sym c.is_superuser.ensures ∙ c.if-is_superuser.false))
