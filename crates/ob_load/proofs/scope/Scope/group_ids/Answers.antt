-- A group that is named adds its id, another none.
use Rattle.std.proofs.Common.{◌≡◌, ◌+◌, ◌<◌, ◌≤◌, ◌++◌, List, ℕ, Some, All, drop, refl, sym, ap, subst, ◌∙◌, arith}
use Rattle.std.specs.Prelude.{false, slice_get, true}
use Rattle.std.proofs.lemmas.List.Elements.{All-nil, All-push, All-weaker}
use Rattle.ob_base.specs.declared.id.RecId.{RecId}
use Rattle.ob_load.specs.Access.{group_ids, is_among}
use Rattle.ob_load.proofs.AccessSteps.{stands-at}
use Rattle.ob_load.proofs.GroupIds.{ids-end, ids-next-in, ids-next-out, ids_from}
use Rattle.ob_load.proofs.scope.Scope.group_ids.Goals as goal
use Rattle.ob_load.proofs.scope.Scope.group_ids.Goals.{then-is_among+in_ok-push, else-is_among}

-- the ids so far and those of the groups that are left are all, and none is above so many
abbrev AreSoFar : List (List ℕ) → List (List ℕ) → ℕ → List RecId → Type 0
AreSoFar names groups n ids = (ids ++ ids_from names (n + 1) (drop n groups) ≡ group_ids groups names) × All (λ (id : RecId). id.0 ≤ n) ids

pub loop-place-init : goal.loop-place-init
loop-place-init c = subst (AreSoFar c.args.names.now c.args.self.now.groups.now 0) (sym c.new-ids.ensures) (refl, All-nil (λ (id : RecId). id.0 ≤ 0))

pub push-requires : goal.push-requires
push-requires c = All-weaker (λ (id : RecId). id.0 ≤ c.loop-place.place) (λ (id : RecId). id.0 < c.loop-place.place + 1) (λ id le. omega (arith, le)) c.loop-place.ids c.loop-place.invariant.1

pub loop-place-preserved : goal.loop-place-preserved
loop-place-preserved c =
    let names = c.args.names.now in
    let groups = c.args.self.now.groups.now in
    let n = c.loop-place.place in
    let ids = c.loop-place.ids in
    let group = c.group-item.result in
    let all = group_ids groups names in
    let at : slice_get groups n ≡ Some group = stands-at groups n group c.loop-place-test.true c.group-item.is in
    let low : All (λ (id : RecId). id.0 ≤ n + 1) ids = All-weaker (λ (id : RecId). id.0 ≤ n) (λ (id : RecId). id.0 ≤ n + 1) (λ id le. omega (arith, le)) ids c.loop-place.invariant.1 in
    elim c.if-is_among.branch [
      | then-is_among+in_ok-push w ↦
          (let among : is_among names group ≡ true = ap (is_among names) (sym c.as_str.ensures) ∙ sym c.is_among.ensures ∙ w.if-is_among.true in
          subst (AreSoFar names groups (n + 1)) (sym (w.ids-is ∙ w.in_ok-push.ensures.ok))
          (ids-next-in names groups n group at ids all c.loop-place.invariant.0 among, All-push (λ (id : RecId). id.0 ≤ n + 1) ids (record { 0 = n + 1 }) low (omega arith)))
      | else-is_among w ↦
          (let absent : is_among names group ≡ false = ap (is_among names) (sym c.as_str.ensures) ∙ sym c.is_among.ensures ∙ w.if-is_among.false in
          subst (AreSoFar names groups (n + 1)) (sym w.ids-is) (ids-next-out names groups n group at ids all c.loop-place.invariant.0 absent, low))
    ]

pub returns : goal.returns
returns c = ids-end c.args.names.now c.args.self.now.groups.now c.loop-place.place c.loop-place.ids (group_ids c.args.self.now.groups.now c.args.names.now) c.loop-place-test.false c.loop-place.invariant.0
