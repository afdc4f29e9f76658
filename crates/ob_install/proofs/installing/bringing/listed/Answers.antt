-- Id by id.
use Rattle.std.proofs.Common.{ℕ, ◌++◌, ◌∷◌, [], List, sym, ap, ◌∙◌, append_assoc}
use Rattle.std.proofs.lemmas.List.{append-nil, map_push}
use Rattle.ob_base.specs.declared.id.RecId.{RecId}
use Rattle.ob_install.proofs.BroughtIds.{ids-below, named, named-numbers, numbers}
use Rattle.ob_install.proofs.installing.bringing.listed.Goals as goal

pub loop-id-init : goal.loop-id-init
loop-id-init c = ap (λ (l : List RecId). numbers l ++ c.into_iter-id-iterator.result) c.new-list.ensures ∙ c.into_iter-id-iterator.ensures.into_iter_gives.0

pub push-requires : goal.push-requires
push-requires c =
    ids-below c.loop-id.list c.in-Some.id.now c.next.new.self c.args.found.now.keys
    (sym (ap (λ (l : List ℕ). numbers c.loop-id.list ++ l) c.in-Some.ensures.steps) ∙ c.loop-id.invariant) c.into_iter-id-iterator.ensures.into_iter_gives.4

pub loop-id-preserved : goal.loop-id-preserved
loop-id-preserved c =
    ap (λ (l : List RecId). numbers l ++ c.next.new.self) c.in_ok-push.ensures.ok
    ∙ ap (λ (l : List ℕ). l ++ c.next.new.self) (map_push (λ (id : RecId). id.0) c.loop-id.list (record { 0 = c.in-Some.id.now }))
    ∙ append_assoc (numbers c.loop-id.list) (c.in-Some.id.now ∷ []) c.next.new.self
    ∙ sym (ap (λ (l : List ℕ). numbers c.loop-id.list ++ l) c.in-Some.ensures.steps) ∙ c.loop-id.invariant

pub returns : goal.returns
returns c =
    sym (named-numbers c.loop-id.list) ∙ ap named (sym (append-nil (numbers c.loop-id.list)) ∙ sym (ap (λ (l : List ℕ). numbers c.loop-id.list ++ l) c.in-None.ensures.steps.0) ∙ c.loop-id.invariant)
