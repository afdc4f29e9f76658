-- One id more.
use Rattle.std.proofs.Common.{◌⊎◌, ◌↔◌, inl, inr, List, [], subst}
use Rattle.std.specs.Prelude.{Contains}
use Rattle.std.proofs.lemmas.List.{take_all}
use Rattle.ob_base.specs.declared.id.RecId.{RecId}
use Rattle.ob_schema.proofs.CallerLemmas.{contains-none}
use Rattle.ob_trigger.proofs.Lists.{id-inserted, ids-more}
use Rattle.ob_trigger.proofs.walking.add_all.Goals as goal

none_more : (keys : List RecId) (id : RecId) → Contains keys id ⊎ Contains [] id → Contains keys id
none_more keys id (inl had) = had
none_more keys id (inr none) = absurd (contains-none id none)

pub loop-id-init : goal.loop-id-init
loop-id-init c = λ id. (λ had. inl had, none_more c.args.set.now.keys id)

pub loop-id-preserved : goal.loop-id-preserved
loop-id-preserved c = ids-more c.args.ids.now c.args.set.now.keys c.loop-id.set.keys c.insert.new.self.keys c.loop-id.id-index _ c.loop-id-test.true
    (id-inserted c.loop-id.set.keys c.insert.new.self.keys _ c.in_ok-insert.ensures.keys) c.loop-id.invariant

pub returns : goal.returns
returns c = λ id. subst (λ (l : List RecId). Contains c.loop-id.set.keys id ↔ (Contains c.args.set.now.keys id ⊎ Contains l id)) (take_all c.loop-id.id-index c.args.ids.now c.loop-id-test.false) (c.loop-id.invariant id)
