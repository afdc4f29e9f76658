-- Number by number.
use Rattle.std.proofs.Common.{ℕ, ◌++◌, ◌∷◌, [], List, sym, ap, ◌∙◌, append_assoc}
use Rattle.std.proofs.lemmas.List.{append-nil}
use Rattle.ob_load.proofs.values.listed.Goals as goal

pub loop-row-init : goal.loop-row-init
loop-row-init c = ap (λ (l : List ℕ). l ++ c.into_iter-row-iterator.result) c.new-list.ensures ∙ c.into_iter-row-iterator.ensures.into_iter_gives.0

pub loop-row-preserved : goal.loop-row-preserved
loop-row-preserved c =
    ap (λ (l : List ℕ). l ++ c.next.new.self) c.in_ok-push.ensures.ok ∙ append_assoc c.loop-row.list (c.in-Some.row.now ∷ []) c.next.new.self
    ∙ sym (ap (λ (l : List ℕ). c.loop-row.list ++ l) c.in-Some.ensures.steps) ∙ c.loop-row.invariant

pub returns : goal.returns
returns c = sym (append-nil c.loop-row.list) ∙ sym (ap (λ (l : List ℕ). c.loop-row.list ++ l) c.in-None.ensures.steps.0) ∙ c.loop-row.invariant
