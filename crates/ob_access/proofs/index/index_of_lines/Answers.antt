-- One line more.
use Rattle.std.proofs.Common.{◌++◌, List, sym, ap, ◌∙◌, filter, map}
use Rattle.std.proofs.lemmas.List.{append-nil, drop_all}
use Rattle.ob_access.specs.Index.{asks_for, list_at}
use Rattle.ob_access.specs.declared.policy.AccessLine.{AccessLine}
use Rattle.ob_access.proofs.Indexing.{listed_turn}
use Rattle.ob_access.proofs.index.index_of_lines.Goals as goal

pub loop-line-preserved : goal.loop-line-preserved
loop-line-preserved c = λ model op.
    listed_turn (λ (line : AccessLine). line.group) (λ (line : AccessLine). asks_for model op line.model line.ops) c.args.lines.now c.loop-line.line-index _
    (list_at c.loop-line.index model op) (list_at c.add.new.index model op) c.loop-line-test.true (c.in_ok-add.ensures model op) ∙ c.loop-line.invariant model op

pub returns : goal.returns
returns c = λ model op.
    sym (append-nil (list_at c.loop-line.index model op))
    ∙ sym (ap (λ (rest : List AccessLine). list_at c.loop-line.index model op ++ map (λ (line : AccessLine). line.group) (filter (λ (line : AccessLine). asks_for model op line.model line.ops) rest))
    (drop_all c.loop-line.line-index c.args.lines.now c.loop-line-test.false)) ∙ c.loop-line.invariant model op
