use Rattle.std.proofs.Common.{ap, ◌∙◌, arith}
use Rattle.std.proofs.lemmas.Iterator.Consumers.{YieldsList-end}
use Rattle.std.proofs.lemmas.Iterator.Splits.{YieldsList-from_str_split}
use Rattle.std.specs.Str.Iter.{split_has_more, split_pattern, split_text}
use Rattle.ob_registry.specs.Telling.{texts_in}
use Rattle.ob_registry.proofs.formulas.split_path.Goals as goal

pub returns : goal.returns
returns c =
    let s = c.split-name-items.ensures in
    let g = c.into_iter-name-iterator.ensures.into_iter_gives in
    let t = YieldsList-end (YieldsList-from_str_split 46 c.args.path.now (omega arith) (ap split_text g ∙ s.text) (ap split_has_more g ∙ s.has_more) (ap split_pattern g ∙ s.pattern))
    c.loop-name.yielded _ c.loop-name.yielded_by _ _ c.in-None.is c.next.ensures.steps in
    ap texts_in c.loop-name.invariant ∙ t.0
