-- The iterator gives the folded characters, one call after another.
use Rattle.std.proofs.Common.{chars}
use Rattle.std.proofs.lemmas.Iterator.{YieldsList-from_chars, items_from_collect}
use Rattle.std.specs.Str.Iter.{chars_steps}
use Rattle.caseless.specs.CaseFold.{CaseFoldSteps}
use Rattle.caseless.proofs.CaselessLemmas.{Spells-CaseFold}
use Rattle.ob_domain.proofs.pattern.folded_characters.Goals as goal

pub returns-in_ok-collect : goal.returns-in_ok-collect
returns-in_ok-collect c = rw (c.if-folds.true) (rw c.in_ok-collect.was at (items_from_collect {steps = CaseFoldSteps chars_steps} {s = c.default_case_fold.result} c.collect.result c.collect.ensures.ran
    (record {
      runs = Spells-CaseFold (c.default_case_fold.ensures.text (chars c.args.text.now)
          (YieldsList-from_chars c.args.text.now c.utf8.text c.chars.ensures.rest).runs);
    })))

pub returns-in_ok-collect-2 : goal.returns-in_ok-collect-2
returns-in_ok-collect-2 c = rw (c.if-folds.false) (rw c.in_ok-collect-2.was at (items_from_collect {steps = chars_steps} {s = c.chars-else-folds.result}
    c.collect-else-folds.result c.collect-else-folds.ensures.ran (YieldsList-from_chars c.args.text.now c.utf8.text c.chars-else-folds.ensures.rest)))
