-- The part before the first run begins the text; without runs both are as long.
use Rattle.std.proofs.Common.{sym, ◌∙◌}
use Rattle.std.proofs.lemmas.Bool.{and_left, ne_eqb}
use Rattle.ob_domain.proofs.Matching.{first_behind, whole_other, whole_same}
use Rattle.ob_domain.proofs.pattern.matches.Goals as goal

pub returns-then-pattern-text : goal.returns-then-pattern-text
returns-then-pattern-text c =
    c.begins.ensures.value ∙ sym (whole_same c.args.pattern.now c.args.text.now (sym c.in-None.ensures.place) c.if-pattern-text.true)

pub returns-else-pattern-text : goal.returns-else-pattern-text
returns-else-pattern-text c =
    ne_eqb _ _ c.if-pattern-text.false ∙ sym (whole_other c.args.pattern.now c.args.text.now (sym c.in-None.ensures.place) c.if-pattern-text.false)

pub returns-then-begins : goal.returns-then-begins
returns-then-begins c = rw (← c.begins-in-Some.ensures.value, c.if-begins.true) c.matches_behind.ensures
    ∙ sym (first_behind c.args.pattern.now c.args.text.now c.in-Some.run' (sym c.in-Some.ensures.place))

pub returns-else-begins : goal.returns-else-begins
returns-else-begins c = (c.if-begins.false ∙ sym (and_left _ _ (sym c.begins-in-Some.ensures.value ∙ c.if-begins.false)))
    ∙ sym (first_behind c.args.pattern.now c.args.text.now c.in-Some.run' (sym c.in-Some.ensures.place))
