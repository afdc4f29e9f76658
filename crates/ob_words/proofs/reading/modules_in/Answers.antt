-- The values of an entry are those of its row.
use Rattle.std.proofs.Common.{codes, sym, ◌∙◌}
use Rattle.clap.specs.Matches.{found_of}
use Rattle.clap.specs.Walk.{rows_of}
use Rattle.clap.proofs.WalkLemmas.{raw_values-rows}
use Rattle.ob_words.proofs.Rows.{modules_named, modules_other, no_modules}
use Rattle.ob_words.proofs.reading.modules_in.Goals as goal

pub returns-in_ok-words_of-in-Some : goal.returns-in_ok-words_of-in-Some
returns-in_ok-words_of-in-Some c =
    modules_named (rows_of (found_of c.args.matches.now)) _ _ (c.in-Some.ensures ∙ raw_values-rows (found_of c.args.matches.now) (codes "load")) (sym c.are_modules.ensures ∙ c.if-are_modules.true) c.in_ok-words_of-in-Some.ensures

pub returns-in-Some-2 : goal.returns-in-Some-2
returns-in-Some-2 c =
    modules_other (rows_of (found_of c.args.matches.now)) _ (c.in-Some.ensures ∙ raw_values-rows (found_of c.args.matches.now) (codes "load")) (sym c.are_modules.ensures ∙ c.if-are_modules.false)

pub returns-in-None : goal.returns-in-None
returns-in-None c = no_modules (rows_of (found_of c.args.matches.now)) _ (c.in-None.ensures ∙ raw_values-rows (found_of c.args.matches.now) (codes "load")) c.new.ensures
