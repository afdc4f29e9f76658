-- A tree behind links stands alone in its term.
use Rattle.std.proofs.Common.{◌≡◌, ◌≢◌, List, [], ◌∷◌, ap, sym, ◌∙◌, arith}
use Rattle.std.proofs.lemmas.Grind.{common_steps}
use Rattle.ob_domain.proofs.Rows.{any-item, behind-some, one_tree}
use Rattle.ob_domain.specs.Trees.{Tree, any, leaf}
use Rattle.ob_domain.specs.declared.operator.Sense.TheVariants.{Positive}
use Rattle.ob_expr.specs.declared.typed.Link.{Link}
use Rattle.ob_domain.proofs.reading.behind.Goals as goal

pub returns : goal.returns
returns c = λ tree is.
    let alone : c.push.new.self.items ≡ c.args.term ∷ [] = grind (arith, common_steps) in
    let inner = one_tree c.push.new.self.items c.args.term tree alone is in
    let links : c.into_vec.result.items ≡ c.args.links = c.into_vec.ensures in
    let some : c.args.links ≢ [] = λ none. (let yes = c.is_empty.ensures.1 none in cc) in
    any-item Positive c.into_vec.result c.push.new.self ∙ ap (λ (t : Tree). leaf (any c.into_vec.result.items t)) inner
    ∙ ap (λ (ls : List Link). leaf (any ls tree)) links ∙ ap leaf (sym (behind-some c.args.links tree some))
