-- A term is one of those that are wanted, and wants its own.
use Rattle.std.proofs.Common.{◌≡◌, ℕ, ◌-◌, List, ◌+◌, ◌∷◌, [], drop, map, sym, ap, ◌∙◌, arith}
use Rattle.std.proofs.lemmas.Grind.{common_steps}
use Rattle.ob_domain.proofs.Counts.{are_enough, are_enough-item, are_enough-whole, few_taken, none_wanted}
use Rattle.ob_domain.proofs.Lists.{next-item}
use Rattle.ob_domain.specs.declared.term.Term.{Term}
use Rattle.ob_domain.specs.Reading.{taken_in}
use Rattle.ob_domain.specs.Trees.{item_of}
use Rattle.ob_domain.proofs.reading.are_whole.Goals as goal

pub loop-term-init : goal.loop-term-init
loop-term-init c = (are_enough-whole (map item_of c.args.terms.now), omega arith)

pub loop-term-preserved : goal.loop-term-preserved
loop-term-preserved c =
    let terms = c.args.terms.now in let n = c.loop-term.term-index in let term = c.term-item.result in
    let parts : drop n terms ≡ term ∷ drop (n + 1) terms = next-item terms n term c.loop-term-test.true c.term-item.is in
    let one = are_enough-item c.loop-term.wanted (item_of term) (map item_of (drop (n + 1) terms)) in
    let now : c.saturating_sub.result + c.taken_by.result ≡ (c.loop-term.wanted - 1) + taken_in (item_of term) = omega (arith, c.saturating_sub.ensures, c.taken_by.ensures) in
    let few = few_taken (item_of term) in (
      c.loop-term.invariant.0 ∙ ap (λ (ts : List Term). are_enough c.loop-term.wanted (map item_of ts)) parts ∙ one
          ∙ ap (λ (w : ℕ). are_enough w (map item_of (drop (n + 1) terms))) (sym now),
      omega (arith, now, few, c.loop-term.invariant.1),
    )

pub returns : goal.returns
returns c =
    let end : drop c.loop-term.term-index c.args.terms.now ≡ [] = grind (arith, common_steps) in
    sym (c.loop-term.invariant.0 ∙ ap (λ (ts : List Term). are_enough c.loop-term.wanted (map item_of ts)) end ∙ none_wanted c.loop-term.wanted)
