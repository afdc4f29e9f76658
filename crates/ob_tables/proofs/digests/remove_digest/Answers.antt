use Rattle.std.proofs.Common.{◌≡◌, ◌&&◌, ℕ, not, cond, Option, None, refl, sym, ap, subst, ◌∙◌}
use Rattle.std.specs.BTreeMap as tree
use Rattle.std.specs.Ordering.{eq_by_cmp}
use Rattle.ob_tables.specs.Digests.{digested_at, digested_order, is_digest, is_digested}
use Rattle.ob_tables.specs.declared.digests.Digested.{Digested}
use Rattle.ob_tables.proofs.DigestedRows.{none-taken, taken-elsewhere, taken-here}
use Rattle.ob_tables.proofs.digests.remove_digest.Goals as goal

pub returns-in_default-clause-here : goal.returns-in_default-clause-here
returns-in_default-clause-here c other =
    let b = is_digested c.args.digests.now (digested_at c.args.key other) in none-taken b ∙ ap (λ (o : Option ℕ). b && not (is_digest o other)) (sym c.in_default.is)

pub returns-in_default-clause-elsewhere : goal.returns-in_default-clause-elsewhere
returns-in_default-clause-elsewhere c d other = refl

pub returns-clause-here : goal.returns-clause-here
returns-clause-here c other =
    let key = c.args.key in
    let old = c.args.digests.now in
    let new = c.remove.new.self in
    let set = subst (λ (k : Digested). (q : Digested) → tree.get digested_order new q ≡ cond (eq_by_cmp digested_order k q) None (tree.get digested_order old q)) c.digested_at.ensures c.in_ok-remove.ensures.updates.0 in
    taken-here old new key c.in-Some.digest set other ∙ ap (λ (o : Option ℕ). is_digested old (digested_at key other) && not (is_digest o other)) (sym c.in-Some.is)

pub returns-clause-elsewhere : goal.returns-clause-elsewhere
returns-clause-elsewhere c =
    let old = c.args.digests.now in
    let new = c.remove.new.self in
    let set = subst (λ (k : Digested). (q : Digested) → tree.get digested_order new q ≡ cond (eq_by_cmp digested_order k q) None (tree.get digested_order old q)) c.digested_at.ensures c.in_ok-remove.ensures.updates.0 in
    taken-elsewhere old new c.args.key c.in-Some.digest set
