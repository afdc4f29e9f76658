use Rattle.std.proofs.Common.{◌≡◌, ℕ, cond, Option, Some, sym, ap, subst, ◌∙◌}
use Rattle.std.specs.BTreeMap as tree
use Rattle.std.specs.Ordering.{eq_by_cmp}
use Rattle.ob_tables.specs.Digests.{GotDigests, digested_order, is_digest, is_digested}
use Rattle.ob_tables.specs.declared.digests.Digested.{Digested}
use Rattle.ob_tables.proofs.DigestedRows.{got-again, got-none, put-digest}
use Rattle.ob_tables.proofs.digests.put_digest.Goals as goal

pub returns-in_default : goal.returns-in_default
returns-in_default c = let held = c.args.digests.now in subst (λ (o : Option ℕ). GotDigests c.args.key (is_digest o) held held) (sym c.in_default.is) (got-none held c.args.key)

pub returns-then-contains_key : goal.returns-then-contains_key
returns-then-contains_key c =
    let key = c.args.key in
    let held = c.args.digests.now in
    let in_it = ap (λ (d : Digested). is_digested held d) (sym c.digested_at-entry.ensures) ∙ sym c.contains_key.ensures ∙ c.if-contains_key.true in
    subst (λ (o : Option ℕ). GotDigests key (is_digest o) held held) (sym c.in-Some.is) (got-again held key c.in-Some.digest in_it)

pub returns : goal.returns
returns c =
    let key = c.args.key in
    let old = c.args.digests.now in
    let new = c.insert.new.self in
    let set = subst (λ (k : Digested). (q : Digested) → tree.get digested_order new q ≡ cond (eq_by_cmp digested_order k q) (Some tt) (tree.get digested_order old q)) c.digested_at-entry.ensures c.in_ok-insert.ensures.updates.0 in
    subst (λ (o : Option ℕ). GotDigests key (is_digest o) old new) (sym c.in-Some.is) (put-digest old new key c.in-Some.digest tt set)
