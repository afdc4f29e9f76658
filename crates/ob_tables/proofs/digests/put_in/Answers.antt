use Rattle.std.proofs.Common.{Option, ℕ, ap, subst, ◌∙◌}
use Rattle.ob_tables.specs.Digests.{GotDigests, digest_of, is_digest, shown_found}
use Rattle.ob_tables.proofs.DigestedRows.{putting-begins, putting-ends, putting-more}
use Rattle.ob_tables.proofs.digests.put_in.Goals as goal

pub loop-set-init : goal.loop-set-init
loop-set-init c = putting-begins c.args.sets.now c.args.key c.args.digests.now (shown_found c.args.row)

pub loop-set-preserved : goal.loop-set-preserved
loop-set-preserved c =
    let row = shown_found c.args.row in
    let set = c.set-item.result in
    let now = c.loop-set.digests in
    let next = c.put_digest.new.digests in
    putting-more c.args.sets.now c.args.key c.args.digests.now row now next c.loop-set.set-index set set c.loop-set-test.true c.set-item.is c.loop-set.invariant
    (subst (λ (o : Option ℕ). GotDigests c.args.key (is_digest o) now next) (c.digest_of.ensures ∙ ap (digest_of row) c.as_slice.ensures) c.in_ok-put_digest.ensures)

pub returns : goal.returns
returns c = putting-ends c.args.sets.now c.args.key c.args.digests.now (shown_found c.args.row) c.loop-set.digests c.loop-set.set-index c.loop-set-test.false c.loop-set.invariant
