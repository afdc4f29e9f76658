use Rattle.std.proofs.Common.{List, Option, option_map, sym, ap, subst, ◌∙◌}
use Rattle.ob_base.specs.declared.id.FieldNo.{FieldNo}
use Rattle.ob_schema.specs.Tables.{PlainRow}
use Rattle.ob_tables.specs.Digests.{GotDigests, HasAtMost, digested_at, has_digest, is_digested, shown_at, shown_found}
use Rattle.ob_tables.specs.Rooms.{shown_row}
use Rattle.ob_tables.proofs.DigestedRows.{shown-copied, turned-over}
use Rattle.ob_tables.proofs.digests.turned.Goals as goal

pub take_out-requires : goal.take_out-requires
take_out-requires c digest =
    let key = c.args.key in
    let sets = c.sets_of-sets.result.now in
    let rows = c.args.rows.now in
    ap (λ m. is_digested m (digested_at key digest)) c.in_ok-turned.ensures ∙ c.requires (digested_at key digest)
    ∙ ap (λ (s : List (List FieldNo)). has_digest s (shown_at rows key) digest) (sym c.sets_of-sets.ensures)
    ∙ ap (λ (r : Option PlainRow). has_digest sets r digest) (sym (shown-copied c.get-old.result ∙ ap (option_map shown_row) c.get-old.ensures.value))

pub returns : goal.returns
returns c =
    let key = c.args.key in
    let row = shown_found c.args.row in
    let mid = c.take_out.new.digests in
    let new = c.put_in.new.digests in
    turned-over c.args.schema.now c.args.rows.now key row c.args.digests.now mid new c.requires
    (subst (λ (s : List (List FieldNo)). HasAtMost s key row c.args.digests.now mid) c.sets_of-sets.ensures
    (subst (λ m. HasAtMost c.sets_of-sets.result.now key row m mid) c.in_ok-turned.ensures c.in_ok-take_out.ensures))
    (subst (λ (s : List (List FieldNo)). GotDigests key (has_digest s row) mid new) c.sets_of-sets.ensures c.in_ok-put_in.ensures)
