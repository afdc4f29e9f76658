-- One edit more.
use Rattle.std.proofs.Common.{◌≡◌, ◌+◌, ◌∷◌, [], ◌++◌, ◌≤◌, List, ap, subst, sym, take, ◌∙◌, arith}
use Rattle.std.proofs.lemmas.List.{take_all, take_more}
use Rattle.ob_rows.proofs.CallerLemmas.{after-then}
use Rattle.ob_stage.proofs.TakenIds.{makes-fit}
use Rattle.ob_stage.proofs.next_ids.next_id.Goals as goal
use Rattle.ob_schema.specs.Tables.{Tables, next_of}
use Rattle.ob_tables.specs.After.{after}
use Rattle.ob_tables.specs.Changes.{MakesBelow}
use Rattle.ob_tables.specs.declared.edit.Edit.{Edit}

pub next_behind-next-requires : goal.next_behind-next-requires
next_behind-next-requires g c =
    let fits = c.requires.fit c.loop-edit.edit-index c.edit-item.result c.loop-edit-test.true in
    makes-fit c.args.engine.now.held.models c.edit-item.result (rw (← c.edit-item.is) at fits)

pub loop-edit-preserved : goal.loop-edit-preserved
loop-edit-preserved g c =
    let models = c.args.engine.now.held.models in
    let edits = c.args.edits.now in
    let i = c.loop-edit.edit-index in
    let one = c.edit-item.result in
    let more : take (i + 1) edits ≡ take i edits ++ one ∷ [] = take_more edits i one c.loop-edit-test.true ∙ ap (λ (e : Edit). take i edits ++ e ∷ []) (sym c.edit-item.is) in
    record {
      next = λ at is.
          c.next_behind-next.ensures.next models (after models at.staged (take i edits)) c.requires.model (c.loop-edit.invariant.next at is)
          ∙ sym (ap (λ (es : List Edit). next_of (after models at.staged es) c.args.model) more ∙ ap (λ (t : Tables). next_of t c.args.model) (after-then models at.staged (take i edits) (one ∷ [])));
      bound = λ told bound low up next_ids below.
          c.next_behind-next.ensures.bound bound (c.loop-edit.invariant.bound told bound low up next_ids below) (subst (MakesBelow c.args.model bound) (sym c.edit-item.is) (below i one c.loop-edit-test.true));
    }

pub returns-clause-next : goal.returns-clause-next
returns-clause-next g c = λ at is.
    c.loop-edit.invariant.next at is
    ∙ ap (λ (es : List Edit). next_of (after c.args.engine.now.held.models at.staged es) c.args.model) (take_all c.loop-edit.edit-index c.args.edits.now c.loop-edit-test.false)

pub returns-clause-low : goal.returns-clause-low
returns-clause-low g c =
    let room = c.requires.room in
    let within : c.loop-edit.next ≤ room.bound = c.loop-edit.invariant.bound room.bound room.bound room.low (omega arith) room.next_ids (room.made c.args.model) in
    let high = room.high in omega (arith, within, high)
