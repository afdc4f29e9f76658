-- The parents, the row, and what it changes of other parents.
use Rattle.std.proofs.Common.{◌≡◌, ◌+◌, ℕ, suc, List, length, subst, sym, arith}
use Rattle.ob_cache.proofs.CallerLemmas.{stays-then}
use Rattle.ob_orm.specs.NewRows.{parents_of}
use Rattle.ob_stage.proofs.TakenIds.{changes-up_to, next_ids-more, up_to-none, up_to-then}
use Rattle.ob_stage.proofs.creating.make_row.Goals as goal
use Rattle.ob_stage.specs.StageSteps.{MakesUpTo}
use Rattle.ob_tables.specs.declared.edit.Edit.{Edit}

pub begin_row-requires-clause-room : goal.begin_row-requires-clause-room
begin_row-requires-clause-room g c =
    let room = c.requires.room in let high = room.high in
    record { bound = room.bound; low = room.low; high = omega (arith, high); next_ids = room.next_ids; made = room.made }

pub make_one-requires-clause-room : goal.make_one-requires-clause-room
make_one-requires-clause-room g c =
    let n = length (parents_of c.args.maker.now.schema.now c.args.model) in
    let room = c.requires.room in let low = room.low in let high = room.high in
    record {
      bound = room.bound + n;
      low = omega (arith, low);
      high = omega (arith, high);
      next_ids = next_ids-more room.bound (room.bound + n) (omega arith) c.begin_row.new.engine.held (c.begin_row.ensures.same.next_ids room.bound room.low room.next_ids);
      made = c.in_ok-edits.ensures.next_ids room.bound room.low room.next_ids;
    }

pub returns-in_err-id-clause-same : goal.returns-in_err-id-clause-same
returns-in_err-id-clause-same g c = stays-then _ _ _ _ _ _ c.begin_row.ensures.same c.make_one.ensures.same

pub returns-in_err-changes-clause-same : goal.returns-in_err-changes-clause-same
returns-in_err-changes-clause-same g c = stays-then _ _ _ _ _ _ c.begin_row.ensures.same c.make_one.ensures.same

pub returns-in-Ok-clause-same : goal.returns-in-Ok-clause-same
returns-in-Ok-clause-same g c = stays-then _ _ _ _ _ _ c.begin_row.ensures.same c.make_one.ensures.same

pub returns-in-Err-clause-same : goal.returns-in-Err-clause-same
returns-in-Err-clause-same g c = stays-then _ _ _ _ _ _ c.begin_row.ensures.same c.make_one.ensures.same

pub returns-in-Ok-clause-next_ids : goal.returns-in-Ok-clause-next_ids
returns-in-Ok-clause-next_ids g c = λ bound low next_ids.
    let models = c.args.maker.now.schema.now in let by = c.args.maker.now.author in let model = c.args.model in
    let n = length (parents_of models model) in
    let begun : MakesUpTo (bound + n) c.in_ok-edits.field-0.edits.items = c.in_ok-edits.ensures.next_ids bound low next_ids in
    let one = c.in_ok-id.ensures.next_ids bound (bound + n) low (omega arith) (c.begin_row.ensures.same.next_ids bound low next_ids) begun in
    let changes : MakesUpTo (bound + n + 1) c.in_ok-changes.changes.items = rw c.in_ok-changes.ensures.edits (changes-up_to models by model c.args.values.now (bound + n + 1) (parents_of models model)) in
    let all : MakesUpTo (bound + n + 1) c.append.new.self.items = rw c.in-Ok.ensures.items (up_to-then (bound + n + 1) c.make_one.new.edits.items c.in_ok-changes.changes.items one changes) in
    let sum : bound + n + 1 ≡ bound + suc n = omega arith in subst (λ (k : ℕ). MakesUpTo k c.append.new.self.items) sum all

pub returns-in-Ok-clause-alone : goal.returns-in-Ok-clause-alone
returns-in-Ok-clause-alone g c = λ linked_all bound low.
    let models = c.args.maker.now.schema.now in let by = c.args.maker.now.author in let model = c.args.model in
    let begun : MakesUpTo bound c.in_ok-edits.field-0.edits.items = subst (λ (es : List Edit). MakesUpTo bound es) (sym (c.in_ok-edits.ensures.alone linked_all)) (up_to-none bound) in
    let one = c.in_ok-id.ensures.own bound low begun in
    let changes : MakesUpTo bound c.in_ok-changes.changes.items = rw c.in_ok-changes.ensures.edits (changes-up_to models by model c.args.values.now bound (parents_of models model)) in
    rw c.in-Ok.ensures.items (up_to-then bound c.make_one.new.edits.items c.in_ok-changes.changes.items one changes)
