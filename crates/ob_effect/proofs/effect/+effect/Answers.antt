-- Each step goes on from what the steps before it did, or fails as one of them does.
use Rattle.std.proofs.Common.{◌≡◌, All, List, true, refl, sym, subst, ap, arith}
use Rattle.std.specs.Prelude.{Contains}
use Rattle.std.proofs.lemmas.List.Elements.{All-contains}
use Rattle.ob_base.specs.declared.id.ModelNo.{ModelNo}
use Rattle.ob_codec.specs.Held.{HasIdsAndObjects}
use Rattle.ob_effect.proofs.CallSteps.{Goes, edits_none, fails, forbidden, goes_asked, goes_kept, goes_none, goes_noted, goes_stepped, later, noted_later, starves, steps_last, stopped, takes_between, unasked}
use Rattle.ob_effect.proofs.CommandDepths.{command-next, held-next}
use Rattle.ob_effect.proofs.Deepest.{deepest_of-at}
use Rattle.ob_effect.proofs.GivenValues.{field_there, item_of, model_there}
use Rattle.ob_effect.proofs.Questions.{asks_edits, edits_then}
use Rattle.ob_effect.specs.Effect.{IsWriterOver}
use Rattle.ob_effect.specs.Lists.{IsListField, IsListOf}
use Rattle.ob_effect.specs.Objects.{AreTypedOrders, deepest, deepest_of}
use Rattle.ob_effect.specs.declared.effect.listed.Listed.{Listed}
use Rattle.ob_effect.specs.declared.object.Orders.{Orders}
use Rattle.ob_definition.specs.Types.{is_list}
use Rattle.ob_schema.specs.Fields.{is_plain_from}
use Rattle.ob_schema.specs.declared.info.ModelInfo.{ModelInfo}
use Rattle.ob_effect.proofs.effect.+effect.Goals as goal
use Rattle.ob_effect.proofs.effect.+effect.Goals.{carry_fixed-then-is_changed+in_ok-is_there+then-branch, carry_fixed-else-is_changed}
use Rattle.ob_effect.proofs.effect.+effect.Goals.{carry_fixed-else-is_changed-via-then-is_changed+in_ok-is_there+else-branch, carry_fixed-else-is_changed-via-else-is_changed}

-- commands on lists of a model are such on lists of the same one
orders_of_same : (models : List ModelInfo) (model same : ModelNo) (orders : List Orders) → same ≡ model → All (AreTypedOrders models model) orders → All (AreTypedOrders models same) orders
orders_of_same models model same orders is = subst (λ (m : ModelNo). All (AreTypedOrders models m) orders) (sym is)

-- ---- all lists of an object

pub carry_all-returns-in_err-lists : goal.carry_all-returns-in_err-lists
carry_all-returns-in_err-lists g t c =
    let k = g.K.Keeper in let by = c.args.writer.now.by in let a = c.args.engine.now in let b = c.lists_of.new.engine in let why = c.in_err-lists.field-0.0 in
    record {
      step = fails k by c.from_residual.result c.args.notes.now a b why c.from_residual.ensures.1
          (unasked k by a a b why (edits_none k a c.requires.usable) c.lists_of.ensures.asked c.in_err-lists.ensures.causes);
    }

pub carry_all-loop-one-init : goal.carry_all-loop-one-init
carry_all-loop-one-init g t c =
    let k = g.K.Keeper in let a = c.args.engine.now in let n = c.args.notes.now in
    goes_asked k a a c.lists_of.new.engine n (goes_none k a n c.requires.usable c.requires.noted) c.lists_of.ensures.asked

pub carry_all-carry_field-requires : goal.carry_all-carry_field-requires
carry_all-carry_field-requires g t c κs within =
    let k = g.K.Keeper in let a = c.args.engine.now in let b = c.loop-one.engine in let n = c.loop-one.notes in let far = c.loop-one.invariant in
    let shown = c.deref-one-items.result.now in let lists = c.in_ok-lists.lists.items in let all = c.args.object.now.orders.items in let one = c.one-item.result in
    let here = item_of (λ (l : Listed). IsListField a.held.models l.cell.model l.cell.field) lists shown c.deref-one-items.ensures.value c.in_ok-lists.ensures.lists c.loop-one.one-index one c.loop-one-test.true c.one-item.is in
    let given = item_of (λ (l : Listed). Contains c.as_slice.result.now l.orders.now) lists shown c.deref-one-items.ensures.value c.in_ok-lists.ensures.orders c.loop-one.one-index one c.loop-one-test.true c.one-item.is in
    let among = subst (λ (os : List Orders). Contains os one.orders.now) c.as_slice.ensures.value given in
    let typed = All-contains (AreTypedOrders a.held.models c.args.row.model) all one.orders.now c.requires.orders among in
    let deep = deepest_of-at all among.0 one.orders.now one.orders.now among.1 (sym among.2) in (
      omega (arith, deep),
      (
        within,
        (
          later k (λ (ms : List ModelInfo). IsWriterOver ms c.args.writer.now) a b n far c.requires.writer,
          (
            far.edits.usable,
            (noted_later k a b n far, (later k (λ (ms : List ModelInfo). IsListField ms one.cell.model one.cell.field) a b n far here, typed.1)),
          ),
        ),
      ),
    )

pub carry_all-returns-in_err-carry_field : goal.carry_all-returns-in_err-carry_field
carry_all-returns-in_err-carry_field g t c =
    let k = g.K.Keeper in let by = c.args.writer.now.by in let a = c.args.engine.now in let d = c.carry_field.new.engine in let why = c.in_err-carry_field.field-0.0 in
    let left = c.from_residual-in_err-carry_field in
    record { step = fails k by left.result c.carry_field.new.notes a d why left.ensures.1 (stopped k by a c.loop-one.engine d why c.loop-one.invariant.edits c.in_err-carry_field.ensures.step) }

pub carry_all-loop-one-preserved : goal.carry_all-loop-one-preserved
carry_all-loop-one-preserved g t c =
    goes_stepped g.K.Keeper c.args.engine.now c.loop-one.engine c.carry_field.new.engine c.loop-one.notes c.carry_field.new.notes c.loop-one.invariant c.in_ok-carry_field.ensures.step

-- ---- a command

pub carry_command-returns-in_err-names_rows : goal.carry_command-returns-in_err-names_rows
carry_command-returns-in_err-names_rows g t c =
    let k = g.K.Keeper in let by = c.args.writer.now.by in let a = c.args.engine.now in let b = c.names_rows.new.engine in let why = c.in_err-names_rows.field-0.0 in
    record {
      step = fails k by c.from_residual.result c.args.notes.now a b why c.from_residual.ensures.1
          (unasked k by a a b why (edits_none k a c.requires.usable) c.names_rows.ensures.asked c.in_err-names_rows.ensures.causes);
    }

pub carry_command-returns-then-not-branch : goal.carry_command-returns-then-not-branch
carry_command-returns-then-not-branch g t c =
    let k = g.K.Keeper in let a = c.args.engine.now in let b = c.names_rows.new.engine in let n = c.args.notes.now in let m = c.breaks.new.self in let models = a.held.models in
    let there = field_there models c.args.list.cell.model c.args.list.cell.field (λ info. (is_plain_from info.origin ≡ true) × (is_list info.field_type ≡ true)) c.requires.list.field in
    let asked = goes_asked k a a b n (goes_none k a n c.requires.usable c.requires.noted) c.names_rows.ensures.asked in
    let far = goes_kept k a b n m models refl asked (c.breaks.ensures models there) in
    record { step = (far.edits, far.noted) }

pub carry_command-returns-in-Create : goal.carry_command-returns-in-Create
carry_command-returns-in-Create g t c =
    let k = g.K.Keeper in let a = c.args.engine.now in let b = c.names_rows.new.engine in let n = c.args.notes.now in
    let far = goes_asked k a a b n (goes_none k a n c.requires.usable c.requires.noted) c.names_rows.ensures.asked in
    record { step = steps_last k c.args.writer.now.by c.create_in.result n c.create_in.new.notes a b c.create_in.new.engine far c.create_in.ensures.step }

pub carry_command-returns-in-Update : goal.carry_command-returns-in-Update
carry_command-returns-in-Update g t c =
    let k = g.K.Keeper in let a = c.args.engine.now in let b = c.names_rows.new.engine in let n = c.args.notes.now in
    let far = goes_asked k a a b n (goes_none k a n c.requires.usable c.requires.noted) c.names_rows.ensures.asked in
    record { step = steps_last k c.args.writer.now.by c.update_in.result n c.update_in.new.notes a b c.update_in.new.engine far c.update_in.ensures.step }

pub carry_command-returns-in-Delete : goal.carry_command-returns-in-Delete
carry_command-returns-in-Delete g t c =
    let k = g.K.Keeper in let a = c.args.engine.now in let b = c.names_rows.new.engine in let n = c.args.notes.now in
    let far = goes_asked k a a b n (goes_none k a n c.requires.usable c.requires.noted) c.names_rows.ensures.asked in
    record { step = steps_last k c.args.writer.now.by c.delete.result n c.delete.new.notes a b c.delete.new.engine far c.delete.ensures.step }

pub carry_command-returns-in-Unlink : goal.carry_command-returns-in-Unlink
carry_command-returns-in-Unlink g t c =
    let k = g.K.Keeper in let a = c.args.engine.now in let b = c.names_rows.new.engine in let n = c.args.notes.now in
    let far = goes_asked k a a b n (goes_none k a n c.requires.usable c.requires.noted) c.names_rows.ensures.asked in
    record { step = steps_last k c.args.writer.now.by c.unlink.result n c.unlink.new.notes a b c.unlink.new.engine far c.unlink.ensures.step }

pub carry_command-returns-in-Link : goal.carry_command-returns-in-Link
carry_command-returns-in-Link g t c =
    let k = g.K.Keeper in let a = c.args.engine.now in let b = c.names_rows.new.engine in let n = c.args.notes.now in
    let far = goes_asked k a a b n (goes_none k a n c.requires.usable c.requires.noted) c.names_rows.ensures.asked in
    record { step = steps_last k c.args.writer.now.by c.link.result n c.link.new.notes a b c.link.new.engine far c.link.ensures.step }

pub carry_command-returns-in-Clear : goal.carry_command-returns-in-Clear
carry_command-returns-in-Clear g t c =
    let k = g.K.Keeper in let a = c.args.engine.now in let b = c.names_rows.new.engine in let n = c.args.notes.now in
    let far = goes_asked k a a b n (goes_none k a n c.requires.usable c.requires.noted) c.names_rows.ensures.asked in
    record { step = steps_last k c.args.writer.now.by c.clear.result n c.clear.new.notes a b c.clear.new.engine far c.clear.ensures.step }

pub carry_command-returns-in-Set : goal.carry_command-returns-in-Set
carry_command-returns-in-Set g t c =
    let k = g.K.Keeper in let a = c.args.engine.now in let b = c.names_rows.new.engine in let n = c.args.notes.now in
    let far = goes_asked k a a b n (goes_none k a n c.requires.usable c.requires.noted) c.names_rows.ensures.asked in
    record { step = steps_last k c.args.writer.now.by c.set.result n c.set.new.notes a b c.set.new.engine far c.set.ensures.step }

-- ---- a list of a row

pub carry_field-is_gone-requires-clause-model : goal.carry_field-is_gone-requires-clause-model
carry_field-is_gone-requires-clause-model g t c =
    let models = c.args.engine.now.held.models in let cell = c.args.one.cell in
    model_there models cell.model cell.field (field_there models cell.model cell.field (λ info. (is_plain_from info.origin ≡ true) × (is_list info.field_type ≡ true)) c.requires.list)

pub carry_field-returns-in_err-is_gone : goal.carry_field-returns-in_err-is_gone
carry_field-returns-in_err-is_gone g t c =
    let k = g.K.Keeper in let by = c.args.writer.now.by in let a = c.args.engine.now in let b = c.is_gone.new.engine in let why = c.in_err-is_gone.field-0.0 in
    record {
      step = fails k by c.from_residual.result c.note_given.new.notes a b why c.from_residual.ensures.1
          (unasked k by a a b why (edits_none k a c.requires.usable) c.is_gone.ensures.asked c.in_err-is_gone.ensures.causes);
    }

pub carry_field-returns-then-branch : goal.carry_field-returns-then-branch
carry_field-returns-then-branch g t c =
    let k = g.K.Keeper in let a = c.args.engine.now in let b = c.is_gone.new.engine in let n = c.args.notes.now in let m = c.note_given.new.notes in
    let noted = goes_kept k a a n m c.args.writer.now.schema.now c.requires.writer.schema (goes_none k a n c.requires.usable c.requires.noted) c.note_given.ensures.noted in
    let far = goes_asked k a a b m noted c.is_gone.ensures.asked in
    record { step = (far.edits, far.noted) }

pub carry_field-carry_fixed-requires : goal.carry_field-carry_fixed-requires
carry_field-carry_fixed-requires g t c κs within =
    let k = g.K.Keeper in let a = c.args.engine.now in let b = c.is_gone.new.engine in let n = c.args.notes.now in let m = c.note_given.new.notes in
    let models = c.args.writer.now.schema.now in let shown = c.as_slice-commands.result.now in let all = c.args.one.orders.now.commands in
    let noted = goes_kept k a a n m models c.requires.writer.schema (goes_none k a n c.requires.usable c.requires.noted) c.note_given.ensures.noted in
    let far = goes_asked k a a b m noted c.is_gone.ensures.asked in
    let list = subst (λ (ms : List ModelInfo). IsListOf ms c.list_of-list.result) c.requires.writer.schema c.list_of-list.ensures.list in
    let same : deepest shown ≡ deepest all = ap deepest c.as_slice-commands.ensures in (
      omega (arith, same),
      (
        within,
        (
          later k (λ (ms : List ModelInfo). IsWriterOver ms c.args.writer.now) a b m far c.requires.writer,
          (
            far.edits.usable,
            (
              noted_later k a b m far,
              (
                later k (λ (ms : List ModelInfo). IsListOf ms c.list_of-list.result) a b m far list,
                subst (All HasIdsAndObjects) (sym c.as_slice-commands.ensures) c.requires.commands,
              ),
            ),
          ),
        ),
      ),
    )

pub carry_field-carry_list-requires : goal.carry_field-carry_list-requires
carry_field-carry_list-requires g t c κs within =
    let k = g.K.Keeper in let a = c.args.engine.now in let b = c.is_gone.new.engine in let n = c.args.notes.now in let m = c.note_given.new.notes in
    let models = c.args.writer.now.schema.now in let shown = c.as_slice-commands.result.now in let all = c.args.one.orders.now.commands in
    let noted = goes_kept k a a n m models c.requires.writer.schema (goes_none k a n c.requires.usable c.requires.noted) c.note_given.ensures.noted in
    let far = goes_asked k a a b m noted c.is_gone.ensures.asked in
    let list = subst (λ (ms : List ModelInfo). IsListOf ms c.list_of-list.result) c.requires.writer.schema c.list_of-list.ensures.list in
    let same : deepest shown ≡ deepest all = ap deepest c.as_slice-commands.ensures in (
      omega (arith, same),
      (
        within,
        (
          later k (λ (ms : List ModelInfo). IsWriterOver ms c.args.writer.now) a b m far c.requires.writer,
          (
            far.edits.usable,
            (
              noted_later k a b m far,
              (
                later k (λ (ms : List ModelInfo). IsListOf ms c.list_of-list.result) a b m far list,
                subst (All HasIdsAndObjects) (sym c.as_slice-commands.ensures) c.requires.commands,
              ),
            ),
          ),
        ),
      ),
    )

pub carry_field-returns-then-is_kept_fixed : goal.carry_field-returns-then-is_kept_fixed
carry_field-returns-then-is_kept_fixed g t c =
    let k = g.K.Keeper in let a = c.args.engine.now in let b = c.is_gone.new.engine in let n = c.args.notes.now in let m = c.note_given.new.notes in
    let noted = goes_kept k a a n m c.args.writer.now.schema.now c.requires.writer.schema (goes_none k a n c.requires.usable c.requires.noted) c.note_given.ensures.noted in
    let far = goes_asked k a a b m noted c.is_gone.ensures.asked in
    record { step = steps_last k c.args.writer.now.by c.carry_fixed.result m c.carry_fixed.new.notes a b c.carry_fixed.new.engine far c.carry_fixed.ensures.step }

pub carry_field-returns-else-is_kept_fixed : goal.carry_field-returns-else-is_kept_fixed
carry_field-returns-else-is_kept_fixed g t c =
    let k = g.K.Keeper in let a = c.args.engine.now in let b = c.is_gone.new.engine in let n = c.args.notes.now in let m = c.note_given.new.notes in
    let noted = goes_kept k a a n m c.args.writer.now.schema.now c.requires.writer.schema (goes_none k a n c.requires.usable c.requires.noted) c.note_given.ensures.noted in
    let far = goes_asked k a a b m noted c.is_gone.ensures.asked in
    record { step = steps_last k c.args.writer.now.by c.carry_list.result m c.carry_list.new.notes a b c.carry_list.new.engine far c.carry_list.ensures.step }

-- ---- a fixed list

pub carry_fixed-returns-in_err-before : goal.carry_fixed-returns-in_err-before
carry_fixed-returns-in_err-before g t c =
    let k = g.K.Keeper in let by = c.args.writer.now.by in let a = c.args.engine.now in let b = c.ids_in.new.engine in let why = c.in_err-before.field-0.0 in
    record {
      step = fails k by c.from_residual.result c.args.notes.now a b why c.from_residual.ensures.1
          (unasked k by a a b why (edits_none k a c.requires.usable) c.ids_in.ensures.asked c.in_err-before.ensures.causes);
    }

pub carry_fixed-returns-in_err-carry_list : goal.carry_fixed-returns-in_err-carry_list
carry_fixed-returns-in_err-carry_list g t c =
    let k = g.K.Keeper in let by = c.args.writer.now.by in let a = c.args.engine.now in let b = c.ids_in.new.engine in let d = c.carry_list.new.engine in let why = c.in_err-carry_list.field-0.0 in
    let left = c.from_residual-in_err-carry_list in
    record { step = fails k by left.result c.carry_list.new.notes a d why left.ensures.1 (stopped k by a b d why (asks_edits k a b c.requires.usable c.ids_in.ensures.asked) c.in_err-carry_list.ensures.step) }

pub carry_fixed-returns-in_err-after : goal.carry_fixed-returns-in_err-after
carry_fixed-returns-in_err-after g t c =
    let k = g.K.Keeper in let by = c.args.writer.now.by in let a = c.args.engine.now in let b = c.ids_in.new.engine in let d = c.carry_list.new.engine in let e = c.ids_in-2.new.engine in
    let n = c.args.notes.now in let m = c.carry_list.new.notes in let why = c.in_err-after.field-0.0 in let left = c.from_residual-in_err-after in
    let asked = goes_asked k a a b n (goes_none k a n c.requires.usable c.requires.noted) c.ids_in.ensures.asked in
    let far = goes_stepped k a b d n m asked c.in_ok-carry_list.ensures.step in
    record { step = fails k by left.result m a e why left.ensures.1 (unasked k by a d e why far.edits c.ids_in-2.ensures.asked c.in_err-after.ensures.causes) }

pub carry_fixed-returns-in_err-is_there : goal.carry_fixed-returns-in_err-is_there
carry_fixed-returns-in_err-is_there g t c =
    let k = g.K.Keeper in let by = c.args.writer.now.by in let a = c.args.engine.now in let b = c.ids_in.new.engine in let d = c.carry_list.new.engine in let e = c.ids_in-2.new.engine in let f = c.is_there.new.engine in
    let n = c.args.notes.now in let m = c.carry_list.new.notes in let why = c.in_err-is_there.field-0.0 in let left = c.from_residual-in_err-is_there in
    let asked = goes_asked k a a b n (goes_none k a n c.requires.usable c.requires.noted) c.ids_in.ensures.asked in
    let far = goes_asked k a d e m (goes_stepped k a b d n m asked c.in_ok-carry_list.ensures.step) c.ids_in-2.ensures.asked in
    record { step = fails k by left.result m a f why left.ensures.1 (unasked k by a e f why far.edits c.is_there.ensures.asked c.in_err-is_there.ensures.causes) }

pub carry_fixed-returns : goal.carry_fixed-returns
carry_fixed-returns g t c =
    let k = g.K.Keeper in let a = c.args.engine.now in let b = c.ids_in.new.engine in let d = c.carry_list.new.engine in let e = c.ids_in-2.new.engine in
    let n = c.args.notes.now in let m = c.carry_list.new.notes in let models = a.held.models in let cell = c.args.list.cell in
    let there = field_there models cell.model cell.field (λ info. (is_plain_from info.origin ≡ true) × (is_list info.field_type ≡ true)) c.requires.list.field in
    let asked = goes_asked k a a b n (goes_none k a n c.requires.usable c.requires.noted) c.ids_in.ensures.asked in
    let far = goes_asked k a d e m (goes_stepped k a b d n m asked c.in_ok-carry_list.ensures.step) c.ids_in-2.ensures.asked in
    let end : Goes k a c.if-is_changed.engine c.if-is_changed.notes = elim c.if-is_changed.branch [
      | carry_fixed-then-is_changed+in_ok-is_there+then-branch w ↦ rw (w.engine-is, w.notes-is)
          (goes_kept k a w.is_there.new.engine m w.breaks.new.self models refl (goes_asked k a e w.is_there.new.engine m far w.is_there.ensures.asked) (w.breaks.ensures models there))
      | carry_fixed-else-is_changed w ↦ rw (w.engine-is, w.notes-is) (elim w.else-is_changed.branch [
        | carry_fixed-else-is_changed-via-then-is_changed+in_ok-is_there+else-branch u ↦ rw u.engine-is (goes_asked k a e u.is_there.new.engine m far u.is_there.ensures.asked)
        | carry_fixed-else-is_changed-via-else-is_changed u ↦ rw u.engine-is far
      ])
    ] in
    record { step = (end.edits, end.noted) }

-- ---- commands on a list

pub carry_list-carry_command-requires : goal.carry_list-carry_command-requires
carry_list-carry_command-requires g t c κs within =
    let k = g.K.Keeper in let a = c.args.engine.now in let b = c.loop-command.engine in let n = c.loop-command.notes in let far = c.loop-command.invariant in
    let all = c.args.commands.now in let one = c.command-item.result in
    let held = held-next all all c.loop-command.command-index one refl c.loop-command-test.true c.command-item.is c.requires.commands in
    let deep = command-next all all c.loop-command.command-index one refl c.loop-command-test.true c.command-item.is in (
      omega (arith, deep),
      (
        within,
        (
          later k (λ (ms : List ModelInfo). IsWriterOver ms c.args.writer.now) a b n far c.requires.writer,
          (
            far.edits.usable,
            (noted_later k a b n far, (later k (λ (ms : List ModelInfo). IsListOf ms c.args.list) a b n far c.requires.list, held)),
          ),
        ),
      ),
    )

pub carry_list-returns-in_err-carry_command : goal.carry_list-returns-in_err-carry_command
carry_list-returns-in_err-carry_command g t c =
    let k = g.K.Keeper in let by = c.args.writer.now.by in let a = c.args.engine.now in let d = c.carry_command.new.engine in let why = c.in_err-carry_command.field-0.0 in
    record {
      step = fails k by c.from_residual.result c.carry_command.new.notes a d why c.from_residual.ensures.1
          (stopped k by a c.loop-command.engine d why c.loop-command.invariant.edits c.in_err-carry_command.ensures.step);
    }

pub carry_list-loop-command-preserved : goal.carry_list-loop-command-preserved
carry_list-loop-command-preserved g t c =
    goes_stepped g.K.Keeper c.args.engine.now c.loop-command.engine c.carry_command.new.engine c.loop-command.notes c.carry_command.new.notes c.loop-command.invariant c.in_ok-carry_command.ensures.step

-- ---- a row that is made in a list, or written there

pub create_in-returns-in_err-object : goal.create_in-returns-in_err-object
create_in-returns-in_err-object g t c =
    let k = g.K.Keeper in let a = c.args.engine.now in
    record { step = starves k c.args.writer.now.by c.from_residual.result c.args.notes.now a a c.from_residual.ensures.1 (edits_none k a c.requires.usable) }

pub create_in-returns : goal.create_in-returns
create_in-returns g t c =
    let k = g.K.Keeper in let a = c.args.engine.now in let b = c.create_row.new.engine in let n = c.create_row.new.notes in let first = c.in_ok-id.ensures.step in
    let far : Goes k a b n = record { edits = first.0; noted = first.1 } in
    record { step = steps_last k c.args.writer.now.by c.link.result n c.link.new.notes a b c.link.new.engine far c.link.ensures.step }

pub update_in-returns-in_err-object : goal.update_in-returns-in_err-object
update_in-returns-in_err-object g t c =
    let k = g.K.Keeper in let a = c.args.engine.now in
    record { step = starves k c.args.writer.now.by c.from_residual.result c.args.notes.now a a c.from_residual.ensures.1 (edits_none k a c.requires.usable) }

-- ---- a row that is made

pub create_row-returns-in_err-row-clause-step : goal.create_row-returns-in_err-row-clause-step
create_row-returns-in_err-row-clause-step g t c =
    let k = g.K.Keeper in let by = c.args.writer.now.by in let a = c.args.engine.now in let b = c.make_parents.new.engine in let d = c.make_row.new.engine in let why = c.in_err-row.field-0.0 in
    let left = c.from_residual-in_err-row in
    fails k by left.result c.make_row.new.notes a d why left.ensures.1 (stopped k by a b d why c.in_ok-links.ensures.step.0 c.in_err-row.ensures.step)

pub create_row-returns-in_err-change_parents-clause-step : goal.create_row-returns-in_err-change_parents-clause-step
create_row-returns-in_err-change_parents-clause-step g t c =
    let k = g.K.Keeper in let by = c.args.writer.now.by in let a = c.args.engine.now in let b = c.make_parents.new.engine in let d = c.make_row.new.engine in let e = c.change_parents.new.engine in
    let first = c.in_ok-links.ensures.step in let left = c.from_residual-in_err-change_parents in let why = c.in_err-change_parents.field-0.0 in
    let made : Goes k a b c.make_parents.new.notes = record { edits = first.0; noted = first.1 } in
    let far = goes_stepped k a b d c.make_parents.new.notes c.make_row.new.notes made c.in_ok-row.ensures.step in
    fails k by left.result c.change_parents.new.notes a e why left.ensures.1 (stopped k by a d e why far.edits c.in_err-change_parents.ensures.step)

pub create_row-carry_all-requires : goal.create_row-carry_all-requires
create_row-carry_all-requires g t c κs within =
    let k = g.K.Keeper in let a = c.args.engine.now in let b = c.make_parents.new.engine in let d = c.make_row.new.engine in let e = c.change_parents.new.engine in
    let l = c.make_parents.new.notes in let m = c.make_row.new.notes in let n = c.change_parents.new.notes in let first = c.in_ok-links.ensures.step in
    let made : Goes k a b l = record { edits = first.0; noted = first.1 } in
    let far = goes_stepped k a d e m n (goes_stepped k a b d l m made c.in_ok-row.ensures.step) c.in_ok-change_parents.ensures.step in
    let typed = later k (λ (ms : List ModelInfo). All (AreTypedOrders ms c.args.model) c.args.object.now.orders.items) a e n far c.requires.object.orders in (
      omega arith,
      (
        within,
        (
          later k (λ (ms : List ModelInfo). IsWriterOver ms c.args.writer.now) a e n far c.requires.writer,
          (
            far.edits.usable,
            (noted_later k a e n far, orders_of_same e.held.models c.args.model c.in_ok-row.row.model c.args.object.now.orders.items c.in_ok-row.ensures.row typed),
          ),
        ),
      ),
    )

pub create_row-returns-in_err-carry_all-clause-step : goal.create_row-returns-in_err-carry_all-clause-step
create_row-returns-in_err-carry_all-clause-step g t c =
    let k = g.K.Keeper in let by = c.args.writer.now.by in let a = c.args.engine.now in let b = c.make_parents.new.engine in let d = c.make_row.new.engine in let e = c.change_parents.new.engine in let f = c.carry_all.new.engine in
    let l = c.make_parents.new.notes in let m = c.make_row.new.notes in let n = c.change_parents.new.notes in let first = c.in_ok-links.ensures.step in
    let made : Goes k a b l = record { edits = first.0; noted = first.1 } in
    let far = goes_stepped k a d e m n (goes_stepped k a b d l m made c.in_ok-row.ensures.step) c.in_ok-change_parents.ensures.step in
    let left = c.from_residual-in_err-carry_all in let why = c.in_err-carry_all.field-0.0 in
    fails k by left.result c.carry_all.new.notes a f why left.ensures.1 (stopped k by a e f why far.edits c.in_err-carry_all.ensures.step)

pub create_row-returns-clause-step : goal.create_row-returns-clause-step
create_row-returns-clause-step g t c =
    let k = g.K.Keeper in let a = c.args.engine.now in let b = c.make_parents.new.engine in let d = c.make_row.new.engine in let e = c.change_parents.new.engine in let f = c.carry_all.new.engine in
    let l = c.make_parents.new.notes in let m = c.make_row.new.notes in let n = c.change_parents.new.notes in let o = c.carry_all.new.notes in let first = c.in_ok-links.ensures.step in
    let made : Goes k a b l = record { edits = first.0; noted = first.1 } in
    let far = goes_stepped k a d e m n (goes_stepped k a b d l m made c.in_ok-row.ensures.step) c.in_ok-change_parents.ensures.step in
    let all = goes_stepped k a e f n o far c.in_ok-carry_all.ensures.step in
    (all.edits, all.noted)

pub create_row-returns-clause-taken : goal.create_row-returns-clause-taken
create_row-returns-clause-taken g t c =
    let k = g.K.Keeper in let a = c.args.engine.now in let b = c.make_parents.new.engine in let d = c.make_row.new.engine in let e = c.change_parents.new.engine in let f = c.carry_all.new.engine in
    takes_between k c.args.model c.in_ok-row.row.id a b d f c.in_ok-links.ensures.step.0 c.in_ok-row.ensures.taken (edits_then k d e f c.in_ok-change_parents.ensures.step.0 c.in_ok-carry_all.ensures.step.0)

-- ---- a row that is written

pub write_row-returns-in_err-note_touch : goal.write_row-returns-in_err-note_touch
write_row-returns-in_err-note_touch g t c =
    let k = g.K.Keeper in let by = c.args.writer.now.by in let a = c.args.engine.now in let why = c.in_err-note_touch.field-0.0 in
    record { step = fails k by c.from_residual.result c.note_touch.new.notes a a why c.from_residual.ensures.1 (forbidden k by a a why (edits_none k a c.requires.usable) c.in_err-note_touch.ensures.causes) }

pub write_row-returns-in_err-own : goal.write_row-returns-in_err-own
write_row-returns-in_err-own g t c =
    let k = g.K.Keeper in let a = c.args.engine.now in let left = c.from_residual-in_err-own in
    record { step = starves k c.args.writer.now.by left.result c.note_touch.new.notes a a left.ensures.1 (edits_none k a c.requires.usable) }

pub write_row-set_values-requires-clause-noted : goal.write_row-set_values-requires-clause-noted
write_row-set_values-requires-clause-noted g t c =
    let k = g.K.Keeper in let a = c.args.engine.now in let n = c.args.notes.now in let m = c.note_touch.new.notes in
    (goes_noted k a a n m c.args.writer.now.schema.now c.requires.writer.schema (goes_none k a n c.requires.usable c.requires.noted) c.in_ok-note_touch.ensures.noted).noted

pub write_row-returns-in_err-change_parents : goal.write_row-returns-in_err-change_parents
write_row-returns-in_err-change_parents g t c =
    let k = g.K.Keeper in let by = c.args.writer.now.by in let a = c.args.engine.now in let b = c.set_values.new.engine in let d = c.change_parents.new.engine in let why = c.in_err-change_parents.field-0.0 in
    let left = c.from_residual-in_err-change_parents in
    record { step = fails k by left.result c.change_parents.new.notes a d why left.ensures.1 (stopped k by a b d why c.in_ok-set_values.ensures.step.0 c.in_err-change_parents.ensures.step) }

pub write_row-carry_all-requires : goal.write_row-carry_all-requires
write_row-carry_all-requires g t c κs within =
    let k = g.K.Keeper in let a = c.args.engine.now in let b = c.set_values.new.engine in let d = c.change_parents.new.engine in
    let m = c.set_values.new.notes in let n = c.change_parents.new.notes in let first = c.in_ok-set_values.ensures.step in
    let own : Goes k a b m = record { edits = first.0; noted = first.1 } in
    let far = goes_stepped k a b d m n own c.in_ok-change_parents.ensures.step in (
      omega arith,
      (
        within,
        (
          later k (λ (ms : List ModelInfo). IsWriterOver ms c.args.writer.now) a d n far c.requires.writer,
          (
            far.edits.usable,
            (noted_later k a d n far, later k (λ (ms : List ModelInfo). All (AreTypedOrders ms c.args.row.model) c.args.object.now.orders.items) a d n far c.requires.object.orders),
          ),
        ),
      ),
    )

pub write_row-returns : goal.write_row-returns
write_row-returns g t c =
    let k = g.K.Keeper in let a = c.args.engine.now in let b = c.set_values.new.engine in let d = c.change_parents.new.engine in
    let m = c.set_values.new.notes in let n = c.change_parents.new.notes in let first = c.in_ok-set_values.ensures.step in
    let own : Goes k a b m = record { edits = first.0; noted = first.1 } in
    let far = goes_stepped k a b d m n own c.in_ok-change_parents.ensures.step in
    record { step = steps_last k c.args.writer.now.by c.carry_all.result n c.carry_all.new.notes a d c.carry_all.new.engine far c.carry_all.ensures.step }
