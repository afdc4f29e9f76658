use Rattle.std.proofs.Common.{arith}
use Rattle.ob_effect.proofs.CallerLemmas.{edits_none, edits_then, fails, Goes, goes_stepped, starves, stopped}
use Rattle.ob_commands.proofs.FoundLists.{placed-found}
use Rattle.ob_commands.proofs.TakenIds.{take-more, take-none}
use Rattle.ob_commands.proofs.creating.make_each.Goals as goal

pub loop-number-init : goal.loop-number-init
loop-number-init g c = record {
  edits = edits_none g.K.Keeper c.args.engine.now c.requires.usable;
  noted = c.requires.noted;
  taken = take-none g.K.Keeper c.args.call.now.model c.args.engine.now c.new-ids.result.items c.new-ids.ensures.items;
  each = c.new-ids.ensures.len;
  found = c.requires.found;
}

pub returns-in_err-id-clause-step : goal.returns-in_err-id-clause-step
returns-in_err-id-clause-step g c =
    let a = c.args.engine.now in
    let by = c.args.writer.now.by in
    let why = c.in_err-id.field-0.0 in
    fails g.K.Keeper by c.from_residual-in_err-id.result c.create_row.new.notes a c.create_row.new.engine why c.from_residual-in_err-id.ensures.1
    (stopped g.K.Keeper by a c.loop-number.engine c.create_row.new.engine why c.loop-number.invariant.edits c.in_err-id.ensures.step)

pub returns-in_err-push-clause-step : goal.returns-in_err-push-clause-step
returns-in_err-push-clause-step g c =
    let a = c.args.engine.now in
    let b = c.create_row.new.engine in
    starves g.K.Keeper c.args.writer.now.by c.from_residual-in_err-push.result c.create_row.new.notes a b c.from_residual-in_err-push.ensures.1
    (edits_then g.K.Keeper a c.loop-number.engine b c.loop-number.invariant.edits c.in_ok-id.ensures.step.0)

pub loop-number-preserved : goal.loop-number-preserved
loop-number-preserved g c =
    let a = c.args.engine.now in
    let mid = c.loop-number.engine in
    let b = c.create_row.new.engine in
    let so_far = c.loop-number.invariant in
    let far : Goes g.K.Keeper a mid c.loop-number.notes = record { edits = so_far.edits; noted = so_far.noted } in
    let now = goes_stepped g.K.Keeper a mid b c.loop-number.notes c.create_row.new.notes far c.in_ok-id.ensures.step in
    record {
      edits = now.edits;
      noted = now.noted;
      taken = take-more g.K.Keeper c.args.call.now.model a mid b c.loop-number.ids.items c.push.new.self.items c.in_ok-id.id c.in_ok-push.ensures.items so_far.taken c.in_ok-id.ensures.taken;
      each = let grown = c.in_ok-push.ensures.len in let counted = so_far.each in omega (arith, grown, counted);
      found = c.add_findings.ensures c.args.writer.now.by so_far.found
          (placed-found c.args.writer.now.by c.finder_of.result.by c.in_ok-own.own c.in_ok-in_item.field-0 c.finder_of.ensures.by c.in_ok-in_item.ensures c.in_ok-own.ensures.found);
    }
