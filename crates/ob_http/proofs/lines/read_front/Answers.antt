-- What is held grows until it shows a head, is full, or the connection ends.
use Rattle.std.proofs.Common.{◌++◌, [], ◌∙◌, refl, sym, ap, subst, arith, length, Err}
use Rattle.std.proofs.lemmas.List.{append-nil}
use Rattle.std.proofs.lemmas.Result.{err_from_is_err_and}
use Rattle.ob_http.specs.SoFar.{IsSoFar}
use Rattle.ob_http.proofs.SoFarLaws.{so_far_none, so_far_longer}
use Rattle.ob_http.proofs.ReadingOn.{sent_nothing, reads_both}
use Rattle.ob_http.proofs.FrontLaws.{searched_held, room_left, same_bytes, bytes_joined, front_ends, front_stops}
use Rattle.ob_http.proofs.lines.read_front.Goals as goal

pub loop-head-init : goal.loop-head-init
loop-head-init g c = record {
  part = [];
  reads = λ fits. record { sent = sent_nothing _ _ refl refl fits; written = refl };
  bytes = sym (append-nil c.args.held.now.bytes);
  lines = so_far_none c.args.held.now.bytes;
  faults = omega arith;
  coming = refl;
  next_faults = refl;
}

pub returns-in_err-fill-clause-reads : goal.returns-in_err-fill-clause-reads
returns-in_err-fill-clause-reads g c =
    let i = c.loop-head.invariant in
    let found = searched_held c.bytes.ensures.value (c.in_default.ensures.more refl) in
    let p = err_from_is_err_and c.from_residual.result c.from_residual.ensures.1 in
    front_stops c.in_err-fill.field-0.0 c.from_residual.result (i.reads c.bytes.ensures.counted) i.bytes found.2 (room_left c.is_full.ensures c.if-is_full.false) c.in_err-fill.ensures.fills (p.1 ∙ ap Err p.2)

pub unfinished-requires-clause-so_far : goal.unfinished-requires-clause-so_far
unfinished-requires-clause-so_far g c =
    let found = searched_held c.bytes.ensures.value (c.in_default.ensures.more refl) in
    let same = c.bytes-then-not-branch.ensures.value ∙ same_bytes c.in_ok-fill.ensures.fills c.if-not-branch.true in
    subst (λ bytes. IsSoFar bytes c.take_all.new.self) (sym same) found.0

pub unfinished-requires-clause-all : goal.unfinished-requires-clause-all
unfinished-requires-clause-all g c =
    let found = searched_held c.bytes.ensures.value (c.in_default.ensures.more refl) in
    let same = c.bytes-then-not-branch.ensures.value ∙ same_bytes c.in_ok-fill.ensures.fills c.if-not-branch.true in
    omega (arith, found.1, ap length same)

pub returns-then-not-branch-clause-reads : goal.returns-then-not-branch-clause-reads
returns-then-not-branch-clause-reads g c =
    let i = c.loop-head.invariant in
    let found = searched_held c.bytes.ensures.value (c.in_default.ensures.more refl) in
    front_ends c.unfinished.result (i.reads c.bytes.ensures.counted) i.bytes found.2 (room_left c.is_full.ensures c.if-is_full.false) c.in_ok-fill.ensures.fills c.if-not-branch.true
    (rw c.bytes-then-not-branch.ensures.value at c.unfinished.ensures)

pub loop-head-preserved : goal.loop-head-preserved
loop-head-preserved g c =
    let i = c.loop-head.invariant in
    let fills = c.in_ok-fill.ensures.fills in
    let found = searched_held c.bytes.ensures.value (c.in_default.ensures.more refl) in record {
      part = i.part ++ fills.part;
      reads = λ _. reads_both i.part fills.part (i.reads c.bytes.ensures.counted) fills.reads;
      bytes = bytes_joined c.args.held.now.bytes i.part i.bytes fills;
      lines = subst (λ bytes. IsSoFar bytes c.take_all.new.self) (sym fills.some.0) (so_far_longer fills.part found.0);
      faults = omega (arith, i.faults, c.fill.ensures.cause.no_fall);
      coming = c.fill.ensures.others.0 ∙ i.coming;
      next_faults = c.fill.ensures.others.1 ∙ i.next_faults;
    }
