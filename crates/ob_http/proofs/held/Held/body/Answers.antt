-- The body has what was held, and then what is read, up to its size.
use Rattle.std.proofs.Common.{◌≡◌, ◌++◌, ◌+◌, ◌-◌, ◌∙◌, ◌≤◌, take, drop, length, arith, refl, ap, sym}
use Rattle.std.proofs.lemmas.List.{length-take, length-drop}
use Rattle.ob_http.specs.Connection.{ReadAhead}
use Rattle.ob_http.proofs.ReadingOn.{reads_both}
use Rattle.ob_http.proofs.BodyLaws.{length-written_room, front-written_room, reads_part, filled_more, front_more, rest_more}
use Rattle.ob_http.proofs.held.Held.body.Goals as goal

pub loop-filled-preserved : goal.loop-filled-preserved
loop-filled-preserved g c =
    let i = c.loop-filled.invariant in
    let n = c.in_ok-count.count in
    let room = c.read.new.room in
    let filled = c.loop-filled.filled in
    let reads = c.in_ok-count.ensures.reads in
    let items : c.deref_mut.result.now ≡ c.loop-filled.body.items = c.deref_mut.ensures.value in
    let len : c.loop-filled.body.len ≡ length c.deref_mut.result.now = sym c.deref_mut.ensures.len in
    let room_size : length room ≡ c.args.size - filled = omega (
      arith,
      c.read.auto.room,
      length-take (length c.deref_mut.result.now - filled)
          (drop filled c.deref_mut.result.now),
      length-drop filled c.deref_mut.result.now,
      ap length items,
      i.room,
    ) in
    let given : n ≤ length room = omega (arith, reads.fits, c.read.auto.room) in
    let fits : filled + n ≤ c.args.size = omega (arith, given, room_size, c.loop-filled-test.true) in
    let same = c.count.ensures in
    record {
      part = i.part ++ take n room;
      reads = reads_both i.part (take n room) i.reads (rw same (reads_part (g.D.Door.written c.loop-filled.door)
          (g.D.Door.written c.read.new.self) c.loop-filled.self.bytes c.loop-filled.self.bytes c.loop-filled.self.taken _ reads c.read.auto.room c.read.ensures.others.1 refl));
      room = length-written_room c.deref_mut.result.now c.loop-filled.body.items room _ filled c.loop-filled.body.len len (sym (ap length items)) ∙ i.room;
      count = filled_more c.args.size n c.args.self.now.bytes i.part room filled i.count c.loop-filled-test.true fits given;
      front = front-written_room c.deref_mut.result.now c.loop-filled.body.items room _ filled c.loop-filled.body.len n len (omega (arith, fits, len, ap length items, i.room)) given
          ∙ front_more c.args.size n c.args.self.now.bytes i.part room (take filled c.deref_mut.result.now) filled i.count c.loop-filled-test.true fits given (ap (take filled) items ∙ i.front);
      rest = ap (λ (ahead : ReadAhead). ahead.bytes) same ∙ rest_more c.args.size n c.args.self.now.bytes i.part room c.loop-filled.self.bytes filled i.count c.loop-filled-test.true fits given i.rest;
      few = omega (arith, i.few, ap (λ (ahead : ReadAhead). length ahead.bytes) same);
      faults = omega (arith, i.faults, c.read.ensures.cause.no_fall);
      coming = c.read.ensures.others.0 ∙ i.coming;
      next_faults = c.read.ensures.count ∙ i.next_faults;
    }
