-- Each text goes behind those that wait, and what waits in the end is written.
use Rattle.std.proofs.Common.{ℕ, ◌+◌, List, Bor, [], take, drop, refl, rules, subst, sym}
use Rattle.std.specs.List.{flat_map}
use Rattle.std.proofs.lemmas.List.{take_all}
use Rattle.std.proofs.lemmas.Result.{on_ok_weaker, on_err_weaker}
use Rattle.ob_http.specs.Written.{WrotePart, WroteFront}
use Rattle.ob_http.proofs.WrittenParts.{at_any_error, wrote_nothing, front_of_more, rest_written, rest_cut_short, text_behind, text_cut_short, texts_up_to, texts_from}
use Rattle.ob_http.proofs.writing.write_texts.Goals as goal

-- the bytes of a text
abbrev bytes_of : Bor (List ℕ) → List ℕ
bytes_of text = text.now

pub loop-text-init : goal.loop-text-init
loop-text-init g c = record {
  written = ([], search rules, wrote_nothing _);
  coming = refl;
  left = refl;
  faults = search rules;
  next_faults = refl;
}

pub loop-text-preserved : goal.loop-text-preserved
loop-text-preserved g c = record {
  written = subst (λ (b : List ℕ). WroteFront (g.D.Door.written c.args.door.now) (g.D.Door.written c.write_behind.new.door) b c.write_behind.new.waiting.items)
      (sym (texts_up_to bytes_of c.args.texts.now c.loop-text.text-index (record { ref_ptr = (0, 0); now = [] }) c.loop-text-test.true))
      (text_behind _ (g.D.Door.written c.loop-text.door) _ _ c.loop-text.rest.items _ _ c.loop-text.invariant.written c.in_ok-write_behind.ensures.ok);
  coming = search rules;
  left = search rules;
  faults = search rules;
  next_faults = search rules;
}

pub returns-in_err-write_behind-clause-err : goal.returns-in_err-write_behind-clause-err
returns-in_err-write_behind-clause-err g c =
    let i = c.loop-text.text-index in
    at_any_error _ (subst (λ (b : List ℕ). WrotePart (g.D.Door.written c.args.door.now) (g.D.Door.written c.write_behind.new.door) b) (sym (texts_from bytes_of c.args.texts.now (i + 1)))
    (front_of_more _ _ (flat_map bytes_of (take (i + 1) c.args.texts.now)) (flat_map bytes_of (drop (i + 1) c.args.texts.now))
    (subst (λ (b : List ℕ). WrotePart (g.D.Door.written c.args.door.now) (g.D.Door.written c.write_behind.new.door) b)
    (sym (texts_up_to bytes_of c.args.texts.now i (record { ref_ptr = (0, 0); now = [] }) c.loop-text-test.true))
    (text_cut_short _ (g.D.Door.written c.loop-text.door) _ _ c.loop-text.rest.items _ c.loop-text.invariant.written c.in_err-write_behind.ensures.err))))

pub returns-clause-ok : goal.returns-clause-ok
returns-clause-ok g c =
    on_ok_weaker c.write_all.result
    (λ written. rest_written _ (g.D.Door.written c.loop-text.door) _ _ c.loop-text.rest.items
    (rw (take_all c.loop-text.text-index c.args.texts.now c.loop-text-test.false) at c.loop-text.invariant.written) (rw (c.as_slice.ensures.value) at written)) c.write_all.ensures.ok

pub returns-clause-err : goal.returns-clause-err
returns-clause-err g c =
    on_err_weaker c.write_all.result
    (λ written. rest_cut_short _ (g.D.Door.written c.loop-text.door) _ _ c.loop-text.rest.items
    (rw (take_all c.loop-text.text-index c.args.texts.now c.loop-text-test.false) at c.loop-text.invariant.written) (rw (c.as_slice.ensures.value) at written)) c.write_all.ensures.err
