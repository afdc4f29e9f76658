use Rattle.std.proofs.Common.{ℕ, List, Option, take, sym, subst}
use Rattle.std.specs.Prelude.{Any}
use Rattle.std.proofs.lemmas.List.{take_all}
use Rattle.ob_definition.specs.declared.wrong.Wrong.{Wrong}
use Rattle.ob_definition.specs.Findings.{Adds, IsAt, IsFaultAt, Tells}
use Rattle.ob_definition.specs.Rooms.{spot_at}
use Rattle.ob_schema.specs.declared.info.Path.{Path}
use Rattle.ob_schema.specs.declared.info.Step.{Step}
use Rattle.ob_registry.specs.ModelFields.{member_of}
use Rattle.ob_registry.specs.Telling.{IsCoverWrong, spot_of, steps_in}
use Rattle.ob_registry.proofs.PathRooms.{cover_told, found_none, found_read, steps_more}
use Rattle.ob_registry.proofs.formulas.note_uncovered.Goals as goal

pub loop-read-init : goal.loop-read-init
loop-read-init c = found_none (λ (read : List Step) why. IsFaultAt (spot_of (member_of c.args.member.now)) (IsCoverWrong (steps_in c.args.declared.now) read) why) c.args.first.now

pub loop-read-preserved : goal.loop-read-preserved
loop-read-preserved c =
    let spot = spot_of (member_of c.args.member.now) in
    let declared = steps_in c.args.declared.now in
    let i = c.loop-read.read-index in
    let read = c.read-item.result in
    let more = steps_more c.args.reads.now i read c.loop-read-test.true c.read-item.is in
    let tells : Tells (IsCoverWrong declared read.steps) c.then_some-wrong.result =
    subst (λ (o : Option Wrong). Tells (IsCoverWrong declared read.steps) o) (sym c.then_some-wrong.ensures) (cover_told declared read.steps c.is_covered-is_wrong.result c.is_covered-is_wrong.ensures) in
    subst (λ (l : List (List Step)). Adds (λ why. Any (λ read. IsFaultAt spot (IsCoverWrong declared read) why) l) c.args.first.now c.at_field.new.self) (sym more)
    (found_read spot declared (steps_in (take i c.args.reads.now)) read.steps c.then_some-wrong.result c.args.first.now c.loop-read.first c.at_field.new.self tells c.loop-read.invariant
    (subst (λ (name : List ℕ). Adds (IsAt c.then_some-wrong.result (spot_at c.args.member.now.entry name)) c.loop-read.first c.at_field.new.self) c.as_str.ensures c.in_ok-at_field.ensures.found))

pub returns : goal.returns
returns c =
    let declared = steps_in c.args.declared.now in
    subst (λ (l : List Path). Adds (λ why. Any (λ read. IsFaultAt (spot_of (member_of c.args.member.now)) (IsCoverWrong declared read) why) (steps_in l)) c.args.first.now c.loop-read.first)
    (take_all c.loop-read.read-index c.args.reads.now c.loop-read-test.false) c.loop-read.invariant
