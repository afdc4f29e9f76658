-- The connection that came in, what it asked and was answered, and whether memory sufficed.
use Rattle.std.proofs.Common.{arith, refl, ◌∙◌}
use Rattle.ob_server.proofs.ReceptionOn.{ends_failed, ends_wanting, ends_with_door, goes_on}
use Rattle.ob_server.proofs.serving.serve_next.Goals as goal

pub returns-in-Ok-clause-reception : goal.returns-in-Ok-clause-reception
returns-in-Ok-clause-reception g c count limit first start below h =
    let came = c.in-Ok-true.ensures in
    let let_in = rw c.in-Ok-true.field-0-test at came.admits in
    let served = c.serve_connection-served.ensures in
    let shut = c.shut.ensures in
    let door = c.next.new.self in
    goes_on h (g.D.Door.left c.args.door.now) (g.D.Door.left door) (g.D.Door.coming door) (g.D.Door.written door) let_in limit _ _ c.serve_connection-served.result below _ _ came.count shut.count.1
    served.exchange refl refl shut.others.1 (shut.others.0 ∙ served.others.0)
    (omega (arith, came.count, served.door_count, shut.count.1)) (omega (arith, came.cause.no_fall, served.others.1, shut.count.0)) served.rests.models_are c.in-Ok.field-0 c.in-Ok.is

pub returns-in-Err-served-clause-reception : goal.returns-in-Err-served-clause-reception
returns-in-Err-served-clause-reception g c count limit first start below h =
    let came = c.in-Ok-true.ensures in
    let let_in = rw c.in-Ok-true.field-0-test at came.admits in
    let served = c.serve_connection-served.ensures in
    let shut = c.shut.ensures in
    let door = c.next.new.self in
    ends_wanting h (g.D.Door.left c.args.door.now) (g.D.Door.left door) (g.D.Door.coming door) (g.D.Door.written door) let_in limit _ _ c.serve_connection-served.result below _ _ came.count shut.count.1
    served.exchange refl refl shut.others.1 (shut.others.0 ∙ served.others.0)
    (omega (arith, came.count, served.door_count, shut.count.1)) (omega (arith, came.cause.no_fall, served.others.1, shut.count.0)) served.rests.models_are c.in-Err-served.field-0 c.in-Err-served.is

pub returns-in-Ok-false-clause-reception : goal.returns-in-Ok-false-clause-reception
returns-in-Ok-false-clause-reception g c count limit first start below h =
    let came = c.in-Ok-false.ensures in
    let ended = rw c.in-Ok-false.field-0-test at came.admits in
    let door = c.next.new.self in
    ends_with_door h limit (g.D.Door.left door) (g.D.Door.coming door) (g.D.Door.written door) (g.D.Door.next_faults door) (g.D.Door.faults door) below ended.1 ended.3 came.count came.cause.no_fall ended.0

pub returns-in-Err-clause-reception : goal.returns-in-Err-clause-reception
returns-in-Err-clause-reception g c count limit first start below h =
    let came = c.in-Err.ensures in
    let door = c.next.new.self in
    ends_failed h limit (g.D.Door.left door) (g.D.Door.coming door) (g.D.Door.written door) (g.D.Door.next_faults door) (g.D.Door.faults door) below came.failed.0 came.failed.2 came.count came.cause.no_fall (came.cause.cause refl)
