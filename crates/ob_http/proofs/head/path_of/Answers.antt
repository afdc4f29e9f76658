-- The part before the first question mark.
use Rattle.std.proofs.Common.{[]}
use Rattle.std.specs.Bool.{◌==◌}
use Rattle.std.specs.List.{slice_split}
use Rattle.ob_http.proofs.Cuts.{first_is}
use Rattle.ob_http.proofs.head.path_of.Goals as goal

pub returns-in-Some : goal.returns-in-Some
returns-in-Some c = first_is (λ byte. byte == 63) c.args.target.now c.in-Some.path.now (slice_split (λ byte. byte == 63) c.in-Some.field-0-1.now) c.in-Some.ensures.some

pub returns-in-None : goal.returns-in-None
returns-in-None c = first_is (λ byte. byte == 63) c.args.target.now c.args.target.now [] c.in-None.ensures.none
