use Rattle.std.proofs.lemmas.Result.{IfErr-weaker, on_ok_weaker}
use Rattle.ob_registry.proofs.NothingFound.{entered, found_both}
use Rattle.ob_registry.proofs.build.registry_of.Goals as goal

pub registry_with-requires-clause-entered : goal.registry_with-requires-clause-entered
registry_with-requires-clause-entered c =
    λ none. entered c.args.gathering.now c.args.first c.made_fields.new.first c.requires.limits c.in_ok-made.ensures.faults none

pub returns-clause-faultless : goal.returns-clause-faultless
returns-clause-faultless c =
    on_ok_weaker c.registry_with.result (λ adds. found_both c.args.gathering.now c.args.first c.made_fields.new.first _ c.in_ok-made.ensures.faults adds) c.registry_with.ensures.faultless

pub returns-clause-fault : goal.returns-clause-fault
returns-clause-fault c =
    IfErr-weaker c.registry_with.result _ _
    (λ why adds real. found_both c.args.gathering.now c.args.first c.made_fields.new.first _ c.in_ok-made.ensures.faults (adds real)) c.registry_with.ensures.fault
