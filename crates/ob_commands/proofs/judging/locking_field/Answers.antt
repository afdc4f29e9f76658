use Rattle.ob_commands.proofs.LockConditions.{condition-there}
use Rattle.ob_commands.proofs.judging.locking_field.Goals as goal

pub returns : goal.returns
returns c =
    let within = rw c.in_ok-place.was at c.locking_place.ensures.within in
    record { there = rw c.len.ensures (condition-there c.args.schema.now c.args.model c.model_info-info.result.now c.in_ok-place.place c.model_info-info.ensures.at within) }
