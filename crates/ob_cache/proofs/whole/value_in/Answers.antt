use Rattle.ob_cache.proofs.Filling.{no-fault}
use Rattle.ob_cache.proofs.whole.value_in.Goals as goal

pub unreachable-requires : goal.unreachable-requires
unreachable-requires c =
    let s = c.args.source.now in
    c.in_default.not-NoMemory
    (no-fault s.models s.tables c.args.cell c.in-Err.fault c.requires.row (c.sound_values.ensures.valued s.models s.tables c.requires.registry c.requires.sound c.args.cell c.requires.row c.requires.field) c.in-Err.ensures.fault)
