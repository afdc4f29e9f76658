use Rattle.ob_audit.proofs.Judged.{scratch-fits}
use Rattle.ob_audit.proofs.comparing.other_value.Goals as goal

pub returns-in-Ok-2-clause-fit : goal.returns-in-Ok-2-clause-fit
returns-in-Ok-2-clause-fit c =
    scratch-fits c.args.schema.now c.args.values.now c.requires.models c.parts_fit_together.ensures c.requires.sound c.sound_values.ensures.typed c.args.cell c.in-Ok.value c.requires.field c.in-Ok.ensures.value c.value_is_native.ensures
