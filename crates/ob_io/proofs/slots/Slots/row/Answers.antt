use Rattle.std.proofs.Common.{ap, sym, ◌∙◌}
use Rattle.std.specs.Option.{option_flatten, option_copied}
use Rattle.ob_io.proofs.Shown.{get-shown, rows_total}
use Rattle.ob_io.proofs.slots.Slots.row.Goals as goal

pub returns-in-Some : goal.returns-in-Some
returns-in-Some c =
    c.as_ref.ensures.value ∙ ap option_flatten (sym (ap option_copied c.in-Some.is) ∙ c.get.ensures.value) ∙ sym (get-shown rows_total c.args.self.now.rows.entries c.args.key)

pub returns-in-None : goal.returns-in-None
returns-in-None c =
    ap option_flatten (sym (ap option_copied c.in-None.is) ∙ c.get.ensures.value) ∙ sym (get-shown rows_total c.args.self.now.rows.entries c.args.key)
