use Rattle.std.proofs.Common.{ap, sym, unwrap_or, ◌∙◌}
use Rattle.std.specs.Cmp.{nat_cmp_total}
use Rattle.std.specs.Option.{option_flatten}
use Rattle.ob_io.proofs.Shown.{get-shown}
use Rattle.ob_io.proofs.slots.Slots.next_id.Goals as goal

pub returns : goal.returns
returns c =
    c.unwrap_or.ensures ∙ ap (λ o. unwrap_or o 1) (c.flatten.ensures ∙ ap option_flatten (c.copied.ensures ∙ c.get.ensures.value) ∙ sym (get-shown nat_cmp_total c.args.self.now.next_ids.entries c.args.model.0))
