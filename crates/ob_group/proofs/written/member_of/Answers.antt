use Rattle.std.proofs.Common.{◌∙◌, sym, ap, option_map}
use Rattle.serde_json.proofs.Views.{view_of_ref, view-Object, view-lookup}
use Rattle.serde_json.specs.View.{view}
use Rattle.ob_call.specs.Context.{value_of_key}
use Rattle.ob_group.proofs.written.member_of.Goals as goal

pub returns-in-Object : goal.returns-in-Object
returns-in-Object c =
    view_of_ref c.get.result ∙ ap (option_map view) c.get.ensures.value ∙ view-lookup c.args.name.now c.in-Object.members.entries
    ∙ sym (ap (value_of_key c.args.name.now) (ap view c.in-Object.is ∙ view-Object c.in-Object.members))
