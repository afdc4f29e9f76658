use Rattle.std.proofs.Common.{rules}
use Rattle.ob_effect.proofs.CallerLemmas.{command-next, held-next}
use Rattle.ob_commands.proofs.FoundLists.{list-leads, list-model}
use Rattle.ob_commands.proofs.findings.+finding.Goals as goal

pub find_in_list-unreachable-requires : goal.find_in_list-unreachable-requires
find_in_list-unreachable-requires t c =
    list-leads c.args.finder.now.schema.now c.parts_fit_together.ensures c.args.model c.args.field c.info-info.result.now c.info-info.ensures c.requires.field c.in_default.is

pub find_in_list-find_in_command-requires : goal.find_in_list-find_in_command-requires
find_in_list-find_in_command-requires t c =
    let shown = c.as_slice-command-items.result.now in
    let low = command-next c.args.commands shown c.loop-number.number c.command-item.result c.as_slice-command-items.ensures c.loop-number-test.true c.command-item.is in (
      search (rules, low),
      (
        list-model c.args.finder.now.schema.now c.parts_fit_together.ensures c.args.model c.args.field c.info-info.result.now c.info-info.ensures c.requires.field c.in-Some.target c.in-Some.is,
        held-next c.args.commands shown c.loop-number.number c.command-item.result c.as_slice-command-items.ensures c.loop-number-test.true c.command-item.is c.requires.commands,
      ),
    )
