use Rattle.std.proofs.Common.{rules, tests}
use Rattle.std.proofs.lemmas.Iterator.{YieldsList-from_slice}
use Rattle.std.proofs.lemmas.Iterator.Consumers.{YieldsList-from_filter, count_from_yields_List}
use Rattle.ob_schema.specs.Fields.{is_kept}
use Rattle.ob_codec.proofs.kept.kept_count.Goals as goal

pub returns : goal.returns
returns c = count_from_yields_List c.filter.result c.count.result c.count.ensures.ran (YieldsList-from_filter _ is_kept (YieldsList-from_slice c.args.fields.now cc) c.filter.ensures.closure (λ x r q k. search (rules, tests)))
