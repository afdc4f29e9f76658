use Rattle.std.proofs.Common.{All, subst}
use Rattle.std.specs.Str.{IsUtf8}
use Rattle.std.proofs.lemmas.List.{take_all}
use Rattle.std.proofs.lemmas.List.Elements.{All-more}
use Rattle.ob_definition.specs.declared.field_type.Choice.{Choice}
use Rattle.ob_cache.proofs.native.keys_are_native.Goals as goal

pub loop-choice-preserved : goal.loop-choice-preserved
loop-choice-preserved c =
    All-more (λ (choice : Choice). IsUtf8 choice.key) c.args.choices.now c.loop-choice.choice-index c.choice-item.result c.loop-choice-test.true c.loop-choice.invariant
    (subst (λ (choice : Choice). IsUtf8 choice.key) c.choice-item.is (subst IsUtf8 c.as_str-key.ensures c.as_str-key.utf8))

pub returns : goal.returns
returns c = subst (All (λ (choice : Choice). IsUtf8 choice.key)) (take_all c.loop-choice.choice-index c.args.choices.now c.loop-choice-test.false) c.loop-choice.invariant
