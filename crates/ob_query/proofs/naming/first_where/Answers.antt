use Rattle.std.proofs.Common.{◌≡◌, ◌≢◌, get_or, sym, arith, rules, ◌∙◌}
use Rattle.std.specs.Prelude.{not}
use Rattle.std.proofs.lemmas.Grind.{common_steps}
use Rattle.ob_query.proofs.NamingSteps.{where-none, where-one, where-other}
use Rattle.ob_query.specs.Callers.{may_read_field}
use Rattle.ob_schema.specs.declared.info.Step.{Step}
use Rattle.ob_query.proofs.naming.first_where.Goals as goal
use Rattle.ob_query.proofs.naming.first_where.Goals.{then-naming-positioned+in_default, else-naming-positioned}

pub returns-in-Some : goal.returns-in-Some
returns-in-Some c =
    let test = λ (field : Step). not (may_read_field c.args.by.now field) in
    let ns = c.args.namings.now in
    let i = c.loop-naming.naming-index in
    let n = c.naming-item.result in
    let at : n ≡ get_or ns i n = search rules in
    let same : n.positioned ≡ c.args.positioned = grind (arith, common_steps) in
    let found = rw c.as_slice.ensures.value at c.first_denied.ensures in
    sym (c.loop-naming.invariant ∙ where-one test c.args.positioned ns i n c.loop-naming-test.true at c.in-Some.field same (sym found ∙ c.in-Some.is))

pub loop-naming-preserved : goal.loop-naming-preserved
loop-naming-preserved c =
    let test = λ (field : Step). not (may_read_field c.args.by.now field) in
    let ns = c.args.namings.now in
    let i = c.loop-naming.naming-index in
    let n = c.naming-item.result in
    let at : n ≡ get_or ns i n = search rules in
    elim c.if-naming-positioned.branch [
      | then-naming-positioned+in_default w ↦ (
          let same : n.positioned ≡ c.args.positioned = grind (arith, common_steps) in
          let found = rw w.as_slice.ensures.value at w.first_denied.ensures in
          c.loop-naming.invariant ∙ where-none test c.args.positioned ns i n c.loop-naming-test.true at same (sym found ∙ w.in_default.is))
      | else-naming-positioned w ↦ (
          let apart : n.positioned ≢ c.args.positioned = grind (arith, common_steps) in
          c.loop-naming.invariant ∙ where-other test c.args.positioned ns i n c.loop-naming-test.true at apart)
    ]
