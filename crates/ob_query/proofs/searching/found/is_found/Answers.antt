use Rattle.std.proofs.Common.{◌≡◌, true, false, sym, ◌∙◌, arith}
use Rattle.std.proofs.lemmas.Grind.{common_steps}
use Rattle.std.proofs.lemmas.Result.{IfOk-weaker}
use Rattle.ob_domain.specs.Holding.{holds}
use Rattle.ob_domain.specs.Trees.{tree_of_domain}
use Rattle.ob_expr.specs.Meaning.{row_at}
use Rattle.ob_query.proofs.Asked.{asked_then, hidden_row, shown_row}
use Rattle.ob_query.proofs.Callers.{told_back, told_on}
use Rattle.ob_query.specs.Search.{is_shown}
use Rattle.ob_query.specs.SearchParts.{sought_view}
use Rattle.ob_schema.specs.Facts.{Told}
use Rattle.ob_query.proofs.searching.found.is_found.Goals as goal

pub is_shown-requires-clause-known : goal.is_shown-requires-clause-known
is_shown-requires-clause-known g c =
    let known : c.in_ok-is_known.field-0 ≡ true = grind (arith, common_steps) in
    told_on g.K.Keeper c.args.sought.now.by c.args.engine.now c.is_known.new.engine (λ (told : Told). told.knows c.args.sought.now.model c.args.id ≡ true) c.is_known.ensures.asked
    (λ told tells. sym (c.in_ok-is_known.ensures.told told tells) ∙ known)

pub returns-in_err-is_shown-clause-asked : goal.returns-in_err-is_shown-clause-asked
returns-in_err-is_shown-clause-asked g c = asked_then g.K.Keeper c.args.engine.now c.is_known.new.engine c.is_shown.new.engine c.is_known.ensures.asked c.is_shown.ensures.asked

pub returns-then-not-branch-2-clause-asked : goal.returns-then-not-branch-2-clause-asked
returns-then-not-branch-2-clause-asked g c = asked_then g.K.Keeper c.args.engine.now c.is_known.new.engine c.is_shown.new.engine c.is_known.ensures.asked c.is_shown.ensures.asked

pub returns-then-not-branch-2-clause-told : goal.returns-then-not-branch-2-clause-told
returns-then-not-branch-2-clause-told g c = λ told tells.
    let sought = c.args.sought.now in
    let known : c.in_ok-is_known.field-0 ≡ true = grind (arith, common_steps) in
    let unshown : false ≡ c.in_ok-is_shown.field-0 = grind (arith, common_steps) in
    let shows = told_back g.K.Keeper c.args.sought.now.by c.args.engine.now c.is_known.new.engine (λ (told : Told). c.in_ok-is_shown.field-0 ≡ is_shown told sought.model (sought_view sought) c.args.id) c.is_known.ensures.asked c.in_ok-is_shown.ensures.told in
    hidden_row (told.knows sought.model c.args.id) (is_shown told sought.model (sought_view sought) c.args.id) (holds told sought.by.user (tree_of_domain sought.domain) (row_at sought.model c.args.id))
    (sym (c.in_ok-is_known.ensures.told told tells) ∙ known) (unshown ∙ shows told tells)

pub meets-requires-clause-known : goal.meets-requires-clause-known
meets-requires-clause-known g c =
    let known : c.in_ok-is_known.field-0 ≡ true = grind (arith, common_steps) in
    let P = λ (told : Told). told.knows c.args.sought.now.model c.args.id ≡ true in
    told_on g.K.Keeper c.args.sought.now.by c.is_known.new.engine c.is_shown.new.engine P c.is_shown.ensures.asked
    (told_on g.K.Keeper c.args.sought.now.by c.args.engine.now c.is_known.new.engine P c.is_known.ensures.asked (λ told tells. sym (c.in_ok-is_known.ensures.told told tells) ∙ known))

pub returns-clause-told : goal.returns-clause-told
returns-clause-told g c =
    let sought = c.args.sought.now in
    let known : c.in_ok-is_known.field-0 ≡ true = grind (arith, common_steps) in
    let shown : c.in_ok-is_shown.field-0 ≡ true = grind (arith, common_steps) in
    let shows = told_back g.K.Keeper c.args.sought.now.by c.args.engine.now c.is_known.new.engine (λ (told : Told). c.in_ok-is_shown.field-0 ≡ is_shown told sought.model (sought_view sought) c.args.id) c.is_known.ensures.asked c.in_ok-is_shown.ensures.told in
    IfOk-weaker c.meets.result _ _
    (λ b met told tells.
    let meets = told_back g.K.Keeper c.args.sought.now.by c.args.engine.now c.is_known.new.engine (λ (told : Told). b ≡ holds told sought.by.user (tree_of_domain sought.domain) (row_at sought.model c.args.id)) c.is_known.ensures.asked
    (told_back g.K.Keeper c.args.sought.now.by c.is_known.new.engine c.is_shown.new.engine (λ (told : Told). b ≡ holds told sought.by.user (tree_of_domain sought.domain) (row_at sought.model c.args.id)) c.is_shown.ensures.asked met) in
    shown_row (told.knows sought.model c.args.id) (is_shown told sought.model (sought_view sought) c.args.id) (holds told sought.by.user (tree_of_domain sought.domain) (row_at sought.model c.args.id)) b
    (sym (c.in_ok-is_known.ensures.told told tells) ∙ known) (sym (shows told tells) ∙ shown) (meets told tells))
    c.meets.ensures.told

pub returns-clause-asked : goal.returns-clause-asked
returns-clause-asked g c =
    asked_then g.K.Keeper c.args.engine.now c.is_shown.new.engine c.meets.new.engine
    (asked_then g.K.Keeper c.args.engine.now c.is_known.new.engine c.is_shown.new.engine c.is_known.ensures.asked c.is_shown.ensures.asked) c.meets.ensures.asked
