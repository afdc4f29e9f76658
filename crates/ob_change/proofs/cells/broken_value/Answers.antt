-- A value that is there passes each test, or fails one.
use Rattle.std.proofs.Common.{◌∙◌, inl, inr, sym}
use Rattle.std.proofs.lemmas.Bool.{false≢true}
use Rattle.ob_change.proofs.OneCell.{dangling, full, no-value, untested, value-passes, wanting}
use Rattle.ob_change.proofs.cells.broken_value.Goals as goal

pub returns-then-not-is_tested : goal.returns-then-not-is_tested
returns-then-not-is_tested c =
    let models = c.args.tables.now.models in
    let t = c.args.tables.now.tables in
    untested models t c.args.cell c.args.field.now c.requires.field c.requires.row c.requires.plain
    (λ kept. false≢true (sym c.if-not-is_tested.true ∙ c.is_tested.ensures.1 (inl kept))) (λ many. false≢true (sym c.if-not-is_tested.true ∙ c.is_tested.ensures.1 (inr many)))

pub returns-in_default : goal.returns-in_default
returns-in_default c =
    let models = c.args.tables.now.models in
    let t = c.args.tables.now.tables in
    no-value models t c.args.cell c.args.field.now c.requires.field c.requires.row c.requires.plain (sym c.in_ok-value.ensures ∙ c.in_default.is)

pub returns-then-is_too_full : goal.returns-then-is_too_full
returns-then-is_too_full c =
    let models = c.args.tables.now.models in
    let t = c.args.tables.now.tables in
    inr (full models t c.args.cell c.args.field.now c.requires.field c.requires.row c.requires.plain c.in-Some.value (sym c.in_ok-value.ensures ∙ c.in-Some.is)
    (c.is_too_full.ensures.0 c.if-is_too_full.true))

pub returns-then-not-is_plain_kept : goal.returns-then-not-is_plain_kept
returns-then-not-is_plain_kept c =
    let models = c.args.tables.now.models in
    let t = c.args.tables.now.tables in
    value-passes models t c.args.cell c.args.field.now c.requires.field c.requires.row c.requires.plain c.in-Some.value (sym c.in_ok-value.ensures ∙ c.in-Some.is)
    (λ full. false≢true (sym c.if-is_too_full.false ∙ c.is_too_full.ensures.1 full))
    (λ kept wants. false≢true (sym c.if-not-is_plain_kept.true ∙ c.is_plain_kept.ensures ∙ kept))
    (λ kept names_none. false≢true (sym c.if-not-is_plain_kept.true ∙ c.is_plain_kept.ensures ∙ kept))

pub returns-then-is_wanting : goal.returns-then-is_wanting
returns-then-is_wanting c =
    let models = c.args.tables.now.models in
    let t = c.args.tables.now.tables in
    wanting models t c.args.cell c.args.field.now c.requires.field c.requires.row c.requires.plain c.in-Some.value (sym c.in_ok-value.ensures ∙ c.in-Some.is)
    (sym c.is_plain_kept.ensures ∙ c.if-not-is_plain_kept.false) (c.is_wanting.ensures.0 c.if-is_wanting.true)

pub returns-then-dangles : goal.returns-then-dangles
returns-then-dangles c =
    let models = c.args.tables.now.models in
    let t = c.args.tables.now.tables in
    dangling models t c.args.cell c.args.field.now c.requires.field c.requires.row c.requires.plain c.in-Some.value (sym c.in_ok-value.ensures ∙ c.in-Some.is)
    (sym c.is_plain_kept.ensures ∙ c.if-not-is_plain_kept.false) (c.dangles.ensures.0 c.if-dangles.true)

pub returns : goal.returns
returns c =
    let models = c.args.tables.now.models in
    let t = c.args.tables.now.tables in
    value-passes models t c.args.cell c.args.field.now c.requires.field c.requires.row c.requires.plain c.in-Some.value (sym c.in_ok-value.ensures ∙ c.in-Some.is)
    (λ full. false≢true (sym c.if-is_too_full.false ∙ c.is_too_full.ensures.1 full))
    (λ kept wants. false≢true (sym c.if-is_wanting.false ∙ c.is_wanting.ensures.1 wants))
    (λ kept names_none. false≢true (sym c.if-dangles.false ∙ c.dangles.ensures.1 names_none))
