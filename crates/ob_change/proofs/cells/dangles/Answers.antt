-- One row more is there, or it isn't.
use Rattle.std.proofs.Common.{◌≡◌, Some, None, true, false, get_or, is_some, IsSome, Option, refl, sym, ap, subst, ◌∙◌, below_more, arith, rules}
use Rattle.std.specs.Option.{IsSomeAnd}
use Rattle.std.specs.Prelude.{slice_get}
use Rattle.std.proofs.lemmas.Option.{slice_get-get_or, slice_get_within, get_or_from_slice_get}
use Rattle.ob_base.specs.declared.id.RecId.{RecId}
use Rattle.ob_base.specs.declared.id.ModelNo.{ModelNo}
use Rattle.ob_schema.specs.Tables.{row_at}
use Rattle.ob_tables.proofs.CallerLemmas.{at-names, names-at}
use Rattle.ob_change.proofs.cells.dangles.Goals as goal

none : {X : Type 0} (o : Option X) → is_some o ≡ false → o ≡ None
none None h = refl
none (Some x) h = cc

gone : {X : Type 0} (o : Option X) → IsSome o → o ≡ None → false ≡ true
gone None h e = h
gone (Some x) h e = cc

pub returns-then-not-has_row : goal.returns-then-not-has_row
returns-then-not-has_row c =
    let xs = c.targets_of-id-items.result.now in
    let id : RecId = get_or xs c.loop-id.id-index (record { 0 = 0 }) in
    let missing = none (row_at c.args.tables.now.tables c.in-Some.target id) (sym c.has_row.ensures ∙ c.if-not-has_row.true) in
    let at = slice_get-get_or xs c.loop-id.id-index (record { 0 = 0 }) c.loop-id-test.true in (
      λ _. (
        id,
        at-names c.args.value.now c.loop-id.id-index id (ap (λ l. slice_get l c.loop-id.id-index) (sym c.targets_of-id-items.ensures.same) ∙ at),
        subst (λ (o : Option ModelNo). IsSomeAnd o (λ target. row_at c.args.tables.now.tables target id ≡ None)) (sym c.in-Some.is) missing,
      ),
      λ _. search rules,
    )

pub loop-id-preserved : goal.loop-id-preserved
loop-id-preserved c = below_more _ _ c.loop-id.invariant (sym c.has_row.ensures ∙ c.if-not-has_row.false)

pub returns : goal.returns
returns c = (
  λ h. search rules,
  λ h.
      let at = names-at c.args.value.now h.0 h.1 in
      let here = ap (λ l. slice_get l at.0) c.targets_of-id-items.ensures.same ∙ at.1 in
      let low = slice_get_within c.targets_of-id-items.result.now at.0 h.0 here in
      let there = c.loop-id.invariant at.0 (omega arith) in
      let is = get_or_from_slice_get c.targets_of-id-items.result.now at.0 h.0 (record { 0 = 0 }) here in
      let missing = subst (λ (o : Option ModelNo). IsSomeAnd o (λ target. row_at c.args.tables.now.tables target h.0 ≡ None)) c.in-Some.is h.2 in
      let wrong : false ≡ true = gone (row_at c.args.tables.now.tables c.in-Some.target h.0) (subst (λ i. IsSome (row_at c.args.tables.now.tables c.in-Some.target i)) is there) missing in
      search (rules, wrong),
)
