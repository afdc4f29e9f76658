use Rattle.std.proofs.Common.{◌≡◌, ◌+◌, List, [], ◌∷◌, ◌++◌, take, refl, sym, ap, subst, ◌∙◌}
use Rattle.std.proofs.lemmas.List.{take_more}
use Rattle.ob_definition.specs.declared.definition.FieldDef.{FieldDef}
use Rattle.ob_definition.specs.Findings.{Adds}
use Rattle.ob_definition.specs.Gathered.{is_taken, with_fields}
use Rattle.ob_definition.specs.Rooms.{IsFieldTwiceFault}
use Rattle.ob_definition.proofs.Entries.{add_field-found, no_fields-found, taken_by-automatic, taken_by-declared, with_fields-kept, with_fields-new}
use Rattle.ob_definition.proofs.gathering.add_fields.Goals as goal
use Rattle.ob_definition.proofs.gathering.add_fields.Goals.{then-is_automatic, else-is_automatic, then-not-is_taken+in_ok-push, else-not-is_taken}

pub loop-def-init : goal.loop-def-init
loop-def-init c = (refl, no_fields-found c.args.entry c.args.fields.now c.args.first.now)

pub loop-def-preserved : goal.loop-def-preserved
loop-def-preserved c =
    let n = c.args.entry in
    let old = c.args.fields.now in
    let fs = take c.loop-def.def-index c.args.defs.now in
    let f = c.def-item.result in
    let grown : take (c.loop-def.def-index + 1) c.args.defs.now ≡ fs ++ f ∷ [] = take_more c.args.defs.now c.loop-def.def-index f c.loop-def-test.true ∙ ap (λ (m : FieldDef). fs ++ m ∷ []) (sym c.def-item.is) in
    let is : c.loop-def.fields ≡ with_fields n old fs = c.loop-def.invariant.0 in
    let taken : c.if-is_automatic.is_taken ≡ is_taken (with_fields n old fs) f.name = elim c.if-is_automatic.branch [
      | then-is_automatic w ↦ taken_by-automatic (with_fields n old fs) f.name c.if-is_automatic.is_taken (rw c.as_str-name.ensures at (sym c.is_automatic.ensures ∙ w.if-is_automatic.true)) (w.is_taken-is ∙ w.if-is_automatic.true)
      | else-is_automatic w ↦
          taken_by-declared (with_fields n old fs) f.name c.if-is_automatic.is_taken (rw c.as_str-name.ensures at (sym c.is_automatic.ensures ∙ w.if-is_automatic.false))
          (w.is_taken-is ∙ rw (c.as_str-name.ensures, is) at w.has-is_taken.ensures)
    ] in
    let fields : c.if-not-is_taken.fields ≡ with_fields n old (fs ++ f ∷ []) = elim c.if-not-is_taken.branch [
      | then-not-is_taken+in_ok-push w ↦ with_fields-new n old c.loop-def.fields c.if-not-is_taken.fields fs f is (sym taken ∙ w.if-not-is_taken.true) (w.fields-is ∙ w.in_ok-push.ensures)
      | else-not-is_taken w ↦ with_fields-kept n old c.loop-def.fields c.if-not-is_taken.fields fs f is (sym taken ∙ w.if-not-is_taken.false) w.fields-is
    ] in
    let now = rw (c.then_some.ensures, c.as_str-name.ensures) at c.in_ok-at_field.ensures.found in
    let found = add_field-found n old fs f c.if-is_automatic.is_taken c.args.first.now c.loop-def.first c.at_field.new.self taken c.loop-def.invariant.1 now in
    subst (λ (gs : List FieldDef). (c.if-not-is_taken.fields ≡ with_fields n old gs) × Adds (IsFieldTwiceFault n old gs) c.args.first.now c.at_field.new.self) (sym grown) (fields, found)
