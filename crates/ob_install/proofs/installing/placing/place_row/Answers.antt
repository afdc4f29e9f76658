use Rattle.std.proofs.Common.{◌≡◌, ◌++◌, ◌∷◌, [], ℕ, List, ap, refl, subst, sym, ◌∙◌, arith}
use Rattle.std.specs.Prelude.{All}
use Rattle.std.proofs.lemmas.List.Elements.{All-push}
use Rattle.ob_base.specs.declared.id.RecId.{RecId}
use Rattle.ob_install.proofs.BroughtIds.{numbers}
use Rattle.ob_install.proofs.PlacedRows.{counted-behind, row-placed}
use Rattle.ob_install.proofs.installing.placing.place_row.Goals as goal
use Rattle.ob_install.specs.Install.{given_by}
use Rattle.ob_install.specs.InstallSteps.{IsPlacedBehind}
use Rattle.ob_orm.specs.NewRowSteps.{IsTyped}
use Rattle.ob_install.specs.declared.installing.placing.Placed.{Placed}
use Rattle.ob_schema.specs.Tables.{empty_tables}
use Rattle.ob_tables.specs.Fitting.{IsFitId}

pub make_row-requires-clause-typed : goal.make_row-requires-clause-typed
make_row-requires-clause-typed c =
    let row = c.args.row.now in
    let given_are : c.in_ok-given.given.items ≡ given_by (numbers c.args.placed.now.ids.items) row.values =
    c.in_ok-given.ensures ∙ ap (λ (ids : List RecId). given_by (numbers ids) c.as_slice-2.result.now) c.as_slice.ensures.value ∙ ap (given_by (numbers c.args.placed.now.ids.items)) c.as_slice-2.ensures in
    subst (All (IsTyped c.args.maker.now.schema.now row.model)) (sym given_are) c.requires.typed

pub returns-clause-placed : goal.returns-clause-placed
returns-clause-placed c =
    let old = c.args.placed.now in
    let new : Placed = record { rows = old.rows; making = c.make_row.new.making; ids = c.push.new.self; counts = c.push-2.new.self } in
    let behind : IsPlacedBehind old new = record {
      more = c.in_ok-id.ensures.adds.0;
      id = c.in_ok-id.id;
      rows = refl;
      edits = c.in_ok-id.ensures.adds.1;
      ids = c.in_ok-push.ensures.items;
      counts = c.in_ok-push-2.ensures.items ∙ ap (λ (n : ℕ). old.counts.items ++ n ∷ []) (let e = c.len.ensures in let whole = c.make_row.new.making.edits.ok.0 in omega (arith, e, whole));
    } in
    record {
      counted = counted-behind old new behind c.requires.placed.counted;
      ready = c.in_ok-id.ensures.ready;
      low = subst (All IsFitId) (sym c.in_ok-push.ensures.items) (All-push IsFitId old.ids.items c.in_ok-id.id c.requires.placed.low c.in_ok-id.ensures.low);
    }

pub returns-clause-made : goal.returns-clause-made
returns-clause-made c = λ holds.
    let models = c.args.maker.now.schema.now in
    let old = c.args.placed.now in
    let new : Placed = record { rows = old.rows; making = c.make_row.new.making; ids = c.push.new.self; counts = c.push-2.new.self } in
    let row = c.args.row.now in
    let given_are : c.in_ok-given.given.items ≡ given_by (numbers old.ids.items) row.values =
    c.in_ok-given.ensures ∙ ap (λ (ids : List RecId). given_by (numbers ids) c.as_slice-2.result.now) c.as_slice.ensures.value ∙ ap (given_by (numbers old.ids.items)) c.as_slice-2.ensures in
    let made = c.in_ok-id.ensures.made (empty_tables models) holds in
    (row-placed models c.args.maker.now.author old new row c.in_ok-given.given.items c.in_ok-id.id given_are made.0 made.1 c.in_ok-push.ensures.items, made.2)
