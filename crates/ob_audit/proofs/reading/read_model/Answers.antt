use Rattle.std.proofs.Common.{◌≡◌, ◌≤◌, [], ◌∷◌, Option, arith, refl, subst, sym, ◌∙◌}
use Rattle.std.specs.Prelude.{IfSome}
use Rattle.std.specs.Option.{option_map_or}
use Rattle.std.proofs.lemmas.Result.{err_from_is_err_and}
use Rattle.ob_audit.specs.Reading.{ReadsRows, TellsAfter, TellsAll}
use Rattle.ob_audit.specs.declared.kept_rows.ReadRows.{ReadRows}
use Rattle.ob_audit.proofs.ReadPages.{all-told, first-named, model-stops, reads-join, reads-none, rose-later}
use Rattle.ob_io.specs.Store.{Store, row_at}
use Rattle.ob_io.specs.declared.store.KeptRow.{KeptRow}
use Rattle.ob_audit.proofs.reading.read_model.Goals as goal
use Rattle.ob_audit.proofs.reading.read_model.Goals.{in-Some+in_ok-read_row, in_default}

pub returns-clause-read : goal.returns-clause-read
returns-clause-read g c =
    let keeper = g.K.Keeper in
    let models = c.args.schema.now in
    let model = c.args.model in
    let next = c.in_ok-next.next in
    let kept = keeper.kept c.args.keeper.now in
    let first = c.in_ok-row.field-0 in
    let same = c.fetch.ensures.same ∙ c.next_id.ensures.same in
    let IsFirst = λ (o : Option KeptRow) (rows : ReadRows). ReadsRows models model next (λ read. read ≡ option_map_or (λ row. row ∷ []) o []) c.args.rows.now rows in
    let here : IsFirst first c.match-branch-3.rows = elim c.match-branch-3.branch [
      | in-Some+in_ok-read_row w ↦ subst (IsFirst first) (sym w.rows-is) (subst (λ (o : Option KeptRow). IsFirst o w.read_row.new.rows) (sym w.in-Some.is) w.in_ok-read_row.ensures.read)
      | in_default w ↦ subst (IsFirst first) (sym w.rows-is) (subst (λ (o : Option KeptRow). IsFirst o c.args.rows.now) (sym w.in_default.is)
          (reads-none models model next (λ read. read ≡ []) c.args.rows.now refl))
    ] in
    reads-join models model next (λ read. read ≡ option_map_or (λ row. row ∷ []) first []) (TellsAfter kept model (record { 0 = 0 })) (TellsAll kept model) c.args.rows.now c.match-branch-3.rows c.read_pages.new.rows
    (all-told kept model first (subst (λ (o : Option Store). IfSome o (λ store. first ≡ row_at store model (record { 0 = 0 }))) c.next_id.ensures.same c.in_ok-row.ensures.told))
    here (subst (λ (o : Option Store). ReadsRows models model next (TellsAfter o model (record { 0 = 0 })) c.match-branch-3.rows c.read_pages.new.rows) same c.in_ok-read_pages.ensures.read)

pub returns-in_err-read_pages-clause-fault : goal.returns-in_err-read_pages-clause-fault
returns-in_err-read_pages-clause-fault g c =
    let p = err_from_is_err_and c.from_residual-in_err-read_pages.result c.from_residual-in_err-read_pages.ensures.1 in
    let keeper = g.K.Keeper in
    let models = c.args.schema.now in
    let model = c.args.model in
    let next = c.in_ok-next.next in
    let kept = keeper.kept c.args.keeper.now in
    let first = c.in_ok-row.field-0 in
    let same = c.fetch.ensures.same ∙ c.next_id.ensures.same in
    let IsFirst = λ (o : Option KeptRow) (rows : ReadRows). ReadsRows models model next (λ read. read ≡ option_map_or (λ row. row ∷ []) o []) c.args.rows.now rows in
    let here : IsFirst first c.match-branch-3.rows = elim c.match-branch-3.branch [
      | in-Some+in_ok-read_row w ↦ subst (IsFirst first) (sym w.rows-is) (subst (λ (o : Option KeptRow). IsFirst o w.read_row.new.rows) (sym w.in-Some.is) w.in_ok-read_row.ensures.read)
      | in_default w ↦ subst (IsFirst first) (sym w.rows-is) (subst (λ (o : Option KeptRow). IsFirst o c.args.rows.now) (sym w.in_default.is)
          (reads-none models model next (λ read. read ≡ []) c.args.rows.now refl))
    ] in
    let low : 1 ≤ next = omega (arith, c.if-next-eq0.false) in
    rw (p.1, p.2) (model-stops models kept (keeper.kept c.fetch.new.self) _ _ model next first c.in_err-read_pages.field-0.0 c.args.rows.now c.match-branch-3.rows c.requires same
    (rose-later _ _ _ (omega (arith, c.next_id.ensures.cause.no_fall, c.fetch.ensures.cause.no_fall)))
    c.in_ok-next.ensures.told low
    (subst (λ (o : Option Store). IfSome o (λ store. first ≡ row_at store model (record { 0 = 0 }))) c.next_id.ensures.same c.in_ok-row.ensures.told)
    (first-named first c.in_ok-row.ensures.fits) here c.in_err-read_pages.ensures.fault)
