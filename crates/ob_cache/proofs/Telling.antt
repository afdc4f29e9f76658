-- What an engine tells of facts.
use Rattle.std.proofs.Common.{◌≡◌, true, false, Option, Result, Ok, is_some, sym, ap, subst, ◌∙◌}
use Rattle.std.specs.Prelude.{unwrap_or}
use Rattle.std.specs.Result.{result_ok}
use Rattle.ob_base.specs.declared.id.Cell.{Cell}
use Rattle.ob_base.specs.declared.value.Value.{Value}
use Rattle.ob_base.specs.declared.value.Value.TheVariants as value
use Rattle.ob_cache.proofs.Standings.{stands-are}
use Rattle.ob_cache.specs.Stages.{IsUnreadIn, IsUsable, Stages}
use Rattle.ob_cache.specs.Telling.{FailsFacts, TellsFacts}
use Rattle.ob_cache.specs.declared.fault.ReadFault.{ReadFault}
use Rattle.ob_cache.specs.declared.fault.ReadFault.TheVariants as read_fault
use Rattle.ob_expr.specs.Computing.{Lack}
use Rattle.ob_io.specs.Store.{Store}
use Rattle.ob_schema.specs.Facts.{OfAllTold, Told}
use Rattle.ob_schema.specs.Tables.{PlainRow, row_at}
use Rattle.ob_schema.specs.Val.{val}

no-is-yes : false ≡ true → ⊥
no-is-yes is = cc

-- the stages by which facts are told are those that are held
told-held : (kept : Option Store) (held : Stages) (told : Told) → (t : TellsFacts kept held told) → t.0 ≡ held
told-held kept held told t = stands-are kept held t.0 t.1 (subst IsUsable t.1.phase_is t.2)

-- the value of a cell of the tables that were settled last is what is told of it
pub read-told : (kept : Option Store) (held : Stages) (cell : Cell) (v : Value) → val held.models held.settled cell ≡ Ok v → (told : Told) → TellsFacts kept held told → v ≡ told.held cell
read-told kept held cell v is told t =
    let same : t.0 ≡ held = told-held kept held told t in
    sym
    (ap (λ (facts : Told). facts.held cell) t.3
    ∙ ap (λ (s : Stages). unwrap_or (result_ok (val s.models s.settled cell)) value.Nil) same
    ∙ ap (λ (r : Result Value Lack). unwrap_or (result_ok r) value.Nil) is)

-- a question about a row that is known fails only for want of memory, or where nothing is told
pub read-failed : (kept : Option Store) (held : Stages) (cell : Cell) (rose : Type 0) → OfAllTold (TellsFacts kept held) (λ told. told.knows cell.model cell.id ≡ true)
    → (fault : ReadFault) → IsUnreadIn held.settled ⊥ cell fault → FailsFacts (TellsFacts kept held) rose fault
read-failed kept held cell rose known read_fault.Missing unread = λ told t.
    let same : t.0 ≡ held = told-held kept held told t in
    let there : is_some (row_at held.settled cell.model cell.id) ≡ true =
    ap (λ (s : Stages). is_some (row_at s.settled cell.model cell.id)) (sym same) ∙ sym (ap (λ (facts : Told). facts.knows cell.model cell.id) t.3) ∙ known told t in
    no-is-yes (sym (ap (λ (o : Option PlainRow). is_some o) unread) ∙ there)
read-failed kept held cell rose known read_fault.Keeper unread = absurd unread
read-failed kept held cell rose known read_fault.NoMemory unread = tt
