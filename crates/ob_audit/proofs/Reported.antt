-- The report on what was read of a keeper is the report on its rows.
use Rattle.std.proofs.Common.{◌≡◌, ◌++◌, inl, inr, ℕ, Bool, true, false, List, [], ◌∷◌, map, Option, Some, None, Result, Ok, Err, sym, ap, subst, ◌∙◌}
use Rattle.std.specs.Prelude.{IfOk, IfSome, codes}
use Rattle.ob_base.specs.declared.id.Cell.{Cell}
use Rattle.ob_base.specs.declared.refusal.Broken.{Broken}
use Rattle.ob_base.specs.declared.value.Value.{Value}
use Rattle.ob_audit.specs.Comparing.{AddsByName, AddsSums, IsFull}
use Rattle.ob_audit.specs.Reading.{AreStored}
use Rattle.ob_audit.specs.Report.{IsReport, broken_line, last_line, sum_line, unreadable_line}
use Rattle.ob_audit.specs.Rows.{ArePlain, IsFirstTo, ShowsUnread}
use Rattle.ob_audit.specs.Sums.{goods_in}
use Rattle.ob_audit.specs.declared.report.Report.{Report}
use Rattle.ob_audit.proofs.Compared.{tells-tables}
use Rattle.ob_io.specs.Store.{Store}
use Rattle.ob_schema.specs.Broken.{IsFirstBroken, Sound}
use Rattle.ob_schema.specs.Tables.{Standing, Tables}
use Rattle.ob_schema.specs.declared.info.ModelInfo.{ModelInfo}

-- the report on rows that can be read, where the keeper tells them
pub told-report : (models : List ModelInfo) (kept : Option Store) (tables : Tables) (stored : List (Cell × Value)) (report : Report)
    → IfSome kept (λ store. ArePlain models store tables) → IfSome kept (λ store. AreStored models store stored)
    → ((store : Store) → ArePlain models store tables → AreStored models store stored → IsReport models store report) → IfSome kept (λ store. IsReport models store report)
told-report models None tables stored report plain are tells = tt
told-report models (Some store) tables stored report plain are tells = tells store plain are

-- the report on rows of which one can't be read
pub unread-report : (models : List ModelInfo) (kept : Option Store) (cell : Cell) (report : Report) → IfSome kept (λ store. IsFirstTo (ShowsUnread models store) cell)
    → report.lines ≡ unreadable_line models cell ∷ codes "audit differs" ∷ [] → report.equal ≡ false → IfSome kept (λ store. IsReport models store report)
unread-report models None cell report first lines equal = tt
unread-report models (Some store) cell report first lines equal = inl (record { cell = cell; first = first; lines = lines; equal = equal })

module _ (models : List ModelInfo) (standing : Standing) (over : standing.models ≡ models) (store : Store) where
  -- the report on tables that break something
  pub broken-report : (broken : Broken) (report : Report) → IsFirstBroken standing.models standing.tables broken → report.lines ≡ broken_line models broken ∷ codes "audit differs" ∷ [] → report.equal ≡ false
      → ArePlain models store standing.tables → IsReport models store report
  broken-report broken report first lines equal plain =
      inr (standing.tables, inl (record { plain = plain; broken = broken; first = subst (λ (m : List ModelInfo). IsFirstBroken m standing.tables broken) over first; lines = lines; equal = equal }))

  -- and on those that break nothing
  pub sound-report : (stored : List (Cell × Value)) (report : Report) → Sound standing.models standing.tables → IsFull standing stored report → ArePlain models store standing.tables → AreStored models store stored
      → IsReport models store report
  sound-report stored report sound full =
      subst (λ (m : List ModelInfo). ArePlain m store standing.tables → AreStored m store stored → IsReport m store report) over
      (λ plain are. inr (standing.tables, inr (tells-tables standing stored store are plain sound report full)))

-- all lines one behind another
pub full-of : (standing : Standing) (stored : List (Cell × Value)) (start one two three : Report) → start.lines ≡ [] → start.equal ≡ true → AddsByName standing stored start one → AddsSums (goods_in standing.models standing.tables) one two
    → three.lines ≡ two.lines ++ last_line two.equal ∷ [] → three.equal ≡ two.equal → IsFull standing stored three
full-of standing stored start one two three none begins fields sums lines equal =
    let last = last_line two.equal ∷ [] in
    record {
      named = fields.named;
      by_name = fields.by_name;
      told = fields.adds.told;
      each = fields.adds.each;
      totals = sums.totals;
      are = sums.are;
      lines = lines ∙ ap (λ (l : List (List ℕ)). l ++ last) (sums.lines ∙ ap (λ (l : List (List ℕ)). l ++ map sum_line sums.totals) (fields.adds.lines ∙ ap (λ (l : List (List ℕ)). l ++ fields.adds.told) none))
          ∙ ap (λ (e : Bool). fields.adds.told ++ map sum_line sums.totals ++ last_line e ∷ []) (sym equal);
      equal = (
        λ yes. (let later = sums.equal.0 (sym equal ∙ yes) in ((fields.adds.equal.0 later.0).1, later.1)),
        λ both. equal ∙ sums.equal.1 (fields.adds.equal.1 (begins, both.0), both.1),
      );
    }

-- the same of what is answered
module _ {E : Type 0} (models : List ModelInfo) (standing : Standing) (over : standing.models ≡ models) where
  pub broken-told : (stored : List (Cell × Value)) (broken : Broken) (line : List ℕ) (r : Result Report E) → IsFirstBroken standing.models standing.tables broken → line ≡ broken_line models broken
      → IfOk r (λ report. report.lines ≡ line ∷ codes "audit differs" ∷ []) → IfOk r (λ report. report.equal ≡ false)
      → IfOk r (λ report. (store : Store) → ArePlain models store standing.tables → AreStored models store stored → IsReport models store report)
  broken-told stored broken line (Err e) first text lines equal = tt
  broken-told stored broken line (Ok report) first text lines equal =
      λ store plain are. broken-report models standing over store broken report first (lines ∙ ap (λ (l : List ℕ). l ∷ codes "audit differs" ∷ []) text) equal plain

  pub sound-told : (stored : List (Cell × Value)) (r : Result Report E) → Sound standing.models standing.tables → IfOk r (IsFull standing stored)
      → IfOk r (λ report. (store : Store) → ArePlain models store standing.tables → AreStored models store stored → IsReport models store report)
  sound-told stored (Err e) sound full = tt
  sound-told stored (Ok report) sound full = λ store plain are. sound-report models standing over store stored report sound full plain are
