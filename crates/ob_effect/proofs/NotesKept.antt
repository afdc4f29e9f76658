-- What more is noted, of models and their fields.
use Rattle.std.proofs.Common.{◌≡◌, ◌≤◌, ◌+◌, ◌++◌, ◌∷◌, [], List, Vec, Global, length, length-append, refl, sym, subst, ◌∙◌, arith}
use Rattle.std.specs.Prelude.{All}
use Rattle.std.specs.BTreeSet as sorted
use Rattle.std.specs.declared.cmp.Ordering.{Ordering}
use Rattle.std.proofs.lemmas.List.Elements.{All-cons, All-head, All-nil, All-push, All-tail}
use Rattle.std.proofs.lemmas.Map.Views.{All-insert_key}
use Rattle.ob_base.specs.Limits.{max_id}
use Rattle.ob_base.specs.declared.id.RowKey.{RowKey}
use Rattle.ob_effect.specs.Effect.{KeepsNoted, KeepsNotes}
use Rattle.ob_effect.specs.declared.notes.Naming.{Naming}
use Rattle.ob_effect.specs.declared.notes.Notes.{Notes}
use Rattle.ob_effect.specs.declared.notes.Touch.{Touch}
use Rattle.ob_schema.specs.Models.{HasField, HasModel}
use Rattle.ob_schema.specs.declared.info.ModelInfo.{ModelInfo}

-- what holds of all with one behind them holds of them
All-first : {X : Type 0} (P : X → Type 0) (xs : List X) (x : X) → All P (xs ++ x ∷ []) → All P xs
All-first P [] x h = All-nil P
All-first P (y ∷ xs) x h = All-cons P y xs (All-head P y (xs ++ x ∷ []) h) (All-first P xs x (All-tail P y (xs ++ x ∷ []) h))

-- one more
pushed : {X : Type 0} (P : X → Type 0) (old new : List X) (x : X) → new ≡ old ++ x ∷ [] → All P old → P x → All P new
pushed P old new x is all own = subst (All P) (sym is) (All-push P old x all own)

module _ (models : List ModelInfo) where
  -- nothing more
  pub notes_none : (a : Notes) → KeepsNotes models a a
  notes_none a = record { noted = λ held is. is; made = refl }

  -- one behind another
  pub notes_then : (a b c : Notes) → KeepsNotes models a b → KeepsNotes models b c → KeepsNotes models a c
  notes_then a b c first second = record { noted = λ held is. second.noted held (first.noted held is); made = second.made ∙ first.made }

  -- a cell that is given an id
  pub notes_named : (a : Notes) (named : Vec Naming Global) (one : Naming) → named.items ≡ a.named.items ++ one ∷ [] → HasField models one.cell.model one.cell.field → HasModel models one.target.model
      → KeepsNotes models a (record a { named = named })
  notes_named a named one is field target = record {
    noted = λ held noted. record {
      touched = noted.touched;
      made = noted.made;
      gone = noted.gone;
      cells = pushed (λ (n : Naming). HasField models n.cell.model n.cell.field) a.named.items named.items one is noted.cells field;
      targets = pushed (λ (n : Naming). HasModel models n.target.model) a.named.items named.items one is noted.targets target;
      broken = noted.broken;
      next_ids = noted.next_ids;
      low = noted.low;
    };
    made = refl;
  }

  -- a row that goes
  pub notes_gone : (a : Notes) (gone : Vec RowKey Global) (row : RowKey) → gone.items ≡ a.gone.items ++ row ∷ [] → HasModel models row.model → KeepsNotes models a (record a { gone = gone })
  notes_gone a gone row is model = record {
    noted = λ held noted. record {
      touched = noted.touched;
      made = noted.made;
      gone = pushed (λ (r : RowKey). HasModel models r.model) a.gone.items gone.items row is noted.gone model;
      cells = noted.cells;
      targets = noted.targets;
      broken = noted.broken;
      next_ids = noted.next_ids;
      low = noted.low;
    };
    made = refl;
  }

  -- a row that is written or deleted
  pub notes_touched : (a : Notes) (touched : sorted.BTreeSet Touch) (cmp : Touch → Touch → Ordering) (touch : Touch) → touched.keys ≡ sorted.insert_key cmp a.touched.keys touch → HasModel models touch.row.model
      → KeepsNotes models a (record a { touched = touched })
  notes_touched a touched cmp touch is model = record {
    noted = λ held noted. record {
      touched = subst (All (λ (t : Touch). HasModel models t.row.model)) (sym is) (All-insert_key cmp touch (λ (t : Touch). HasModel models t.row.model) a.touched.keys noted.touched model);
      made = noted.made;
      gone = noted.gone;
      cells = noted.cells;
      targets = noted.targets;
      broken = noted.broken;
      next_ids = noted.next_ids;
      low = noted.low;
    };
    made = refl;
  }

  -- a row that is made
  pub notes_made : (a : Notes) (made : Vec RowKey Global) (row : RowKey) → made.items ≡ a.made.items ++ row ∷ [] → HasModel models row.model → KeepsNoted models a (record a { made = made })
  notes_made a made row is model held noted = record {
    touched = noted.touched;
    made = pushed (λ (r : RowKey). HasModel models r.model) a.made.items made.items row is noted.made model;
    gone = noted.gone;
    cells = noted.cells;
    targets = noted.targets;
    broken = noted.broken;
    next_ids = λ own has.
        let up = noted.next_ids own has in
        let more : length made.items ≡ length a.made.items + length (row ∷ []) = subst (λ (l : List RowKey). length l ≡ length a.made.items + length (row ∷ [])) (sym is) (length-append a.made.items (row ∷ [])) in
        omega (arith, up, more);
    low = λ within. noted.low (All-first (λ (r : RowKey). r.id.0 ≤ max_id) a.made.items row (subst (All (λ (r : RowKey). r.id.0 ≤ max_id)) is within));
  }
