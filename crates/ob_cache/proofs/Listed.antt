-- Lists of the rows that differ between tables, as changes follow one another.
use Rattle.std.proofs.Common.{◌≡◌, ◌⊎◌, ◌++◌, inl, inr, Bool, true, false, List, map, Option, Some, None, refl, sym, subst, ◌∙◌}
use Rattle.std.specs.Prelude.{Contains, if◌then◌else◌, unwrap_or}
use Rattle.std.proofs.lemmas.List.Elements.{Contains-append_left}
use Rattle.ob_base.specs.declared.id.RowKey.{RowKey}
use Rattle.ob_cache.specs.Changing.{KeepsOthers}
use Rattle.ob_cache.specs.Rooms.{or_before}
use Rattle.ob_schema.specs.Tables.{Standing, Tables, key_of, row_at}
use Rattle.ob_schema.specs.declared.info.ModelInfo.{ModelInfo}
use Rattle.ob_sound.specs.Touched.{TouchesOnly}
use Rattle.ob_tables.specs.After.{after}
use Rattle.ob_tables.specs.Changes.{edited_row}
use Rattle.ob_tables.specs.declared.edit.Edit.{Edit}

-- nothing is touched between the same tables
pub touches-none : (keys : List RowKey) (tables : Tables) → TouchesOnly keys (record { before = tables; behind = tables })
touches-none keys tables model id = inl refl

-- one change behind another
pub touches-then : (first second all : List RowKey) (a b c : Tables) → TouchesOnly first (record { before = a; behind = b }) → TouchesOnly second (record { before = b; behind = c })
    → ((key : RowKey) → Contains first key → Contains all key) → ((key : RowKey) → Contains second key → Contains all key) → TouchesOnly all (record { before = a; behind = c })
touches-then first second all a b c one next in_first in_second model id = by (one model id) (next model id)
  where
    by : (row_at a model id ≡ row_at b model id) ⊎ Contains first (key_of model id) → (row_at b model id ≡ row_at c model id) ⊎ Contains second (key_of model id)
        → (row_at a model id ≡ row_at c model id) ⊎ Contains all (key_of model id)
    by (inl is) (inl also) = inl (is ∙ also)
    by (inl is) (inr among) = inr (in_second (key_of model id) among)
    by (inr among) _ = inr (in_first (key_of model id) among)

-- edits behind other changes
pub edits-touch : ((models : List ModelInfo) (tables : Tables) (edits : List Edit) → TouchesOnly (map edited_row edits) (record { before = tables; behind = after models tables edits }))
    → (models : List ModelInfo) (before staged : Tables) (edits : List Edit) (old new : List RowKey) → TouchesOnly old (record { before = before; behind = staged })
    → ((key : RowKey) → Contains old key → Contains new key) → ((key : RowKey) → Contains (map edited_row edits) key → Contains new key)
    → TouchesOnly new (record { before = before; behind = after models staged edits })
edits-touch law models before staged edits old new earlier kept added =
    touches-then old (map edited_row edits) new before staged (after models staged edits) earlier (law models staged edits) kept added

-- rows that are kept in the same form, change behind change
pub others-then : (first all : List RowKey) (a b c : Standing) → KeepsOthers a b first → KeepsOthers b c all → ((key : RowKey) → Contains first key → Contains all key) → KeepsOthers a c all
others-then first all a b c one next wider key not = one key (λ among. not (wider key among)) ∙ next key not

-- a list that more is added to, or not
pub added-kept : {X : Type 0} (b : Bool) (old more new : List X) → new ≡ (if b then old ++ more else old) → (x : X) → Contains old x → Contains new x
added-kept true old more new is x one = subst (λ l. Contains l x) (sym is) (Contains-append_left old more x one)
added-kept false old more new is x one = subst (λ l. Contains l x) (sym is) one

-- what the tables that were settled last are
pub last-tables : (settled : Option Standing) (flushed : Standing) → (unwrap_or settled flushed).tables ≡ or_before settled flushed.tables
last-tables None flushed = refl
last-tables (Some s) flushed = refl

pub last-models : (models : List ModelInfo) (settled : Option Standing) (flushed : Standing) → flushed.models ≡ models → ((s : Standing) → settled ≡ Some s → s.models ≡ models) → (unwrap_or settled flushed).models ≡ models
last-models models None flushed over each = over
last-models models (Some s) flushed over each = each s refl
