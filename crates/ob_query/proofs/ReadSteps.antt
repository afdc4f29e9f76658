-- The steps of fetching rows one after another.
use Rattle.std.proofs.Common.{◌≡◌, ℕ, true, false, List, [], ◌∷◌, ◌++◌, map, Option, Some, None, refl, sym, subst, ◌∙◌}
use Rattle.std.specs.Prelude.{IfSome, Contains}
use Rattle.std.proofs.lemmas.List.{map-append}
use Rattle.std.proofs.lemmas.Option.{IfSome_then}
use Rattle.std.proofs.lemmas.List.Elements.{All-cons, All-contains, All-nil}
use Rattle.ob_base.specs.declared.id.FieldNo.{FieldNo}
use Rattle.ob_base.specs.declared.id.ModelNo.{ModelNo}
use Rattle.ob_cache.specs.declared.engine.Engine.{Engine}
use Rattle.ob_io.specs.declared.keeper.Keeper.{Ghosts}
use Rattle.ob_schema.specs.Facts.{OfAllTold, Told}
use Rattle.ob_schema.specs.Fields.{Column}
use Rattle.ob_schema.specs.Models.{model_at}
use Rattle.ob_schema.specs.declared.info.ModelInfo.{ModelInfo}
use Rattle.serde_json.specs.Data.{Data, array}
use Rattle.serde_json.specs.View.{items_of, view}
use Rattle.serde_json.specs.Written.{has_float, items_have_float}
use Rattle.serde_json.specs.declared.value.Value.{Value as Json}
use Rattle.ob_call.proofs.CallerLemmas.{asked-gap, asked-still, both_plain, least_of, left_plain, right_plain}
use Rattle.ob_call.specs.Columns.{columns_at}
use Rattle.ob_query.proofs.Asked.{asked_then}
use Rattle.ob_query.proofs.Callers.{tells_on}
use Rattle.ob_query.proofs.LeastFailing.{AllPass, Passes, failing-first, failing-kept, failing-lesser}
use Rattle.ob_query.specs.Read.{IsLeastFailing, TellsRow, TellsRows}
use Rattle.ob_query.specs.ReadParts.{TellsOrHides}
use Rattle.ob_query.specs.ReadRows.{AreFetched, ListsRows}
use Rattle.ob_query.specs.SearchQuestions.{OnlyAsked, TellsTo}
use Rattle.ob_query.specs.declared.caller.Caller.{Caller}

module _ (told : Told) (model : ModelNo) where
  -- the ids of rows that are told are known
  all_there : (fields : List Column) (ids : List ℕ) (objects : List Data) → TellsRows told model fields ids objects → AllPass (told.knows model) ids
  all_there fields [] [] tell = All-nil (Passes (told.knows model))
  all_there fields [] (d ∷ objects) tell = absurd tell
  all_there fields (other ∷ ids) [] tell = absurd tell
  all_there fields (other ∷ ids) (d ∷ objects) tell = All-cons (Passes (told.knows model)) other ids tell.0 (all_there fields ids objects tell.2)

  -- one row more is told
  one_more : (fields : List Column) (ids : List ℕ) (objects : List Data) (id : ℕ) (d : Data) → TellsRows told model fields ids objects → told.knows model (record { 0 = id }) ≡ true
      → TellsRow told model fields (record { 0 = id }) d → TellsRows told model fields (ids ++ id ∷ []) (objects ++ d ∷ [])
  one_more fields [] [] id d tell there is = (there, is, tt)
  one_more fields [] (o ∷ objects) id d tell there is = absurd tell
  one_more fields (other ∷ ids) [] id d tell there is = absurd tell
  one_more fields (other ∷ ids) (o ∷ objects) id d tell there is = (tell.0, tell.1, one_more fields ids objects id d tell.2 there is)

  -- one row more was fetched
  fetched_row : (fields : List Column) (ids : List ℕ) (objects : List Data) (hidden : Option ℕ) (id : ℕ) (d : Data) → AreFetched told model fields ids objects hidden → told.knows model (record { 0 = id }) ≡ true
      → TellsRow told model fields (record { 0 = id }) d → AreFetched told model fields (ids ++ id ∷ []) (objects ++ d ∷ []) hidden
  fetched_row fields ids objects None id d tell there is = one_more fields ids objects id d tell there is
  fetched_row fields ids objects (Some gap) id d are there is = failing-kept (told.knows model) ids gap id are there

  -- one id more is hidden
  fetched_gap : (fields : List Column) (ids : List ℕ) (objects : List Data) (hidden : Option ℕ) (id : ℕ) → AreFetched told model fields ids objects hidden → told.knows model (record { 0 = id }) ≡ false
      → AreFetched told model fields (ids ++ id ∷ []) objects (Some (least_of hidden id))
  fetched_gap fields ids objects None id tell none = failing-first (told.knows model) ids id (all_there fields ids objects tell) none
  fetched_gap fields ids objects (Some gap) id are none = failing-lesser (told.knows model) ids gap id are none

-- one object more without a float
plain_push : (objects : List Data) (d : Data) → items_have_float (items_of objects) ≡ false → has_float d ≡ false → items_have_float (items_of (objects ++ d ∷ [])) ≡ false
plain_push [] d e f = both_plain (has_float d) false f refl
plain_push (o ∷ objects) d e f =
    both_plain (has_float o) (items_have_float (items_of (objects ++ d ∷ []))) (left_plain (has_float o) (items_have_float (items_of objects)) e)
    (plain_push objects d (right_plain (has_float o) (items_have_float (items_of objects)) e) f)

-- ---- of a model that may be there

-- the objects of the ids so far, or the least that is hidden, with the fields of these numbers
abbrev pub FetchedIn : Told → Option ModelInfo → ModelNo → List FieldNo → List ℕ → List Json → Option ℕ → Type 0
FetchedIn told found model numbers ids objects hidden = IfSome found (λ info. AreFetched told model (columns_at info numbers) ids (map view objects) hidden)

-- an object tells of the id's row, or there is none
abbrev pub ObjectIn : Told → Option ModelInfo → ModelNo → List FieldNo → ℕ → Option Json → Type 0
ObjectIn told found model numbers id object = IfSome found (λ info. TellsOrHides told model (columns_at info numbers) (record { 0 = id }) object)

row_in : (told : Told) (found : Option ModelInfo) (model : ModelNo) (numbers : List FieldNo) (ids : List ℕ) (objects : List Json) (hidden : Option ℕ) (id : ℕ) (json : Json)
    → FetchedIn told found model numbers ids objects hidden → ObjectIn told found model numbers id (Some json) → FetchedIn told found model numbers (ids ++ id ∷ []) (objects ++ json ∷ []) hidden
row_in told None model numbers ids objects hidden id json so_far are = tt
row_in told (Some info) model numbers ids objects hidden id json so_far are =
    subst (λ (ds : List Data). AreFetched told model (columns_at info numbers) (ids ++ id ∷ []) ds hidden) (sym (map-append view objects (json ∷ [])))
    (fetched_row told model (columns_at info numbers) ids (map view objects) hidden id (view json) so_far are.0 are.1)

gap_in : (told : Told) (found : Option ModelInfo) (model : ModelNo) (numbers : List FieldNo) (ids : List ℕ) (objects : List Json) (hidden : Option ℕ) (id : ℕ)
    → FetchedIn told found model numbers ids objects hidden → ObjectIn told found model numbers id None → FetchedIn told found model numbers (ids ++ id ∷ []) objects (Some (least_of hidden id))
gap_in told None model numbers ids objects hidden id so_far none = tt
gap_in told (Some info) model numbers ids objects hidden id so_far none = fetched_gap told model (columns_at info numbers) ids (map view objects) hidden id so_far none

-- ---- what holds after the ids so far were fetched

module _ {K : Type 0} (g : Ghosts K) (by : Caller) (first : Engine K) (model : ModelNo) (numbers : List FieldNo) where
  -- only questions came since, and the ids so far were fetched
  pub record IsFetching (now : Engine K) (ids : List ℕ) (objects : List Json) (hidden : Option ℕ) : Type 0 where
    pub asked : OnlyAsked g first now
    pub told : OfAllTold (TellsTo g by first) (λ told. FetchedIn told (model_at first.held.models model) model numbers ids objects hidden)
    pub among : IfSome hidden (Contains ids)
    pub plain : items_have_float (items_of (map view objects)) ≡ false

  -- what was told by an engine that was asked before
  by_first : (now : Engine K) (object : Option Json) (id : ℕ) → OnlyAsked g first now → OfAllTold (TellsTo g by now) (λ told. ObjectIn told (model_at now.held.models model) model numbers id object)
      → OfAllTold (TellsTo g by first) (λ told. ObjectIn told (model_at first.held.models model) model numbers id object)
  by_first now object id asked found told tells =
      subst (λ (models : List ModelInfo). ObjectIn told (model_at models model) model numbers id object) asked.same.models (found told (tells_on g by first now asked told tells))

  -- the next row is told
  pub IsFetching-row : (now next : Engine K) (ids : List ℕ) (objects : List Json) (hidden : Option ℕ) (id : ℕ) (json : Json)
      → OfAllTold (TellsTo g by now) (λ told. ObjectIn told (model_at now.held.models model) model numbers id (Some json)) → has_float (view json) ≡ false → OnlyAsked g now next
      → IsFetching now ids objects hidden → IsFetching next (ids ++ id ∷ []) (objects ++ json ∷ []) hidden
  IsFetching-row now next ids objects hidden id json found plain asked so_far = record {
    asked = asked_then g first now next so_far.asked asked;
    told = λ told tells. row_in told (model_at first.held.models model) model numbers ids objects hidden id json (so_far.told told tells) (by_first now (Some json) id so_far.asked found told tells);
    among = asked-still ids hidden id so_far.among;
    plain = subst (λ (ds : List Data). items_have_float (items_of ds) ≡ false) (sym (map-append view objects (json ∷ []))) (plain_push (map view objects) (view json) so_far.plain plain);
  }

  -- the next one is hidden
  pub IsFetching-gap : (now next : Engine K) (ids : List ℕ) (objects : List Json) (hidden : Option ℕ) (id : ℕ)
      → OfAllTold (TellsTo g by now) (λ told. ObjectIn told (model_at now.held.models model) model numbers id None) → OnlyAsked g now next
      → IsFetching now ids objects hidden → IsFetching next (ids ++ id ∷ []) objects (Some (least_of hidden id))
  IsFetching-gap now next ids objects hidden id found asked so_far = record {
    asked = asked_then g first now next so_far.asked asked;
    told = λ told tells. gap_in told (model_at first.held.models model) model numbers ids objects hidden id (so_far.told told tells) (by_first now None id so_far.asked found told tells);
    among = asked-gap ids hidden id so_far.among;
    plain = so_far.plain;
  }

-- ---- the answer, once all were fetched

module _ (told : Told) (model : ModelNo) (numbers : List FieldNo) (ids : List ℕ) (objects : List Json) where
  -- all rows are told
  pub answers_rows : (found : Option ModelInfo) (json : Data) → json ≡ array (items_of (map view objects)) → FetchedIn told found model numbers ids objects None
      → IfSome found (λ info. ListsRows told model (columns_at info numbers) ids json)
  answers_rows found json is rows = IfSome_then found rows (λ info tell. (map view objects, tell, is))

  -- an id whose row is known isn't the one that is hidden
  no_gap : (id : ℕ) → AllPass (told.knows model) ids → IsLeastFailing (told.knows model) ids id → ⊥
  no_gap id there gap =
      let row : told.knows model (record { 0 = id }) ≡ true = All-contains (Passes (told.knows model)) ids id there gap.asked in
      let e : true ≡ false = sym row ∙ gap.fails in absurd cc

  -- where all are known, all are told
  pub rows_told : (found : Option ModelInfo) (hidden : Option ℕ) (json : Data) → json ≡ array (items_of (map view objects)) → AllPass (told.knows model) ids → FetchedIn told found model numbers ids objects hidden
      → IfSome found (λ info. ListsRows told model (columns_at info numbers) ids json)
  rows_told found None json is there rows = answers_rows found json is rows
  rows_told found (Some id) json is there gap = IfSome_then found gap (λ info least. absurd (no_gap id there least))
