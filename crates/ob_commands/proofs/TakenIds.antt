-- The ids that rows took, one row after another, and how they are told; and the ids that no row has.
use Rattle.std.proofs.Common.{◌≡◌, ◌≤◌, ◌++◌, ◌∷◌, [], ℕ, Bool, false, min, inl, inr, List, length, map, Option, Some, None, is_some, refl, sym, ap, subst, ◌∙◌, arith}
use Rattle.std.specs.Option.{option_map_or}
use Rattle.std.specs.Prelude.{All, Contains, IfSome}
use Rattle.std.proofs.lemmas.Bool.{cases_lt, false≢true}
use Rattle.std.proofs.lemmas.List.{length-map}
use Rattle.std.proofs.lemmas.List.Elements.{All-map, All-nil, All-push, All-weaker}
use Rattle.serde_json.specs.Data.{Data, Items, array}
use Rattle.serde_json.specs.Find.{as_array}
use Rattle.serde_json.specs.View.{items_of, items_view, view}
use Rattle.serde_json.specs.Written.{has_float, items_have_float}
use Rattle.serde_json.specs.declared.value.Value.{Value as Json}
use Rattle.ob_call.proofs.CallerLemmas.{listed-items_view}
use Rattle.ob_codec.specs.Commands.{listed}
use Rattle.ob_base.specs.declared.id.ModelNo.{ModelNo}
use Rattle.ob_base.specs.declared.id.RecId.{RecId}
use Rattle.ob_cache.specs.Standing.{OfStages}
use Rattle.ob_cache.specs.declared.engine.Engine.{Engine}
use Rattle.ob_codec.specs.CommandForms.{list_json, number_json}
use Rattle.ob_effect.specs.NextIds.{IsTaken, NextIdsRise}
use Rattle.ob_commands.specs.Changes.{TellsFor}
use Rattle.ob_effect.specs.Effect.{Asks, Takes}
use Rattle.ob_commands.specs.Making.{MissesSome, TakeAll, TellsTaken}
use Rattle.ob_io.specs.declared.keeper.Keeper.{Ghosts}
use Rattle.ob_schema.specs.Tables.{PlainRow, Tables, next_of, row_at}

-- ---- ids that were taken

-- by later tables too, and from earlier ones on
taken-on : (model : ModelNo) (x y z : Tables) (id : ℕ) → NextIdsRise y z → IsTaken model x y id → IsTaken model x z id
taken-on model x y z id rises h = let up = rises model in let from = h.0 in let to = h.1 in (from, omega arith)

taken-from : (model : ModelNo) (x y z : Tables) (id : ℕ) → NextIdsRise x y → IsTaken model y z id → IsTaken model x z id
taken-from model x y z id rises h = let up = rises model in let from = h.0 in let to = h.1 in (omega arith, to)

rise-then : (x y z : Tables) → NextIdsRise x y → NextIdsRise y z → NextIdsRise x z
rise-then x y z first second model = let one = first model in let more = second model in let all : next_of x model ≤ next_of z model = omega arith in all

module _ {K : Type 0} (g : Ghosts K) (model : ModelNo) where
  -- none so far
  pub take-none : (a : Engine K) (ids : List RecId) → ids ≡ [] → TakeAll g model ids a a
  take-none a ids none at stands = (
    at,
    stands,
    refl,
    refl,
    (λ own. let same : next_of at.staged own ≤ next_of at.staged own = omega arith in same),
    subst (All (λ (id : RecId). IsTaken model at.staged at.staged id.0)) (sym none) (All-nil (λ (id : RecId). IsTaken model at.staged at.staged id.0)),
  )

  -- one more
  pub take-more : (a b c : Engine K) (ids all : List RecId) (id : RecId) → all ≡ ids ++ id ∷ [] → TakeAll g model ids a b → Takes g model id b c → TakeAll g model all a c
  take-more a b c ids all id is first second at stands =
      let (mid, there, flushed, settled, rises, taken) = first at stands in
      let (now, then, flushed_on, settled_on, rises_on, own) = second mid there in (
        now,
        then,
        flushed_on ∙ flushed,
        settled_on ∙ settled,
        rise-then at.staged mid.staged now.staged rises rises_on,
        subst (All (λ (id : RecId). IsTaken model at.staged now.staged id.0)) (sym is)
            (All-push (λ (id : RecId). IsTaken model at.staged now.staged id.0) ids id
            (All-weaker (λ (id : RecId). IsTaken model at.staged mid.staged id.0) (λ (id : RecId). IsTaken model at.staged now.staged id.0) (λ other h. taken-on model at.staged mid.staged now.staged other.0 rises_on h) ids taken)
            (taken-from model at.staged mid.staged now.staged id.0 rises own)),
      )

  -- ---- how they are told

  -- as a list
  all-told : (old new : Tables) (d : Data) (items : List Json) (ids : List RecId) (told : Data) → Some (items_view items) ≡ as_array d → told ≡ list_json (map number_json (map (λ id. id.0) ids)) → length ids ≡ length items
      → All (λ id. IsTaken model old new id.0) ids → TellsFor model old new d told
  all-told old new (array own) items ids told is are each taken =
      let same : items_view items ≡ own = cc in
      let counted : length (map (λ (id : RecId). id.0) ids) ≡ length (listed own) =
      length-map ids (λ (id : RecId). id.0) ∙ each ∙ sym (length-map items view) ∙ ap length (sym (listed-items_view items)) ∙ ap (λ (xs : Items). length (listed xs)) same in
      (map (λ id. id.0) ids, are, counted, All-map (IsTaken model old new) (λ (id : RecId). id.0) ids taken)
  all-told old new _ items ids told is are each taken = absurd cc

  pub tells-list : (a b : Engine K) (d : Data) (items : List Json) (ids : List RecId) (told : Data) → Some (items_view items) ≡ as_array d → told ≡ list_json (map number_json (map (λ id. id.0) ids)) → length ids ≡ length items
      → TakeAll g model ids a b → TellsTaken g model d told a b
  tells-list a b d items ids told is are each takes at stands =
      let (now, there, flushed, settled, rises, taken) = takes at stands in (now, there, flushed, settled, rises, all-told at.staged now.staged d items ids told is are each taken)

  -- alone
  alone : (old new : Tables) (d : Data) (id : RecId) (told : Data) → None ≡ as_array d → told ≡ number_json id.0 → IsTaken model old new id.0 → TellsFor model old new d told
  alone old new (array own) id told is one taken = absurd cc
  alone old new _ id told is one taken = (id.0, one, taken)

  pub tells-one : (a b : Engine K) (d : Data) (id : RecId) (told : Data) → None ≡ as_array d → told ≡ number_json id.0 → Takes g model id a b → TellsTaken g model d told a b
  tells-one a b d id told is one takes at stands =
      let (now, there, flushed, settled, rises, taken) = takes at stands in (now, there, flushed, settled, rises, alone at.staged now.staged d id told is one taken)

  -- ---- ids that no row has

  none_there : (o : Option PlainRow) (there : Bool) → there ≡ is_some o → there ≡ false → o ≡ None
  none_there None there is absent = refl
  none_there (Some row) there is absent = absurd (false≢true (sym absent ∙ is))

  -- of an id that is asked for, by an engine that was asked before
  pub misses-one : (a b : Engine K) (ids : List ℕ) (id : ℕ) (there : Bool) → Asks g a b → Contains ids id
      → OfStages (g.kept b.keeper.now) b.held (λ at. there ≡ is_some (row_at at.staged model (record { 0 = id }))) → there ≡ false → MissesSome g model ids a id
  misses-one a b ids id there asked among told absent = (among, λ at stands. none_there (row_at at.staged model (record { 0 = id })) there (told at (asked.same.stands at stands)) absent)

-- the lesser of two is one of them
pub least-known : (P : ℕ → Type 0) (missing least : Option ℕ) (id : ℕ) → least ≡ Some (option_map_or (λ other. min other id) missing id) → IfSome missing P → P id → IfSome least P
least-known P None least id is known own = subst (λ (o : Option ℕ). IfSome o P) (sym is) own
least-known P (Some other) least id is known own =
    subst (λ (o : Option ℕ). IfSome o P) (sym is) (elim (cases_lt other id) [
      | inl lt ↦ (let same : other ≡ min other id = omega arith in subst P same known)
      | inr le ↦ (let same : id ≡ min other id = omega arith in subst P same own)
    ])

-- ---- numbers have no float

numbers-plain : (ids : List ℕ) → items_have_float (items_of (map number_json ids)) ≡ false
numbers-plain [] = refl
numbers-plain (id ∷ ids) = numbers-plain ids

pub told-plain : (told : Data) (ids : List ℕ) → told ≡ list_json (map number_json ids) → has_float told ≡ false
told-plain told ids is = ap has_float is ∙ numbers-plain ids
