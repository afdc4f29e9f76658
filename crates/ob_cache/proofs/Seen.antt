-- The values that are read of the stages.
use Rattle.std.proofs.Common.{◌≡◌, ◌≢◌, ◌⊎◌, inl, inr, Bool, true, false, List, Option, Some, None, Ok, Err, is_some, IsSome, refl, sym, ap, subst, ◌∙◌}
use Rattle.std.specs.Option.{option_map_or}
use Rattle.std.specs.Prelude.{if◌then◌else◌, IfSome, IsSomeAnd, option_map}
use Rattle.ob_base.specs.declared.id.Cell.{Cell}
use Rattle.ob_base.specs.declared.value.Value.{Value}
use Rattle.ob_cache.proofs.PlainValues.{plain-told}
use Rattle.ob_cache.proofs.TypedCells.{plain-told-typed}
use Rattle.ob_cache.specs.Rooms.{AreHeldOver, IsValueIn, held_stages, or_before}
use Rattle.ob_cache.specs.Stages.{IsPlainCell, IsReadable, IsShown, IsStoredCell, IsUsable, Stages, seen, seen_in}
use Rattle.ob_cache.specs.declared.stages.Phase.{Phase}
use Rattle.ob_cache.specs.declared.stages.Phase.TheVariants as phase
use Rattle.ob_codec.specs.Held.{HasFieldType}
use Rattle.ob_expr.specs.Computing.{unread}
use Rattle.ob_schema.specs.Fields.{is_kept}
use Rattle.ob_schema.specs.Models.{IsRegistry, field_at, is_computed_from, is_given_from}
use Rattle.ob_schema.specs.Plain.{plain_at}
use Rattle.ob_schema.specs.Tables.{Fits, PlainRow, Standing, Tables, row_at}
use Rattle.ob_schema.specs.Val.{val, value_from, value_in}
use Rattle.ob_schema.specs.declared.info.FieldInfo.{FieldInfo}
use Rattle.ob_schema.specs.declared.info.ModelInfo.{ModelInfo}
use Rattle.ob_schema.specs.declared.info.Origin.{Origin}
use Rattle.ob_schema.specs.declared.info.Origin.TheVariants as origin
use Rattle.ob_tables.proofs.CallerLemmas.{known_at, told_and}
use Rattle.ob_tables.specs.Fitting.{IsFitId}
use Rattle.ob_base.specs.declared.id.RecId.{RecId}

ok-is-no-fault : {X E : Type 0} (e : E) (x : X) → Err e ≡ Ok x → ⊥
ok-is-no-fault e x is = cc

some-is-not-none : {X : Type 0} (x : X) → Some x ≡ None → ⊥
some-is-not-none x is = cc

no-is-not-yes : false ≡ true → ⊥
no-is-not-yes is = cc

-- where all is settled, nothing is staged
pub rest-staged : (models : List ModelInfo) (flushed : Standing) (settled staged : Option Standing) (p : Phase) (stages : Stages) → held_stages models flushed settled staged p ≡ stages → AreHeldOver models flushed settled staged p
    → stages.phase ≡ phase.Settled → stages.staged ≡ stages.settled
rest-staged models flushed settled staged p stages view over settled_is =
    subst (λ (st : Stages). st.phase ≡ phase.Settled → st.staged ≡ st.settled) view
    (λ is. ap (λ (o : Option Standing). or_before o (or_before settled flushed.tables)) (over.at_rest is)) settled_is

-- the row of a cell with a value is there
pub valued-row : (models : List ModelInfo) (tables : Tables) (c : Cell) (v : Value) → val models tables c ≡ Ok v → IsSome (row_at tables c.model c.id)
valued-row models tables c v is = by (row_at tables c.model c.id) refl
  where
    by : (r : Option PlainRow) → row_at tables c.model c.id ≡ r → IsSome r
    by (Some row) there = refl
    by None none =
        let absent : val models tables c ≡ Err (unread c) =
        ap (λ (r : Option PlainRow). option_map_or (λ _. option_map_or (λ i. value_from models tables (value_in models tables 577) i.origin i c) (field_at models c.model c.field) (Err (unread c))) r (Err (unread c))) none in
        absurd (ok-is-no-fault (unread c) v (sym absent ∙ is))

-- so is that of a cell whose value is told
pub told-row : (s : Standing) (c : Cell) (v : Value) → IsValueIn s c (Some v) → IsSome (row_at s.tables c.model c.id)
told-row s c v is = valued-row s.models s.tables c v is

-- where a value is told, the cell's id has a next one
pub told-fit : (s : Standing) (c : Cell) → ((id : RecId) → IsSome (row_at s.tables c.model id) → IsFitId id) → (o : Option Value) → IsValueIn s c o → IfSome o (λ _. IsFitId c.id)
told-fit s c fit None is = tt
told-fit s c fit (Some v) is = fit c.id (told-row s c v is)

-- what tables give for a plain cell is its value, of its type
module _ (s : Standing) (c : Cell) (given : IsSomeAnd (field_at s.models c.model c.field) (λ info. is_given_from info.origin ≡ true)) (o : Option Value) (is : o ≡ plain_at s.tables s.models c) where
  pub given-told : IsValueIn s c o
  given-told = let info = told_and (field_at s.models c.model c.field) (λ info. is_given_from info.origin ≡ true) given in plain-told s.models s.tables c info.0 o info.1 info.2 is

  pub given-typed : IsRegistry s.models → Fits s.models s.tables → IfSome o (HasFieldType (field_at s.models c.model c.field))
  given-typed registry fits = let info = told_and (field_at s.models c.model c.field) (λ info. is_given_from info.origin ≡ true) given in plain-told-typed s.models s.tables registry fits c info.0 info.1 o is

-- a formula or another row gives what the row itself isn't given
not-given : (o : Origin) → o ≢ origin.Id → o ≢ origin.Plain → is_given_from o ≡ false
not-given origin.Id id plain = absurd (id refl)
not-given origin.Plain id plain = absurd (plain refl)
not-given (origin.Delegated at) id plain = refl
not-given (origin.Computed formula) id plain = refl

given-not-computed : (o : Origin) → is_given_from o ≡ true → is_computed_from o ≡ false
given-not-computed origin.Id given = refl
given-not-computed origin.Plain given = refl
given-not-computed (origin.Delegated at) given = absurd cc
given-not-computed (origin.Computed formula) given = absurd cc

module _ (stages : Stages) (c : Cell) (info : FieldInfo) (at : field_at stages.models c.model c.field ≡ Some info) where
  seen-by : (v : Value) (tables : Tables) → seen_in stages info ≡ tables → val stages.models tables c ≡ Ok v → seen stages c ≡ Some (Ok v)
  seen-by v tables where_is is = ap (option_map (λ i. val stages.models (seen_in stages i) c)) at ∙ ap (λ (t : Tables). Some (val stages.models t c)) where_is ∙ ap Some is

  -- a plain value is seen as it is told
  pub seen-plain : is_given_from info.origin ≡ true → (o : Option Value) → IsValueIn (record { models = stages.models; tables = stages.staged }) c o → IfSome o (λ v. seen stages c ≡ Some (Ok v))
  seen-plain given None is = tt
  seen-plain given (Some v) is = seen-by v stages.staged (ap (λ (b : Bool). if b then stages.settled else stages.staged) (given-not-computed info.origin given)) is

  -- while edits are staged what the row itself isn't given is read only where it is stored
  pub is-stored : is_given_from info.origin ≡ false → IsReadable stages.models stages.phase c → stages.phase ≡ phase.Staged → IsStoredCell stages.models c
  is-stored not_given readable staged = by (readable staged)
    where
      by : IsPlainCell stages.models c ⊎ IsStoredCell stages.models c → IsStoredCell stages.models c
      by (inr stored) = stored
      by (inl plain) = absurd (no-is-not-yes (sym not_given ∙ known_at (field_at stages.models c.model c.field) info (λ i. is_given_from i.origin ≡ true) at plain))

  module _ (not_given : is_given_from info.origin ≡ false) (usable : IsUsable stages.phase) (readable : IsReadable stages.models stages.phase c) (at_rest : stages.phase ≡ phase.Settled → stages.staged ≡ stages.settled) where
    -- then it is seen as it was settled last
    seen-settled-in : seen_in stages info ≡ stages.settled
    seen-settled-in = by stages.phase refl
      where
        either : (b : Bool) → stages.staged ≡ stages.settled → (if b then stages.settled else stages.staged) ≡ stages.settled
        either true same = refl
        either false same = same

        by : (p : Phase) → stages.phase ≡ p → seen_in stages info ≡ stages.settled
        by phase.Settled is = either (is_computed_from info.origin) (at_rest is)
        by phase.Staged is =
            let stored = known_at (field_at stages.models c.model c.field) info (λ i. (is_computed_from i.origin ≡ true) × (is_kept i ≡ true)) at (is-stored not_given readable is) in
            ap (λ (b : Bool). if b then stages.settled else stages.staged) stored.0
        by phase.Spoiled is = absurd (usable is)

    pub seen-settled : (o : Option Value) → IsValueIn (record { models = stages.models; tables = stages.settled }) c o → IfSome o (λ v. seen stages c ≡ Some (Ok v))
    seen-settled None is = tt
    seen-settled (Some v) is = seen-by v stages.settled seen-settled-in is

    -- where none is told, its row isn't there
    pub missing-settled : (o : Option Value) → IsValueIn (record { models = stages.models; tables = stages.settled }) c o → IsShown stages c → o ≡ None → row_at stages.staged c.model c.id ≡ None
    missing-settled (Some v) is shown none = absurd (some-is-not-none v none)
    missing-settled None is shown none = by stages.phase refl
      where
        by : (p : Phase) → stages.phase ≡ p → row_at stages.staged c.model c.id ≡ None
        by phase.Settled rest = ap (λ (t : Tables). row_at t c.model c.id) (at_rest rest) ∙ is
        by phase.Staged staged =
            let was : IsSome (row_at stages.settled c.model c.id) = (shown staged (is-stored not_given readable staged)).was in
            absurd (no-is-not-yes (sym (ap is_some is) ∙ was))
        by phase.Spoiled spoiled = absurd (usable spoiled)

-- the same of what is held
pub held-seen : (models : List ModelInfo) (flushed : Standing) (settled staged : Option Standing) (p : Phase) (stages : Stages) → held_stages models flushed settled staged p ≡ stages → AreHeldOver models flushed settled staged p
    → (c : Cell) (info : FieldInfo) → field_at models c.model c.field ≡ Some info → info.origin ≢ origin.Id → info.origin ≢ origin.Plain → IsUsable stages.phase → IsReadable stages.models stages.phase c
    → (o : Option Value) → IsValueIn (record { models = stages.models; tables = stages.settled }) c o → IfSome o (λ v. seen stages c ≡ Some (Ok v))
held-seen models flushed settled staged p stages view over c info at id plain usable readable =
    seen-settled stages c info (ap (λ (s : Stages). field_at s.models c.model c.field) (sym view) ∙ at) (not-given info.origin id plain) usable readable (rest-staged models flushed settled staged p stages view over)

-- of a plain cell the row isn't there where no value is told
pub missing-plain : (s : Standing) (c : Cell) (o : Option Value) → IsValueIn s c o → o ≡ None → row_at s.tables c.model c.id ≡ None
missing-plain s c (Some v) is none = absurd (some-is-not-none v none)
missing-plain s c None is none = is
