-- The value of a delegated cell: that of the cell behind its link, or none of its own.
use Rattle.std.proofs.Common.{◌≡◌, true, false, Option, Some, None, IsSome, Result, Ok, refl, sym, ap, ◌∙◌}
use Rattle.std.specs.Prelude.{IfSome, IsSomeAnd}
use Rattle.ob_base.specs.declared.id.Cell.{Cell}
use Rattle.ob_base.specs.declared.id.RecId.{RecId}
use Rattle.ob_base.specs.declared.value.Value.{Value}
use Rattle.ob_base.specs.declared.value.Value.TheVariants as value
use Rattle.ob_cache.specs.Rooms.{IsValueIn}
use Rattle.ob_cache.proofs.PlainValues.{plain-row}
use Rattle.ob_codec.specs.Held.{HasFieldType}
use Rattle.ob_cache.proofs.TypedCells.{behind-typed, initial-told}
use Rattle.ob_definition.specs.Values.{initial_value}
use Rattle.ob_expr.specs.Computing.{Lack}
use Rattle.ob_expr.specs.Reads.{LacksAlongPaths, ReadsAlongPaths}
use Rattle.ob_expr.specs.TypedTree.{TypedTree}
use Rattle.ob_schema.specs.Broken.{AreSound}
use Rattle.ob_schema.specs.Models.{IsRegistry, field_at, is_delegated_from, is_given_from}
use Rattle.ob_schema.specs.Plain.{plain_at}
use Rattle.ob_schema.specs.Tables.{Standing, row_at}
use Rattle.ob_schema.specs.Val.{behind, val}
use Rattle.ob_schema.specs.declared.info.Delegation.{Delegation}
use Rattle.ob_schema.specs.declared.info.FieldInfo.{FieldInfo}
use Rattle.ob_schema.specs.declared.info.Origin.TheVariants as origin
use Rattle.ob_tables.proofs.CallerLemmas.{AreSound as AreKnown, Behind, Behind-at, behind-set, behind-there, behind-unset, link-there, not_there, sound-tied, tell_and, values_are}
use Rattle.ob_tables.specs.Settling.{row_named, values_of}

-- what is known of sound tables
pub known-of : ((tree : TypedTree) → ReadsAlongPaths tree) → ((tree : TypedTree) → LacksAlongPaths tree) → (s : Standing) → IsRegistry s.models → AreSound s.models s.tables → AreKnown s.models s.tables
known-of along lacks s registry sound = record { laws = record { along = along; lacks = lacks }; registry = registry; fits = sound.fits; tied = sound-tied s.models s.tables sound }

-- what names no row
names-none : (v : Value) → ((id : RecId) → v ≡ value.Ref id → ⊥) → row_named v ≡ None
names-none value.Nil not = refl
names-none (value.Bool b) not = refl
names-none (value.Int n) not = refl
names-none (value.Word text) not = refl
names-none (value.Day n) not = refl
names-none (value.Moment n) not = refl
names-none (value.Refs ids) not = refl
names-none (value.Ref id) not = absurd (not id refl)

module _ (s : Standing) (known : AreKnown s.models s.tables) (c : Cell) (info : FieldInfo) (to : Delegation) (at : field_at s.models c.model c.field ≡ Some info) (from : info.origin ≡ origin.Delegated to) where
  abbrev link : Cell
  link = record { model = c.model; id = c.id; field = to.link }

  there-behind : Behind s.models c.model to
  there-behind = Behind-at s.models c.model c.field info to known.registry at from

  -- the link is given
  pub link-given : IsSomeAnd (field_at s.models c.model to.link) (λ i. is_given_from i.origin ≡ true)
  link-given = tell_and (field_at s.models c.model to.link) there-behind.link (λ i. is_given_from i.origin ≡ true) there-behind.link_at (ap is_given_from there-behind.plain)

  -- the field behind it isn't delegated
  pub target-own : IsSomeAnd (field_at s.models to.model to.field) (λ i. is_delegated_from i.origin ≡ false)
  target-own = tell_and (field_at s.models to.model to.field) there-behind.target (λ i. is_delegated_from i.origin ≡ false) there-behind.target_at there-behind.own

  -- without a link there is no row
  pub link-none : plain_at s.tables s.models link ≡ None → row_at s.tables c.model c.id ≡ None
  link-none none = by (row_at s.tables c.model c.id) (λ there. link-there s.models s.tables known c info to there at from none)
    where
      by : {X : Type 0} (o : Option X) → (IsSome o → ⊥) → o ≡ None
      by None not = refl
      by (Some x) not = absurd (not refl)

  scratch : values_of s.models s.tables ≡ val s.models s.tables
  scratch = values_are s.models s.tables

  module _ (v : Value) (holds : plain_at s.tables s.models link ≡ Some v) where
    row-there : IsSome (row_at s.tables c.model c.id)
    row-there = plain-row s.models s.tables link there-behind.link v there-behind.link_at holds

    -- where the link is set, the value is the one behind it
    pub behind-told : (id : RecId) → v ≡ value.Ref id → (o : Option Value) → IsValueIn s (behind s.models s.tables to id) o → IsValueIn s c o
    behind-told id is (Some w) told =
        let same = behind-set s.models s.tables known c info to v id row-there at from holds (ap row_named is) in
        ap (λ (f : Cell → Result Value Lack). f c) (sym scratch) ∙ same ∙ ap (λ (f : Cell → Result Value Lack). f (behind s.models s.tables to id)) scratch ∙ told
    behind-told id is None none = absurd (not_there (row_at s.tables to.model id) none (behind-there s.models s.tables known c info to v id row-there at from holds (ap row_named is)).0)

    pub behind-kinded : (o : Option Value) → IfSome o (HasFieldType (field_at s.models to.model to.field)) → IfSome o (HasFieldType (field_at s.models c.model c.field))
    behind-kinded (Some w) typed = behind-typed s.models s.tables known.registry known.fits c info to at from w typed
    behind-kinded None typed = typed

    -- where it isn't, it is the initial one
    pub unset-told : ((id : RecId) → v ≡ value.Ref id → ⊥) → val s.models s.tables c ≡ Ok (initial_value info.field_type)
    unset-told not =
        ap (λ (f : Cell → Result Value Lack). f c) (sym scratch) ∙ behind-unset s.models s.tables known c info to v row-there at from holds (names-none v not)

  pub unset-kinded : HasFieldType (field_at s.models c.model c.field) (initial_value info.field_type)
  unset-kinded = initial-told s.models s.tables known.registry known.fits c info at
