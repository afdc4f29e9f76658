-- The keys of fields fit, where nothing stands against the models; a delegated field has those of its parent's field.
use Rattle.std.proofs.Common.{◌≡◌, ◌⊎◌, ◌≤◌, ◌&&◌, ◌||◌, ℕ, Bool, true, false, cond, not, is_some, is_none, nat_le, Option, Some, None, List, length, inl, inr, refl, sym, ap, subst, ◌∙◌, arith}
use Rattle.std.specs.Prelude.{Contains}
use Rattle.std.specs.List.{list_all}
use Rattle.std.proofs.lemmas.Bool.{and_parts, false≢true}
use Rattle.std.proofs.lemmas.Bool.Decides.{nat_tests}
use Rattle.ob_base.specs.Limits.{max_name_bytes}
use Rattle.ob_base.specs.declared.id.ModelNo.{ModelNo}
use Rattle.ob_base.specs.NameBytes.{begins_with_letter, is_name_byte}
use Rattle.ob_definition.specs.declared.definition.FieldDef.{FieldDef}
use Rattle.ob_definition.specs.declared.wrong.Wrong.TheVariants as wrong
use Rattle.ob_definition.specs.Definitions.{is_computed}
use Rattle.ob_definition.specs.Gathered.{Gathered}
use Rattle.ob_definition.specs.Keys.{agree, computed_fits, fits, is_many2many, is_selection, ondelete_fits, plain_fits, relation_fits}
use Rattle.ob_definition.specs.Members.{Member, Role, hidden_members, is_own, members_of, model_at, own_members}
use Rattle.ob_definition.specs.Names.{is_field_name}
use Rattle.ob_definition.specs.Types.{is_one2many, is_relation}
use Rattle.ob_registry.specs.Building.{AreResolved}
use Rattle.ob_schema.specs.Finds.{relation_of}
use Rattle.ob_registry.proofs.Delegated.{member_cases, own_role}
use Rattle.ob_registry.proofs.Resolved.{model_placed, right_field}

-- a field of the same definition that isn't delegated
pub record IsSourced (models : List Gathered) (m : Member) : Type 0 where
  pub number : ModelNo
  pub model : Gathered
  pub there : model_at models number.0 ≡ Some model
  pub source : Member
  pub among : Contains (own_members models model) source ⊎ Contains (hidden_members model) source
  pub def : source.def ≡ m.def

-- which of a field's keys for relations are given
pub record FitsRelation (f : FieldDef) : Type 0 where
  pub relation : is_some f.relation ≡ is_relation f.field_type
  pub inverse : is_some f.inverse ≡ is_one2many f.field_type
  pub mirror : is_some f.mirror ≡ true → is_many2many f.field_type ≡ true

agreed : (a b : Bool) → agree a b ≡ true → a ≡ b
agreed true true e = refl
agreed true false e = absurd (false≢true e)
agreed false true e = absurd (false≢true e)
agreed false false e = refl

allowed : {X : Type 0} (o : Option X) (b : Bool) → (is_none o || b) ≡ true → is_some o ≡ true → b ≡ true
allowed None b e given = absurd (false≢true given)
allowed (Some x) b e given = e

pub fits_relation : (f : FieldDef) → fits f ≡ true → FitsRelation f
fits_relation f fit =
    let own = (and_parts (relation_fits f) (ondelete_fits f) (and_parts (relation_fits f && ondelete_fits f) (cond (is_computed f) (computed_fits f) (plain_fits f)) fit).0).0 in
    let relation = agree (is_some f.relation) (is_relation f.field_type) in
    let inverse = agree (is_some f.inverse) (is_one2many f.field_type) in
    let mirror = is_none f.mirror || is_many2many f.field_type in
    let three = and_parts (relation && inverse) mirror (and_parts (relation && inverse && mirror) (agree (is_some f.selection) (is_selection f.field_type)) own).0 in
    let two = and_parts relation inverse three.0 in
    record {
      relation = agreed (is_some f.relation) (is_relation f.field_type) two.0;
      inverse = agreed (is_some f.inverse) (is_one2many f.field_type) two.1;
      mirror = allowed f.mirror (is_many2many f.field_type) three.1;
    }

low : (n limit : ℕ) → nat_le n limit ≡ true → n ≤ limit
low n limit e = grind (arith, nat_tests)

module _ (models : List Gathered) (resolved : AreResolved models) where
  -- each field has one
  pub sourced : (number : ModelNo) (g : Gathered) → model_at models number.0 ≡ Some g → (m : Member) → Contains (members_of models g) m ⊎ Contains (hidden_members g) m → IsSourced models m
  sourced number g there m (inr hidden) = record { number = number; model = g; there = there; source = m; among = inr hidden; def = refl }
  sourced number g there m (inl here) = elim (member_cases models g m here) [
    | inl mine ↦ record { number = number; model = g; there = there; source = m; among = inl mine; def = refl }
    | inr through ↦
        (let from = through.3 in
        let placed = model_placed models resolved through.0.model from.parent from.there in
        record { number = placed.0; model = from.parent; there = placed.1; source = from.source; among = inl from.among; def = from.def })
  ]

  pub sourced_fits : (m : Member) → IsSourced models m → fits m.def ≡ true
  sourced_fits m s = by (fits m.def) refl
    where
      by : (b : Bool) → fits m.def ≡ b → b ≡ true
      by true e = refl
      by false e = absurd (right_field models resolved s.number s.model s.there s.source s.among wrong.Kind (inr (ap fits s.def ∙ e)))

  -- a relation leads to a model
  pub sourced_relation : (m : Member) → IsSourced models m → is_relation m.def.field_type ≡ true → (target : ModelNo) × (relation_of models m.def ≡ Some target)
  sourced_relation m s is = by (relation_of models m.def) refl
    where
      given : is_some m.def.relation ≡ true
      given = (fits_relation m.def (sourced_fits m s)).relation ∙ is

      by : (o : Option ModelNo) → relation_of models m.def ≡ o → (target : ModelNo) × (relation_of models m.def ≡ Some target)
      by (Some target) e = (target, e)
      by None e =
          let P : FieldDef → Type 0 = λ f. (is_relation f.field_type ≡ true) × (is_some f.relation ≡ true) × (relation_of models f ≡ None) in
          absurd (right_field models resolved s.number s.model s.there s.source s.among wrong.Model (subst P (sym s.def) (is, given, e)))

  own_short : (number : ModelNo) (g : Gathered) → model_at models number.0 ≡ Some g → (m : Member) → Contains (own_members models g) m → length m.def.name ≤ max_name_bytes
  own_short number g there m mine = by (is_field_name m.def.name) refl
    where
      by : (b : Bool) → is_field_name m.def.name ≡ b → length m.def.name ≤ max_name_bytes
      by true e = low (length m.def.name) max_name_bytes
          (and_parts (begins_with_letter m.def.name && list_all (λ byte. is_name_byte byte) m.def.name) (nat_le (length m.def.name) max_name_bytes) e).1
      by false e =
          let told : (is_own m.role && not (is_field_name m.def.name)) ≡ true =
          ap (λ (r : Role). is_own r && not (is_field_name m.def.name)) (own_role models g m mine) ∙ ap (λ (b : Bool). not b) e in
          absurd (right_field models resolved number g there m (inl mine) wrong.Kind (inl told))

  -- the names of fields are short
  pub short_name : (number : ModelNo) (g : Gathered) → model_at models number.0 ≡ Some g → (m : Member) → Contains (members_of models g) m → length m.def.name ≤ max_name_bytes
  short_name number g there m here = elim (member_cases models g m here) [
    | inl mine ↦ own_short number g there m mine
    | inr through ↦
        (let from = through.3 in
        let placed = model_placed models resolved through.0.model from.parent from.there in
        subst (λ (f : FieldDef). length f.name ≤ max_name_bytes) from.def (own_short placed.0 from.parent placed.1 from.source from.among))
  ]
