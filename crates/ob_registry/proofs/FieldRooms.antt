-- The faults of a field's keys, from those of each key, and what a look at the field back tells.
use Rattle.std.proofs.Common.{◌≡◌, ◌⊎◌, inl, inr, ℕ, Bool, true, false, cond, not, List, Option, Some, None, refl, sym, ap, subst, ◌∙◌}
use Rattle.std.specs.Prelude.{IsSomeAnd, ◌↔◌}
use Rattle.std.proofs.lemmas.Bool.{false≢true}
use Rattle.ob_base.specs.declared.id.ModelNo.{ModelNo}
use Rattle.ob_definition.specs.declared.fault.SchemaFault.{SchemaFault}
use Rattle.ob_definition.specs.declared.field_type.FieldType.{FieldType}
use Rattle.ob_definition.specs.declared.field_type.FieldType.TheVariants as type
use Rattle.ob_definition.specs.declared.wrong.Wrong.{Wrong}
use Rattle.ob_definition.specs.declared.wrong.Wrong.TheVariants as wrong
use Rattle.ob_definition.specs.Findings.{Adds, IsAt, IsFaultAt, Tells, fault_at}
use Rattle.ob_definition.specs.Gathered.{Gathered}
use Rattle.ob_definition.specs.Members.{Member, members_of, model_at, named}
use Rattle.ob_definition.proofs.CallerLemmas.{Adds-both, Adds-same, Adds-tells, Adds-when, IsTold}
use Rattle.ob_definition.specs.Rooms.{spot_at}
use Rattle.std.specs.Bool.{then_some}
use Rattle.ob_registry.specs.Faults.{HasUnknownRelation, HasWrongKeys, IsParentField, LeadsBack, LooksBack}
use Rattle.ob_schema.specs.Finds.{relation_of}
use Rattle.ob_schema.specs.Formulas.{Place}
use Rattle.ob_registry.specs.declared.model.Model.{Model as KeptModel}
use Rattle.ob_registry.specs.ModelFields.{named_in}
use Rattle.ob_registry.specs.Modelling.{IsModelled}
use Rattle.ob_registry.specs.Telling.{AreKeysWrong, IsBackWrong, IsFieldKeyFault, IsParentWrong, spot_of}
use Rattle.ob_registry.proofs.NamedFields.{named_modelled}
use Rattle.ob_schema.proofs.CallerLemmas.{Tells-none, Tells-one, some_none, value_of}

-- what is looked at is one thing
looked_one : (o : Option Member) (m : Member) (P : Member → Type 0) → o ≡ Some m → IsSomeAnd o P → P m
looked_one o m P e is = subst (λ (o : Option Member). IsSomeAnd o P) e is

-- a parent field that isn't there, one that fits, and another
pub parent_missed : (models : List Gathered) (number : ModelNo) (found : Option Member) → found ≡ None → Tells (IsParentWrong models number found) (Some wrong.Field)
parent_missed models number found none = Tells-one (IsParentWrong models number found) wrong.Field none only
  where
    only : (w : Wrong) → IsParentWrong models number found w → w ≡ wrong.Field
    only wrong.Field is = refl
    only wrong.Kind is = absurd (subst (λ (o : Option Member). IsSomeAnd o (λ m. IsParentField models (Some number) m → ⊥)) none is)
    only _ is = absurd is

pub parent_fits : (models : List Gathered) (number : ModelNo) (found : Option Member) (m : Member) → found ≡ Some m → IsParentField models (Some number) m → Tells (IsParentWrong models number found) None
parent_fits models number found m some fits = Tells-none (IsParentWrong models number found) none
  where
    none : (w : Wrong) → IsParentWrong models number found w → ⊥
    none wrong.Field is = some_none m found some is
    none wrong.Kind is = looked_one found m (λ m. IsParentField models (Some number) m → ⊥) some is fits
    none _ is = absurd is

pub parent_other : (models : List Gathered) (number : ModelNo) (found : Option Member) (m : Member) → found ≡ Some m → (IsParentField models (Some number) m → ⊥) → Tells (IsParentWrong models number found) (Some wrong.Kind)
parent_other models number found m some other = Tells-one (IsParentWrong models number found) wrong.Kind (subst (λ (o : Option Member). IsSomeAnd o (λ m. IsParentField models (Some number) m → ⊥)) (sym some) other) only
  where
    only : (w : Wrong) → IsParentWrong models number found w → w ≡ wrong.Kind
    only wrong.Field is = absurd (some_none m found some is)
    only wrong.Kind is = refl
    only _ is = absurd is

-- where a key looks
pub record LooksAt (p : Place) (key : Option (List ℕ)) (found : Option Member) : Type 0 where
  pub name : List ℕ
  pub target : ModelNo
  pub model : Gathered
  pub given : key ≡ Some name
  pub leads : relation_of p.models p.member.def ≡ Some target
  pub there : model_at p.models target.0 ≡ Some model
  pub is : named (members_of p.models model) name ≡ found

-- the name is looked up in the model of the target
pub looks_at : (p : Place) (key : Option (List ℕ)) (found : Option Member) (name text : List ℕ) (target : ModelNo) (model : KeptModel)
    → ◌≡◌ {A = Option (List ℕ)} (Some name) key → ◌≡◌ {A = Option ModelNo} (Some target) (relation_of p.models p.member.def)
    → IsSomeAnd (model_at p.models target.0) (λ g. IsModelled p.models g model) → text ≡ name → found ≡ named (named_in model.named model.members.items) text → LooksAt p key found
looks_at p key found name text target model given leads modelled same is =
    let there = value_of (model_at p.models target.0) (λ g. IsModelled p.models g model) modelled in
    record {
      name = name;
      target = target;
      model = there.0;
      given = sym given;
      leads = sym leads;
      there = there.1;
      is = sym (named_modelled p.models there.0 model there.2 name) ∙ ap (named (named_in model.named model.members.items)) (sym same) ∙ sym is;
    }

-- what holds there, and back
looks : (p : Place) (key : Option (List ℕ)) (found : Option Member) (P : Option Member → Type 0) → LooksAt p key found → P found → LooksBack p key P
looks p key found P at holds =
    subst (λ (o : Option (List ℕ)). LooksBack p o P) (sym at.given)
    (subst (λ (o : Option ModelNo). IsSomeAnd o (λ target. IsSomeAnd (model_at p.models target.0) (λ g. P (named (members_of p.models g) at.name)))) (sym at.leads)
    (subst (λ (o : Option Gathered). IsSomeAnd o (λ g. P (named (members_of p.models g) at.name))) (sym at.there) (subst P (sym at.is) holds)))

looked : (p : Place) (key : Option (List ℕ)) (found : Option Member) (P : Option Member → Type 0) → LooksAt p key found → LooksBack p key P → P found
looked p key found P at back =
    subst P at.is
    (subst (λ (o : Option Gathered). IsSomeAnd o (λ g. P (named (members_of p.models g) at.name))) at.there
    (subst (λ (o : Option ModelNo). IsSomeAnd o (λ target. IsSomeAnd (model_at p.models target.0) (λ g. P (named (members_of p.models g) at.name)))) at.leads
    (subst (λ (o : Option (List ℕ)). LooksBack p o P) at.given back)))

-- a field back that isn't there, one that fits, and another
pub back_missed : (p : Place) (key : Option (List ℕ)) (t : FieldType) → LooksAt p key None → Tells (IsBackWrong p key t) (Some wrong.Field)
back_missed p key t at = Tells-one (IsBackWrong p key t) wrong.Field (looks p key None (λ back. back ≡ None) at refl) only
  where
    only : (w : Wrong) → IsBackWrong p key t w → w ≡ wrong.Field
    only wrong.Field is = refl
    only wrong.Inverse is = absurd (looked p key None (λ back. IsSomeAnd back (λ m. LeadsBack p.models p.number t m → ⊥)) at is)
    only _ is = absurd is

pub back_fits : (p : Place) (key : Option (List ℕ)) (t : FieldType) (m : Member) → LooksAt p key (Some m) → LeadsBack p.models p.number t m → Tells (IsBackWrong p key t) None
back_fits p key t m at fits = Tells-none (IsBackWrong p key t) none
  where
    none : (w : Wrong) → IsBackWrong p key t w → ⊥
    none wrong.Field is = some_none m (Some m) refl (looked p key (Some m) (λ back. back ≡ None) at is)
    none wrong.Inverse is = looked p key (Some m) (λ back. IsSomeAnd back (λ m. LeadsBack p.models p.number t m → ⊥)) at is fits
    none _ is = absurd is

pub back_other : (p : Place) (key : Option (List ℕ)) (t : FieldType) (m : Member) → LooksAt p key (Some m) → (LeadsBack p.models p.number t m → ⊥) → Tells (IsBackWrong p key t) (Some wrong.Inverse)
back_other p key t m at other = Tells-one (IsBackWrong p key t) wrong.Inverse (looks p key (Some m) (λ back. IsSomeAnd back (λ m. LeadsBack p.models p.number t m → ⊥)) at other) only
  where
    only : (w : Wrong) → IsBackWrong p key t w → w ≡ wrong.Inverse
    only wrong.Field is = absurd (some_none m (Some m) refl (looked p key (Some m) (λ back. back ≡ None) at is))
    only wrong.Inverse is = refl
    only _ is = absurd is

-- the faults of all keys, in the turn in which they are told
module _ (p : Place) (no_model is_wrong : Bool) (of_model : (no_model ≡ true) ↔ HasUnknownRelation p) (of_keys : (is_wrong ≡ true) ↔ HasWrongKeys p) where
  abbrev pub InTurn : SchemaFault → Type 0
  InTurn why =
      ((IsTold no_model (fault_at wrong.Model (spot_of p.member)) why ⊎ IsTold is_wrong (fault_at wrong.Kind (spot_of p.member)) why)
      ⊎ IsFaultAt (spot_of p.member) (IsBackWrong p p.member.def.inverse type.Many2one) why)
      ⊎ IsFaultAt (spot_of p.member) (IsBackWrong p p.member.def.mirror type.Many2many) why

  of_inverse : (w : Wrong) → IsBackWrong p p.member.def.inverse type.Many2one w → AreKeysWrong p w
  of_inverse wrong.Field is = inl is
  of_inverse wrong.Inverse is = inl is
  of_inverse _ is = absurd is

  of_mirror : (w : Wrong) → IsBackWrong p p.member.def.mirror type.Many2many w → AreKeysWrong p w
  of_mirror wrong.Field is = inr is
  of_mirror wrong.Inverse is = inr is
  of_mirror _ is = absurd is

  told_in_turn : (why : SchemaFault) → InTurn why → IsFieldKeyFault p why
  told_in_turn why (inl (inl (inl is))) = (wrong.Model, of_model.0 is.0, is.1)
  told_in_turn why (inl (inl (inr is))) = (wrong.Kind, of_keys.0 is.0, is.1)
  told_in_turn why (inl (inr is)) = (is.0, of_inverse is.0 is.1, is.2)
  told_in_turn why (inr is) = (is.0, of_mirror is.0 is.1, is.2)

  turn_of : (why : SchemaFault) (w : Wrong) → AreKeysWrong p w → why ≡ fault_at w (spot_of p.member) → InTurn why
  turn_of why wrong.Model is e = inl (inl (inl (of_model.1 is, e)))
  turn_of why wrong.Kind is e = inl (inl (inr (of_keys.1 is, e)))
  turn_of why wrong.Field (inl is) e = inl (inr (wrong.Field, is, e))
  turn_of why wrong.Field (inr is) e = inr (wrong.Field, is, e)
  turn_of why wrong.Inverse (inl is) e = inl (inr (wrong.Inverse, is, e))
  turn_of why wrong.Inverse (inr is) e = inr (wrong.Inverse, is, e)
  turn_of why _ is e = absurd is

  pub Adds-keys : (a b c d e : Option SchemaFault) → Adds (IsTold no_model (fault_at wrong.Model (spot_of p.member))) a b → Adds (IsTold is_wrong (fault_at wrong.Kind (spot_of p.member))) b c
      → Adds (IsFaultAt (spot_of p.member) (IsBackWrong p p.member.def.inverse type.Many2one)) c d → Adds (IsFaultAt (spot_of p.member) (IsBackWrong p p.member.def.mirror type.Many2many)) d e → Adds (IsFieldKeyFault p) a e
  Adds-keys a b c d e one two three four =
      Adds-same InTurn (IsFieldKeyFault p) a e told_in_turn (λ why is. turn_of why is.0 is.1 is.2)
      (Adds-both _ _ a d e (Adds-both _ _ a c d (Adds-both _ _ a b c one two) three) four)

-- a test of two, of which the first is turned
pub keys_told : (p : Place) (own fits wrong : Bool) → wrong ≡ cond (not fits) true own → (wrong ≡ true) ↔ ((own ≡ true) ⊎ (fits ≡ false))
keys_told p own true wrong is = (λ e. inl (sym is ∙ e), λ either. elim either as (λ _. wrong ≡ true) [ inl o ↦ is ∙ o | inr fails ↦ absurd (false≢true (sym fails)) ])
keys_told p own false wrong is = (λ e. inr refl, λ either. is)

-- what is told of a test at a field, and of a look at another
pub told_when : (told : Option Wrong) (test : Bool) (w : Wrong) (entry : ℕ) (text name : List ℕ) (a b : Option SchemaFault) → told ≡ then_some test w → text ≡ name → Adds (IsAt told (spot_at entry text)) a b
    → Adds (IsTold test (fault_at w (spot_at entry name))) a b
told_when told test w entry text name a b is same adds =
    Adds-when test w (spot_at entry name) a b
    (subst (λ (o : Option Wrong). Adds (IsAt o (spot_at entry name)) a b) is (subst (λ (t : List ℕ). Adds (IsAt told (spot_at entry t)) a b) same adds))

pub told_wrong : (IsWrong : Wrong → Type 0) (told : Option Wrong) (entry : ℕ) (text name : List ℕ) (a b : Option SchemaFault) → text ≡ name → Tells IsWrong told → Adds (IsAt told (spot_at entry text)) a b
    → Adds (IsFaultAt (spot_at entry name) IsWrong) a b
told_wrong IsWrong told entry text name a b same tells adds =
    Adds-tells IsWrong told (spot_at entry name) a b tells (subst (λ (t : List ℕ). Adds (IsAt told (spot_at entry t)) a b) same adds)
