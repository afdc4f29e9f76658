-- Which rows a caller sees, and of a list of rows which.
use Rattle.std.proofs.Common.{◌≡◌, ◌<◌, ◌+◌, ◌++◌, ◌∷◌, ◌&&◌, ◌||◌, ℕ, Bool, true, false, cond, List, [], Option, Some, None, length, get_or, drop, take, refl, ap, sym, subst, ◌∙◌, append_assoc}
use Rattle.std.specs.Prelude.{filter}
use Rattle.std.specs.List.Sorted.{IsStrictlySortedBy}
use Rattle.std.proofs.lemmas.List.{append-nil, at_drop_more}
use Rattle.std.proofs.lemmas.List.Elements.{filter_more}
use Rattle.ob_base.specs.declared.id.ModelNo.{ModelNo}
use Rattle.ob_base.specs.declared.id.RecId.{RecId}
use Rattle.ob_base.specs.declared.value.Value.{Value}
use Rattle.ob_base.specs.declared.value.Value.TheVariants as value
use Rattle.ob_base.specs.Rising.{IsRising}
use Rattle.ob_definition.specs.Values.{HasType}
use Rattle.ob_definition.specs.declared.field_type.FieldType.{FieldType}
use Rattle.ob_definition.specs.declared.field_type.FieldType.TheVariants as type
use Rattle.ob_definition.specs.declared.field_type.Choice.{Choice}
use Rattle.ob_schema.specs.Facts.{Told}
use Rattle.ob_schema.specs.Fields.{HasFieldType}
use Rattle.ob_schema.specs.declared.info.FieldInfo.{FieldInfo}
use Rattle.ob_access.specs.Policies.{PolicyData}
use Rattle.ob_access.specs.Views.{cut_value}
use Rattle.ob_access.proofs.Rising.{id_cmp, sorted-without}

-- what is seen is known
pub known-from_seen : (known right admitted : Bool) → (known && right && admitted) ≡ true → known ≡ true
known-from_seen true right admitted e = refl
known-from_seen false right admitted e = e

-- whoever has each right and each admission sees what is known
pub all_seen : (known by line rule : Bool) → by ≡ true → (known && (by || line) && (by || rule)) ≡ known
all_seen true by line rule e = ap (λ (b : Bool). (b || line) && (b || rule)) e
all_seen false by line rule e = refl

module _ (sees : RecId → Bool) (ids : List RecId) (i : ℕ) (d : RecId) (within : i < length ids) where
  -- one more that is seen
  pub seen_more : (seen : List RecId) → seen ≡ filter sees (take i ids) → sees (get_or ids i d) ≡ true → seen ++ get_or ids i d ∷ [] ≡ filter sees (take (i + 1) ids)
  seen_more seen so is =
      ap (λ (l : List RecId). l ++ get_or ids i d ∷ []) so ∙ ap (λ (b : Bool). filter sees (take i ids) ++ cond b (get_or ids i d ∷ []) []) (sym is) ∙ sym (filter_more sees ids i d within)

  -- one more that isn't
  pub unseen_more : (seen : List RecId) → seen ≡ filter sees (take i ids) → sees (get_or ids i d) ≡ false → seen ≡ filter sees (take (i + 1) ids)
  unseen_more seen so is =
      so ∙ sym (append-nil (filter sees (take i ids))) ∙ ap (λ (b : Bool). filter sees (take i ids) ++ cond b (get_or ids i d ∷ []) []) (sym is) ∙ sym (filter_more sees ids i d within)

module _ (ids : List RecId) (i : ℕ) (d : RecId) (within : i < length ids) (seen : List RecId) where
  abbrev Rises : List RecId → Type 0
  Rises all = IsStrictlySortedBy id_cmp all

  -- the next id stands at the head of those that are left
  pub next_rises : Rises (seen ++ drop i ids) → Rises (seen ++ get_or ids i d ∷ drop (i + 1) ids)
  next_rises up = subst Rises (at_drop_more (λ (l : List RecId). seen ++ l) ids i d within) up

  -- those so far and those that are left rise with it or without it
  pub with_rises : Rises (seen ++ drop i ids) → Rises ((seen ++ get_or ids i d ∷ []) ++ drop (i + 1) ids)
  with_rises up = subst Rises (sym (append_assoc seen (get_or ids i d ∷ []) (drop (i + 1) ids))) (next_rises up)

  pub without_rises : Rises (seen ++ drop i ids) → Rises (seen ++ drop (i + 1) ids)
  without_rises up = sorted-without id_cmp seen (get_or ids i d) (drop (i + 1) ids) (next_rises up)

cut_type : (t : FieldType) (choices : List Choice) (ids seen : List RecId) → IsRising seen → HasType t choices (value.Refs ids) → HasType t choices (value.Refs seen)
cut_type type.One2many choices ids seen up has = up
cut_type type.Many2many choices ids seen up has = up
cut_type _ choices ids seen up has = absurd has

-- a list that is cut has its field's type
pub cut_typed : (field : Option FieldInfo) (ids seen : List RecId) → IsRising seen → HasFieldType field (value.Refs ids) → HasFieldType field (value.Refs seen)
cut_typed None ids seen up has = tt
cut_typed (Some info) ids seen up has = cut_type info.field_type info.selection ids seen up has

-- a value that is no list of rows is cut to itself
pub uncut : (policy : PolicyData) (told : Told) (own : List RecId) (user : RecId) (model : ModelNo) (v : Value) → ((ids : List RecId) → v ≡ value.Refs ids → ⊥) → v ≡ cut_value policy told own user model v
uncut policy told own user model (value.Refs ids) other = absurd (other ids refl)
uncut policy told own user model v other = refl
