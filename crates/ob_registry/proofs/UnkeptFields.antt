-- The conditions of a model: none has the name of an automatic field, and no row keeps one.
use Rattle.std.proofs.Common.{◌≡◌, ◌⊎◌, ℕ, Bool, true, false, Option, Some, None, List, [], get_or, inl, inr, refl, sym, ap, ◌∙◌}
use Rattle.std.specs.Prelude.{All, codes}
use Rattle.std.specs.Str.{bytes_eq}
use Rattle.std.proofs.lemmas.Bool.{false≢true}
use Rattle.std.proofs.lemmas.List.Elements.{All-append, All-cons, All-map, All-nil}
use Rattle.std.proofs.lemmas.Slice.Eq.{bytes_eq-Decides}
use Rattle.ob_definition.specs.declared.field_type.FieldType.TheVariants as type
use Rattle.ob_definition.specs.Definitions.{is_automatic}
use Rattle.ob_definition.specs.Gathered.{Gathered}
use Rattle.ob_definition.specs.Members.{Member, check_member, check_members, check_name, condition_def, hidden_member, hidden_members, locked_members}
use Rattle.ob_schema.specs.Paths.{has_value}

-- a condition has its check's name or `locked`, no automatic field's, is a Boolean and isn't kept
abbrev pub IsUnkept : Member → Type 0
IsUnkept m =
    (is_automatic m.def.name ≡ false) × (m.def.field_type ≡ type.Boolean) × (has_value m.def ≡ false)
    × (((name : List ℕ) × (m.def.name ≡ check_name name)) ⊎ (m.def.name ≡ codes "locked"))

pub hidden_unkept : (g : Gathered) → All IsUnkept (hidden_members g)
hidden_unkept g = All-append IsUnkept (check_members g) (locked_members g g.locked) (All-map IsUnkept check_member g.checks (λ k d within. (refl, refl, refl, inl ((get_or g.checks k d).check.name, refl)))) (by g.locked)
  where
    by : (o : Option (List ℕ)) → All IsUnkept (locked_members g o)
    by None = All-nil IsUnkept
    by (Some text) = All-cons IsUnkept (hidden_member g.entry (condition_def (codes "locked") text)) [] (refl, refl, refl, inr refl) (All-nil IsUnkept)

-- another name than those is not `id`
pub other_name : (name : List ℕ) → is_automatic name ≡ false → bytes_eq name (codes "id") ≡ false
other_name name free = by (bytes_eq name (codes "id")) refl
  where
    by : (b : Bool) → bytes_eq name (codes "id") ≡ b → b ≡ false
    by true e = absurd (false≢true (sym free ∙ ap is_automatic ((bytes_eq-Decides name (codes "id")).0 e)))
    by false e = refl
