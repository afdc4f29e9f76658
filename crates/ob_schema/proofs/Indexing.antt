-- The index of models by name, as it is made from the front.
use Rattle.std.proofs.Common.{◌≡◌, ℕ, suc, Bool, true, false, cond, List, [], ◌∷◌, ◌++◌, length, Option, Some, None, option_map, is_some, refl, sym, ap, subst, ◌∙◌, true≢false}
use Rattle.std.proofs.lemmas.Slice.Eq.{bytes_eq-Decides}
use Rattle.std.specs.BTreeMap.{BTreeMap, get_by_text}
use Rattle.std.specs.List.{position}
use Rattle.std.specs.Map.{update}
use Rattle.std.specs.Str.{bytes_eq}
use Rattle.std.specs.declared.alloc.Global.{Global}
use Rattle.std.specs.declared.string.String.{String}
use Rattle.ob_base.specs.declared.id.ModelNo.{ModelNo}
use Rattle.ob_definition.proofs.CallerLemmas.{position-push}
use Rattle.ob_schema.specs.declared.info.ModelInfo.{ModelInfo}
use Rattle.ob_schema.specs.Models.{model_named}
use Rattle.ob_schema.specs.NameIndex.{IsIndexOf}

-- the number of a place
abbrev pub model_at_place : ℕ → ModelNo
model_at_place i = record { 0 = suc i }

numbered-choice : (o : Option ℕ) (b : Bool) (n : ℕ) → option_map model_at_place (cond (is_some o) o (cond b (Some n) None)) ≡ cond (is_some (option_map model_at_place o)) (option_map model_at_place o) (cond b (Some (model_at_place n)) None)
numbered-choice None true n = refl
numbered-choice None false n = refl
numbered-choice (Some i) b n = refl

model_named-push : (models : List ModelInfo) (model : ModelInfo) (name : List ℕ)
    → model_named (models ++ model ∷ []) name ≡ cond (is_some (model_named models name)) (model_named models name) (cond (bytes_eq model.name name) (Some (model_at_place (length models))) None)
model_named-push models model name =
    ap (option_map model_at_place) (position-push (λ m. bytes_eq m.name name) models model)
    ∙ numbered-choice (position (λ m. bytes_eq m.name name) models) (bytes_eq model.name name) (length models)

module _ (index : BTreeMap (String Global) ModelNo) (models : List ModelInfo) (model : ModelInfo) (indexed : IsIndexOf index models) where
  -- a name that is known keeps its number
  pub IsIndexOf-known : is_some (get_by_text index model.name) ≡ true → IsIndexOf index (models ++ model ∷ [])
  IsIndexOf-known known name = indexed name ∙ by (model_named models name) (bytes_eq model.name name) refl refl ∙ sym (model_named-push models model name)
    where
      named : bytes_eq model.name name ≡ true → model.name ≡ name
      named e = (bytes_eq-Decides model.name name).0 e

      by : (o : Option ModelNo) (b : Bool) → model_named models name ≡ o → bytes_eq model.name name ≡ b → o ≡ cond (is_some o) o (cond b (Some (model_at_place (length models))) None)
      by (Some number) b e f = refl
      by None false e f = refl
      by None true e f =
          let none : is_some (get_by_text index name) ≡ false = ap is_some (indexed name ∙ e) in
          let some : is_some (get_by_text index name) ≡ true = subst (λ (n : List ℕ). is_some (get_by_text index n) ≡ true) (named f) known in
          absurd (true≢false (sym some ∙ none))

  -- a new name gets the number of its model
  pub IsIndexOf-new : (new : BTreeMap (String Global) ModelNo) (number : ModelNo) → is_some (get_by_text index model.name) ≡ false → number ≡ model_at_place (length models)
      → ((name : List ℕ) → get_by_text new name ≡ update bytes_eq (get_by_text index) model.name (Some number) name) → IsIndexOf new (models ++ model ∷ [])
  IsIndexOf-new new number unknown next updates name =
      updates name ∙ by (model_named models name) (bytes_eq model.name name) (sym (indexed name)) refl ∙ sym (model_named-push models model name)
    where
      by : (o : Option ModelNo) (b : Bool) → o ≡ get_by_text index name → bytes_eq model.name name ≡ b → cond b (Some number) (get_by_text index name) ≡ cond (is_some o) o (cond b (Some (model_at_place (length models))) None)
      by (Some found) false e f = sym e
      by None false e f = sym e
      by None true e f = ap Some next
      by (Some found) true e f =
          let some : is_some (get_by_text index name) ≡ true = ap is_some (sym e) in
          let none : is_some (get_by_text index name) ≡ false = subst (λ (n : List ℕ). is_some (get_by_text index n) ≡ false) ((bytes_eq-Decides model.name name).0 f) unknown in
          absurd (true≢false (sym some ∙ none))
