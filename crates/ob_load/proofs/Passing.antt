-- Names that were read already, passed one by one.
use Rattle.std.proofs.Common.{◌≡◌, ℕ, true, List, [], ◌∷◌, ◌++◌, Option, None, Some, refl, sym, ap, append_assoc, ◌∙◌}
use Rattle.std.specs.Prelude.{All}
use Rattle.std.proofs.lemmas.List.Elements.{All-nil, All-push}
use Rattle.ob_module.specs.Modules.{Module, has_module}
use Rattle.ob_load.specs.Rooms.{Passes}

module _ (modules : List Module) where
  -- so far each was read
  abbrev pub PassedTo : List (List ℕ) → List (List ℕ) → Type 0
  PassedTo coming now = (passed : List (List ℕ)) × All (λ name. has_module modules name ≡ true) passed × (coming ≡ passed ++ now)

  pub PassedTo-none : (coming : List (List ℕ)) → PassedTo coming coming
  PassedTo-none coming = ([], All-nil (λ name. has_module modules name ≡ true), refl)

  module _ (coming now : List (List ℕ)) (so_far : PassedTo coming now) where
    pub PassedTo-more : (name : List ℕ) (rest : List (List ℕ)) → now ≡ name ∷ rest → has_module modules name ≡ true → PassedTo coming rest
    PassedTo-more name rest is has = (
      so_far.0 ++ name ∷ [],
      All-push (λ n. has_module modules n ≡ true) so_far.0 name so_far.1 has,
      so_far.2 ∙ ap (λ l. so_far.0 ++ l) is ∙ sym (append_assoc so_far.0 (name ∷ []) rest),
    )

    pub Passes-some : (name : List ℕ) (rest : List (List ℕ)) → now ≡ name ∷ rest → Passes modules coming (Some name) rest
    Passes-some name rest is = (so_far.0, so_far.1, so_far.2 ∙ ap (λ l. so_far.0 ++ l) is, λ none. let e : ◌≡◌ {A = Option (List ℕ)} (Some name) None = none in cc)

    pub Passes-none : (rest : List (List ℕ)) → now ≡ [] → rest ≡ [] → Passes modules coming None rest
    Passes-none rest is none = (so_far.0, so_far.1, so_far.2 ∙ ap (λ l. so_far.0 ++ l) (is ∙ sym none), λ _. none)
