-- Links of a model in their turn, with one more.
use Rattle.std.proofs.Common.{◌≡◌, ◌⊎◌, inl, inr, ℕ, ◌&&◌, Bool, true, false, cond, List, [], ◌∷◌, ◌++◌, append_assoc, refl, sym, ap, ◌∙◌}
use Rattle.ob_definition.specs.declared.definition.Inherits.{Inherits}
use Rattle.ob_definition.specs.Definitions.{is_one_of}
use Rattle.ob_definition.specs.EntryFaults.{IsLinkTaken}
use Rattle.ob_definition.specs.Gathered.{Gathered}
use Rattle.ob_definition.specs.Making.{with_links}
use Rattle.ob_definition.specs.Members.{is_link, links_from, may_inherit, with_link}

module _ (models : List Gathered) (g : Gathered) where
  -- what one link adds
  abbrev pub one_link : List (List ℕ) → Inherits → List Inherits
  one_link taken i = cond (is_link models g taken i) (i ∷ []) []

  pub with_links-push : (taken : List (List ℕ)) (links : List Inherits) (i : Inherits) → with_links models g taken (links ++ i ∷ []) ≡ with_link models g (with_links models g taken links) i
  with_links-push taken [] i = refl
  with_links-push taken (l ∷ links) i = with_links-push (with_link models g taken l) links i

  pub links_from-push : (taken : List (List ℕ)) (links : List Inherits) (i : Inherits) → links_from models g taken (links ++ i ∷ []) ≡ links_from models g taken links ++ one_link (with_links models g taken links) i
  links_from-push taken [] i = by (is_link models g taken i)
    where
      by : (b : Bool) → ◌≡◌ {A = List Inherits} (cond b (i ∷ []) [] ++ []) (cond b (i ∷ []) [])
      by true = refl
      by false = refl
  links_from-push taken (l ∷ links) i =
      ap (λ (more : List Inherits). one_link taken l ++ more) (links_from-push (with_link models g taken l) links i)
      ∙ sym (append_assoc (one_link taken l) (links_from models g (with_link models g taken l) links) (one_link (with_links models g (with_link models g taken l) links) i))

  -- the name of one link more is taken
  abbrev pub LinkTakes : List (List ℕ) → List Inherits → Inherits → Type 0
  LinkTakes taken links i = (may_inherit models g i && is_one_of (with_links models g taken links) i.link) ≡ true

  pub IsLinkTaken-push : (taken : List (List ℕ)) (links : List Inherits) (i : Inherits) → IsLinkTaken models g taken (links ++ i ∷ []) → IsLinkTaken models g taken links ⊎ LinkTakes taken links i
  IsLinkTaken-push taken [] i is = elim is [ inl now ↦ inr now | inr later ↦ absurd later ]
  IsLinkTaken-push taken (l ∷ links) i is =
      elim is [
        | inl now ↦ inl (inl now)
        | inr later ↦ elim (IsLinkTaken-push (with_link models g taken l) links i later) [ inl before ↦ inl (inr before) | inr last ↦ inr last ]
      ]

  pub IsLinkTaken-before : (taken : List (List ℕ)) (links : List Inherits) (i : Inherits) → IsLinkTaken models g taken links ⊎ LinkTakes taken links i → IsLinkTaken models g taken (links ++ i ∷ [])
  IsLinkTaken-before taken [] i is = elim is [ inl before ↦ absurd before | inr last ↦ inl last ]
  IsLinkTaken-before taken (l ∷ links) i is =
      elim is [
        | inl before ↦ elim before [ inl now ↦ inl now | inr later ↦ inr (IsLinkTaken-before (with_link models g taken l) links i (inl later)) ]
        | inr last ↦ inr (IsLinkTaken-before (with_link models g taken l) links i (inr last))
      ]
