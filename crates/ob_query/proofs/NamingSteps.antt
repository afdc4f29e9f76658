-- The fields that arguments name, one after another.
use Rattle.std.proofs.Common.{◌≡◌, ◌≢◌, ◌++◌, ◌+◌, ◌<◌, ℕ, Bool, true, false, cond, List, [], ◌∷◌, map, take, drop, get_or, length, Option, Some, None, refl, sym, ap, ◌∙◌}
use Rattle.std.specs.Prelude.{find, not}
use Rattle.std.specs.List.{cons_option, filter_map}
use Rattle.std.specs.Option.{option_or}
use Rattle.std.proofs.lemmas.List.{append-nil, drop_more, map-append, take_more}
use Rattle.std.proofs.lemmas.List.Elements.{filter_map-append}
use Rattle.ob_query.proofs.Callers.{find_then}
use Rattle.ob_query.specs.Callers.{named_of, named_where}
use Rattle.ob_query.specs.declared.naming.Naming.{Naming}
use Rattle.ob_schema.specs.declared.info.Step.{Step}

-- ---- what texts name

module _ {X A B C : Type 0} (view : X → A) (f : A → Option B) (h : B → C) (xs : List X) (i : ℕ) (x : X) (lt : i < length xs) (is : x ≡ get_or xs i x) where
  so_far : ℕ → List C
  so_far n = map h (filter_map f (map view (take n xs)))

  -- one more
  more : so_far (i + 1) ≡ so_far i ++ map h (cons_option (f (view x)) [])
  unfolding so_far
  more =
      ap (λ (l : List X). map h (filter_map f (map view l))) (take_more xs i x lt) ∙ ap (λ (l : List A). map h (filter_map f l)) (map-append view (take i xs) (get_or xs i x ∷ []))
      ∙ ap (map h) (filter_map-append f (map view (take i xs)) (view (get_or xs i x) ∷ [])) ∙ map-append h (filter_map f (map view (take i xs))) (filter_map f (view (get_or xs i x) ∷ []))
      ∙ ap (λ (y : X). map h (filter_map f (map view (take i xs))) ++ map h (cons_option (f (view y)) [])) (sym is)

  -- it names one
  pub names-more : (items : List C) (b : B) → f (view x) ≡ Some b → items ≡ map h (filter_map f (map view (take i xs))) → items ++ h b ∷ [] ≡ map h (filter_map f (map view (take (i + 1) xs)))
  unfolding so_far
  names-more items b one are = ap (λ (l : List C). l ++ h b ∷ []) are ∙ ap (λ (o : Option B). map h (filter_map f (map view (take i xs))) ++ map h (cons_option o [])) (sym one) ∙ sym more

  -- or none
  pub names-none : (items : List C) → f (view x) ≡ None → items ≡ map h (filter_map f (map view (take i xs))) → items ≡ map h (filter_map f (map view (take (i + 1) xs)))
  unfolding so_far
  names-none items none are =
      are ∙ sym (append-nil (map h (filter_map f (map view (take i xs))))) ∙ ap (λ (o : Option B). map h (filter_map f (map view (take i xs))) ++ map h (cons_option o [])) (sym none) ∙ sym more

-- ---- the first that isn't allowed

module _ (test : Step → Bool) (positioned : Bool) (ns : List Naming) (i : ℕ) (n : Naming) (lt : i < length ns) (is : n ≡ get_or ns i n) where
  abbrev own : Bool → List Step
  own b = cond (cond positioned b (not b)) n.fields.items []

  next : find test (named_where positioned (map named_of (drop i ns))) ≡ option_or (find test (own n.positioned)) (find test (named_where positioned (map named_of (drop (i + 1) ns))))
  next =
      ap (λ (l : List Naming). find test (named_where positioned (map named_of l))) (drop_more ns i n lt ∙ ap (λ (m : Naming). m ∷ drop (i + 1) ns) (sym is))
      ∙ find_then test (own n.positioned) (named_where positioned (map named_of (drop (i + 1) ns)))

  kind : (p b : Bool) → b ≡ p → cond p b (not b) ≡ true
  kind true b e = e
  kind false true e = absurd cc
  kind false false e = refl

  other : (p b : Bool) → b ≢ p → cond p b (not b) ≡ false
  other true true e = absurd (e refl)
  other true false e = refl
  other false true e = refl
  other false false e = absurd (e refl)

  -- one of this argument
  pub where-one : (field : Step) → n.positioned ≡ positioned → find test n.fields.items ≡ Some field → find test (named_where positioned (map named_of (drop i ns))) ≡ Some field
  where-one field same found =
      next
      ∙ ap (λ (b : Bool). option_or (find test (cond b n.fields.items [])) (find test (named_where positioned (map named_of (drop (i + 1) ns))))) (kind positioned n.positioned same)
      ∙ ap (λ (o : Option Step). option_or o (find test (named_where positioned (map named_of (drop (i + 1) ns))))) found

  -- none of it
  pub where-none : n.positioned ≡ positioned → find test n.fields.items ≡ None
      → find test (named_where positioned (map named_of (drop i ns))) ≡ find test (named_where positioned (map named_of (drop (i + 1) ns)))
  where-none same none =
      next
      ∙ ap (λ (b : Bool). option_or (find test (cond b n.fields.items [])) (find test (named_where positioned (map named_of (drop (i + 1) ns))))) (kind positioned n.positioned same)
      ∙ ap (λ (o : Option Step). option_or o (find test (named_where positioned (map named_of (drop (i + 1) ns))))) none

  -- it is given the other way
  pub where-other : n.positioned ≢ positioned → find test (named_where positioned (map named_of (drop i ns))) ≡ find test (named_where positioned (map named_of (drop (i + 1) ns)))
  where-other apart = next ∙ ap (λ (b : Bool). option_or (find test (cond b n.fields.items [])) (find test (named_where positioned (map named_of (drop (i + 1) ns))))) (other positioned n.positioned apart)
