-- Links and parts over other numbers of fields, one after another.
use Rattle.std.proofs.Common.{◌≡◌, ℕ, ◌+◌, ◌<◌, ◌≤◌, length, List, [], ◌∷◌, ◌++◌, map, take, drop, set, get_or, Vec, Global, refl, sym, ap, ◌∙◌, arith, append_assoc}
use Rattle.std.proofs.lemmas.List.{append-nil, at_drop_all, drop_more, drop-set-lt, map_push, take_all, take_more_set}
use Rattle.ob_base.specs.declared.id.FieldNo.{FieldNo}
use Rattle.ob_base.specs.declared.id.ModelNo.{ModelNo}
use Rattle.ob_expr.specs.declared.typed.Link.{Link}
use Rattle.ob_expr.specs.declared.typed.Typed.{Typed, Joined}
use Rattle.ob_expr.specs.Renumbering.{end_model, renumbered, renumbered_all, renumbered_links}
use Rattle.ob_expr.specs.TypedTree.{TypedTree, TypedTrees, no_trees, one_more, joined, typed_tree_of}
use Rattle.ob_expr.proofs.TypedRows.{trees_of, typed_tree_of-Joined}

-- two lists that are alike from a place on have the same item there
pub left_first : {A : Type 0} (now old : List A) (i : ℕ) (d : A) → i < length now → i < length old → drop i now ≡ drop i old → get_or now i d ≡ get_or old i d
left_first {A} now old i d lt within same =
    ap (λ (xs : List A). get_or xs 0 d) (sym (drop_more now i d lt) ∙ (same ∙ drop_more old i d within))

-- and are alike behind it
pub left_more : {A : Type 0} (now old : List A) (i : ℕ) (d : A) → i < length now → i < length old → drop i now ≡ drop i old → drop (i + 1) now ≡ drop (i + 1) old
left_more {A} now old i d lt within same =
    ap (λ (xs : List A). drop 1 xs) (sym (drop_more now i d lt) ∙ (same ∙ drop_more old i d within))

-- still where the item there is another
pub left_set : {A : Type 0} (now old : List A) (i : ℕ) (d y : A) → i < length now → i < length old → drop i now ≡ drop i old → drop (i + 1) (set now i y) ≡ drop (i + 1) old
left_set now old i d y lt within same = drop-set-lt (i + 1) now i y (omega arith) ∙ left_more now old i d lt within same

-- a link of a field and a target
abbrev pub link_of : FieldNo → ModelNo → Link
link_of field target = record { field = field; target = target }

-- trees, one after another
abbrev rows : List TypedTree → TypedTrees
rows [] = no_trees
rows (t ∷ ts) = one_more t (rows ts)

trees-rows : (parts : List Typed) → trees_of parts ≡ rows (map typed_tree_of parts)
trees-rows [] = refl
trees-rows (part ∷ parts) = ap (one_more (typed_tree_of part)) (trees-rows parts)

-- no links lead on
pub end-end : (model : ModelNo) (old : List Link) (i : ℕ) → length old ≤ i → end_model model (drop i old) ≡ model
end-end model old i past = at_drop_all (end_model model) old i past

module _ (r : ModelNo → FieldNo → FieldNo) where
  -- the link in its turn
  module _ (model : ModelNo) (old now : List Link) (i : ℕ) (d : Link) (lt : i < length now) (within : i < length old) (same : drop i now ≡ drop i old) where
    ahead : drop i old ≡ get_or now i d ∷ drop (i + 1) old
    ahead = drop_more old i d within ∙ ap (λ (x : Link). x ∷ drop (i + 1) old) (sym (left_first now old i d lt within same))

    pub end-more : end_model model (drop i old) ≡ end_model (get_or now i d).target (drop (i + 1) old)
    end-more = ap (end_model model) ahead

    pub links-more : (y : Link) → y ≡ link_of (r model (get_or now i d).field) (get_or now i d).target
        → take i now ++ renumbered_links r model (drop i old) ≡ take (i + 1) (set now i y) ++ renumbered_links r (get_or now i d).target (drop (i + 1) old)
    links-more y is =
        ap (λ (xs : List Link). take i now ++ renumbered_links r model xs) ahead
        ∙ (ap (λ (x : Link). take i now ++ x ∷ renumbered_links r (get_or now i d).target (drop (i + 1) old)) (sym is)
        ∙ (sym (append_assoc (take i now) (y ∷ []) (renumbered_links r (get_or now i d).target (drop (i + 1) old)))
        ∙ ap (λ (xs : List Link). xs ++ renumbered_links r (get_or now i d).target (drop (i + 1) old)) (sym (take_more_set now i y lt))))

  -- all have had their turn
  pub links-end : (model : ModelNo) (old now : List Link) (i : ℕ) → length now ≤ i → length old ≤ i
      → take i now ++ renumbered_links r model (drop i old) ≡ now
  links-end model old now i le past = at_drop_all (λ (xs : List Link). take i now ++ renumbered_links r model xs) old i past ∙ (append-nil (take i now) ∙ take_all i now le)

  -- the tree of a part over other numbers
  abbrev pub other_tree : ModelNo → Typed → TypedTree
  other_tree model part = renumbered r model (typed_tree_of part)

  -- the part in its turn
  pub parts-more : (model : ModelNo) (old now : List Typed) (i : ℕ) (x y : Typed) → i < length now → i < length old → drop i now ≡ drop i old → x ≡ get_or now i x
      → typed_tree_of y ≡ other_tree model x
      → map typed_tree_of (take i now) ++ map (other_tree model) (drop i old) ≡ map typed_tree_of (take (i + 1) (set now i y)) ++ map (other_tree model) (drop (i + 1) old)
  parts-more model old now i x y lt within same at is =
      let left : drop i old ≡ x ∷ drop (i + 1) old = drop_more old i x within ∙ ap (λ (e : Typed). e ∷ drop (i + 1) old) (sym (at ∙ left_first now old i x lt within same)) in
      ap (λ (xs : List Typed). map typed_tree_of (take i now) ++ map (other_tree model) xs) left
      ∙ (ap (λ (t : TypedTree). map typed_tree_of (take i now) ++ t ∷ map (other_tree model) (drop (i + 1) old)) (sym is)
      ∙ (sym (append_assoc (map typed_tree_of (take i now)) (typed_tree_of y ∷ []) (map (other_tree model) (drop (i + 1) old)))
      ∙ ap (λ (ts : List TypedTree). ts ++ map (other_tree model) (drop (i + 1) old)) (sym (map_push typed_tree_of (take i now) y) ∙ ap (map typed_tree_of) (sym (take_more_set now i y lt)))))

  pub parts-end : (model : ModelNo) (old now : List Typed) (i : ℕ) → length now ≤ i → length old ≤ i
      → map typed_tree_of (take i now) ++ map (other_tree model) (drop i old) ≡ map typed_tree_of now
  parts-end model old now i le past =
      at_drop_all (λ (xs : List Typed). map typed_tree_of (take i now) ++ map (other_tree model) xs) old i past
      ∙ (append-nil (map typed_tree_of (take i now)) ∙ ap (map typed_tree_of) (take_all i now le))

  other-rows : (model : ModelNo) (parts : List Typed) → rows (map (other_tree model) parts) ≡ renumbered_all r model (trees_of parts)
  other-rows model [] = refl
  other-rows model (part ∷ parts) = ap (one_more (other_tree model part)) (other-rows model parts)

  -- parts as the code has them
  pub joined-other : (model : ModelNo) (old now : Vec Typed Global) → map typed_tree_of now.items ≡ map (other_tree model) old.items
      → typed_tree_of (Joined now) ≡ renumbered r model (typed_tree_of (Joined old))
  joined-other model old now is =
      typed_tree_of-Joined now
      ∙ (ap joined (trees-rows now.items ∙ (ap rows is ∙ other-rows model old.items))
      ∙ ap (renumbered r model) (sym (typed_tree_of-Joined old)))
