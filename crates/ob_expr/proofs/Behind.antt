-- Paths behind links.
use Rattle.std.proofs.Common.{◌≡◌, ℕ, ◌+◌, ◌<◌, ◌≤◌, length, List, [], ◌∷◌, ◌++◌, map, take, get_or, Vec, Global, refl, sym, ap, ◌∙◌, append_assoc}
use Rattle.std.proofs.lemmas.List.{flat_map_more, map-append, take_all, take_more}
use Rattle.std.specs.List.{flat_map}
use Rattle.ob_base.specs.declared.id.ModelNo.{ModelNo}
use Rattle.ob_expr.specs.declared.typed.Link.{Link}
use Rattle.ob_expr.specs.declared.typed.Typed.{Typed, Joined}
use Rattle.ob_expr.specs.Route.{Route, behind, through}
use Rattle.ob_expr.specs.TypedTree.{TypedTree, paths_of, paths_of_all, typed_tree_of}
use Rattle.ob_expr.proofs.TypedRows.{trees_of, typed_tree_of-Joined}

abbrev with_links : Route → List Link → Route
with_links route links = record route { links = links }

-- behind links and more behind these
pub behind-both : (before more : List Link) (routes : List Route) → map (behind before) (map (behind more) routes) ≡ map (behind (before ++ more)) routes
behind-both before more [] = refl
behind-both before more (route ∷ routes) =
    ap (λ (links : List Link). with_links route links ∷ map (behind before) (map (behind more) routes)) (sym (append_assoc before more route.links))
    ∙ ap (λ (rest : List Route). behind (before ++ more) route ∷ rest) (behind-both before more routes)

-- no links change nothing
pub behind-nothing : (routes : List Route) → map (behind []) routes ≡ routes
behind-nothing [] = refl
behind-nothing (route ∷ routes) = ap (λ (rest : List Route). route ∷ rest) (behind-nothing routes)

-- the paths of parts, one part after another
pub paths-parts : (before : List Link) (parts : List Typed)
    → flat_map (λ (part : Typed). map (behind before) (paths_of (typed_tree_of part))) parts ≡ map (behind before) (paths_of_all (trees_of parts))
paths-parts before [] = refl
paths-parts before (part ∷ parts) =
    ap (λ (rest : List Route). map (behind before) (paths_of (typed_tree_of part)) ++ rest) (paths-parts before parts)
    ∙ sym (map-append (behind before) (paths_of (typed_tree_of part)) (paths_of_all (trees_of parts)))

-- the paths of one part after those before it
pub both-behind : (before : List Link) (old one left right : List Route) → one ≡ old ++ map (behind before) left
    → one ++ map (behind before) right ≡ old ++ map (behind before) (left ++ right)
both-behind before old one left right is =
    ap (λ (xs : List Route). xs ++ map (behind before) right) is
    ∙ (append_assoc old (map (behind before) left) (map (behind before) right) ∙ ap (λ (xs : List Route). old ++ xs) (sym (map-append (behind before) left right)))

-- the path to targets, and the paths there behind it
pub over-behind : (before : List Link) (route first : Route) (target : ModelNo) (old one inner : List Route) (links : List Link)
    → links ≡ before ++ through route target → first ≡ behind before route → one ≡ old ++ first ∷ []
    → one ++ map (behind links) inner ≡ old ++ map (behind before) (route ∷ map (behind (through route target)) inner)
over-behind before route first target old one inner links there is with_first =
    ap (λ (ls : List Link). one ++ map (behind ls) inner) there
    ∙ (ap (λ (rs : List Route). one ++ rs) (sym (behind-both before (through route target) inner))
    ∙ (ap (λ (xs : List Route). xs ++ map (behind before) (map (behind (through route target)) inner)) (with_first ∙ ap (λ (f : Route). old ++ f ∷ []) is)
    ∙ append_assoc old (behind before route ∷ []) (map (behind before) (map (behind (through route target)) inner))))

-- the paths of one part behind links
abbrev pub part_paths : List Link → Typed → List Route
part_paths before part = map (behind before) (paths_of (typed_tree_of part))

pub joined-behind : (before : List Link) (old : List Route) (parts : Vec Typed Global) (items : List Typed) → items ≡ parts.items
    → old ++ flat_map (part_paths before) items ≡ old ++ part_paths before (Joined parts)
joined-behind before old parts items is =
    ap (λ (xs : List Typed). old ++ flat_map (part_paths before) xs) is
    ∙ ap (λ (rs : List Route). old ++ rs) (paths-parts before parts.items ∙ ap (λ (t : TypedTree). map (behind before) (paths_of t)) (sym (typed_tree_of-Joined parts)))

-- the part in its turn
pub part-behind : (f : Typed → List Route) (old now : List Route) (parts : List Typed) (i : ℕ) (x : Typed) → i < length parts → x ≡ get_or parts i x
    → now ≡ old ++ flat_map f (take i parts) → now ++ f x ≡ old ++ flat_map f (take (i + 1) parts)
part-behind f old now parts i x lt at is =
    ap (λ (rs : List Route). rs ++ f x) is
    ∙ (flat_map_more f old (take i parts) x
    ∙ ap (λ (xs : List Typed). old ++ flat_map f xs) (ap (λ (y : Typed). take i parts ++ y ∷ []) at ∙ sym (take_more parts i x lt)))

-- all have had their turn
pub parts-behind : (f : Typed → List Route) (old now : List Route) (parts : List Typed) (i : ℕ) → length parts ≤ i
    → now ≡ old ++ flat_map f (take i parts) → now ≡ old ++ flat_map f parts
parts-behind f old now parts i le is = is ∙ ap (λ (xs : List Typed). old ++ flat_map f xs) (take_all i parts le)
