-- The spots of lines as a set: one more line, and a quant that stands at one of them.
use Rattle.std.proofs.Common.{◌≡◌, ℕ, ◌+◌, ◌<◌, pos, List, [], ◌∷◌, take, get_or, length, Bool, true, false, cond, not, ◌||◌, refl, sym, ◌∙◌, ap}
use Rattle.std.specs.BTreeSet as tree_set
use Rattle.std.specs.List.{filter}
use Rattle.std.specs.Ordering.{int_eq}
use Rattle.std.proofs.lemmas.List.Folds.{list_any_more}
use Rattle.wh_quant.specs.declared.quant.Quant.{Quant}
use Rattle.wh_quant.specs.declared.quant.Line.{Line}
use Rattle.wh_quant.specs.declared.spot.Spot.{Spot}
use Rattle.wh_quant.specs.Spots.{spot_of, spot_cmp, same_spot, source_spot, destination_spot, is_touched}
use Rattle.wh_quant.specs.Moves.{is_left}
use Rattle.wh_quant.specs.Indexed.{AreTouched, stays_beside}

either : (s d b : Bool) → cond d true (cond s true b) ≡ (b || (s || d))
either true true true = refl
either true true false = refl
either true false true = refl
either true false false = refl
either false true true = refl
either false true false = refl
either false false true = refl
either false false false = refl

-- one more line, whose two spots are put in
pub AreTouched-more : (before between after : tree_set.BTreeSet Spot) (lines : List Line) (i : ℕ) (d : Line) (source destination : Spot) → i < length lines →
    source ≡ source_spot (get_or lines i d) → destination ≡ destination_spot (get_or lines i d) → AreTouched before (take i lines) →
    ((spot : Spot) → tree_set.contains spot_cmp between spot ≡ cond (same_spot source spot) true (tree_set.contains spot_cmp before spot)) →
    ((spot : Spot) → tree_set.contains spot_cmp after spot ≡ cond (same_spot destination spot) true (tree_set.contains spot_cmp between spot)) →
    AreTouched after (take (i + 1) lines)
AreTouched-more before between after lines i d source destination within from to so_far first second spot =
    let line = get_or lines i d in
    second spot
    ∙ ap (cond (same_spot destination spot) true) (first spot ∙ ap (cond (same_spot source spot) true) (so_far spot))
    ∙ either (same_spot source spot) (same_spot destination spot) (is_touched (take i lines) spot)
    ∙ rw (from, to) (sym (list_any_more (λ line. same_spot (source_spot line) spot || same_spot (destination_spot line) spot) lines i d within))

same_cons : (lines : List Line) (spots : tree_set.BTreeSet Spot) (q : Quant) (qs : List Quant) → stays_beside spots q ≡ is_left lines q →
    filter (stays_beside spots) qs ≡ filter (is_left lines) qs → filter (stays_beside spots) (q ∷ qs) ≡ filter (is_left lines) (q ∷ qs)
same_cons lines spots q qs here rest = ap (λ b. cond b (q ∷ filter (stays_beside spots) qs) (filter (stays_beside spots) qs)) here ∙ ap (λ kept. cond (is_left lines q) (q ∷ kept) kept) rest

-- the set tells what is left
pub left_beside : (lines : List Line) (spots : tree_set.BTreeSet Spot) (qs : List Quant) → AreTouched spots lines → filter (stays_beside spots) qs ≡ filter (is_left lines) qs
left_beside lines spots [] touched = refl
left_beside lines spots (q ∷ qs) touched =
    same_cons lines spots q qs (ap (λ b. not (int_eq q.quantity (pos 0)) || not b) (touched (spot_of q))) (left_beside lines spots qs touched)
