-- What stands written after one part and then another, or a front of it.
use Rattle.std.proofs.Common.{◌≡◌, ◌≢◌, ℕ, ◌+◌, ◌-◌, ◌<◌, List, [], ◌∷◌, length, Result, Ok, Err, OnErr, ◌++◌, take, drop, Option, Some, None, option_map, refl, sym, ap, ◌∙◌, append_assoc, arith, length-drop}
use Rattle.std.proofs.lemmas.List.{append-nil, take-append-drop, take_rest}
use Rattle.std.proofs.Math.Seq.{take-add}
use Rattle.ob_server.specs.Ending.{WritesPart}

-- two parts after one another are one
pub parts_joined : (before : Option (List ℕ)) (a b : List ℕ) → option_map (λ w. w ++ b) (option_map (λ w. w ++ a) before) ≡ option_map (λ w. w ++ (a ++ b)) before
parts_joined None a b = refl
parts_joined (Some w) a b = ap Some (append_assoc w a b)

-- nothing more was written
pub nothing_written : (written : Option (List ℕ)) → written ≡ option_map (λ w. w ++ []) written
nothing_written None = refl
nothing_written (Some w) = ap Some (sym (append-nil w))

-- a part and then another were written
pub whole_after : (before mid now : Option (List ℕ)) (a b : List ℕ) → mid ≡ option_map (λ w. w ++ a) before → now ≡ option_map (λ w. w ++ b) mid → now ≡ option_map (λ w. w ++ (a ++ b)) before
whole_after before mid now a b first second = second ∙ ap (option_map (λ w. w ++ b)) first ∙ parts_joined before a b

-- what begins with something isn't empty
some_more : (a b : List ℕ) → a ≢ [] → a ++ b ≢ []
some_more [] b some = absurd (some refl)
some_more (x ∷ a) b some = λ e. cc

-- a front of a part is a front of more
pub front_of_more : (before now : Option (List ℕ)) (a b : List ℕ) → WritesPart before now a → WritesPart before now (a ++ b)
front_of_more before now a b w = (w.0, (w.1.0 ++ b, some_more w.1.0 b w.1.1, ap (λ x. x ++ b) w.1.2 ∙ append_assoc w.0 w.1.0 b), w.2)

-- after a whole part a front of the next
pub front_after : (before mid now : Option (List ℕ)) (a b : List ℕ) → mid ≡ option_map (λ w. w ++ a) before → WritesPart mid now b → WritesPart before now (a ++ b)
front_after before mid now a b whole w =
    (a ++ w.0, (w.1.0, w.1.1, ap (λ x. a ++ x) w.1.2 ∙ sym (append_assoc a w.0 w.1.0)), w.2 ∙ ap (option_map (λ x. x ++ w.0)) whole ∙ parts_joined before a w.0)

-- what a loop over pieces has written before its end is a front, and lacks what is left
pub front_so_far : (before now : Option (List ℕ)) (done : ℕ) (bytes : List ℕ) → done < length bytes → now ≡ option_map (λ w. w ++ take done bytes) before → WritesPart before now bytes
front_so_far before now done bytes below so_far =
    (take done bytes, (drop done bytes, λ none. absurd (omega (arith, below, length-drop done bytes, ap length none)), sym (take-append-drop done bytes)), so_far)

-- what holds holds at an error
pub at_any_error : {T E P : Type 0} (r : Result T E) → P → OnErr r P
at_any_error (Ok x) h = tt
at_any_error (Err e) h = h

-- the next piece goes after what a loop has written
pub more_so_far : (before mid now : Option (List ℕ)) (done n : ℕ) (bytes : List ℕ) → mid ≡ option_map (λ w. w ++ take done bytes) before
    → now ≡ option_map (λ w. w ++ take n (take (length bytes - done) (drop done bytes))) mid → now ≡ option_map (λ w. w ++ take (done + n) bytes) before
more_so_far before mid now done n bytes so_far piece =
    whole_after before mid now (take done bytes) (take n (drop done bytes)) so_far (piece ∙ ap (λ t. option_map (λ w. w ++ take n t) mid) (take_rest bytes done))
    ∙ ap (λ t. option_map (λ w. w ++ t) before) (sym (take-add done n bytes))
