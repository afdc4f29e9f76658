-- What stands written to a connection after one part and then another, or a front of it that lacks something.
use Rattle.std.proofs.Common.{◌≡◌, ◌≢◌, ℕ, ◌+◌, ◌-◌, ◌<◌, List, [], ◌∷◌, length, Result, Ok, Err, OnErr, ◌++◌, take, drop, Option, Some, None, option_map, get_or, refl, sym, ap, ◌∙◌, subst, append_assoc, arith, length-drop}
use Rattle.std.specs.List.{flat_map}
use Rattle.std.proofs.lemmas.List.{take-append-drop, take_rest, take_more, append-nil}
use Rattle.std.proofs.lemmas.List.Concat.{flat_map-append}
use Rattle.std.proofs.Math.Seq.{take-add}
use Rattle.ob_io.specs.Connections.{extend_last}
use Rattle.ob_http.specs.Written.{Wrote, WrotePart, WroteFront}

-- two parts after one another are one
pub extend_twice : (a b : List ℕ) (written : List (List ℕ)) → extend_last b (extend_last a written) ≡ extend_last (a ++ b) written
extend_twice a b [] = refl
extend_twice a b (last ∷ []) = ap (λ w. w ∷ []) (append_assoc last a b)
extend_twice a b (first ∷ next ∷ []) = ap (λ w. first ∷ w) (extend_twice a b (next ∷ []))
extend_twice a b (first ∷ next ∷ third ∷ rest) = ap (λ w. first ∷ w) (extend_twice a b (next ∷ third ∷ rest))

-- nothing more leaves what stands there
pub extend_nothing : (written : List (List ℕ)) → extend_last [] written ≡ written
extend_nothing [] = refl
extend_nothing (last ∷ []) = ap (λ w. w ∷ []) (append-nil last)
extend_nothing (first ∷ next ∷ []) = ap (λ w. first ∷ w) (extend_nothing (next ∷ []))
extend_nothing (first ∷ next ∷ third ∷ rest) = ap (λ w. first ∷ w) (extend_nothing (next ∷ third ∷ rest))

-- the same where the door may not tell
parts_joined : (before : Option (List (List ℕ))) (a b : List ℕ) → option_map (extend_last b) (option_map (extend_last a) before) ≡ option_map (extend_last (a ++ b)) before
parts_joined None a b = refl
parts_joined (Some written) a b = ap Some (extend_twice a b written)

pub wrote_nothing : (before : Option (List (List ℕ))) → Wrote before before []
wrote_nothing None = refl
wrote_nothing (Some written) = ap Some (sym (extend_nothing written))

-- a part and then another were written
pub wrote_both : (before mid now : Option (List (List ℕ))) (a b : List ℕ) → Wrote before mid a → Wrote mid now b → Wrote before now (a ++ b)
wrote_both before mid now a b first second = second ∙ ap (option_map (extend_last b)) first ∙ parts_joined before a b

-- what begins with something isn't empty
some_more : (a b : List ℕ) → a ≢ [] → a ++ b ≢ []
some_more [] b some = absurd (some refl)
some_more (x ∷ a) b some = λ e. cc

-- a front of a part is a front of more
pub front_of_more : (before now : Option (List (List ℕ))) (a b : List ℕ) → WrotePart before now a → WrotePart before now (a ++ b)
front_of_more before now a b w = (w.0, (w.1.0 ++ b, some_more w.1.0 b w.1.1, ap (λ x. x ++ b) w.1.2 ∙ append_assoc w.0 w.1.0 b), w.2)

-- after a whole part a front of the next
pub front_after : (before mid now : Option (List (List ℕ))) (a b : List ℕ) → Wrote before mid a → WrotePart mid now b → WrotePart before now (a ++ b)
front_after before mid now a b whole w =
    (a ++ w.0, (w.1.0, w.1.1, ap (λ x. a ++ x) w.1.2 ∙ sym (append_assoc a w.0 w.1.0)), wrote_both before mid now a w.0 whole w.2)

-- what a loop over pieces has written before its end is a front, and lacks what is left
pub front_so_far : (before now : Option (List (List ℕ))) (done : ℕ) (bytes : List ℕ) → done < length bytes → Wrote before now (take done bytes) → WrotePart before now bytes
front_so_far before now done bytes below so_far =
    (take done bytes, (drop done bytes, λ none. absurd (omega (arith, below, length-drop done bytes, ap length none)), sym (take-append-drop done bytes)), so_far)

-- what holds holds at an error
pub at_any_error : {T E P : Type 0} (r : Result T E) → P → OnErr r P
at_any_error (Ok x) h = tt
at_any_error (Err e) h = h

-- the next piece goes after what a loop has written
pub more_so_far : (before mid now : Option (List (List ℕ))) (done n : ℕ) (bytes : List ℕ) → Wrote before mid (take done bytes)
    → Wrote mid now (take n (take (length bytes - done) (drop done bytes))) → Wrote before now (take (done + n) bytes)
more_so_far before mid now done n bytes so_far piece =
    wrote_both before mid now (take done bytes) (take n (drop done bytes)) so_far (piece ∙ ap (λ t. option_map (extend_last (take n t)) mid) (take_rest bytes done))
    ∙ ap (λ t. option_map (extend_last t) before) (sym (take-add done n bytes))

-- what waits follows what was written: then all is
pub rest_written : (before mid now : Option (List (List ℕ))) (bytes waiting : List ℕ) → WroteFront before mid bytes waiting → Wrote mid now waiting → Wrote before now bytes
rest_written before mid now bytes waiting w last =
    wrote_both before mid now w.0 waiting w.2 last ∙ ap (λ b. option_map (extend_last b) before) (sym w.1)

-- of what waits a front follows
pub rest_cut_short : (before mid now : Option (List (List ℕ))) (bytes waiting : List ℕ) → WroteFront before mid bytes waiting → WrotePart mid now waiting → WrotePart before now bytes
rest_cut_short before mid now bytes waiting w part =
    subst (λ (b : List ℕ). WrotePart before now b) (sym w.1) (front_after before mid now w.0 waiting w.2 part)

-- a text comes behind what waits
pub text_behind : (before mid now : Option (List (List ℕ))) (bytes waiting text still : List ℕ) → WroteFront before mid bytes waiting
    → WroteFront mid now (waiting ++ text) still → WroteFront before now (bytes ++ text) still
text_behind before mid now bytes waiting text still w n =
    (w.0 ++ n.0, ap (λ b. b ++ text) w.1 ∙ append_assoc w.0 waiting text ∙ ap (λ b. w.0 ++ b) n.1 ∙ sym (append_assoc w.0 n.0 still), wrote_both before mid now w.0 n.0 w.2 n.2)

-- it is cut short, or what waits before it
pub text_cut_short : (before mid now : Option (List (List ℕ))) (bytes waiting text : List ℕ) → WroteFront before mid bytes waiting
    → WrotePart mid now (waiting ++ text) → WrotePart before now (bytes ++ text)
text_cut_short before mid now bytes waiting text w part =
    rest_cut_short before mid now (bytes ++ text) (waiting ++ text) (w.0, ap (λ b. b ++ text) w.1 ∙ append_assoc w.0 waiting text, w.2) part

-- texts up to one and with it
pub texts_up_to : {X : Type 0} (bytes_of : X → List ℕ) (xs : List X) (i : ℕ) (otherwise : X) → i < length xs
    → flat_map bytes_of (take (i + 1) xs) ≡ flat_map bytes_of (take i xs) ++ bytes_of (get_or xs i otherwise)
texts_up_to bytes_of xs i otherwise below =
    ap (flat_map bytes_of) (take_more xs i otherwise below) ∙ flat_map-append bytes_of (take i xs) (get_or xs i otherwise ∷ []) ∙ ap (λ b. flat_map bytes_of (take i xs) ++ b) (append-nil _)

-- texts, of which these are the first
pub texts_from : {X : Type 0} (bytes_of : X → List ℕ) (xs : List X) (i : ℕ) → flat_map bytes_of xs ≡ flat_map bytes_of (take i xs) ++ flat_map bytes_of (drop i xs)
texts_from bytes_of xs i = ap (flat_map bytes_of) (sym (take-append-drop i xs)) ∙ flat_map-append bytes_of (take i xs) (drop i xs)
