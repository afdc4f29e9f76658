-- The parts of what a door in memory holds: one more, a longer last one, and the one of a number.
use Rattle.std.proofs.Common.{◌≡◌, ℕ, zero, suc, ◌+◌, ◌<◌, ◌≤◌, List, [], ◌∷◌, ◌++◌, length, take, drop, get_or, set, Some, None, slice_get, refl, sym, ap, ◌∙◌, arith, length-append, length-drop}
use Rattle.std.specs.List.{sum}
use Rattle.std.proofs.lemmas.List.{take-append-le, drop-append-le, take_all, drop-drop}
use Rattle.std.proofs.lemmas.List.Sums.{sum_by-cons}
use Rattle.ob_io.specs.Connections.{extend_last}
use Rattle.ob_io.specs.MemoryDoor.{parts_of}

-- an empty part more
pub parts-push : (sizes bytes : List ℕ) → parts_of (sizes ++ 0 ∷ []) bytes ≡ parts_of sizes bytes ++ [] ∷ []
parts-push [] bytes = refl
parts-push (size ∷ sizes) bytes = ap (λ parts. take size bytes ∷ parts) (parts-push sizes (drop size bytes))

-- the last part is longer by a piece
pub parts-grow : (sizes bytes piece : List ℕ) (i n : ℕ) → suc i ≡ length sizes → sum sizes ≡ length bytes → n ≡ get_or sizes i 0 + length piece
    → parts_of (set sizes i n) (bytes ++ piece) ≡ extend_last piece (parts_of sizes bytes)
parts-grow [] bytes piece i n last whole grown = refl
parts-grow (size ∷ []) bytes piece zero n last whole grown =
    let only : size + sum [] ≡ length bytes = sym (sum_by-cons (λ x. x) size []) ∙ whole in
    let e : size ≡ length bytes = omega (arith, only) in
    let few : length (bytes ++ piece) ≤ n = omega (arith, length-append bytes piece, e, grown) in
    ap (λ w. w ∷ []) (take_all n (bytes ++ piece) few ∙ ap (λ b. b ++ piece) (sym (take_all size bytes (omega (arith, e)))))
parts-grow (size ∷ []) bytes piece (suc i) n last whole grown = absurd (omega (arith, last))
parts-grow (size ∷ next ∷ sizes) bytes piece zero n last whole grown = absurd (omega (arith, last))
parts-grow (size ∷ next ∷ sizes) bytes piece (suc i) n last whole grown =
    let e : size + sum (next ∷ sizes) ≡ length bytes = sym (sum_by-cons (λ x. x) size (next ∷ sizes)) ∙ whole in
    let fits : size ≤ length bytes = omega (arith, e) in
    let rest : sum (next ∷ sizes) ≡ length (drop size bytes) = omega (arith, e, length-drop size bytes) in
    let inner = parts-grow (next ∷ sizes) (drop size bytes) piece i n (omega (arith, last)) rest grown in
    ap (λ w. w ∷ parts_of (set (next ∷ sizes) i n) (drop size (bytes ++ piece))) (take-append-le size bytes piece fits)
    ∙ ap (λ b. take size bytes ∷ parts_of (set (next ∷ sizes) i n) b) (drop-append-le size bytes piece fits)
    ∙ ap (λ ws. take size bytes ∷ ws) inner

-- the part of a number stands after those before it
pub parts-at : (sizes bytes : List ℕ) (n : ℕ) → n < length sizes → slice_get (parts_of sizes bytes) n ≡ Some (take (get_or sizes n 0) (drop (sum (take n sizes)) bytes))
parts-at [] bytes n within = absurd (omega (arith, within))
parts-at (size ∷ sizes) bytes zero within = refl
parts-at (size ∷ sizes) bytes (suc n) within =
    parts-at sizes (drop size bytes) n (omega (arith, within))
    ∙ ap (λ b. Some (take (get_or sizes n 0) b)) (drop-drop (sum (take n sizes)) size bytes ∙ ap (λ k. drop k bytes) (sym (sum_by-cons (λ x. x) size (take n sizes))))

-- there are no more parts than lengths
pub parts-none : (sizes bytes : List ℕ) (n : ℕ) → length sizes ≤ n → slice_get (parts_of sizes bytes) n ≡ None
parts-none [] bytes n past = refl
parts-none (size ∷ sizes) bytes zero past = absurd (omega (arith, past))
parts-none (size ∷ sizes) bytes (suc n) past = parts-none sizes (drop size bytes) n (omega (arith, past))
