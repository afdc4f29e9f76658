-- A path's text is its first step, and each later step after a dot.
use Rattle.std.proofs.Common.{◌≡◌, ℕ, ◌-◌, ◌≤◌, List, [], ◌∷◌, ◌++◌, length, get_or, take, drop, sym, ap, ◌∙◌, arith}
use Rattle.std.specs.List.{flat_map}
use Rattle.std.proofs.lemmas.List.{append-nil, take_all}
use Rattle.ob_base.specs.declared.place.PathStep.{PathStep}
use Rattle.ob_base.specs.PathText.{step_text, path_text}

-- a step after a dot
abbrev pub dotted : PathStep → List ℕ
dotted step = 46 ∷ step_text step

-- the steps after the first
pub path_text-dotted : (first : PathStep) (rest : List PathStep) → path_text (first ∷ rest) ≡ step_text first ++ flat_map dotted rest
path_text-dotted first [] = sym (append-nil (step_text first))
path_text-dotted first (next ∷ rest) = ap (λ text. step_text first ++ 46 ∷ text) (path_text-dotted next rest)

-- the first step, and what is left taken whole
pub path_text-parts : (steps : List PathStep) (first : PathStep) (n : ℕ) → 1 ≤ length steps → first ≡ get_or steps 0 first → length (take (length steps - 1) (drop 1 steps)) ≤ n
    → step_text first ++ flat_map dotted (take n (take (length steps - 1) (drop 1 steps))) ≡ path_text steps
path_text-parts [] first n some is whole = absurd (omega (arith, some))
path_text-parts (step ∷ rest) first n some is whole =
    let all : take (length (step ∷ rest) - 1) rest ≡ rest = take_all _ rest (omega arith) in
    let left : take n (take (length (step ∷ rest) - 1) rest) ≡ rest = take_all n _ whole ∙ all in
    rw (left, is) (sym (path_text-dotted step rest))
