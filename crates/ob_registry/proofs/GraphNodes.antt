-- The nodes of the graph, model by model.
use Rattle.std.proofs.Common.{◌≡◌, ℕ, zero, suc, ◌+◌, ◌<◌, ◌≤◌, List, [], ◌∷◌, ◌++◌, length, length-append, get_or, take, drop, Some, refl, sym, ap, subst, ◌∙◌, arith}
use Rattle.std.proofs.lemmas.List.{length-map, length-take-le, take-append-drop, take_all, take_more}
use Rattle.std.proofs.lemmas.List.Sorted.{length_permutation}
use Rattle.std.proofs.lemmas.Option.{get_or_from_slice_get, slice_get_within}
use Rattle.std.specs.List.{AllZip}
use Rattle.std.specs.Prelude.{slice_get}
use Rattle.ob_definition.specs.Gathered.{Gathered}
use Rattle.ob_definition.specs.Members.{check_members, locked_members, members_of}
use Rattle.ob_schema.specs.declared.info.Step.{Step}
use Rattle.ob_registry.specs.declared.model.Model.{Model}
use Rattle.ob_registry.specs.Graphs.{AreStarts, all_steps, steps_from, steps_upto}
use Rattle.ob_registry.specs.ModelFields.{member_of, members_in}
use Rattle.ob_registry.specs.Modelling.{IsModelled}
use Rattle.ob_registry.proofs.Steps.{AreStarts-more, size_of, steps-push}

-- what stands beside an element
pub zip_at : {A B : Type 0} (R : A → B → Type 0) (xs : List A) (ys : List B) (i : ℕ) (y : B) → AllZip R xs ys → i < length ys → y ≡ get_or ys i y → (x : A) × (slice_get xs i ≡ Some x) × R x y
zip_at R [] [] i y all inside is = absurd (omega arith)
zip_at R [] (z ∷ ys) i y all inside is = absurd all
zip_at R (x ∷ xs) [] i y all inside is = absurd all
zip_at R (x ∷ xs) (z ∷ ys) zero y all inside is = (x, refl, subst (R x) (sym is) all.0)
zip_at R (x ∷ xs) (z ∷ ys) (suc i) y all inside is = zip_at R xs ys i y all.1 (omega arith) is

-- a model as the program has it has all its fields
length-members : (models : List Gathered) (g : Gathered) (model : Model) → IsModelled models g model → length model.members.items ≡ size_of models g
length-members models g model is =
    let all = members_in model.members.items in
    let parts : length (take model.named all) + length (drop model.named all) ≡ length all = sym (length-append (take model.named all) (drop model.named all)) ∙ ap length (take-append-drop model.named all) in
    let named = length_permutation (members_of models g) (take model.named all) is.named in
    let checks = length_permutation (check_members g) is.hidden.checks is.hidden.same in
    let hidden = ap length is.hidden.all ∙ length-append is.hidden.checks (locked_members g g.locked) in
    let hidden_count = length-append (check_members g) (locked_members g g.locked) in
    omega (arith, length-map model.members.items member_of)

-- the steps of one model more
steps_more : (models : List Gathered) (i : ℕ) (g : Gathered) → slice_get models i ≡ Some g → steps_from models 1 (take (i + 1) models) ≡ steps_from models 1 (take i models) ++ steps_upto (i + 1) (size_of models g)
steps_more models i g at =
    let inside = slice_get_within models i g at in
    let front : length (take i models) ≡ i = length-take-le i models (omega arith) in
    ap (λ (gs : List Gathered). steps_from models 1 gs) (take_more models i g inside ∙ ap (λ (h : Gathered). take i models ++ h ∷ []) (get_or_from_slice_get models i g g at))
    ∙ steps-push models (take i models) g
    ∙ ap (λ (n : ℕ). steps_from models 1 (take i models) ++ steps_upto (n + 1) (size_of models g)) front

-- the nodes of the first models, and where each begins
pub record AreNodesUpto (models : List Gathered) (i : ℕ) (steps : List Step) (starts : List ℕ) : Type 0 where
  pub are_steps : steps ≡ steps_from models 1 (take i models)
  pub are_starts : AreStarts steps starts
  pub count : length starts ≡ i

-- before the first model
pub AreNodesUpto-none : (models : List Gathered) (steps : List Step) (starts : List ℕ) → steps ≡ [] → starts ≡ [] → AreNodesUpto models 0 steps starts
AreNodesUpto-none models steps starts none unbegun = record {
  are_steps = none;
  are_starts = λ step among. (let inside = among.1 in absurd (omega (arith, inside, ap length none)));
  count = ap length unbegun;
}

-- with one model more
pub AreNodesUpto-more : (models : List Gathered) (i : ℕ) (steps : List Step) (starts : List ℕ) (g : Gathered) (model : Model) → AreNodesUpto models i steps starts → slice_get models i ≡ Some g → IsModelled models g model
    → (number count first : ℕ) → number ≡ i + 1 → count ≡ length model.members.items → first ≡ length steps
    → (new : List Step) → new ≡ steps ++ steps_upto number count → (begun : List ℕ) → begun ≡ starts ++ first ∷ []
    → AreNodesUpto models (i + 1) new begun
AreNodesUpto-more models i steps starts g model are at is number count first is_number is_count is_first new is_new begun is_begun = record {
  are_steps = is_new ∙ ap (λ (l : List Step). l ++ steps_upto number count) are.are_steps ∙ ap (λ (n : ℕ). steps_from models 1 (take i models) ++ steps_upto n count) is_number
      ∙ ap (λ (n : ℕ). steps_from models 1 (take i models) ++ steps_upto (i + 1) n) (is_count ∙ length-members models g model is) ∙ sym (steps_more models i g at);
  are_starts = subst (λ (l : List Step). AreStarts l begun) (sym is_new) (subst (λ (l : List ℕ). AreStarts (steps ++ steps_upto number count) l) (sym (is_begun ∙ ap (λ (n : ℕ). starts ++ n ∷ []) is_first))
      (AreStarts-more steps starts number count are.are_starts (omega (arith, is_number, are.count))));
  count = ap length is_begun ∙ length-append starts (first ∷ []) ∙ ap (λ (n : ℕ). n + 1) are.count;
}

-- and behind the last
pub all_nodes : (models : List Gathered) (i : ℕ) (steps : List Step) (starts : List ℕ) → AreNodesUpto models i steps starts → length models ≤ i → steps ≡ all_steps models
all_nodes models i steps starts are all = are.are_steps ∙ ap (λ (gs : List Gathered). steps_from models 1 gs) (take_all i models all)
