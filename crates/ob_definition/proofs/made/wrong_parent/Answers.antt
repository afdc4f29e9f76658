use Rattle.std.proofs.Common.{arith, ◌≡◌, ◌==◌, Bool, true, false, not, List, [], ◌∷◌, length, get_or, Some, None, is_none, refl, sym, ap, ◌∙◌}
use Rattle.std.proofs.lemmas.Bool.Decides.{nat_tests}
use Rattle.std.specs.Prelude.{slice_get}
use Rattle.std.specs.Str.{bytes_eq}
use Rattle.ob_definition.specs.ByName.{place_of}
use Rattle.ob_definition.specs.Gathered.{Gathered, model_of}
use Rattle.ob_definition.proofs.LinkSteps.{wrong-child, wrong-no_model, wrong-none, wrong-same}
use Rattle.ob_definition.proofs.Places.{model_of-free, model_of-read}
use Rattle.ob_definition.proofs.made.wrong_parent.Goals as goal
use Rattle.ob_definition.proofs.made.wrong_parent.Goals.{else-is_other-via-then-is_other+else-is_empty, else-is_other-via-else-is_other}

not_true : (b : Bool) → not b ≡ true → b ≡ false
not_true true e = absurd (let s : ◌≡◌ {A = Bool} false true = e in cc)
not_true false e = refl

not_false : (b : Bool) → not b ≡ false → b ≡ true
not_false true e = refl
not_false false e = absurd (let s : ◌≡◌ {A = Bool} true false = e in cc)

-- no first item, by the length
first_none : {X : Type 0} (xs : List X) → is_none (slice_get xs 0) ≡ (length xs == 0)
first_none [] = refl
first_none (x ∷ xs) = grind (arith, nat_tests)

pub returns-in_default : goal.returns-in_default
returns-in_default c =
    let models = c.args.gathering.now in
    let i = c.args.parent.now in
    let none : place_of models i.model ≡ None = sym (ap (place_of models) c.as_str.ensures) ∙ sym c.place.ensures.at ∙ c.in_default.is in
    wrong-no_model models c.args.model.now i (model_of-free models i.model none)

pub returns-then-is_empty : goal.returns-then-is_empty
returns-then-is_empty c =
    let models = c.args.gathering.now in
    let i = c.args.parent.now in
    let g = c.args.model.now in
    let t = c.index-models-place.result in
    let at : place_of models i.model ≡ Some c.in-Some.place = sym (ap (place_of models) c.as_str.ensures) ∙ sym c.place.ensures.at ∙ c.in-Some.is in
    let read : t ≡ get_or models c.in-Some.place t = c.index-models-place.is ∙ ap (λ (l : List Gathered). get_or l c.in-Some.place t) c.models.ensures in
    let test = bytes_eq c.target.inside.name.now c.model.inside.name.now in
    let names : test ≡ bytes_eq t.name g.name = ap (λ (m : Gathered). bytes_eq m.name c.model.inside.name.now) c.target.view_is ∙ ap (λ (m : Gathered). bytes_eq t.name m.name) c.model.view_is in
    let other : bytes_eq t.name g.name ≡ false = sym names ∙ not_true test (sym c.ne-is_other.ensures ∙ c.if-is_other.true) in
    let empty : is_none (slice_get t.inherits 0) ≡ true =
    ap (λ (m : Gathered). is_none (slice_get m.inherits 0)) (sym c.target.view_is) ∙ first_none c.target.inside.inherits.now ∙ sym c.is_empty.ensures ∙ c.if-is_empty.true in
    wrong-none models g i t (model_of-read models i.model c.in-Some.place t at read) other empty

pub returns-else-is_other : goal.returns-else-is_other
returns-else-is_other c =
    let models = c.args.gathering.now in
    let i = c.args.parent.now in
    let g = c.args.model.now in
    let t = c.index-models-place.result in
    let at : place_of models i.model ≡ Some c.in-Some.place = sym (ap (place_of models) c.as_str.ensures) ∙ sym c.place.ensures.at ∙ c.in-Some.is in
    let read : t ≡ get_or models c.in-Some.place t = c.index-models-place.is ∙ ap (λ (l : List Gathered). get_or l c.in-Some.place t) c.models.ensures in
    let there : model_of models i.model ≡ Some t = model_of-read models i.model c.in-Some.place t at read in
    let test = bytes_eq c.target.inside.name.now c.model.inside.name.now in
    let names : test ≡ bytes_eq t.name g.name = ap (λ (m : Gathered). bytes_eq m.name c.model.inside.name.now) c.target.view_is ∙ ap (λ (m : Gathered). bytes_eq t.name m.name) c.model.view_is in
    let first : is_none (slice_get t.inherits 0) ≡ (length c.target.inside.inherits.now == 0) = ap (λ (m : Gathered). is_none (slice_get m.inherits 0)) (sym c.target.view_is) ∙ first_none c.target.inside.inherits.now in
    elim c.else-is_other.branch [
      | else-is_other-via-then-is_other+else-is_empty w ↦ wrong-child models g i t there (first ∙ sym w.is_empty.ensures ∙ w.if-is_empty.false)
      | else-is_other-via-else-is_other w ↦ wrong-same models g i t there (sym names ∙ not_false test (sym c.ne-is_other.ensures ∙ w.if-is_other.false))
    ]
