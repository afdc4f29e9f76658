-- The first place of the name, and what stands there.
use Rattle.std.proofs.Common.{◌≡◌, ◌<◌, ℕ, length, Option, Some, rules, tests, ap, sym, ◌∙◌}
use Rattle.std.proofs.lemmas.Iterator.{YieldsList-from_slice}
use Rattle.std.proofs.lemmas.Iterator.Search.{position_from_yields_List}
use Rattle.std.proofs.lemmas.List.Quantifiers.{position-Some}
use Rattle.std.specs.Prelude.{bytes_eq, option_and_then, option_map, position, slice_get}
use Rattle.ob_load.specs.Preset.{Ref}
use Rattle.ob_load.proofs.AccessSteps.{stands-at}
use Rattle.ob_load.proofs.values.ref_named.Goals as goal

pub returns-in_err-place : goal.returns-in_err-place
returns-in_err-place c =
    let refs = c.args.refs.now in
    let found = position_from_yields_List (λ (own : Ref). bytes_eq own.0 c.args.name.now) _ _ c.position.result c.position.ensures.ran (YieldsList-from_slice refs cc) (λ x b q k. search (rules, tests)) in
    c.from_residual.ensures ∙ ap (λ (place : Option ℕ). option_and_then (λ (i : ℕ). option_map (λ (r : Ref). (i, r.1)) (slice_get refs i)) place) (sym c.in_err-place.was ∙ found)

pub returns : goal.returns
returns c =
    let refs = c.args.refs.now in
    let i = c.in_ok-place.place in
    let x = c.index-refs-place.result in
    let test = λ (own : Ref). bytes_eq own.0 c.args.name.now in
    let found = position_from_yields_List (λ (own : Ref). bytes_eq own.0 c.args.name.now) _ _ c.position.result c.position.ensures.ran (YieldsList-from_slice refs cc) (λ x b q k. search (rules, tests)) in
    let at : position test refs ≡ Some i = sym found ∙ c.in_ok-place.was in
    let low : i < length refs = (position-Some test refs i x at).0 in
    let here : slice_get refs i ≡ Some x = stands-at refs i x low c.index-refs-place.is in
    ap (λ (r : Ref). Some (i, r.1)) (sym c.index-refs-place.is) ∙ ap (option_map (λ (r : Ref). (i, r.1))) (sym here)
    ∙ ap (λ (place : Option ℕ). option_and_then (λ (j : ℕ). option_map (λ (r : Ref). (j, r.1)) (slice_get refs j)) place) (sym at)
