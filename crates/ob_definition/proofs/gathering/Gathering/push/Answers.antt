use Rattle.std.proofs.Common.{arith, ◌≡◌, ℕ, List, [], ◌∷◌, ◌++◌, length, Some, None, ap, ◌∙◌, string_bytes}
use Rattle.std.proofs.lemmas.Map.Text.{btree_map_updates_text}
use Rattle.ob_definition.specs.ByName.{place_of}
use Rattle.ob_definition.specs.Gathered.{Gathered}
use Rattle.ob_definition.proofs.Places.{ArePlaces-push, place_of-free}
use Rattle.ob_definition.proofs.gathering.Gathering.push.Goals as goal

pub invariant_of-self-2 : goal.invariant_of-self-2
invariant_of-self-2 c =
    let models = c.self.inside.models.items in
    let model = c.args.model in
    let key : string_bytes c.in_ok-name.name ≡ model.name = c.in_ok-name.ensures.ok ∙ ap (λ (g : Gathered). g.name) c.model.view_is in
    let free : place_of models model.name ≡ None = ap (λ (l : List Gathered). place_of l model.name) c.self.view_is ∙ place_of-free c.args.self.now model.name c.requires in
    let same : length c.reserve.new.self.items ≡ length models = ap (λ (l : List Gathered). length l) c.in_ok-reserve.ensures.items in
    let size : c.len.result ≡ length models = omega (arith, c.len.ensures, same, c.reserve.new.self.ok.0) in
    let updates = λ (name : List ℕ). rw (key, size) at (btree_map_updates_text (string_bytes c.in_ok-name.name) c.self.inside.places c.insert.new.self (Some c.len.result) c.in_ok-insert.ensures.updates name) in
    let items : c.push.new.self.items ≡ models ++ model ∷ [] = c.in_ok-push.ensures.items ∙ ap (λ (l : List Gathered). l ++ model ∷ []) c.in_ok-reserve.ensures.items in
    rw items (ArePlaces-push c.self.inside.places c.insert.new.self models model c.self.invariant free updates)
