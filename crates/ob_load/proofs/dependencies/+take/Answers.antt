-- A module that is taken stays; another comes behind those on which it depends.
use Rattle.std.proofs.Common.{◌≡◌, ◌<◌, ◌≤◌, ◌∷◌, [], List, ℕ, Contains, length, map, take, sym, ap, subst, ◌∙◌, arith}
use Rattle.std.specs.Prelude.{nat_eq}
use Rattle.std.specs.List.{IsAnyAnswer}
use Rattle.std.proofs.lemmas.Bool.{false≢true}
use Rattle.std.proofs.lemmas.Bool.Decides.{Decides-eqb}
use Rattle.std.proofs.lemmas.List.Elements.{Decides-contains, contains_decides}
use Rattle.std.proofs.lemmas.Option.{slice_get_within}
use Rattle.toml.specs.View.{table_view, view}
use Rattle.toml.specs.declared.value.Value.{Value}
use Rattle.ob_load.specs.Dependencies.{DependsOn}
use Rattle.ob_module.specs.Meaning.{depends_of, text_of}
use Rattle.ob_load.specs.Rooms.{TakesOn}
use Rattle.ob_module.specs.Rooms.{modules_in}
use Rattle.ob_load.proofs.Adding.{map-take_all, map-take_more}
use Rattle.ob_module.proofs.CallerLemmas.{Contains-at}
use Rattle.ob_load.proofs.Taking.{Contains-map, TakesOn-append, TakesOn-known, TakesOn-new, TakesOn-none, chain-shorter, document-at, left-some, whole-depends}
use Rattle.ob_load.proofs.dependencies.+take.Goals as goal

pub returns-then-contains : goal.returns-then-contains
returns-then-contains t c =
    let m = c.in-Some.ensures.at in
    let taken = c.args.taken.now.items in
    let answer : IsAnyAnswer (λ y b. nat_eq y c.in-Some.number ≡ b) taken c.contains.result =
    subst (λ (l : List ℕ). IsAnyAnswer (λ y b. nat_eq y c.in-Some.number ≡ b) l c.contains.result) c.deref.ensures.value c.contains.ensures.cases in
    let test = Decides-contains taken c.in-Some.number c.contains.result (contains_decides nat_eq Decides-eqb taken c.in-Some.number c.contains.result answer) in
    TakesOn-known (modules_in c.args.modules.now) c.in-Some.ensures.apart c.args.name.now c.in-Some.number m.0 m.1 m.2 taken (test.0 c.if-contains.true)

pub document-requires : goal.document-requires
document-requires t c = let m = c.in-Some.ensures.at in slice_get_within (modules_in c.args.modules.now) c.in-Some.number m.0 m.1

pub loop-other-init : goal.loop-other-init
loop-other-init t c = TakesOn-none (modules_in c.args.modules.now) c.args.taken.now.items

pub take-requires : goal.take-requires
take-requires t c =
    let modules = modules_in c.args.modules.now in
    let name = c.args.name.now in
    let text = c.text_of.result.now in
    let own = λ (v : Value). text_of (view v) in
    let items = c.depends_of-other-items.result.now in
    let i = c.loop-other.other-index in
    let m = c.in-Some.ensures.at in
    let among = Contains-at modules c.in-Some.number m.0 m.1 in
    let document = document-at modules c.in-Some.number m.0 (table_view c.document.result.now) m.1 c.document.ensures in
    let low : i < length items = omega arith in
    let first : Contains (map own items) text = subst (λ (l : List ℕ). Contains (map own items) l) (sym c.text_of.ensures) (Contains-map own items i c.other-item.result low c.other-item.is) in
    let held : Contains (depends_of m.0.document) text = subst (λ (l : List (List ℕ)). Contains l text) (c.depends_of-other-items.ensures ∙ ap depends_of document) first in
    let depends : DependsOn modules name text = (m.0, among, m.2, held) in
    let some = left-some modules c.args.left name c.requires.1.1.1 in
    (omega (arith, some), (whole-depends modules (name ∷ []) c.requires.1.1.0 m.0 text among held, chain-shorter modules c.args.left name text c.requires.1.1.1 depends))

pub loop-other-preserved : goal.loop-other-preserved
loop-other-preserved t c =
    let modules = modules_in c.args.modules.now in
    let own = λ (v : Value). text_of (view v) in
    let items = c.depends_of-other-items.result.now in
    let i = c.loop-other.other-index in
    let old = c.args.taken.now.items in
    let between = c.loop-other.taken.items in
    let new = c.take.new.taken.items in
    let low : i < length items = omega arith in
    let more = map-take_more own items i c.other-item.result low c.other-item.is in
    let step : TakesOn modules between (own c.other-item.result ∷ []) new = subst (λ (l : List ℕ). TakesOn modules between (l ∷ []) new) c.text_of.ensures c.in_ok-take.ensures in
    subst (λ (l : List (List ℕ)). TakesOn modules old l new) (sym more) (TakesOn-append modules old between new (map own (take i items)) (own c.other-item.result ∷ []) c.loop-other.invariant step)

pub returns : goal.returns
returns t c =
    let modules = modules_in c.args.modules.now in
    let own = λ (v : Value). text_of (view v) in
    let items = c.depends_of-other-items.result.now in
    let i = c.loop-other.other-index in
    let old = c.args.taken.now.items in
    let between = c.loop-other.taken.items in
    let number = c.in-Some.number in
    let m = c.in-Some.ensures.at in
    let document = document-at modules number m.0 (table_view c.document.result.now) m.1 c.document.ensures in
    let high : length items ≤ i = omega arith in
    let names : map own (take i items) ≡ depends_of m.0.document = map-take_all own items i high ∙ c.depends_of-other-items.ensures ∙ ap depends_of document in
    let answer : IsAnyAnswer (λ y b. nat_eq y number ≡ b) old c.contains.result =
    subst (λ (l : List ℕ). IsAnyAnswer (λ y b. nat_eq y number ≡ b) l c.contains.result) c.deref.ensures.value c.contains.ensures.cases in
    let test = Decides-contains old number c.contains.result (contains_decides nat_eq Decides-eqb old number c.contains.result answer) in
    subst (λ (l : List ℕ). TakesOn modules old (c.args.name.now ∷ []) l) (sym c.in_ok-push.ensures.items)
    (TakesOn-new modules c.in-Some.ensures.apart c.args.name.now number m.0 m.1 m.2 old between (λ held. false≢true (sym c.if-contains.false ∙ test.1 held))
    (subst (λ (l : List (List ℕ)). TakesOn modules old l between) names c.loop-other.invariant))
