use Rattle.std.proofs.Common.{◌≡◌, true, Option, Some, Ok, IfOk, IfSome, Result, ap, sym, subst, ◌∙◌}
use Rattle.std.proofs.lemmas.Result.{IfOk-weaker}
use Rattle.std.specs.Prelude.{IsSomeAnd}
use Rattle.ob_base.specs.declared.id.Cell.{Cell}
use Rattle.ob_base.specs.declared.memory.NoMemory.{NoMemory}
use Rattle.ob_base.specs.declared.value.Value.{Value}
use Rattle.ob_cache.specs.Rooms.{IsValueIn}
use Rattle.ob_cache.proofs.BehindLinks.{behind-kinded, behind-told, known-of, link-given, link-none, target-own, unset-kinded, unset-told}
use Rattle.ob_codec.specs.Held.{HasFieldType}
use Rattle.ob_schema.specs.Models.{field_at, is_given_from}
use Rattle.ob_schema.specs.Plain.{plain_at}
use Rattle.ob_schema.specs.Tables.{Standing}
use Rattle.ob_schema.specs.Val.{behind}
use Rattle.ob_cache.proofs.whole.Whole.value_behind.Goals as goal
use Rattle.ob_cache.proofs.whole.Whole.value_behind.Goals.{in-Ref, in_default-value}

pub plain-requires : goal.plain-requires
plain-requires c =
    let s = c.args.self.now in
    let cell = c.args.cell in
    let known = known-of c.reads_along_paths.ensures.meaning c.reads_along_paths.ensures.lacks s c.laws.ensures.registry c.laws.ensures.readable.sound in
    subst (λ (t : Standing). IsSomeAnd (field_at t.models cell.model c.args.at.link) (λ i. is_given_from i.origin ≡ true)) (sym c.self.view_is) (link-given s known cell c.args.info.now c.args.at c.requires.field c.requires.delegated)

pub returns-in_default-clause-told : goal.returns-in_default-clause-told
returns-in_default-clause-told c =
    let s = c.args.self.now in
    let cell = c.args.cell in
    let known = known-of c.reads_along_paths.ensures.meaning c.reads_along_paths.ensures.lacks s c.laws.ensures.registry c.laws.ensures.readable.sound in
    let link : Cell = record { model = cell.model; id = cell.id; field = c.args.at.link } in
    link-none s known cell c.args.info.now c.args.at c.requires.field c.requires.delegated
    (sym (subst (λ (t : Standing). c.in_ok-value.field-0 ≡ plain_at t.tables t.models link) c.self.view_is c.in_ok-value.ensures) ∙ c.in_default.is)

pub own_value-requires : goal.own_value-requires
own_value-requires c =
    let s = c.args.self.now in
    let cell = c.args.cell in
    let known = known-of c.reads_along_paths.ensures.meaning c.reads_along_paths.ensures.lacks s c.laws.ensures.registry c.laws.ensures.readable.sound in
    target-own s known cell c.args.info.now c.args.at c.requires.field c.requires.delegated

pub returns-clause-told : goal.returns-clause-told
returns-clause-told c =
    let s = c.args.self.now in
    let cell = c.args.cell in
    let known = known-of c.reads_along_paths.ensures.meaning c.reads_along_paths.ensures.lacks s c.laws.ensures.registry c.laws.ensures.readable.sound in
    let link : Cell = record { model = cell.model; id = cell.id; field = c.args.at.link } in
    let holds : plain_at s.tables s.models link ≡ Some c.in-Some.value =
    sym (subst (λ (t : Standing). c.in_ok-value.field-0 ≡ plain_at t.tables t.models link) c.self.view_is c.in_ok-value.ensures) ∙ c.in-Some.is in
    elim c.match-value.branch [
      | in-Ref w ↦ subst (λ (r : Result (Option Value) NoMemory). IfOk r (IsValueIn s cell)) (sym w.result-is)
          (IfOk-weaker w.own_value.result (IsValueIn s (behind s.models s.tables c.args.at w.in-Ref.id)) (IsValueIn s cell)
          (behind-told s known cell c.args.info.now c.args.at c.requires.field c.requires.delegated c.in-Some.value holds w.in-Ref.id w.in-Ref.is) w.own_value.ensures.told)
      | in_default-value w ↦ subst (λ (r : Result (Option Value) NoMemory). IfOk r (IsValueIn s cell)) (sym w.result-is)
          (unset-told s known cell c.args.info.now c.args.at c.requires.field c.requires.delegated c.in-Some.value holds w.in_default-value.not-Ref ∙ ap Ok (sym w.initial_value.ensures))
    ]

pub returns-clause-typed : goal.returns-clause-typed
returns-clause-typed c =
    let s = c.args.self.now in
    let cell = c.args.cell in
    let known = known-of c.reads_along_paths.ensures.meaning c.reads_along_paths.ensures.lacks s c.laws.ensures.registry c.laws.ensures.readable.sound in
    let link : Cell = record { model = cell.model; id = cell.id; field = c.args.at.link } in
    let holds : plain_at s.tables s.models link ≡ Some c.in-Some.value =
    sym (subst (λ (t : Standing). c.in_ok-value.field-0 ≡ plain_at t.tables t.models link) c.self.view_is c.in_ok-value.ensures) ∙ c.in-Some.is in
    let P = λ (told : Option Value). IfSome told (HasFieldType (field_at s.models cell.model cell.field)) in
    elim c.match-value.branch [
      | in-Ref w ↦ subst (λ (r : Result (Option Value) NoMemory). IfOk r P) (sym w.result-is)
          (IfOk-weaker w.own_value.result (λ told. IfSome told (HasFieldType (field_at s.models c.args.at.model c.args.at.field))) P
          (behind-kinded s known cell c.args.info.now c.args.at c.requires.field c.requires.delegated c.in-Some.value holds) w.own_value.ensures.typed)
      | in_default-value w ↦ subst (λ (r : Result (Option Value) NoMemory). IfOk r P) (sym w.result-is)
          (subst (HasFieldType (field_at s.models cell.model cell.field)) (sym w.initial_value.ensures) (unset-kinded s known cell c.args.info.now c.args.at c.requires.field c.requires.delegated))
    ]
