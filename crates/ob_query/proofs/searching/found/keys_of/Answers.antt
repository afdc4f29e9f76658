use Rattle.std.proofs.Common.{◌≡◌, ◌+◌, List, ap, sym, ◌∙◌, map, take, length, get_or, arith, [], ◌∷◌, ◌++◌, true, false}
use Rattle.std.proofs.lemmas.Grind.{common_steps}
use Rattle.std.proofs.lemmas.List.{take_all}
use Rattle.ob_query.proofs.Asked.{asked_then}
use Rattle.ob_query.proofs.Callers.{told_back, told_on}
use Rattle.ob_query.proofs.FoundRows.{keys-more}
use Rattle.ob_query.specs.Search.{held_of}
use Rattle.ob_query.specs.SearchKeys.{key_of}
use Rattle.ob_base.specs.declared.value.Value.{Value}
use Rattle.ob_query.specs.declared.searching.order.Key.{Key}
use Rattle.ob_schema.specs.declared.info.OrderTerm.{OrderTerm}
use Rattle.ob_schema.specs.Facts.{Told}
use Rattle.ob_query.proofs.searching.found.keys_of.Goals as goal

pub value_in-requires-clause-known : goal.value_in-requires-clause-known
value_in-requires-clause-known g c =
    told_on g.K.Keeper c.args.sought.now.by c.args.engine.now c.loop-term.engine (λ (told : Told). told.knows c.args.sought.now.model c.args.id ≡ true) c.loop-term.invariant.asked c.requires.known

pub returns-in_err-value-clause-asked : goal.returns-in_err-value-clause-asked
returns-in_err-value-clause-asked g c = asked_then g.K.Keeper c.args.engine.now c.loop-term.engine c.value_in.new.engine c.loop-term.invariant.asked c.value_in.ensures.asked

pub returns-in_err-push-clause-asked : goal.returns-in_err-push-clause-asked
returns-in_err-push-clause-asked g c = asked_then g.K.Keeper c.args.engine.now c.loop-term.engine c.value_in.new.engine c.loop-term.invariant.asked c.value_in.ensures.asked

pub loop-term-preserved : goal.loop-term-preserved
loop-term-preserved g c =
    let old = c.args.engine.now in
    let mid = c.loop-term.engine in
    let sought = c.args.sought.now in
    let slice = c.as_slice-term-items.result.now in
    let i = c.loop-term.term-index in
    let term : OrderTerm = get_or slice i (record { field = record { 0 = 0 }; descending = false }) in
    let key : Key = record { descending = term.descending; value = c.in_ok-value.value } in
    let pushed : c.push.new.self.items ≡ c.loop-term.keys.items ++ key ∷ [] = grind (arith, common_steps) in
    record {
      asked = asked_then g.K.Keeper old mid c.value_in.new.engine c.loop-term.invariant.asked c.value_in.ensures.asked;
      told = λ told tells.
          let f = key_of (held_of told sought.model) c.args.id in
          let holds = told_back g.K.Keeper c.args.sought.now.by old mid (λ (told : Told). c.in_ok-value.value ≡ held_of told sought.model term.field c.args.id) c.loop-term.invariant.asked c.in_ok-value.ensures.told in
          pushed
          ∙ keys-more f slice i (record { field = record { 0 = 0 }; descending = false }) c.loop-term.keys.items key c.loop-term-test.true
          (c.loop-term.invariant.told told tells ∙ ap (λ (l : List OrderTerm). map f (take i l)) (sym c.as_slice-term-items.ensures))
          (ap (λ (v : Value). record { descending = term.descending; value = v }) (holds told tells))
          ∙ ap (λ (l : List OrderTerm). map f (take (i + 1) l)) c.as_slice-term-items.ensures;
    }

pub returns-clause-told : goal.returns-clause-told
returns-clause-told g c = λ told tells.
    let size = ap length c.as_slice-term-items.ensures in
    let le = c.loop-term-test.false in
    c.loop-term.invariant.told told tells ∙ ap (map (key_of (held_of told c.args.sought.now.model) c.args.id)) (take_all c.loop-term.term-index c.args.sought.now.order (omega (arith, le, size)))
