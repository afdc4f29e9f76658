use Rattle.std.proofs.Common.{◌≡◌, ℕ, suc, ◌+◌, List, [], ◌∷◌, ◌++◌, length, take, Some, is_some, sym, ap, ◌∙◌, arith, string_bytes}
use Rattle.std.proofs.lemmas.List.{length-take-le, take_more}
use Rattle.std.proofs.lemmas.Map.Text.{btree_map_updates_text}
use Rattle.std.specs.BTreeMap.{get_by_text}
use Rattle.ob_base.specs.declared.id.ModelNo.{ModelNo}
use Rattle.ob_schema.specs.declared.info.ModelInfo.{ModelInfo}
use Rattle.ob_schema.proofs.Indexing.{IsIndexOf-known, IsIndexOf-new}
use Rattle.ob_schema.proofs.schema.index_of.Goals as goal
use Rattle.ob_schema.proofs.schema.index_of.Goals.{then-not-contains_key+in_ok-from_str+in_ok-insert, else-not-contains_key}

pub loop-i-preserved : goal.loop-i-preserved
loop-i-preserved c =
    let index = c.loop-i.index in
    let model = c.index-models-i.result in
    let models = take c.loop-i.i c.args.models.now in
    let grown : take (c.loop-i.i + 1) c.args.models.now ≡ models ++ model ∷ [] = take_more c.args.models.now c.loop-i.i model c.loop-i-test.true ∙ ap (λ (m : ModelInfo). models ++ m ∷ []) (sym c.index-models-i.is) in
    let is_known : c.contains_key.result ≡ is_some (get_by_text index model.name) = rw c.as_str-name.ensures at c.contains_key.ensures in
    elim c.if-not-contains_key.branch [
      | then-not-contains_key+in_ok-from_str+in_ok-insert w ↦
          (let number : ModelNo = record { 0 = c.loop-i.i + 1 } in
          let place : c.loop-i.i + 1 ≡ suc (length models) = omega (arith, length-take-le c.loop-i.i c.args.models.now (omega arith)) in
          let key : string_bytes w.in_ok-from_str.field-0 ≡ model.name = w.in_ok-from_str.ensures.ok ∙ c.as_str-name.ensures in
          let updates = λ (name : List ℕ). rw key at (btree_map_updates_text (string_bytes w.in_ok-from_str.field-0) index w.insert.new.self (Some number) w.in_ok-insert.ensures.updates name) in
          rw (w.index-is, grown) (IsIndexOf-new index models model c.loop-i.invariant w.insert.new.self number (sym is_known ∙ w.if-not-contains_key.true) (ap (λ (n : ℕ). let m : ModelNo = record { 0 = n } in m) place) updates))
      | else-not-contains_key w ↦
          rw (w.index-is, grown) (IsIndexOf-known index models model c.loop-i.invariant (sym is_known ∙ w.if-not-contains_key.false))
    ]
