use Rattle.std.proofs.Common.{◌≡◌, ℕ, List, [], ◌∷◌, ◌++◌, true, ap, ◌∙◌, string_bytes}
use Rattle.std.proofs.lemmas.Map.Text.{btree_set_updates_text}
use Rattle.ob_definition.specs.declared.by_name.FieldEntry.{FieldEntry}
use Rattle.ob_definition.specs.ByName.{declared_fields}
use Rattle.ob_definition.specs.Gathered.{field_at}
use Rattle.ob_definition.proofs.ByName.{AreFieldNames-push, map-push}
use Rattle.ob_definition.proofs.by_name.Fields.push.Goals as goal

pub invariant_of-self-2 : goal.invariant_of-self-2
invariant_of-self-2 c =
    let one = field_at c.args.entry c.args.def.now in
    let entry : FieldEntry = record { entry = c.args.entry; def = c.args.def } in
    let key : string_bytes c.in_ok-name.name ≡ c.args.def.now.name = c.in_ok-name.ensures.ok ∙ c.as_str.ensures in
    let updates = λ (name : List ℕ). rw key at (btree_set_updates_text (string_bytes c.in_ok-name.name) c.self.inside.names c.insert.new.self true c.in_ok-insert.ensures.updates name) in
    let items : c.push.new.self.items ≡ c.self.inside.list.items ++ entry ∷ [] = c.in_ok-push.ensures.items ∙ ap (λ (l : List FieldEntry). l ++ entry ∷ []) c.in_ok-reserve.ensures.items in
    let grown : declared_fields c.push.new.self.items ≡ declared_fields c.self.inside.list.items ++ one ∷ [] = ap declared_fields items ∙ map-push (λ (e : FieldEntry). field_at e.entry e.def.now) c.self.inside.list.items entry in
    rw grown (AreFieldNames-push c.self.inside.names c.insert.new.self (declared_fields c.self.inside.list.items) one c.self.invariant updates)
