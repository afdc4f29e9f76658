use Rattle.std.proofs.Common.{◌≡◌, ℕ, List, [], ◌∷◌, ◌++◌, true, false, ap, ◌∙◌, string_bytes}
use Rattle.std.proofs.lemmas.Map.Text.{btree_set_updates_text}
use Rattle.ob_definition.specs.declared.by_name.CheckEntry.{CheckEntry}
use Rattle.ob_definition.specs.ByName.{declared_checks}
use Rattle.ob_definition.specs.Gathered.{DeclaredCheck, check_at, is_check}
use Rattle.ob_definition.proofs.ByName.{AreCheckNames-push, map-push}
use Rattle.ob_definition.proofs.WellNamed.{apart-push}
use Rattle.ob_definition.proofs.by_name.Checks.push.Goals as goal

pub invariant_of-self-2 : goal.invariant_of-self-2
invariant_of-self-2 c =
    let one = check_at c.args.entry c.args.check.now in
    let entry : CheckEntry = record { entry = c.args.entry; check = c.args.check } in
    let key : string_bytes c.in_ok-name.name ≡ c.args.check.now.name = c.in_ok-name.ensures.ok ∙ c.as_str.ensures in
    let updates = λ (name : List ℕ). rw key at (btree_set_updates_text (string_bytes c.in_ok-name.name) c.self.inside.names c.insert.new.self true c.in_ok-insert.ensures.updates name) in
    let items : c.push.new.self.items ≡ c.self.inside.list.items ++ entry ∷ [] = c.in_ok-push.ensures.items ∙ ap (λ (l : List CheckEntry). l ++ entry ∷ []) c.in_ok-reserve.ensures.items in
    let grown : declared_checks c.push.new.self.items ≡ declared_checks c.self.inside.list.items ++ one ∷ [] = ap declared_checks items ∙ map-push (λ (e : CheckEntry). check_at e.entry e.check.now) c.self.inside.list.items entry in
    let free : is_check (declared_checks c.self.inside.list.items) one.check.name ≡ false = ap (λ (l : List DeclaredCheck). is_check l c.args.check.now.name) c.self.view_is ∙ c.requires in
    rw grown (AreCheckNames-push c.self.inside.names c.insert.new.self (declared_checks c.self.inside.list.items) one c.self.invariant.0 updates, apart-push (declared_checks c.self.inside.list.items) one free c.self.invariant.1)
