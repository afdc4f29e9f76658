use Rattle.std.proofs.Common.{Vec, ◌≡◌, ◌≢◌, ℕ, ◌+◌, ◌<◌, Bool, true, false, is_some, List, [], ◌∷◌, ◌++◌, length, take, append_assoc, refl, sym, ap, subst, ◌∙◌, arith, string_bytes}
use Rattle.std.specs.BTreeSet.{BTreeSet, contains_text}
use Rattle.std.specs.List.{All}
use Rattle.std.specs.declared.alloc.Global.{Global}
use Rattle.std.specs.declared.string.String.{String}
use Rattle.std.proofs.lemmas.List.{map-append}
use Rattle.std.proofs.lemmas.Map.Text.{btree_set_updates_text}
use Rattle.ob_definition.specs.Definitions.{is_automatic}
use Rattle.ob_definition.specs.Members.{Member, delegated_member, named}
use Rattle.ob_definition.proofs.CallerLemmas.{value_more}
use Rattle.ob_registry.specs.declared.model.Member.{Member as KeptMember}
use Rattle.ob_registry.specs.ModelFields.{member_of, members_in}
use Rattle.ob_registry.specs.Modelling.{AreMemberNames, delegated_beside}
use Rattle.ob_registry.proofs.MemberNames.{AreMemberNames-push, apart-front, delegated-one, delegated-skip, taken_beside}
use Rattle.ob_registry.proofs.models.delegate.Goals as goal
use Rattle.ob_registry.proofs.models.delegate.Goals.{then-not-is_automatic+then-not-contains+in_ok-from_str+in_ok-insert+in_ok-push, else-not-is_automatic}
use Rattle.ob_registry.proofs.models.delegate.Goals.{else-not-is_automatic-via-then-not-is_automatic+else-not-contains, else-not-is_automatic-via-else-not-is_automatic}

pub loop-member-preserved : goal.loop-member-preserved
loop-member-preserved c =
    let xs = c.args.parent.now in
    let i = c.loop-member.member-index in
    let item = c.member-item.result in
    let m = member_of item in
    let n = c.args.entry in
    let link = c.args.link.now in
    let beside = members_in c.args.members.now.items in
    let front = members_in (take i xs) in
    let now = members_in c.loop-member.members.items in
    let within : i < length xs = omega arith in
    let grown : members_in (take (i + 1) xs) ≡ front ++ m ∷ [] = sym (value_more member_of xs i item m front within c.member-item.is refl refl) in
    let other : All (λ f. f.def.name ≢ m.def.name) front = apart-front xs i item within c.member-item.is c.requires.distinct in
    let taken : contains_text c.loop-member.names m.def.name ≡ is_some (named beside m.def.name) =
    c.loop-member.invariant.names m.def.name ∙ ap (λ (l : List Member). is_some (named l m.def.name)) c.loop-member.invariant.members ∙ taken_beside n link front beside m.def.name other in
    let automatic : c.is_automatic.result ≡ is_automatic m.def.name = c.is_automatic.ensures ∙ ap is_automatic c.as_str-name.ensures in
    let held : Bool = contains_text c.loop-member.names c.as_str-name.result.now in
    let same : held ≡ is_some (named beside m.def.name) = ap (contains_text c.loop-member.names) c.as_str-name.ensures ∙ taken in
    let stays = λ (either : delegated_beside n link (front ++ m ∷ []) beside ≡ delegated_beside n link front beside).
    c.loop-member.invariant.members ∙ ap (λ (l : List Member). beside ++ l) (sym either ∙ ap (λ (l : List Member). delegated_beside n link l beside) (sym grown)) in
    elim c.if-not-is_automatic.branch [
      | then-not-is_automatic+then-not-contains+in_ok-from_str+in_ok-insert+in_ok-push w ↦
          let plain : is_automatic m.def.name ≡ false = sym automatic ∙ w.if-not-is_automatic.true in
          let free : is_some (named beside m.def.name) ≡ false = sym same ∙ sym w.contains.ensures ∙ w.if-not-contains.true in
          let one = delegated_member n link m in
          let key : string_bytes w.in_ok-from_str.field-0 ≡ m.def.name = w.in_ok-from_str.ensures.ok ∙ c.as_str-name.ensures in
          let updates = λ (name : List ℕ). ap (λ (s : BTreeSet (String Global)). contains_text s name) w.names-is
          ∙ (rw key at (btree_set_updates_text (string_bytes w.in_ok-from_str.field-0) c.loop-member.names w.insert.new.self true w.in_ok-insert.ensures.updates name)) in
          let pushed : members_in c.if-not-is_automatic.members.items ≡ now ++ one ∷ [] =
          ap (λ (v : Vec KeptMember Global). members_in v.items) w.members-is ∙ ap members_in w.in_ok-push.ensures.items ∙ map-append member_of c.loop-member.members.items _ in
          record {
            names = subst (λ (l : List Member). AreMemberNames c.if-not-is_automatic.names l) (sym pushed) (AreMemberNames-push c.loop-member.names c.if-not-is_automatic.names now one c.loop-member.invariant.names updates);
            members = pushed ∙ ap (λ (l : List Member). l ++ one ∷ []) c.loop-member.invariant.members ∙ append_assoc beside (delegated_beside n link front beside) (one ∷ [])
                ∙ ap (λ (l : List Member). beside ++ l) (sym (delegated-one n link front m beside plain free) ∙ ap (λ (l : List Member). delegated_beside n link l beside) (sym grown));
          }
      | else-not-is_automatic w ↦
          let items : members_in c.if-not-is_automatic.members.items ≡ now = ap (λ (v : Vec KeptMember Global). members_in v.items) w.members-is in
          let names = λ (name : List ℕ). ap (λ (s : BTreeSet (String Global)). contains_text s name) w.names-is ∙ c.loop-member.invariant.names name ∙ ap (λ (l : List Member). is_some (named l name)) (sym items) in
          elim w.else-not-is_automatic.branch [
            | else-not-is_automatic-via-then-not-is_automatic+else-not-contains w' ↦
                let plain : is_automatic m.def.name ≡ false = sym automatic ∙ w'.if-not-is_automatic.true in
                let full : is_some (named beside m.def.name) ≡ true = sym same ∙ sym w'.contains.ensures ∙ w'.if-not-contains.false in
                record { names = names; members = items ∙ stays (delegated-skip n link front m beside false true plain full refl) }
            | else-not-is_automatic-via-else-not-is_automatic w' ↦
                let known : is_automatic m.def.name ≡ true = sym automatic ∙ w'.if-not-is_automatic.false in
                record { names = names; members = items ∙ stays (delegated-skip n link front m beside true (is_some (named beside m.def.name)) known refl refl) }
          ]
    ]
