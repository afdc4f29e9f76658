-- Where a field's value comes from, by its role.
use Rattle.std.proofs.Common.{◌≡◌, ℕ, suc, ◌<◌, ◌&&◌, Bool, true, false, cond, ltb, not, Option, Some, None, option_map, List, length, inl, inr, refl, sym, ap, subst, ◌∙◌, arith}
use Rattle.std.specs.Prelude.{Contains, IsSomeAnd, codes, option_and_then}
use Rattle.std.specs.List.{find, position, position_or_len}
use Rattle.std.specs.Str.{bytes_eq}
use Rattle.std.proofs.lemmas.Bool.{false≢true}
use Rattle.std.proofs.lemmas.Bool.Decides.{nat_tests}
use Rattle.std.proofs.lemmas.List.Folds.{find_at}
use Rattle.std.proofs.lemmas.Option.{option_and_then_some, slice_get_within}
use Rattle.ob_base.specs.declared.id.FieldNo.{FieldNo}
use Rattle.ob_base.specs.declared.id.ModelNo.{ModelNo}
use Rattle.ob_definition.specs.declared.definition.Inherits.{Inherits}
use Rattle.ob_definition.specs.Definitions.{is_computed}
use Rattle.ob_definition.specs.Gathered.{Gathered, model_of}
use Rattle.ob_definition.specs.Members.{Member, Role, own, delegated, hidden, is_delegated, is_own, is_own_computed, link_def, members_of, model_at, model_number, named, number_named, number_of, own_member}
use Rattle.ob_schema.specs.declared.info.Delegation.{Delegation}
use Rattle.ob_schema.specs.declared.info.Step.{Step}
use Rattle.ob_schema.specs.Built.{IsDelegation, back_number}
use Rattle.ob_registry.specs.Faults.{HasUnknownBack}
use Rattle.ob_schema.specs.Finds.{relation_of}
use Rattle.ob_schema.specs.Formulas.{Place}
use Rattle.ob_registry.specs.Modelling.{delegation_of, named_back}
use Rattle.ob_schema.specs.Strata.{IsMember}
use Rattle.ob_registry.proofs.Delegated.{delegated_from, hidden_computed, link_member, member_cases, own_among, own_role}
use Rattle.ob_registry.proofs.NameOrder.{named_absent, named_found}
use Rattle.ob_registry.proofs.NamedFields.{member_parts}

-- what is found has a place
pub position-found : {X : Type 0} (p : X → Bool) (xs : List X) (x : X) → find p xs ≡ Some x → position p xs ≡ Some (position_or_len p xs)
position-found p xs x found =
    let within : position_or_len p xs < length xs = slice_get_within xs (position_or_len p xs) x (sym (find_at p xs) ∙ found) in
    let below : ltb (position_or_len p xs) (length xs) ≡ true = grind (arith, nat_tests) in
    ap (λ (b : Bool). cond b (Some (position_or_len p xs)) None) below

module _ (models : List Gathered) where
  -- a field that is there has the number of its name
  pub number_named-there : (g : Gathered) (m : Member) (name : List ℕ) → Contains (members_of models g) m → m.def.name ≡ name → number_named models g name ≡ Some (number_of models g name)
  number_named-there g m name here is = by (named (members_of models g) name) refl
    where
      by : (o : Option Member) → named (members_of models g) name ≡ o → option_map (λ m. number_of models g m.def.name) o ≡ Some (number_of models g name)
      by None absent = absurd (named_absent (members_of models g) name m absent here is)
      by (Some other) found = ap (λ (n : List ℕ). Some (number_of models g n)) (named_found (members_of models g) name other found).1

  pub number_named-is : (g : Gathered) (name : List ℕ) (number : FieldNo) → number_named models g name ≡ Some number → number ≡ number_of models g name
  number_named-is g name number e = by (named (members_of models g) name) refl e
    where
      by : (o : Option Member) → named (members_of models g) name ≡ o → option_map (λ m. number_of models g m.def.name) o ≡ Some number → number ≡ number_of models g name
      by None absent e = absurd (cc)
      by (Some other) found e =
          let same : number_of models g other.def.name ≡ number = cc in
          sym same ∙ ap (number_of models g) (named_found (members_of models g) name other found).1

  pub model_number-there : (name : List ℕ) (g : Gathered) → model_of models name ≡ Some g → (target : ModelNo) × (model_number models name ≡ Some target)
  model_number-there name g found =
      let at = position_or_len (λ (m : Gathered). bytes_eq m.name name) models in
      let number : ModelNo = record { 0 = suc at } in
      (number, ap (option_map (λ i. let n : ModelNo = record { 0 = suc i } in n)) (position-found (λ m. bytes_eq m.name name) models g found))

  -- a delegated field's value stands behind its link
  pub delegation-there : (g : Gathered) (m : Member) (i : Inherits) → Contains (members_of models g) m → m.role ≡ delegated i → (at : Delegation) × (delegation_of models g i m.def.name ≡ Some at)
  delegation-there g m i here role =
      let from = delegated_from models g m i here role in
      let parent = from.1.parent in
      let target = model_number-there i.model parent from.1.there in
      let at : Delegation = record { link = number_of models g i.link; model = target.0; field = number_of models parent m.def.name } in
      let there : model_of models i.model ≡ Some parent = from.1.there in
      let number : model_number models i.model ≡ Some target.0 = target.1 in
      let link : number_named models g i.link ≡ Some (number_of models g i.link) =
      number_named-there g (own_member g.entry (link_def i)) i.link (own_among models g (own_member g.entry (link_def i)) (link_member models g i from.0)) refl in
      let field : number_named models parent m.def.name ≡ Some (number_of models parent m.def.name) =
      number_named-there parent from.1.source m.def.name (own_among models parent from.1.source from.1.among) (ap (λ f. f.name) from.1.def) in
      (at, rw (there, number, link, field))

  pub delegated_there : (step : Step) (g : Gathered) (m : Member) (i : Inherits) → IsMember models step g m → m.role ≡ delegated i → (at : Delegation) × (delegation_of models g i m.def.name ≡ Some at)
  delegated_there step g m i is role = elim (member_parts models step g m is).1 [
    | inl named ↦ delegation-there g m i named.0 role
    | inr condition ↦ (let both : hidden ≡ delegated i = sym (hidden_computed g m condition.0).0 ∙ role in absurd (cc))
  ]

  -- what the program finds behind a link is the parent's field
  pub IsDelegation-from : (g : Gathered) (m : Member) (i : Inherits) (at : Delegation) → m.role ≡ delegated i → delegation_of models g i m.def.name ≡ Some at → IsDelegation models g m at
  IsDelegation-from g m i at role e =
      option_and_then_some _ (model_of models i.model) at e (λ parent there e1.
      option_and_then_some _ (model_number models i.model) at e1 (λ target number e2.
      option_and_then_some _ (number_named models g i.link) at e2 (λ link linked e3.
      by parent there target number link linked (number_named models parent m.def.name) refl e3)))
    where
      behind : FieldNo → ModelNo → FieldNo → Delegation
      behind link target field = record { link = link; model = target; field = field }

      by : (parent : Gathered) → model_of models i.model ≡ Some parent → (target : ModelNo) → model_number models i.model ≡ Some target → (link : FieldNo) → number_named models g i.link ≡ Some link
          → (o : Option FieldNo) → number_named models parent m.def.name ≡ o → option_map (λ field. let d : Delegation = record { link = link; model = target; field = field } in d) o ≡ Some at → IsDelegation models g m at
      by parent there target number link linked None fielded e3 = absurd (cc)
      by parent there target number link linked (Some field) fielded e3 =
          let d : Delegation = record { link = link; model = target; field = field } in
          let same : d ≡ at = cc in
          let P : Delegation → Type 0 = λ x. IsDelegation models g m x in
          subst P same (record {
            through = i;
            role = role;
            link = number_named-is g i.link link linked;
            parent = parent;
            there = there;
            model = number;
            field = number_named-is parent m.def.name field fielded;
          })

  -- a field of the model with a name of its own, no expression and no parent is plain
  pub plain_own : (step : Step) (g : Gathered) (m : Member) → IsMember models step g m → is_own_computed m ≡ false → bytes_eq m.def.name (codes "id") ≡ false
      → ((i : Inherits) → m.role ≡ delegated i → ⊥) → (is_own m.role && not (is_computed m.def) && not (bytes_eq m.def.name (codes "id"))) ≡ true
  plain_own step g m is given other none = by m.role refl
    where
      all_three : (a b c : Bool) → a ≡ true → b ≡ false → c ≡ false → (a && not b && not c) ≡ true
      all_three true false false p q r = refl
      all_three false b c p q r = absurd (false≢true p)
      all_three true true c p q r = absurd (false≢true (sym q))
      all_three true false true p q r = absurd (false≢true (sym r))

      not_hidden : m.role ≡ hidden → ⊥
      not_hidden e = elim (member_parts models step g m is).1 [
        | inl named ↦ elim (member_cases models g m named.0) [
          | inl mine ↦ (let both : own ≡ hidden = sym (own_role models g m mine) ∙ e in cc)
          | inr through ↦ (let both : delegated through.0 ≡ hidden = sym through.2 ∙ e in cc)
        ]
        | inr condition ↦ false≢true (sym given ∙ (hidden_computed g m condition.0).1)
      ]

      by : (r : Role) → m.role ≡ r → (is_own m.role && not (is_computed m.def) && not (bytes_eq m.def.name (codes "id"))) ≡ true
      by own e =
          let plain : is_computed m.def ≡ false = ap (λ (r : Role). not (is_delegated r) && is_computed m.def) (sym e) ∙ given in
          all_three (is_own m.role) (is_computed m.def) (bytes_eq m.def.name (codes "id")) (ap is_own e) plain other
      by (delegated i) e = absurd (none i e)
      by hidden e = absurd (not_hidden e)

  back-known : (key : Option (List ℕ)) (leads : Option ModelNo)
      → (IsSomeAnd key (λ name. IsSomeAnd leads (λ target. IsSomeAnd (model_at models target.0) (λ g. named (members_of models g) name ≡ None))) → ⊥)
      → option_and_then (λ name. option_and_then (λ target. option_and_then (λ g. number_named models g name) (model_at models target.0)) leads) key
      ≡ option_and_then (λ name. option_and_then (λ target. option_map (λ g. number_of models g name) (model_at models target.0)) leads) key
  back-known None leads known = refl
  back-known (Some name) None known = refl
  back-known (Some name) (Some target) known = by (model_at models target.0) known
    where
      found : (g : Gathered) (o : Option Member) → named (members_of models g) name ≡ o → (o ≡ None → ⊥) → option_map (λ m. number_of models g m.def.name) o ≡ Some (number_of models g name)
      found g None e known = absurd (known refl)
      found g (Some m) e known = ap (λ (n : List ℕ). Some (number_of models g n)) (named_found (members_of models g) name m e).1

      by : (o : Option Gathered) → (IsSomeAnd o (λ g. named (members_of models g) name ≡ None) → ⊥) → option_and_then (λ g. number_named models g name) o ≡ option_map (λ g. number_of models g name) o
      by None known = refl
      by (Some g) known = found g (named (members_of models g) name) refl known

-- where the field back is there, its number is that of its name
pub named_back-number : (p : Place) (key : Option (List ℕ)) → (HasUnknownBack p key → ⊥) → named_back p.models p.member.def key ≡ back_number p.models p.member.def key
named_back-number p key known = back-known p.models key (relation_of p.models p.member.def) known
