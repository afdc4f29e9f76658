-- Each model of the registry is right among all, and so is the registry.
use Rattle.std.proofs.Common.{◌≡◌, ◌≢◌, ℕ, zero, suc, ◌+◌, ◌<◌, ◌&&◌, ◌||◌, Bool, true, false, not, is_none, is_some, Option, Some, None, option_map, List, [], ◌∷◌, length}
use Rattle.std.proofs.Common.{get_or, map, inl, inr, refl, sym, ap, subst, ◌∙◌, arith}
use Rattle.std.specs.Prelude.{All, Contains, IfSome, IsSome, IsSomeAnd, codes, slice_get, unwrap_or}
use Rattle.std.specs.List.{AllPairs, AllZip, list_all, list_any}
use Rattle.std.specs.Option.{option_map_or}
use Rattle.std.specs.Str.{bytes_eq}
use Rattle.std.proofs.lemmas.Bool.{false_from_ne_true, and_parts, false≢true}
use Rattle.std.proofs.lemmas.List.{get_or-map, length-map}
use Rattle.std.proofs.lemmas.List.Elements.{All-map, All-nil, All-same}
use Rattle.std.proofs.lemmas.Option.{get_or_from_slice_get, same_Some, slice_get-get_or, slice_get-map, slice_get_within}
use Rattle.ob_base.specs.declared.id.FieldNo.{FieldNo}
use Rattle.ob_base.specs.declared.id.ModelNo.{ModelNo}
use Rattle.ob_expr.specs.TypedTree.{typed_tree_of}
use Rattle.ob_definition.specs.declared.definition.Inherits.{Inherits}
use Rattle.ob_definition.specs.declared.field_type.FieldType.{FieldType}
use Rattle.ob_definition.specs.declared.field_type.FieldType.TheVariants as type
use Rattle.ob_definition.specs.declared.field_type.OnDelete.TheVariants as ondelete
use Rattle.ob_definition.specs.declared.wrong.Wrong.TheVariants as wrong
use Rattle.ob_definition.specs.Definitions.{is_computed, is_set}
use Rattle.ob_definition.specs.Findings.{IsFaultAt, fault_at}
use Rattle.ob_definition.specs.Gathered.{DeclaredOrder, DeclaredSet, Gathered}
use Rattle.ob_definition.specs.Keys.{is_many2many, is_many2one}
use Rattle.ob_definition.specs.Members.{Member, given_members, link_def, links_from, links_of}
use Rattle.ob_definition.specs.Members.{members_of, model_at, named, names_of, path_name}
use Rattle.ob_definition.specs.Members.{number_of, own_member, own_members}
use Rattle.ob_definition.specs.Orders.{Term, order_terms}
use Rattle.ob_definition.specs.Rooms.{spot_at}
use Rattle.ob_definition.specs.Types.{is_list, is_one2many}
use Rattle.ob_definition.proofs.CallerLemmas.{zip_length}
use Rattle.ob_schema.specs.declared.info.FieldInfo.{FieldInfo}
use Rattle.ob_schema.specs.declared.info.Formula.{Formula}
use Rattle.ob_schema.specs.declared.info.ModelInfo.{ModelInfo}
use Rattle.ob_schema.specs.declared.info.OrderTerm.{OrderTerm}
use Rattle.ob_schema.specs.declared.info.Origin.TheVariants as origin
use Rattle.ob_schema.specs.declared.info.ParentInfo.{ParentInfo}
use Rattle.ob_schema.specs.Built.{IsFieldOf, IsFormula, IsModelOf, IsOrigin, given_terms}
use Rattle.ob_schema.specs.Formulas.{Place}
use Rattle.ob_registry.specs.Faults.{HasRefused, HasUnknown, IsParentField, is_mirror, is_plain, is_plain_kept as is_kept_member, is_unknown, names_of_terms, orders_rows}
use Rattle.ob_schema.specs.Fields.{is_plain_from, is_plain_kept}
use Rattle.ob_schema.specs.Finds.{relation_of}
use Rattle.ob_schema.specs.Models.{FieldHas, HasTreePath, IsField, IsFormulaIn, IsModel, IsParentIn, IsPlainTo, IsRegistry, IsTreePath, Orders, field_at, fields_of, is_id_from, model_at as info_at}
use Rattle.ob_schema.specs.Paths.{step_at}
use Rattle.ob_registry.specs.RegistryOf.{HasFieldInfo, IsInfoFrom, IsRegistryOf}
use Rattle.ob_schema.specs.Strata.IsMember.{by_name}
use Rattle.ob_registry.specs.Telling.{IsOrderWrong, IsParentWrong}
use Rattle.ob_registry.proofs.Delegated.{link_inherits, link_member, link_model, own_among}
use Rattle.ob_registry.proofs.FieldsRight.{IsParentOf, back_given, computed_info, field_right, has, is_id_info, named_info, number_there, parents_of, plain_info}
use Rattle.ob_schema.proofs.CallerLemmas.{IfSome-found, known_by}
use Rattle.ob_registry.proofs.ModelPlaces.{zip_some}
use Rattle.ob_registry.proofs.NumbersRise.{field_no}
use Rattle.ob_registry.proofs.OwnInfos.{relation_plain, well_named}
use Rattle.ob_registry.proofs.OwnNames.{own_apart}
use Rattle.ob_registry.proofs.RegistryPlaces.{value_there}
use Rattle.ob_registry.proofs.Resolved.{model_resolved, right_key}
use Rattle.ob_registry.proofs.Somes.{read_within}
use Rattle.ob_registry.proofs.Stable.{stable_model, stable_true}
use Rattle.ob_registry.proofs.StrataRight.{stratified}
use Rattle.ob_registry.proofs.WithinLimits.{few_fields}
use Rattle.ob_registry.proofs.NamesRight.{alone, automatic, conditions, conditions_apart, few_hidden, field_read, from as made_from, id_info, id_member, id_own, name_short, numbers_alike, ordered, path_info, path_low, path_member, path_own, short, slice_get-behind}
use Rattle.ob_registry.proofs.TreePath.{path-depends, path-means}

-- ---- lists of names

not_false : (b : Bool) → (b ≡ false → ⊥) → b ≡ true
not_false true refuted = refl
not_false false refuted = absurd (refuted refl)

passes : {X : Type 0} (p : X → Bool) (xs : List X) → list_all p xs ≡ true → All (λ x. p x ≡ true) xs
passes p [] all k d within = absurd (omega arith)
passes p (x ∷ xs) all zero d within = (and_parts (p x) (list_all p xs) all).0
passes p (x ∷ xs) all (suc k) d within = passes p xs (and_parts (p x) (list_all p xs) all).1 k d (omega arith)

all_unmap : {X Y : Type 0} (P : Y → Type 0) (f : X → Y) (xs : List X) → All P (map f xs) → All (λ x. P (f x)) xs
all_unmap P f xs all k d within = let size = length-map xs f in subst P (get_or-map f xs k d (f d) within) (all k (f d) (omega arith))

-- a field of the name passes the test
abbrev pub IsNamedBy : List Member → (Member → Bool) → List ℕ → Type 0
IsNamedBy members test name = IsSomeAnd (named members name) (λ m. test m ≡ true)

named_by : (members : List Member) (test : Member → Bool) (names : List (List ℕ)) → (HasUnknown members names → ⊥) → (HasRefused members test names → ⊥) → All (IsNamedBy members test) names
named_by members test names known right =
    let p : List ℕ → Bool = λ name. option_map_or test (named members name) false in
    let all : list_all p names ≡ true = not_false (list_all p names) (λ e. right (false_from_ne_true (list_any (is_unknown members) names) known, e)) in
    λ k d within. by (named members (get_or names k d)) (passes p names all k d within)
  where
    by : (o : Option Member) → option_map_or test o false ≡ true → IsSomeAnd o (λ m. test m ≡ true)
    by None e = absurd (false≢true e)
    by (Some m) e = e

many2one : (t : FieldType) → is_many2one t ≡ true → t ≡ type.Many2one
many2one type.Many2one e = refl
many2one _ e = absurd (false≢true e)

first_none : {X : Type 0} (xs : List X) → is_none (slice_get xs 0) ≡ true → xs ≡ []
first_none [] e = refl
first_none (x ∷ xs) e = absurd (false≢true e)

map_none : {X Y : Type 0} (f : X → Y) (xs : List X) → map f xs ≡ [] → xs ≡ []
map_none f [] e = refl
map_none f (x ∷ xs) e = absurd (cc)

both_true : (a b : Bool) → a ≡ true → b ≡ true → (a && b) ≡ true
both_true true true p q = refl
both_true false b p q = absurd (false≢true p)
both_true true false p q = absurd (false≢true q)

not_true : (b : Bool) → not b ≡ true → b ≡ false
not_true true e = absurd (false≢true e)
not_true false e = refl

all_true : (a b c : Bool) → a ≡ true → b ≡ true → c ≡ true → (a && (b && c)) ≡ true
all_true true true true p q r = refl
all_true false b c p q r = absurd (false≢true p)
all_true true false c p q r = absurd (false≢true q)
all_true true true false p q r = absurd (false≢true r)

module _ (models : List Gathered) (infos : List ModelInfo) (registry : IsRegistryOf models infos) (zip : AllZip (IsModelOf models) models infos)
    (formulas_in : (number : ModelNo) (field : FieldNo) (info : FieldInfo) (formula : Formula) → field_at infos number field ≡ Some info → info.origin ≡ origin.Computed formula → IsFormulaIn infos number info formula) where
  module _ (number : ModelNo) (info : ModelInfo) (at : info_at infos number ≡ Some info) where
    abbrev from : IsInfoFrom models number info
    from = made_from models infos registry zip number info at

    abbrev g : Gathered
    g = from.model

    abbrev there : model_at models number.0 ≡ Some g
    there = from.there

    abbrev is : IsModelOf models g info
    is = from.is

    abbrev members : List Member
    members = members_of models g

    -- ---- keys

    -- the parent field of a tree
    record IsParentHere (name : List ℕ) (b : Member) : Type 0 where
      found : named members name ≡ Some b
      plain : is_plain b ≡ true
      one : is_many2one b.def.field_type ≡ true
      leads : relation_of models b.def ≡ Some number

    parent_here : (name : List ℕ) → g.parent ≡ Some name → (b : Member) × IsParentHere name b
    parent_here name e =
        let Known : Option (List ℕ) → Type 0 = λ o. IfSome o (λ name. IsSome (named members name)) in
        some (named members name) refl (subst Known e (model_resolved models registry.resolved number g there).parent)
      where
        some : (o : Option Member) → named members name ≡ o → IsSome o → (b : Member) × IsParentHere name b
        some None f none = absurd (false≢true none)
        some (Some b) f known = (
          b,
          record {
            found = f;
            plain = stable_true (is_plain b) (λ no. twice (λ p. no p.0));
            one = stable_true (is_many2one b.def.field_type) (λ no. twice (λ p. no p.1));
            leads = stable_model (relation_of models b.def) number (λ no. twice (λ p. no p.2));
          },
        )
          where
            twice : (IsParentField models (Some number) b → ⊥) → ⊥
            twice refuted =
                let why = fault_at wrong.Kind (spot_at g.entry []) in
                let P : Option (List ℕ) → Type 0 = λ o. IsSomeAnd o (λ name. IsFaultAt (spot_at g.entry []) (IsParentWrong models number (named members name)) why) in
                right_key models registry.resolved number g there why (inr (inl (subst P (sym e)
                (wrong.Kind, known_by (named members name) (λ m. IsParentField models (Some number) m → ⊥) b f refuted, refl))))

    -- what holds of it where there is one
    parent_has : (P : FieldNo → Type 0) → ((name : List ℕ) → g.parent ≡ Some name → P (number_of models g name)) → IfSome info.parent P
    parent_has P holds = by g.parent refl
      where
        by : (o : Option (List ℕ)) → g.parent ≡ o → IfSome info.parent P
        by None e = subst (λ (o : Option FieldNo). IfSome o P) (sym (is.parent ∙ ap (option_map (number_of models g)) e)) tt
        by (Some name) e = IfSome-found P info.parent (number_of models g name) (is.parent ∙ ap (option_map (number_of models g)) e) (holds name e)

    parent_right : IfSome info.parent (FieldHas infos (λ field. IsPlainTo number field × (field.field_type ≡ type.Many2one)) number)
    parent_right = parent_has (FieldHas infos Right number) of
      where
        Right : FieldInfo → Type 0
        Right field = IsPlainTo number field × (field.field_type ≡ type.Many2one)

        of : (name : List ℕ) → g.parent ≡ Some name → FieldHas infos Right number (number_of models g name)
        of name e =
            let parent = parent_here name e in
            let b = parent.0 in
            let own = named_info models infos registry number g there name b parent.1.found in
            let holds : Right own.info = (
              record { plain = plain_info (record { models = models; number = number; member = b }) g (number_of models g name) own.info.origin parent.1.plain own.is.origin; leads = own.is.relation ∙ parent.1.leads },
              own.is.field_type ∙ many2one b.def.field_type parent.1.one,
            ) in
            has models infos registry number (number_of models g name) g b own Right holds

    -- the path of its rows
    tree_right : IfSome info.parent (HasTreePath infos number info)
    tree_right = parent_has (HasTreePath infos number info) of
      where
        of : (name : List ℕ) → g.parent ≡ Some name → HasTreePath infos number info (number_of models g name)
        of name e =
            let parent = parent_here name e in
            let b = parent.0 in
            let m : Member = path_member models infos registry zip number info at name e in
            let place : Place = record { models = models; number = number; member = m } in
            let at_path = number_of models g path_name in
            let own = path_info models infos registry zip number info at name e in
            let at_id = number_of models g (codes "id") in
            let row : Member = id_member models infos registry zip number info at in
            let id = id_info models infos registry zip number info at in
            let here = path_own models infos registry zip number info at name e in
            let one : b.def.field_type ≡ type.Many2one = many2one b.def.field_type parent.1.one in
            let right : (formula : Formula) → own.info.origin ≡ origin.Computed formula → IsFormula place at_path formula = λ formula by. subst (IsOrigin place g at_path) by own.is.origin in
            let is_path : IsTreePath number (number_of models g name) at_path at_id own.info = record {
              named = own.is.name;
              text = own.is.field_type;
              computed = computed_info place g at_path own.info.origin refl refl own.is.origin;
              kept = own.is.store;
              means = λ formula by.
                  (let known = right formula by in
                  path-means models registry.resolved number g there name b parent.1.found parent.1.plain one parent.1.leads here known.tree (typed_tree_of formula.typed) known.has);
              depends = λ formula by.
                  ((right formula by).depends
                  ∙ path-depends models registry.resolved number g there name b parent.1.found parent.1.plain one parent.1.leads here row (id_own models infos registry zip number info at) refl refl refl);
            } in
            let is_id : is_id_from id.info.origin ≡ true = is_id_info (record { models = models; number = number; member = row }) g at_id id.info.origin (λ _. (refl, refl)) id.is.origin in
            record {
              own = at_path;
              id = at_id;
              named = path_low models infos registry zip number info at name e;
              is_id = has models infos registry number at_id g row id (λ field. is_id_from field.origin ≡ true) is_id;
              is_path = has models infos registry number at_path g m own (IsTreePath number (number_of models g name) at_path at_id) is_path;
            }

    parents_right : All (IsParentIn infos number) info.inherits
    parents_right k d within = one (get_or info.inherits k d) (slice_get-get_or info.inherits k d within)
      where
        one : (parent : ParentInfo) → slice_get info.inherits k ≡ Some parent → IsParentIn infos number parent
        one parent e =
            let linked = value_there (λ i. IsParentOf models g i parent) (slice_get (links_of models g) k) (zip_some (IsParentOf models g) (links_of models g) info.inherits (parents_of models g info is) k parent e) in
            let i = linked.0 in
            let both = linked.2 in
            let among : Contains (links_of models g) i = (k, slice_get_within (links_of models g) k i linked.1, get_or_from_slice_get (links_of models g) k i i linked.1) in
            let m : Member = own_member g.entry (link_def i) in
            let mine : Contains (own_members models g) m = link_member models g i among in
            let own = registry.field number parent.link g m (by_name (step_at number parent.link) g m there (own_among models g m mine) (sym both.0)) in
            let P : FieldInfo → Type 0 = λ field. IsPlainTo parent.model field × (field.field_type ≡ type.Many2one) × (field.required ≡ true) × (field.ondelete ≡ ondelete.Cascade) in
            let holds : P own.info = (
              record { plain = relation_plain models registry.resolved number g there m mine refl parent.link own.info.origin own.is.origin; leads = own.is.relation ∙ both.1 },
              own.is.field_type,
              own.is.required,
              own.is.ondelete,
            ) in
            let p = link_model models g i among in
            let known : model_at models parent.model.0 ≡ Some p.0 = number_there models i.model parent.model p.0 both.1 p.1 in
            let other = registry.model parent.model p.0 known in
            let may = subst (λ (o : Option Gathered). option_map_or (λ q. not (bytes_eq q.name g.name) && is_none (slice_get q.inherits 0)) o false ≡ true) p.1 (link_inherits models g i among) in
            let none : p.0.inherits ≡ [] = first_none p.0.inherits (and_parts (not (bytes_eq p.0.name g.name)) (is_none (slice_get p.0.inherits 0)) may).1 in
            let no_links : links_of models p.0 ≡ [] = ap (links_from models p.0 (names_of (given_members p.0))) none in
            let no_parents : other.info.inherits ≡ [] = map_none (λ (i : ParentInfo). Some i.link) other.info.inherits (other.is.inherits ∙ ap (map (λ (i : Inherits). Some (number_of models p.0 i.link))) no_links) in
            record {
              link = has models infos registry number parent.link g m own P holds;
              single = known_by (info_at infos parent.model) (λ info. info.inherits ≡ []) other.info other.at no_parents;
            }

    -- no two links are one field
    record IsLinked (k : ℕ) (parent : ParentInfo) : Type 0 where
      through : Inherits
      own : slice_get (own_members models g) (length (given_members g) + k) ≡ Some (own_member g.entry (link_def through))
      is_link : parent.link ≡ number_of models g through.link
      field : HasFieldInfo models infos number (number_of models g through.link) g (own_member g.entry (link_def through))

    linked : (k : ℕ) (parent : ParentInfo) → slice_get info.inherits k ≡ Some parent → IsLinked k parent
    linked k parent e =
        let links = links_of models g in
        let by_link = value_there (λ i. IsParentOf models g i parent) (slice_get links k) (zip_some (IsParentOf models g) links info.inherits (parents_of models g info is) k parent e) in
        let i = by_link.0 in
        let made : Inherits → Member = λ j. own_member g.entry (link_def j) in
        let behind : slice_get (map made links) k ≡ Some (made i) = slice_get-map made links k ∙ ap (option_map made) by_link.1 in
        let among : Contains links i = (k, slice_get_within links k i by_link.1, get_or_from_slice_get links k i i by_link.1) in
        let at = number_of models g i.link in
        record {
          through = i;
          own = slice_get-behind (given_members g) (map made links) k (made i) behind;
          is_link = by_link.2.0;
          field = registry.field number at g (made i) (by_name (step_at number at) g (made i) there (own_among models g (made i) (link_member models g i among)) refl);
        }

    links_apart : AllPairs (λ a b. a.link ≢ b.link) info.inherits
    links_apart i j d lt within same =
        let low : i < length info.inherits = omega arith in
        let a = linked i (get_or info.inherits i d) (slice_get-get_or info.inherits i d low) in
        let b = linked j (get_or info.inherits j d) (slice_get-get_or info.inherits j d within) in
        let mine = own_members models g in
        let front = length (given_members g) in
        let x : Member = own_member g.entry (link_def a.through) in
        let y : Member = own_member g.entry (link_def b.through) in
        let one : get_or mine (front + i) x ≡ x = get_or_from_slice_get mine (front + i) x x a.own in
        let two : get_or mine (front + j) x ≡ y = get_or_from_slice_get mine (front + j) y x b.own in
        let inside : front + j < length mine = slice_get_within mine (front + j) y b.own in
        let above : front + i < front + j = omega arith in
        let numbers : number_of models g a.through.link ≡ number_of models g b.through.link = sym a.is_link ∙ same ∙ b.is_link in
        let alike : a.field.info ≡ b.field.info = same_Some a.field.info b.field.info (sym a.field.at ∙ ap (field_at infos number) numbers ∙ b.field.at) in
        let names : x.def.name ≡ y.def.name = sym a.field.is.name ∙ ap (λ (f : FieldInfo). f.name) alike ∙ b.field.is.name in
        own_apart models g (well_named models registry.resolved number.0 g there) (front + i) (front + j) x above inside
        (ap (λ (m : Member). m.def.name) one ∙ names ∙ sym (ap (λ (m : Member). m.def.name) two))

    -- what is known of the field of a name is known of the registry's field
    named_has : (test : Member → Bool) (P : FieldInfo → Type 0)
        → ((field : FieldNo) (m : Member) (own : FieldInfo) → test m ≡ true → field_at infos number field ≡ Some own → IsFieldOf (record { models = models; number = number; member = m }) g field own → P own)
        → (name : List ℕ) → IsNamedBy members test name → FieldHas infos P number (number_of models g name)
    named_has test P implies name by =
        let found = value_there (λ m. test m ≡ true) (named members name) by in
        let own = named_info models infos registry number g there name found.0 found.1 in
        has models infos registry number (number_of models g name) g found.0 own P (implies (number_of models g name) found.0 own.info found.2 own.at own.is)

    -- of what isn't a mirror the registry names no field back
    unmirrored : (field : FieldNo) (m : Member) (own : FieldInfo) → is_mirror m.def ≡ false → field_at infos number field ≡ Some own → IsFieldOf (record { models = models; number = number; member = m }) g field own → own.mirror ≡ None
    unmirrored field m own unmarked there of = by own.mirror refl
      where
        by : (o : Option FieldNo) → own.mirror ≡ o → own.mirror ≡ None
        by None e = e
        by (Some back) e =
            let given : is_some own.mirror ≡ true = ap (λ (o : Option FieldNo). is_some o) e in
            let right : IsField infos number info own = field_right models infos registry formulas_in number info at field own there (numbers_alike models infos zip) in
            let many : is_many2many m.def.field_type ≡ true = sym (ap is_many2many of.field_type) ∙ right.mirror given in
            let key : is_some m.def.mirror ≡ true = back_given models m.def m.def.mirror (sym (ap (λ (o : Option FieldNo). is_some o) of.mirror) ∙ given) in
            absurd (false≢true (sym unmarked ∙ both_true (is_many2many m.def.field_type) (is_some m.def.mirror) many key))

    kept_info : (field : FieldNo) (m : Member) (own : FieldInfo) → is_kept_member m ≡ true → field_at infos number field ≡ Some own → IsFieldOf (record { models = models; number = number; member = m }) g field own → is_plain_kept own ≡ true
    kept_info field m own kept there of =
        let last = and_parts (is_plain m && not (is_one2many m.def.field_type)) (not (is_mirror m.def)) kept in
        let first = and_parts (is_plain m) (not (is_one2many m.def.field_type)) last.0 in
        all_true (is_plain_from own.origin) (not (is_one2many own.field_type)) (is_none own.mirror)
        (plain_info (record { models = models; number = number; member = m }) g field own.origin first.0 of.origin)
        (ap (λ (t : FieldType). not (is_one2many t)) of.field_type ∙ first.1)
        (ap is_none (unmirrored field m own (not_true (is_mirror m.def) last.1) there of))

    unique_right : All (All (FieldHas infos (λ field. is_plain_kept field ≡ true) number)) info.unique
    unique_right =
        let Has : FieldNo → Type 0 = FieldHas infos (λ field. is_plain_kept field ≡ true) number in
        All-same (All Has) info.unique (map (λ (u : DeclaredSet). map (number_of models g) u.names) g.unique) is.unique
        (All-map (All Has) (λ (u : DeclaredSet). map (number_of models g) u.names) g.unique (λ k d within.
        (let u = get_or g.unique k d in
        let why = fault_at wrong.Kind (spot_at u.entry []) in
        let all : All (IsNamedBy members is_kept_member) u.names = named_by members is_kept_member u.names
        ((model_resolved models registry.resolved number g there).unique k d within)
        (λ refused. right_key models registry.resolved number g there why (inr (inr (inl (k, u, within, read_within g.unique k u d within, (wrong.Kind, inr refused, refl)))))) in
        All-map Has (number_of models g) u.names (λ j e low. named_has is_kept_member (λ field. is_plain_kept field ≡ true) kept_info (get_or u.names j e) (all j e low)))))

    set_given : All (λ set. set ≢ []) info.unique
    set_given =
        let IsGiven : List FieldNo → Type 0 = λ set. set ≢ [] in
        All-same IsGiven info.unique (map (λ (u : DeclaredSet). map (number_of models g) u.names) g.unique) is.unique
        (All-map IsGiven (λ (u : DeclaredSet). map (number_of models g) u.names) g.unique (λ k d within none.
        (let u = get_or g.unique k d in
        let why = fault_at wrong.Kind (spot_at u.entry []) in
        right_key models registry.resolved number g there why
        (inr (inr (inl (k, u, within, read_within g.unique k u d within, (wrong.Kind, inl (map_none (number_of models g) u.names none), refl))))))))

    orders_info : (field : FieldNo) (m : Member) (own : FieldInfo) → orders_rows m.def ≡ true → field_at infos number field ≡ Some own → IsFieldOf (record { models = models; number = number; member = m }) g field own → Orders own
    orders_info field m own orders there of =
        let both = and_parts (not (is_list m.def.field_type)) (not (is_computed m.def) || is_set m.def.store) orders in
        (ap is_list of.field_type ∙ not_true (is_list m.def.field_type) both.0, of.store ∙ both.1)

    order_right : All (λ term. FieldHas infos Orders number term.field) info.order
    order_right =
        let Has : OrderTerm → Type 0 = λ term. FieldHas infos Orders number term.field in
        let made : Term → OrderTerm = λ t. record { field = number_of models g t.name; descending = t.descending } in
        All-same Has info.order (map made (given_terms g.order)) is.order (All-map Has made (given_terms g.order) (by g.order refl (model_resolved models registry.resolved number g there).order))
      where
        HasTerm : Term → Type 0
        HasTerm t = FieldHas infos Orders number (number_of models g t.name)

        of : (o : DeclaredOrder) → g.order ≡ Some o → (t : Option (List Term)) → order_terms o.text ≡ t → IsSomeAnd t (λ terms. HasUnknown members (names_of_terms terms) → ⊥) → All HasTerm (unwrap_or t [])
        of o e None f known = All-nil HasTerm
        of o e (Some terms) f known =
            let why = fault_at wrong.Kind (spot_at o.entry []) in
            let test : Member → Bool = λ m. orders_rows m.def in
            let P : Option DeclaredOrder → Type 0 = λ o. IsSomeAnd o (λ o. IsFaultAt (spot_at o.entry []) (IsOrderWrong members o.text) why) in
            let all : All (IsNamedBy members test) (names_of_terms terms) = named_by members test (names_of_terms terms) known
            (λ refused. right_key models registry.resolved number g there why (inr (inr (inr (subst P (sym e)
            (wrong.Kind, inr (known_by (order_terms o.text) (λ terms. HasRefused members test (names_of_terms terms)) terms f refused), refl)))))) in
            all_unmap (λ name. FieldHas infos Orders number (number_of models g name)) (λ (t : Term). t.name) terms
            (λ k d within. named_has test Orders orders_info (get_or (names_of_terms terms) k d) (all k d within))

        by : (o : Option DeclaredOrder) → g.order ≡ o → IfSome o (λ o. IsSomeAnd (order_terms o.text) (λ terms. HasUnknown members (names_of_terms terms) → ⊥)) → All HasTerm (given_terms o)
        by None e known = All-nil HasTerm
        by (Some o) e known = of o e (order_terms o.text) refl known

    model_right : IsModel infos number info
    model_right = record {
      alone = alone models infos registry zip number info at;
      short_name = name_short models infos registry zip number info at;
      few = let count = is.named_count in let low = few_fields models registry.resolved number g there in omega arith;
      few_hidden = few_hidden models infos registry zip number info at;
      short = short models infos registry zip number info at;
      ordered = ordered models infos registry zip number info at;
      automatic = automatic models infos registry zip number info at;
      fields = λ k d within. field_right models infos registry formulas_in number info at (field_no k) (get_or (fields_of info) k d)
          (field_read models infos registry zip number info at k (get_or (fields_of info) k d) (slice_get-get_or (fields_of info) k d within)) (numbers_alike models infos zip);
      strata = λ field own formula here from. stratified models infos registry number info at parent_right field own formula here from (formulas_in number field own formula here from);
      conditions = conditions models infos registry zip number info at;
      conditions_apart = conditions_apart models infos registry zip number info at;
      parent = parent_right;
      tree = tree_right;
      parents = parents_right;
      links_apart = links_apart;
      unique = unique_right;
      set_given = set_given;
      order = order_right;
    }

  -- the registry is right
  pub registry_right : IsRegistry infos
  registry_right = record {
    few = let few = registry.resolved.few in let same = zip_length (IsModelOf models) models infos zip in omega arith;
    each = model_right;
  }
