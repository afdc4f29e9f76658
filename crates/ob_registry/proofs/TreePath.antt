-- The formula of a row's path in its tree: the parent's path with the row's id and a slash behind it; and the paths on which it depends.
use Rattle.std.proofs.Common.{◌≡◌, ◌&&◌, ◌==◌, ◌++◌, ℕ, Bool, true, false, not, List, [], ◌∷◌, Option, Some, None, Result, Ok, Err, ◌+◌, length, inl, inr, refl, sym, ap, subst, ◌∙◌, arith}
use Rattle.std.specs.Prelude.{All, Contains, codes, if◌then◌else◌, map, nat_le, option_and_then}
use Rattle.std.specs.List.{list_all}
use Rattle.std.specs.Option.{option_map_or}
use Rattle.std.specs.Str.{bytes_eq}
use Rattle.std.proofs.lemmas.Bool.{and_parts, false≢true}
use Rattle.std.proofs.lemmas.Bool.Decides.{nat_tests}
use Rattle.std.proofs.lemmas.List.Elements.{All-cons, All-nil}
use Rattle.std.proofs.lemmas.List.Splits.{slice_split_at}
use Rattle.ob_base.specs.declared.id.ModelNo.{ModelNo}
use Rattle.ob_base.specs.Limits.{max_name_bytes}
use Rattle.ob_base.specs.NameBytes.{begins_with_letter, is_name_byte}
use Rattle.ob_base.specs.Syntax.{Tree}
use Rattle.ob_expr.specs.declared.kind.Kind.{Kind}
use Rattle.ob_expr.specs.declared.kind.Kind.TheVariants as kind
use Rattle.ob_expr.specs.Chain.{and_then}
use Rattle.ob_expr.specs.Checking.{typed_of}
use Rattle.ob_expr.specs.TypedTree.{TypedTree}
use Rattle.ob_syntax.specs.Grammar.{IsExpression}
use Rattle.ob_syntax.specs.Lexemes.{lexemes}
use Rattle.ob_definition.specs.declared.field_type.FieldType.{FieldType}
use Rattle.ob_definition.specs.declared.field_type.FieldType.TheVariants as type
use Rattle.ob_definition.specs.declared.wrong.Wrong.TheVariants as wrong
use Rattle.ob_definition.specs.Definitions.{is_computed}
use Rattle.ob_definition.specs.Gathered.{Gathered}
use Rattle.ob_definition.specs.Members.{Member, Role, own, delegated, is_own, members_of, model_at, named, number_of, own_member, own_members, parents_path, path_def, path_name}
use Rattle.ob_definition.specs.Names.{is_field_name}
use Rattle.ob_registry.specs.Building.{AreResolved}
use Rattle.ob_registry.specs.Faults.{is_plain}
use Rattle.ob_schema.specs.Finds.{found_as, found_at, found_in, is_usable, kind_of_field, kind_of_type, relation_of}
use Rattle.ob_schema.specs.Formulas.{HasFormula, good_paths, written_names}
use Rattle.ob_schema.specs.Models.{path_depends, path_tree}
use Rattle.ob_schema.specs.Paths.{PathFault, end_with, go_on, has_value, no_field, no_step, path_from, split_path, step_at, steps_through, targets_of}
use Rattle.ob_schema.specs.declared.info.Step.{Step}
use Rattle.ob_registry.proofs.Delegated.{member_cases, own_among}
use Rattle.ob_registry.proofs.NameOrder.{named_found, named_there}
use Rattle.ob_schema.proofs.CallerLemmas.{some_same}
use Rattle.ob_registry.proofs.PathMeaning.{own_found, path-typed}
use Rattle.ob_registry.proofs.PathTokens.{path-spelled, path_text, tree_at}
use Rattle.ob_registry.proofs.Resolved.{right_field}
use Rattle.ob_registry.proofs.SingleFields.{names_apart}
use Rattle.ob_registry.proofs.OwnInfos.{well_named}

own_role : (role : Role) → is_own role ≡ true → role ≡ own
own_role own is = refl
own_role _ is = absurd (false≢true is)

not_own : (role : Role) (through : Role) → is_own through ≡ false → role ≡ through → is_own role ≡ true → ⊥
not_own role through none is mine = false≢true (sym none ∙ ap is_own (sym is) ∙ mine)

-- ---- names with a dot between them

no_dot : (b : ℕ) → is_name_byte b ≡ true → (b == 46) ≡ false
unfolding is_name_byte
no_dot b is = grind (arith, nat_tests, is)

no_dots : (bytes : List ℕ) → list_all is_name_byte bytes ≡ true → All (λ (b : ℕ). (b == 46) ≡ false) bytes
no_dots [] all = All-nil (λ (b : ℕ). (b == 46) ≡ false)
no_dots (b ∷ bytes) all =
    let both = and_parts (is_name_byte b) (list_all is_name_byte bytes) all in
    All-cons (λ (b : ℕ). (b == 46) ≡ false) b bytes (no_dot b both.0) (no_dots bytes both.1)

-- a name and that of the path
path-split : (parent : List ℕ) → list_all is_name_byte parent ≡ true → split_path (parents_path parent) ≡ parent ∷ path_name ∷ []
path-split parent all = slice_split_at (λ (b : ℕ). b == 46) parent 46 path_name (no_dots parent all) refl

abbrev relation_if : Option ModelNo → Bool → Option ModelNo
relation_if relation t = if t then None else relation

abbrev good : List Step → Result (List Step) PathFault
good steps = Ok steps

abbrev bad : PathFault → Result (List Step) PathFault
bad why = Err why

module _ (models : List Gathered) (resolved : AreResolved models) (number : ModelNo) (g : Gathered) (there : model_at models number.0 ≡ Some g) where
  -- what the name of one of its own fields stands for
  own-found : (name : List ℕ) (m : Member) (k : Kind) → named (members_of models g) name ≡ Some m → m.role ≡ own → kind_of_field models m.def ≡ Some k
      → found_at models number name ≡ Some (own_found (number_of models g m.def.name) k (is_usable m.def))
  own-found name m k found role kinded =
      ap (λ (o : Option Gathered). option_and_then (λ g. found_in models g name) o) there
      ∙ ap (λ (o : Option Member). option_and_then (λ m. option_and_then (λ k. found_as models g m.def k m.role) (kind_of_field models m.def)) o) found
      ∙ ap (λ (o : Option Kind). option_and_then (λ k. found_as models g m.def k m.role) o) kinded
      ∙ ap (found_as models g m.def k) role

  -- the name of a field of its own is a path of one step
  field-path : (name : List ℕ) (m : Member) → named (members_of models g) name ≡ Some m → m.role ≡ own → has_value m.def ≡ true → path_from models number (name ∷ []) ≡ good (step_at number (number_of models g m.def.name) ∷ [])
  field-path name m found role valued =
      ap (λ (o : Option Gathered). option_map_or (λ g. end_with models number g (named (members_of models g) name)) o (bad no_field)) there
      ∙ ap (λ (o : Option Member). end_with models number g o) found
      ∙ ap (λ (t : Bool). if t then good (steps_through models number g m.def.name m.role) else bad no_step) valued
      ∙ ap (λ (r : Role). good (steps_through models number g m.def.name r)) role

  -- one of the model's own fields goes by its name
  own-named : (m : Member) → Contains (own_members models g) m → named (members_of models g) m.def.name ≡ Some m
  own-named m here = named_there (members_of models g) (names_apart models resolved.named g (well_named models resolved number.0 g there)) m (own_among models g m here)

  module _ (parent : List ℕ) (b : Member) (found : named (members_of models g) parent ≡ Some b) (plain : is_plain b ≡ true) (one : b.def.field_type ≡ type.Many2one) (leads : relation_of models b.def ≡ Some number) where
    among : Contains (members_of models g) b
    among = (named_found (members_of models g) parent b found).0

    name_is : b.def.name ≡ parent
    name_is = (named_found (members_of models g) parent b found).1

    role_is : is_own b.role ≡ true
    role_is = (and_parts (is_own b.role) (not (is_computed b.def)) (and_parts (is_own b.role && not (is_computed b.def)) (not (bytes_eq b.def.name (codes "id"))) plain).0).0

    mine : Contains (own_members models g) b
    mine = elim (member_cases models g b among) [
      | inl here ↦ here
      | inr through ↦ absurd (not_own b.role (delegated through.0) refl through.2 role_is)
    ]

    -- the parent field's name has the form of a name
    name_right : is_field_name parent ≡ true
    name_right = subst (λ (name : List ℕ). is_field_name name ≡ true) name_is (by (is_field_name b.def.name) refl)
      where
        by : (t : Bool) → is_field_name b.def.name ≡ t → t ≡ true
        by true e = refl
        by false e = absurd (right_field models resolved number g there b (inl mine) wrong.Kind (inl (both (is_own b.role) (is_field_name b.def.name) role_is e)))
          where
            both : (x y : Bool) → x ≡ true → y ≡ false → (x && not y) ≡ true
            both true false p q = refl
            both true true p q = absurd (false≢true (sym q))
            both false y p q = absurd (false≢true p)

    -- its bytes are those of names
    name_bytes : (begins_with_letter parent ≡ true) × (list_all is_name_byte parent ≡ true)
    name_bytes = and_parts (begins_with_letter parent) (list_all is_name_byte parent) (and_parts (begins_with_letter parent && list_all is_name_byte parent) (nat_le (length parent) max_name_bytes) name_right).0

    -- a path goes on through it
    uncomputed : is_computed b.def ≡ false
    uncomputed =
        let first = and_parts (is_own b.role && not (is_computed b.def)) (not (bytes_eq b.def.name (codes "id"))) plain in
        by (is_computed b.def) (and_parts (is_own b.role) (not (is_computed b.def)) first.0).1
      where
        by : (t : Bool) → not t ≡ true → t ≡ false
        by false e = refl
        by true e = absurd (false≢true e)

    -- to the path of the parent
    parents-path : (rest : List ℕ) (steps : List Step) → path_from models number (rest ∷ []) ≡ good steps → path_from models number (parent ∷ rest ∷ []) ≡ good (step_at number (number_of models g parent) ∷ steps)
    parents-path rest steps more =
        let onward : ModelNo → Result (List Step) PathFault = λ target. path_from models target (rest ∷ []) in
        let through : Role → List ℕ → List Step → Result (List Step) PathFault = λ role name steps. good (steps_through models number g name role ++ steps) in
        let leads_on : targets_of models b.def ≡ Some number = ap (relation_if (relation_of models b.def)) uncomputed ∙ leads in
        ap (λ (o : Option Gathered). option_map_or (λ g. go_on models number g (named (members_of models g) parent) onward) o (bad no_field)) there
        ∙ ap (λ (o : Option Member). go_on models number g o onward) found
        ∙ ap (λ (o : Option ModelNo). option_map_or (λ target. and_then (onward target) (λ steps. through b.role b.def.name steps)) o (bad no_step)) leads_on
        ∙ ap (λ (r : Result (List Step) PathFault). and_then r (λ steps. through b.role b.def.name steps)) more
        ∙ ap (λ (role : Role). through role b.def.name steps) (own_role b.role role_is)
        ∙ ap (λ (name : List ℕ). through own name steps) name_is

    -- the paths on which its path depends
    pub path-depends : Contains (own_members models g) (own_member g.entry (path_def parent)) → (i : Member) → Contains (own_members models g) i → i.role ≡ own → i.def.name ≡ codes "id" → has_value i.def ≡ true
        → good_paths (map (path_from models number) (written_names (path_def parent))) ≡ path_depends number (number_of models g parent) (number_of models g path_name) (number_of models g (codes "id"))
    path-depends here i mine role name valued =
        let m : Member = own_member g.entry (path_def parent) in
        let last : path_from models number (path_name ∷ []) ≡ good (step_at number (number_of models g path_name) ∷ []) = field-path path_name m (own-named m here) refl refl in
        let id_named : named (members_of models g) (codes "id") ≡ Some i = ap (named (members_of models g)) (sym name) ∙ own-named i mine in
        let first : path_from models number (split_path (parents_path parent)) ≡ good (step_at number (number_of models g parent) ∷ step_at number (number_of models g path_name) ∷ []) =
        ap (path_from models number) (path-split parent name_bytes.1) ∙ parents-path path_name (step_at number (number_of models g path_name) ∷ []) last in
        let second : path_from models number (split_path (codes "id")) ≡ good (step_at number (number_of models g (codes "id")) ∷ []) =
        field-path (codes "id") i id_named role valued ∙ ap (λ (n : List ℕ). good (step_at number (number_of models g n) ∷ [])) name in
        ap (λ (r : Result (List Step) PathFault). good_paths (r ∷ path_from models number (split_path (codes "id")) ∷ [])) first
        ∙ ap (λ (r : Result (List Step) PathFault). (step_at number (number_of models g parent) ∷ step_at number (number_of models g path_name) ∷ []) ∷ good_paths (r ∷ [])) second

    -- what its path's expression is
    pub path-means : Contains (own_members models g) (own_member g.entry (path_def parent)) → (tree : Tree) (typed : TypedTree)
        → HasFormula (record { models = models; number = number; member = own_member g.entry (path_def parent) }) tree typed → typed ≡ path_tree number (number_of models g parent) (number_of models g path_name)
    path-means here tree typed has =
        let m : Member = own_member g.entry (path_def parent) in
        let spelled = has.has_tree.spelled in
        let text : path_text parent ≡ spelled.text = some_same (path_text parent) spelled.text spelled.given in
        let is_tree : IsExpression tree (lexemes (path_text parent)) = subst (λ (t : List ℕ). IsExpression tree (lexemes t)) (sym text) spelled.is_tree in
        let is : tree ≡ tree_at parent (4 + length parent) = path-spelled parent name_bytes.0 name_bytes.1 tree is_tree spelled.shallow in
        let checked = subst (λ (t : Tree). typed_of (found_at models) number t ≡ Ok typed) is has.checked in
        let kinded : kind_of_field models b.def ≡ Some (kind.Ref number) = ap (λ (t : FieldType). kind_of_type t (relation_of models b.def)) one ∙ ap (kind_of_type type.Many2one) leads in
        let link = own-found parent b (kind.Ref number) found (own_role b.role role_is) kinded in
        let at_name : found_at models number parent ≡ Some (own_found (number_of models g parent) (kind.Ref number) (is_usable b.def)) =
        link ∙ ap (λ (name : List ℕ). Some (own_found (number_of models g name) (kind.Ref number) (is_usable b.def))) name_is in
        let path : named (members_of models g) path_name ≡ Some m = own-named m here in
        path-typed (found_at models) number parent (4 + length parent) (number_of models g parent) (number_of models g path_name) (own-found path_name m kind.Word path refl refl) (is_usable b.def) at_name typed checked
