-- The paths that a checked expression reads are ones of the registry: each ends at a field with a value of the path's kind.
use Rattle.std.proofs.Common.{◌≡◌, ℕ, Bool, true, false, cond, not, Option, Some, None, Result, Ok, Err, List, [], ◌∷◌, ◌++◌, map, refl, sym, ap, subst, ◌∙◌}
use Rattle.std.specs.Prelude.{All, Contains, option_and_then}
use Rattle.std.proofs.lemmas.Bool.{and_parts}
use Rattle.std.proofs.lemmas.List.Elements.{All-append, All-cons, All-map, All-nil, All-weaker}
use Rattle.std.proofs.lemmas.Option.{option_and_then_some, same_Some}
use Rattle.ob_base.specs.declared.id.FieldNo.{FieldNo}
use Rattle.ob_base.specs.declared.id.ModelNo.{ModelNo}
use Rattle.ob_expr.specs.declared.checker.TypeFault.{TypeFault}
use Rattle.ob_expr.specs.declared.checker.TypeFault.TheVariants as type_fault
use Rattle.ob_expr.specs.declared.kind.Found.{Found}
use Rattle.ob_expr.specs.declared.kind.Kind.{Kind}
use Rattle.ob_expr.specs.declared.kind.Kind.TheVariants as kind
use Rattle.ob_expr.specs.declared.typed.Link.{Link}
use Rattle.ob_expr.specs.Checking.{AreFound, IsFound, links_of as links_via, route_of, step_of, step_on, step_route}
use Rattle.ob_expr.specs.Route.{Route, behind, through}
use Rattle.ob_expr.specs.TypedTree.{EachPath, EachPathOfAll, IsWellKinded, AreTexts, TypedTree, TypedTrees, no_trees, one_more, row_id, integer, a_text, truth, unset, path, prefix, binary, chosen, choice, joined, digits}
use Rattle.ob_expr.specs.TypedTree.{over, paths_of, paths_of_all}
use Rattle.ob_expr.proofs.CallerLemmas.{then_ok}
use Rattle.ob_definition.specs.declared.definition.FieldDef.{FieldDef}
use Rattle.ob_definition.specs.declared.field_type.FieldType.{FieldType}
use Rattle.ob_definition.specs.declared.field_type.FieldType.TheVariants as type
use Rattle.ob_definition.specs.Definitions.{is_set}
use Rattle.ob_definition.specs.Gathered.{Gathered}
use Rattle.ob_definition.specs.Members.{Member, members_of, model_at, named, number_of, own_members}
use Rattle.ob_definition.specs.Types.{is_relation}
use Rattle.ob_schema.specs.declared.info.ModelInfo.{ModelInfo}
use Rattle.ob_schema.specs.Finds.{found_as, found_at, found_in, is_usable, kind_of_field, kind_of_type, relation_of}
use Rattle.ob_schema.specs.Models.{AreSteps, IsByRefs, IsRouted}
use Rattle.ob_schema.specs.Paths.{has_value, steps_of_route}
use Rattle.ob_registry.specs.RegistryOf.{IsRegistryOf}
use Rattle.ob_registry.proofs.OwnInfos.{own_ends, own_kinded, own_leads, own_refers}
use Rattle.ob_registry.proofs.LedPaths.{Leads, LeadsByRefs, leads_by, leads_on, led_routed, led_steps, refs_on, refs_routed}
use Rattle.ob_registry.proofs.NameOrder.{named_found}
use Rattle.ob_registry.proofs.NamesLed.{located}

-- links that lead to a field of a model's own rows, of a kind and with a value
pub record EndsAt (models : List Gathered) (infos : List ModelInfo) (number : ModelNo) (links : List Link) (field : FieldNo) (k : Kind) : Type 0 where
  pub model : ModelNo
  pub gathered : Gathered
  pub there : model_at models model.0 ≡ Some gathered
  pub source : Member
  pub among : Contains (own_members models gathered) source
  pub is_number : field ≡ number_of models gathered source.def.name
  pub kinded : kind_of_field models source.def ≡ Some k
  pub valued : has_value source.def ≡ true
  pub leads : Leads infos number links model

-- by many2ones alone
pub record EndsByRefs (models : List Gathered) (infos : List ModelInfo) (number : ModelNo) (route : Route) : Type 0 where
  pub end : EndsAt models infos number route.links route.field route.kind
  pub refs : LeadsByRefs infos number route.links end.model

-- the kinds of relations
ref_relation : (t : FieldType) (r : Option ModelNo) (target : ModelNo) → kind_of_type t r ≡ Some (kind.Ref target) → (is_relation t ≡ true) × (r ≡ Some target)
ref_relation type.Many2one None target e = absurd (cc)
ref_relation type.Many2one (Some x) target e = (refl, (let same : x ≡ target = cc in ap (λ (n : ModelNo). Some n) same))
ref_relation type.One2many None target e = absurd (cc)
ref_relation type.One2many (Some x) target e = absurd (cc)
ref_relation type.Many2many None target e = absurd (cc)
ref_relation type.Many2many (Some x) target e = absurd (cc)
ref_relation _ r target e = absurd (cc)

refs_relation : (t : FieldType) (r : Option ModelNo) (target : ModelNo) → kind_of_type t r ≡ Some (kind.Refs target) → (is_relation t ≡ true) × (r ≡ Some target)
refs_relation type.Many2one None target e = absurd (cc)
refs_relation type.Many2one (Some x) target e = absurd (cc)
refs_relation type.One2many None target e = absurd (cc)
refs_relation type.One2many (Some x) target e = (refl, (let same : x ≡ target = cc in ap (λ (n : ModelNo). Some n) same))
refs_relation type.Many2many None target e = absurd (cc)
refs_relation type.Many2many (Some x) target e = (refl, (let same : x ≡ target = cc in ap (λ (n : ModelNo). Some n) same))
refs_relation _ r target e = absurd (cc)

-- a field that expressions may read has a value
usable_valued : (f : FieldDef) → is_usable f ≡ true → has_value f ≡ true
usable_valued f is = (and_parts (not (is_set f.secret)) (has_value f) is).1

abbrev routed_as : Route → Result Route TypeFault
routed_as route = Ok route

same_route : (a b : Route) → routed_as a ≡ Ok b → a ≡ b
same_route a b e = cc

no_route : (e : TypeFault) (route : Route) → Err e ≡ routed_as route → ⊥
no_route e route is = cc

module _ (models : List Gathered) (infos : List ModelInfo) (registry : IsRegistryOf models infos) where
  abbrev pub EndsRoute : ModelNo → Route → Type 0
  EndsRoute number route = EndsAt models infos number route.links route.field route.kind

  -- behind links that lead there
  ends_behind : (number : ModelNo) (links : List Link) (middle : ModelNo) (route : Route) → Leads infos number links middle → EndsRoute middle route → EndsRoute number (behind links route)
  ends_behind number links middle route leads end = record {
    model = end.model;
    gathered = end.gathered;
    there = end.there;
    source = end.source;
    among = end.among;
    is_number = end.is_number;
    kinded = end.kinded;
    valued = end.valued;
    leads = leads_on infos number links route.links middle end.model leads end.leads;
  }

  -- the field at the end leads on, where it is a relation
  leads_through : (number : ModelNo) (route : Route) (target : ModelNo) → (end : EndsRoute number route) → is_relation end.source.def.field_type ≡ true → relation_of models end.source.def ≡ Some target
      → Leads infos number (through route target) target
  leads_through number route target end relation to =
      let has = own_leads models infos registry end.model end.gathered end.there end.source end.among target relation to in
      let last : Link = record { field = route.field; target = target } in
      leads_on infos number route.links (last ∷ []) end.model target end.leads
      (subst (λ (f : FieldNo). Leads infos end.model (record { field = f; target = target } ∷ []) target) (sym end.is_number) (has, refl))

  -- by one more many2one
  ref_through : (number : ModelNo) (route : Route) (target : ModelNo) → EndsByRefs models infos number route → route.kind ≡ kind.Ref target → LeadsByRefs infos number (through route target) target
  ref_through number route target ends is =
      let end : EndsRoute number route = ends.end in
      let kinded : kind_of_field models end.source.def ≡ Some (kind.Ref target) = end.kinded ∙ ap (λ (k : Kind). Some k) is in
      let both = ref_relation end.source.def.field_type (relation_of models end.source.def) target kinded in
      let has = own_refers models infos registry end.model end.gathered end.there end.source end.among target both.0 both.1 kinded in
      let last : Link = record { field = route.field; target = target } in
      refs_on infos number route.links (last ∷ []) end.model target ends.refs
      (subst (λ (f : FieldNo). LeadsByRefs infos end.model (record { field = f; target = target } ∷ []) target) (sym end.is_number) (has, refl))

  -- behind such links
  refs_behind : (number : ModelNo) (links : List Link) (middle : ModelNo) (route : Route) → LeadsByRefs infos number links middle → EndsByRefs models infos middle route
      → EndsByRefs models infos number (behind links route)
  unfolding ends_behind
  refs_behind number links middle route refs ends = record {
    end = ends_behind number links middle route (leads_by infos number links middle refs) ends.end;
    refs = refs_on infos number links route.links middle ends.end.model refs ends.refs;
  }

  refs_through : (number : ModelNo) (route : Route) (target : ModelNo) → EndsRoute number route → route.kind ≡ kind.Refs target → Leads infos number (through route target) target
  refs_through number route target end is =
      let both = refs_relation end.source.def.field_type (relation_of models end.source.def) target (end.kinded ∙ ap (λ (k : Kind). Some k) is) in
      leads_through number route target end both.0 both.1

  -- what a name stands for is a field of the registry
  found_ends : (number : ModelNo) (name : List ℕ) (found : Found) → found_at models number name ≡ Some found → found.usable ≡ true → EndsByRefs models infos number (step_route found)
  found_ends number name found is usable =
      option_and_then_some (λ g. found_in models g name) (model_at models number.0) found is (λ g there e.
      option_and_then_some (λ m. option_and_then (λ k. found_as models g m.def k m.role) (kind_of_field models m.def)) (named (members_of models g) name) found e (λ m here f.
      option_and_then_some (λ k. found_as models g m.def k m.role) (kind_of_field models m.def) found f (λ k kinded last. by g there m (named_found (members_of models g) name m here).0 k kinded last)))
    where
      by : (g : Gathered) → model_at models number.0 ≡ Some g → (m : Member) → Contains (members_of models g) m → (k : Kind) → kind_of_field models m.def ≡ Some k
          → found_as models g m.def k m.role ≡ Some found → EndsByRefs models infos number (step_route found)
      by g there m here k kinded last =
          let at = located models infos registry number g there m here in
          let made : Found = record { via = at.via; field = number_of models at.gathered m.def.name; kind = k; usable = is_usable m.def } in
          let same : made ≡ found = same_Some made found (sym (at.found k) ∙ last) in
          let could : is_usable m.def ≡ true = ap (λ (f : Found). f.usable) same ∙ usable in
          let end : EndsRoute number (step_route made) = record {
            model = at.model;
            gathered = at.gathered;
            there = at.there;
            source = at.source;
            among = at.among;
            is_number = ap (λ (f : FieldDef). number_of models at.gathered f.name) (sym at.def);
            kinded = ap (kind_of_field models) at.def ∙ kinded;
            valued = ap has_value at.def ∙ usable_valued m.def could;
            leads = leads_by infos number (links_via at.via) at.model at.refs;
          } in
          subst (λ (f : Found). EndsByRefs models infos number (step_route f)) same (record { end = end; refs = at.refs })

  step_ends : (at : ℕ) (number : ModelNo) (name : List ℕ) (route : Route) → step_of at (found_at models number name) ≡ Ok route → EndsByRefs models infos number route
  step_ends at number name route is = by (found_at models number name) refl is
    where
      tested : (found : Found) → found_at models number name ≡ Some found → (b : Bool) → found.usable ≡ b → cond b (Ok (step_route found)) (Err (type_fault.Name at)) ≡ Ok route → EndsByRefs models infos number route
      tested found e true usable is = subst (EndsByRefs models infos number) (same_route (step_route found) route is) (found_ends number name found e usable)
      tested found e false usable is = absurd (no_route (type_fault.Name at) route is)

      by : (o : Option Found) → found_at models number name ≡ o → step_of at o ≡ Ok route → EndsByRefs models infos number route
      by None e is = absurd (no_route (type_fault.Name at) route is)
      by (Some found) e is = tested found e found.usable refl is

  on_ends : (at : ℕ) (number : ModelNo) (rest : ModelNo → Result Route TypeFault) (step : Route) (k : Kind) (route : Route) → EndsByRefs models infos number step → step.kind ≡ k
      → ((target : ModelNo) (end : Route) → rest target ≡ Ok end → EndsByRefs models infos target end) → step_on at rest step k ≡ Ok route → EndsByRefs models infos number route
  on_ends at number rest step (kind.Ref target) route end is later made =
      let t = then_ok (rest target) (λ end. Ok (behind (through step target) end)) route made in
      subst (EndsByRefs models infos number) (same_route (behind (through step target) t.0) route t.2)
      (refs_behind number (through step target) target t.0 (ref_through number step target end is) (later target t.0 t.1))
  on_ends at number rest step _ route end is later made = absurd (no_route (type_fault.Kind at) route made)

  -- so is what names stand for
  route_ends : (at : ℕ) (number : ModelNo) (names : List (List ℕ)) (route : Route) → route_of (found_at models) at number names ≡ Ok route → EndsByRefs models infos number route
  route_ends at number [] route is = absurd (no_route (type_fault.Name at) route is)
  route_ends at number (name ∷ []) route is = step_ends at number name route is
  route_ends at number (name ∷ next ∷ names) route is =
      let t = then_ok (step_of at (found_at models number name)) (λ step. step_on at (λ target. route_of (found_at models) at target (next ∷ names)) step step.kind) route is in
      on_ends at number (λ target. route_of (found_at models) at target (next ∷ names)) t.0 t.0.kind route (step_ends at number name t.0 t.1) refl
      (λ target end e. route_ends at target (next ∷ names) end e) t.2

  pub found_route : (number : ModelNo) (route : Route) → IsFound (found_at models) number route → EndsByRefs models infos number route
  found_route number route (names, is) = route_ends 0 number names route is

  -- ---- all paths of an expression

  mutual
    pub tree_ends : (number : ModelNo) (tree : TypedTree) → IsWellKinded tree → AreFound (found_at models) number tree → All (EndsRoute number) (paths_of tree)
    tree_ends number (path route) kinded found = All-cons (EndsRoute number) route [] (found_route number route found).end (All-nil (EndsRoute number))
    tree_ends number (prefix word inner) kinded found = tree_ends number inner kinded.1 found
    tree_ends number (binary op left right) kinded found =
        All-append (EndsRoute number) (paths_of left) (paths_of right) (tree_ends number left kinded.2 found.0) (tree_ends number right kinded.3 found.1)
    tree_ends number (chosen which left right) kinded found =
        All-append (EndsRoute number) (paths_of left) (paths_of right) (tree_ends number left kinded.2 found.0) (tree_ends number right kinded.3 found.1)
    tree_ends number (choice condition first second) kinded found =
        All-append (EndsRoute number) (paths_of condition ++ paths_of first) (paths_of second)
        (All-append (EndsRoute number) (paths_of condition) (paths_of first) (tree_ends number condition kinded.2 found.0) (tree_ends number first kinded.3 found.1))
        (tree_ends number second kinded.4 found.2)
    tree_ends number (joined all) kinded found = trees_end number all kinded found
    tree_ends number (digits inner) kinded found = tree_ends number inner kinded.1 found
    tree_ends number (over aggregate route target inner) kinded found =
        let first : EndsRoute number route = (found_route number route found.0).end in
        let leads = refs_through number route target first kinded.1 in
        All-cons (EndsRoute number) route (map (behind (through route target)) (paths_of inner)) first
        (All-map (EndsRoute number) (behind (through route target)) (paths_of inner)
        (All-weaker (EndsRoute target) (λ r. EndsRoute number (behind (through route target) r)) (λ r end. ends_behind number (through route target) target r leads end) (paths_of inner)
        (tree_ends target inner kinded.2 found.1)))
    tree_ends number row_id kinded found = All-nil (EndsRoute number)
    tree_ends number (integer n) kinded found = All-nil (EndsRoute number)
    tree_ends number (a_text bytes) kinded found = All-nil (EndsRoute number)
    tree_ends number (truth b) kinded found = All-nil (EndsRoute number)
    tree_ends number (unset k) kinded found = All-nil (EndsRoute number)

    trees_end : (number : ModelNo) (all : TypedTrees) → AreTexts all → EachPathOfAll (IsFound (found_at models)) number all → All (EndsRoute number) (paths_of_all all)
    trees_end number no_trees kinded found = All-nil (EndsRoute number)
    trees_end number (one_more tree rest) kinded found =
        All-append (EndsRoute number) (paths_of tree) (paths_of_all rest) (tree_ends number tree kinded.1 found.0) (trees_end number rest kinded.2 found.1)

  -- such a path is typed, and its steps are ones of the registry
  pub ends_routed : (number : ModelNo) (route : Route) → EndsRoute number route → IsRouted infos number route.links route.field route.kind
  ends_routed number route end =
      let has = own_kinded models infos registry end.model end.gathered end.there end.source end.among route.kind end.kinded end.valued in
      led_routed infos number route.links end.model route.field route.kind end.leads (rw end.is_number has)

  -- by many2ones alone, from the model in which it stands
  pub ends_by_refs : (number : ModelNo) (route : Route) → EndsByRefs models infos number route → IsByRefs infos number route.links route.field route.kind
  ends_by_refs number route ends =
      let end : EndsRoute number route = ends.end in
      let has = own_kinded models infos registry end.model end.gathered end.there end.source end.among route.kind end.kinded end.valued in
      refs_routed infos number route.links end.model route.field route.kind ends.refs (rw end.is_number has)

  -- as each path of an expression does
  mutual
    pub tree_by_refs : (number : ModelNo) (tree : TypedTree) → AreFound (found_at models) number tree → EachPath (λ from route. IsByRefs infos from route.links route.field route.kind) number tree
    tree_by_refs number (path route) found = ends_by_refs number route (found_route number route found)
    tree_by_refs number (prefix word inner) found = tree_by_refs number inner found
    tree_by_refs number (binary op left right) found = (tree_by_refs number left found.0, tree_by_refs number right found.1)
    tree_by_refs number (chosen which left right) found = (tree_by_refs number left found.0, tree_by_refs number right found.1)
    tree_by_refs number (choice condition first second) found = (tree_by_refs number condition found.0, tree_by_refs number first found.1, tree_by_refs number second found.2)
    tree_by_refs number (joined all) found = trees_by_refs number all found
    tree_by_refs number (digits inner) found = tree_by_refs number inner found
    tree_by_refs number (over aggregate route target inner) found = (ends_by_refs number route (found_route number route found.0), tree_by_refs target inner found.1)
    tree_by_refs number row_id found = tt
    tree_by_refs number (integer n) found = tt
    tree_by_refs number (a_text bytes) found = tt
    tree_by_refs number (truth b) found = tt
    tree_by_refs number (unset k) found = tt

    trees_by_refs : (number : ModelNo) (all : TypedTrees) → EachPathOfAll (IsFound (found_at models)) number all → EachPathOfAll (λ from route. IsByRefs infos from route.links route.field route.kind) number all
    trees_by_refs number no_trees found = tt
    trees_by_refs number (one_more tree rest) found = (tree_by_refs number tree found.0, trees_by_refs number rest found.1)

  pub ends_steps : (number : ModelNo) (route : Route) → EndsRoute number route → AreSteps infos number (steps_of_route number route)
  ends_steps number route end =
      let has = own_ends models infos registry end.model end.gathered end.there end.source end.among end.valued in
      led_steps infos number route.links end.model route.field end.leads (rw end.is_number has)
