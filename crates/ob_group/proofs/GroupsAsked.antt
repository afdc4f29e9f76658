-- What the arguments of `read_group` ask for, by those that are given.
use Rattle.std.proofs.Common.{◌≡◌, ℕ, List, [], ◌∷◌, get_or, map, take, Bool, true, false, cond, Option, Some, None, option_map, Result, Ok, refl, sym, ap, ◌∙◌}
use Rattle.std.specs.Prelude.{IfSome, option_and_then, unwrap_or}
use Rattle.std.specs.Option.{option_map_or}
use Rattle.std.proofs.lemmas.List.{take-map}
use Rattle.ob_base.specs.Chain.{◌>>=◌}
use Rattle.ob_base.specs.declared.id.ModelNo.{ModelNo}
use Rattle.ob_base.specs.declared.place.PathStep.{PathStep}
use Rattle.ob_call.proofs.CallerLemmas.{at_info}
use Rattle.ob_call.specs.Arguments as arguments
use Rattle.ob_call.specs.Arguments.{AreFit, Expected, arguments_of}
use Rattle.ob_call.specs.ArgumentsSteps.{all_given_of, given_of}
use Rattle.ob_call.specs.Called.{Called, called_by}
use Rattle.ob_call.specs.Forms.{fields_at}
use Rattle.ob_call.specs.declared.arguments.Given.{Given}
use Rattle.ob_call.specs.declared.call.Call.{Call}
use Rattle.ob_group.specs.GroupForms.{Aggregate, AskedGroups, GroupTerm, Grouping, Written, aggregates_in, asked_in, count_key, group_terms, groupings_in, groups_by, groups_expects, groups_of, items_in, json_of, used, written_in, written_of}
use Rattle.ob_domain.specs.Naming.{named_fields}
use Rattle.ob_query.proofs.CallerLemmas.{domain_same, named_same}
use Rattle.ob_group.proofs.NamedBy.{entries_same, groupings_same}
use Rattle.ob_query.specs.Callers.{Named, in_turn, is_first}
use Rattle.ob_group.specs.GroupParts.{grouping_view, used_of, written_view}
use Rattle.ob_query.specs.NamedFields.{Naming, domain_names}
use Rattle.ob_group.specs.NamedGroups.{entries_name, entry_fields, groupings_name, groups_named, groups_names}
use Rattle.ob_query.specs.SearchForms.{Sought, count_given, sought_in}
use Rattle.ob_group.specs.declared.written.Written.{Written as Own}
use Rattle.ob_schema.specs.Models.{model_at}
use Rattle.ob_schema.specs.Paths.{step_at}
use Rattle.ob_schema.specs.declared.info.FieldInfo.{FieldInfo}
use Rattle.ob_schema.specs.declared.info.ModelInfo.{ModelInfo}
use Rattle.ob_schema.specs.declared.info.Step.{Step}
use Rattle.serde_json.specs.View.{view}

-- ---- seven arguments

-- the arguments that fit what is expected are seven
pub record Seven (p : Expected) (given : List (Option Given)) : Type 0 where
  pub one : Option Given
  pub two : Option Given
  pub three : Option Given
  pub four : Option Given
  pub five : Option Given
  pub six : Option Given
  pub seven : Option Given
  pub are : given ≡ one ∷ two ∷ three ∷ four ∷ five ∷ six ∷ seven ∷ []
  pub fit : IfSome one (λ g. p.fault (view g.json.now) ≡ None)

own_fit : (p : Expected) (one : Option Given) → arguments.IsFit p (option_map given_of one) → IfSome one (λ g. p.fault (view g.json.now) ≡ None)
own_fit p None h = tt
own_fit p (Some g) h = h

pub seven_given : (p q r s t u v : Expected) (given : List (Option Given)) → AreFit (p ∷ q ∷ r ∷ s ∷ t ∷ u ∷ v ∷ []) (all_given_of given) → Seven p given
seven_given p q r s t u v [] h = absurd h
seven_given p q r s t u v (a ∷ []) h = absurd h.1
seven_given p q r s t u v (a ∷ b ∷ []) h = absurd h.1.1
seven_given p q r s t u v (a ∷ b ∷ c ∷ []) h = absurd h.1.1.1
seven_given p q r s t u v (a ∷ b ∷ c ∷ d ∷ []) h = absurd h.1.1.1.1
seven_given p q r s t u v (a ∷ b ∷ c ∷ d ∷ e ∷ []) h = absurd h.1.1.1.1.1
seven_given p q r s t u v (a ∷ b ∷ c ∷ d ∷ e ∷ f ∷ []) h = absurd h.1.1.1.1.1.1
seven_given p q r s t u v (a ∷ b ∷ c ∷ d ∷ e ∷ f ∷ g ∷ []) h = record { one = a; two = b; three = c; four = d; five = e; six = f; seven = g; are = refl; fit = own_fit p a h.0 }
seven_given p q r s t u v (a ∷ b ∷ c ∷ d ∷ e ∷ f ∷ g ∷ x ∷ given) h = absurd h.1.1.1.1.1.1.1

module _ (p : Expected) (items : List (Option Given)) (seven : Seven p items) where
  at : (n : ℕ) (o x : Option Given) → o ≡ get_or items n o → get_or (seven.one ∷ seven.two ∷ seven.three ∷ seven.four ∷ seven.five ∷ seven.six ∷ seven.seven ∷ []) n o ≡ x → o ≡ x
  at n o x is own = is ∙ ap (λ (l : List (Option Given)). get_or l n o) seven.are ∙ own

  pub seven_are : (a b c d e f g : Option Given) → a ≡ get_or items 0 a → b ≡ get_or items 1 b → c ≡ get_or items 2 c → d ≡ get_or items 3 d → e ≡ get_or items 4 e → f ≡ get_or items 5 f → g ≡ get_or items 6 g
      → items ≡ a ∷ b ∷ c ∷ d ∷ e ∷ f ∷ g ∷ []
  seven_are a b c d e f g ia ib ic id ie if_ ig =
      let ea = at 0 a seven.one ia refl in
      let eb = at 1 b seven.two ib refl in
      let ec = at 2 c seven.three ic refl in
      let ed = at 3 d seven.four id refl in
      let ee = at 4 e seven.five ie refl in
      let ef = at 5 f seven.six if_ refl in
      let eg = at 6 g seven.seven ig refl in
      seven.are ∙ (let both : seven.one ∷ seven.two ∷ seven.three ∷ seven.four ∷ seven.five ∷ seven.six ∷ seven.seven ∷ [] ≡ a ∷ b ∷ c ∷ d ∷ e ∷ f ∷ g ∷ [] = cc in both)

  pub seven_first : (a : Option Given) → a ≡ get_or items 0 a → IfSome a (λ g. p.fault (view g.json.now) ≡ None)
  seven_first a is = rw (at 0 a seven.one is refl) seven.fit

-- ---- what they ask for

made : Sought → List Grouping → List ℕ → List Aggregate → List GroupTerm → (offset limit : ℕ) → AskedGroups
made s gs key told ts offset limit = record { sought = s; groupings = gs; count_key = key; aggregates = told; terms = ts; offset = offset; limit = limit }

-- its parts, each as it is meant
pub groups_joined : (models : List ModelInfo) (model : ModelNo) (call : Call) (sought : Sought) (written : Written) (key : List ℕ) (aggregates : List Aggregate) (terms : List GroupTerm) (from most : ℕ)
    (domain fields groupby offset limit order lazy : Option arguments.Given) → IfSome (model_at models model) (λ info. sought ≡ sought_in models (called_by call info) domain None None None)
    → written ≡ written_in (fields_at models model) (json_of groupby) (json_of lazy) → key ≡ count_key written → aggregates ≡ option_map_or (λ g. aggregates_in (fields_at models model) g.json) fields []
    → terms ≡ unwrap_or (option_and_then (λ g. group_terms (used written) g.json) order) [] → from ≡ count_given offset → most ≡ count_given limit
    → IfSome (model_at models model) (λ info. record { sought = sought; groupings = used written; count_key = key; aggregates = aggregates; terms = terms; offset = from; limit = most }
    ≡ asked_in models (called_by call info) (written_in info.fields (json_of groupby) (json_of lazy)) domain fields offset limit order)
unfolding made
groups_joined models model call sought written key aggregates terms from most domain fields groupby offset limit order lazy s w k a t f m =
    both (model_at models model) s (at_info models model (λ infos. written ≡ written_in infos (json_of groupby) (json_of lazy)) w) (at_info models model (λ infos. aggregates ≡ option_map_or (λ g. aggregates_in infos g.json) fields []) a) where
      both : (o : Option ModelInfo) → IfSome o (λ info. sought ≡ sought_in models (called_by call info) domain None None None) → IfSome o (λ info. written ≡ written_in info.fields (json_of groupby) (json_of lazy))
          → IfSome o (λ info. aggregates ≡ option_map_or (λ g. aggregates_in info.fields g.json) fields [])
          → IfSome o (λ info. made sought (used written) key aggregates terms from most ≡ asked_in models (called_by call info) (written_in info.fields (json_of groupby) (json_of lazy)) domain fields offset limit order)
      both None s w a = tt
      both (Some info) s w a =
          ap (λ (x : Sought). made x (used written) key aggregates terms from most) s
          ∙ ap (λ (x : List ℕ). made (sought_in models (called_by call info) domain None None None) (used written) x aggregates terms from most) k
          ∙ ap (λ (x : List Aggregate). made (sought_in models (called_by call info) domain None None None) (used written) (count_key written) x terms from most) a
          ∙ ap (λ (x : List GroupTerm). made (sought_in models (called_by call info) domain None None None) (used written) (count_key written) (option_map_or (λ g. aggregates_in info.fields g.json) fields []) x from most) t
          ∙ ap (λ (x : ℕ). made (sought_in models (called_by call info) domain None None None) (used written) (count_key written) (option_map_or (λ g. aggregates_in info.fields g.json) fields [])
          (unwrap_or (option_and_then (λ g. group_terms (used written) g.json) order) []) x most) f
          ∙ ap (λ (x : ℕ). made (sought_in models (called_by call info) domain None None None) (used written) (count_key written) (option_map_or (λ g. aggregates_in info.fields g.json) fields [])
          (unwrap_or (option_and_then (λ g. group_terms (used written) g.json) order) []) (count_given offset) x) m
          ∙ ap (λ (x : Written). asked_in models (called_by call info) x domain fields offset limit order) w

-- seven that are given ask for what they are
pub taken_groups : (models : List ModelInfo) (call : Call) (items : List (Option Given)) (one two three four five six seven : Option Given) (asked : AskedGroups) → items ≡ one ∷ two ∷ three ∷ four ∷ five ∷ six ∷ seven ∷ []
    → arguments_of (groups_expects models call.model (fields_at models call.model) (written_of (fields_at models call.model) (view call.args.now) (view call.kw.now))) (view call.args.now) (view call.kw.now) ≡ Ok (all_given_of items)
    → IfSome (model_at models call.model) (λ info. asked ≡ asked_in models (called_by call info) (written_in info.fields (json_of (option_map given_of three)) (json_of (option_map given_of seven))) (option_map given_of one)
    (option_map given_of two) (option_map given_of four) (option_map given_of five) (option_map given_of six))
    → IfSome (model_at models call.model) (λ info. groups_of models (called_by call info) ≡ Ok asked)
taken_groups models call items one two three four five six seven asked are told is =
    both (model_at models call.model)
    (at_info models call.model (λ infos. arguments_of (groups_expects models call.model infos (written_of infos (view call.args.now) (view call.kw.now))) (view call.args.now) (view call.kw.now) ≡ Ok (all_given_of items)) told) is where
      both : (o : Option ModelInfo)
          → IfSome o (λ info. arguments_of (groups_expects models call.model info.fields (written_of info.fields (view call.args.now) (view call.kw.now))) (view call.args.now) (view call.kw.now) ≡ Ok (all_given_of items))
          → IfSome o (λ info. asked ≡ asked_in models (called_by call info) (written_in info.fields (json_of (option_map given_of three)) (json_of (option_map given_of seven))) (option_map given_of one)
          (option_map given_of two) (option_map given_of four) (option_map given_of five) (option_map given_of six))
          → IfSome o (λ info. groups_of models (called_by call info) ≡ Ok asked)
      both None a b = tt
      both (Some info) a b =
          ap (λ (r : Result (List (Option arguments.Given)) (List PathStep)). r >>= λ gs. Ok (groups_by models (called_by call info) gs)) (a ∙ ap (λ (l : List (Option Given)). Ok (all_given_of l)) are)
          ∙ ap Ok (sym b)

-- the groupings that are used, as they are meant
pub used-view : (written : Own) → map grouping_view (used_of written) ≡ used (written_view written)
used-view written = by written.lazy refl where
  by : (b : Bool) → written.lazy ≡ b → map grouping_view (cond b (take 1 written.groupings.items) written.groupings.items) ≡ cond b (take 1 (map grouping_view written.groupings.items)) (map grouping_view written.groupings.items)
  by true e = sym (take-map grouping_view 1 written.groupings.items)
  by false e = refl

-- ---- the fields that they name

map-view : {A B C : Type 0} (f : B → C) (g : A → B) (xs : List A) → map (λ x. f (g x)) xs ≡ map f (map g xs)
map-view f g [] = refl
map-view f g (x ∷ xs) = ap (λ (l : List _). f (g x) ∷ l) (map-view f g xs)

-- as the code has them
abbrev pub groups_pairs : List FieldInfo → ModelNo → (domain fields groupby : Option Given) → Sought → List Step → List Named
groups_pairs infos model domain fields groupby sought written =
    (is_first (option_map given_of domain), named_fields model sought.tree)
    ∷ (is_first (option_map given_of fields), map (step_at model) (option_map_or (λ g. entry_fields infos g.json) (option_map given_of fields) []))
    ∷ (is_first (option_map given_of groupby), written) ∷ []

-- those of the groupings that are written
pub written_steps : (model : ModelNo) (infos : List FieldInfo) (written : Own) (groupby lazy : Option arguments.Given) → written_view written ≡ written_in infos (json_of groupby) (json_of lazy)
    → map (λ g. step_at model g.field) written.groupings.items ≡ map (λ g. step_at model g.field) (groupings_in infos (items_in (json_of groupby)))
written_steps model infos written groupby lazy is =
    map-view (λ (g : Grouping). step_at model g.field) grouping_view written.groupings.items ∙ ap (λ (w : Written). map (λ (g : Grouping). step_at model g.field) w.groupings) is

module _ (models : List ModelInfo) (c : Called) (one two three four five six seven : Option Given) (sought : Sought) (written : List Step) where
  pub names_groups : sought ≡ sought_in models c (option_map given_of one) None None None
      → written ≡ map (λ g. step_at c.model g.field) (groupings_in c.info.fields (items_in (json_of (option_map given_of three))))
      → groups_names models c (all_given_of (one ∷ two ∷ three ∷ four ∷ five ∷ six ∷ seven ∷ [])) ≡ in_turn (groups_pairs c.info.fields c.model one two three sought written)
  names_groups is written_is =
      let domain : Option arguments.Given = option_map given_of one in
      let entries : Option arguments.Given = option_map given_of two in
      let groupings : Option arguments.Given = option_map given_of three in
      let ns : List Naming = record { given = domain; names = domain_names models c } ∷ record { given = entries; names = entries_name c } ∷ record { given = groupings; names = groupings_name c } ∷ [] in
      let a = option_map_or (λ g. domain_names models c g.json) domain [] in
      let b = option_map_or (λ g. entries_name c g.json) entries [] in
      let own = map (step_at c.model) (option_map_or (λ g. entry_fields c.info.fields g.json) entries []) in
      sym (ap (λ (s : Sought). in_turn (groups_pairs c.info.fields c.model one two three s written)) is
      ∙ ap (λ (l : List Step). in_turn ((is_first domain, l) ∷ (is_first entries, own) ∷ (is_first groupings, written) ∷ [])) (domain_same models c domain)
      ∙ ap (λ (l : List Step). in_turn ((is_first domain, a) ∷ (is_first entries, l) ∷ (is_first groupings, written) ∷ [])) (entries_same c entries)
      ∙ ap (λ (l : List Step). in_turn ((is_first domain, a) ∷ (is_first entries, b) ∷ (is_first groupings, l) ∷ [])) (written_is ∙ groupings_same c groupings) ∙ named_same ns)

-- seven that are given name what they do
pub named_groups : (models : List ModelInfo) (call : Call) (items : List (Option Given)) (one two three four five six seven : Option Given) (sought : Sought) (written : Own)
    → items ≡ one ∷ two ∷ three ∷ four ∷ five ∷ six ∷ seven ∷ []
    → arguments_of (groups_expects models call.model (fields_at models call.model) (written_of (fields_at models call.model) (view call.args.now) (view call.kw.now))) (view call.args.now) (view call.kw.now) ≡ Ok (all_given_of items)
    → IfSome (model_at models call.model) (λ info. sought ≡ sought_in models (called_by call info) (option_map given_of one) None None None)
    → written_view written ≡ written_in (fields_at models call.model) (json_of (option_map given_of three)) (json_of (option_map given_of seven))
    → IfSome (model_at models call.model) (λ info. groups_named models (called_by call info)
    ≡ Ok (in_turn (groups_pairs (fields_at models call.model) call.model one two three sought (map (λ g. step_at call.model g.field) written.groupings.items))))
named_groups models call items one two three four five six seven sought written are told is written_is = all (model_at models call.model) told is written_is where
  steps : List Step
  steps = map (λ g. step_at call.model g.field) written.groupings.items

  all : (o : Option ModelInfo)
      → arguments_of (groups_expects models call.model (option_map_or (λ info. info.fields) o []) (written_of (option_map_or (λ info. info.fields) o []) (view call.args.now) (view call.kw.now))) (view call.args.now) (view call.kw.now)
      ≡ Ok (all_given_of items) → IfSome o (λ info. sought ≡ sought_in models (called_by call info) (option_map given_of one) None None None)
      → written_view written ≡ written_in (option_map_or (λ info. info.fields) o []) (json_of (option_map given_of three)) (json_of (option_map given_of seven))
      → IfSome o (λ info. groups_named models (called_by call info) ≡ Ok (in_turn (groups_pairs (option_map_or (λ info. info.fields) o []) call.model one two three sought steps)))
  all None a b w = tt
  all (Some info) a b w =
      ap (λ (r : Result (List (Option arguments.Given)) (List PathStep)). r >>= λ gs. Ok (groups_names models (called_by call info) gs)) (a ∙ ap (λ (l : List (Option Given)). Ok (all_given_of l)) are)
      ∙ ap Ok (names_groups models (called_by call info) one two three four five six seven sought steps b (written_steps call.model info.fields written (option_map given_of three) (option_map given_of seven) w))
