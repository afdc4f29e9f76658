-- The entries of a module's tables gone through: what stands against them first, and what they add.
use Rattle.std.proofs.Common.{◌≡◌, ℕ, ◌+◌, ◌≤◌, Bool, true, false, List, [], ◌∷◌, ◌++◌, length, map, take, All, Option, None, Some, refl, sym, ap, subst, ◌∙◌, arith}
use Rattle.std.specs.Prelude.{IfSome, codes, not, slice_get}
use Rattle.std.proofs.lemmas.List.{length-take-le, map-append, take_all}
use Rattle.std.proofs.lemmas.Option.{slice_get_within}
use Rattle.toml.specs.Data.{Data}
use Rattle.ob_access.specs.Policies.{RuleData, rule_data}
use Rattle.ob_access.specs.declared.policy.AccessLine.{AccessLine}
use Rattle.ob_access.specs.declared.policy.Group.{Group}
use Rattle.ob_access.specs.declared.policy.Rule.{Rule}
use Rattle.ob_base.specs.declared.place.PathStep.{PathStep}
use Rattle.ob_base.specs.declared.place.PathStep.TheVariants.{Key}
use Rattle.ob_definition.specs.Definitions.{first_of}
use Rattle.ob_domain.specs.Over.{IsOver}
use Rattle.ob_domain.specs.Trees.{tree_of_domain}
use Rattle.ob_load.specs.Access.{group_from, is_among, line_from, name_of, rule_from}
use Rattle.ob_load.specs.AccessFaults.{first_fault, form_fault, group_fault, group_fits, in_entry, line_fault, line_fits, name_fits, name_is_free, rule_fault, rule_misfit}
use Rattle.ob_module.specs.Forms.{under, unless}
use Rattle.ob_module.specs.Meaning.{text_at, texts_at}
use Rattle.ob_load.specs.Rooms.{GrowsBy, IsGroupOf}
use Rattle.ob_load.specs.declared.access.Declared.{Declared}
use Rattle.ob_load.specs.declared.fault.FaultyModule.{FaultyModule}
use Rattle.ob_load.proofs.AccessSteps.{fault-end, fault-here, fault-on, fault_from, parted-at}
use Rattle.ob_load.proofs.Declaring.{grows-group, grows-line, grows-none, grows-rule, grows-then}
use Rattle.ob_load.proofs.GroupIds.{implied-within, listed-within, named-within}
use Rattle.ob_schema.specs.Models.{HasModel}
use Rattle.ob_schema.specs.declared.info.ModelInfo.{ModelInfo}

-- a name that is free is none of those that are taken
free-is : (taken : Bool) → under (Key (codes "name")) (unless (not taken)) ≡ None → taken ≡ false
free-is true none = absurd (let e : ◌≡◌ {A = Option (List PathStep)} (Some (Key (codes "name") ∷ [])) None = none in cc)
free-is false none = refl

second-none : {X : Type 0} (a b : Option X) → first_of a b ≡ None → b ≡ None
second-none {X} (Some x) b none = absurd (let e : ◌≡◌ {A = Option X} (Some x) None = none in cc)
second-none None b none = none

pub name-free : (groups taken : List (List ℕ)) (owner : List ℕ) (d : Data) → group_fits groups taken owner d ≡ None → is_among taken (name_of owner d) ≡ false
name-free groups taken owner d fits = free-is (is_among taken (name_of owner d)) (second-none _ (name_is_free taken owner d) (second-none _ (name_fits taken owner d) fits))

-- what the images of one thing more are
pub map-one : {X Y : Type 0} (f : X → Y) (xs : List X) (x : X) → map f (xs ++ x ∷ []) ≡ map f xs ++ f x ∷ []
map-one f xs x = map-append f xs (x ∷ [])

module _ (models : List ModelInfo) (count : ℕ) (old : Declared) (wrong : List Data → Data → Option FaultyModule)
    (names : List Data → List (List ℕ)) (groups : List Data → List Group) (lines : List Data → List AccessLine) (rules : List Data → List RuleData) (entries : List Data) where
  -- nothing stands against the first so many entries, and they added this
  pub record AreAddedTo (n : ℕ) (d : Declared) : Type 0 where
    pub fits : fault_from wrong entries 0 ≡ fault_from wrong entries n
    pub grows : GrowsBy models count old d (names (take n entries)) (groups (take n entries)) (lines (take n entries)) (rules (take n entries))

  -- none
  pub added-none : names [] ≡ [] → groups [] ≡ [] → lines [] ≡ [] → rules [] ≡ [] → AreAddedTo 0 old
  added-none n g l r = record {
    fits = refl;
    grows = subst (λ (x : List (List ℕ)). GrowsBy models count old old x (groups []) (lines []) (rules [])) (sym n)
        (subst (λ (x : List Group). GrowsBy models count old old [] x (lines []) (rules [])) (sym g)
        (subst (λ (x : List AccessLine). GrowsBy models count old old [] [] x (rules [])) (sym l)
        (subst (λ (x : List RuleData). GrowsBy models count old old [] [] [] x) (sym r) (grows-none models count old))));
  }

  module _ (n : ℕ) (x : Data) (at : slice_get entries n ≡ Some x) (d : Declared) (is : AreAddedTo n d) where
    -- so many stand before it
    pub before-it : length (take n entries) ≡ n
    before-it = length-take-le n entries (let low = slice_get_within entries n x at in omega (arith, low))

    -- the first fault
    pub added-fault : (faulty : FaultyModule) → wrong (take n entries) x ≡ Some faulty → first_fault wrong [] entries ≡ Some faulty
    added-fault faulty e = is.fits ∙ fault-here wrong entries n x at faulty e

    -- one entry more
    pub added-next : (new : Declared) (own_names : List (List ℕ)) (own_groups : List Group) (own_lines : List AccessLine) (own_rules : List RuleData)
        → wrong (take n entries) x ≡ None → GrowsBy models count d new own_names own_groups own_lines own_rules
        → names (take n entries) ++ own_names ≡ names (take n entries ++ x ∷ []) → groups (take n entries) ++ own_groups ≡ groups (take n entries ++ x ∷ [])
        → lines (take n entries) ++ own_lines ≡ lines (take n entries ++ x ∷ []) → rules (take n entries) ++ own_rules ≡ rules (take n entries ++ x ∷ []) → AreAddedTo (n + 1) new
    added-next new own_names own_groups own_lines own_rules none grows ns gs ls rs =
        let before = take n entries in
        let e = sym (parted-at entries n x at).1 in
        record {
          fits = is.fits ∙ fault-on wrong entries n x at none;
          grows = subst (λ (b : List Data). GrowsBy models count old new (names b) (groups b) (lines b) (rules b)) e
              (subst (λ (l : List (List ℕ)). GrowsBy models count old new l (groups (before ++ x ∷ [])) (lines (before ++ x ∷ [])) (rules (before ++ x ∷ []))) ns
              (subst (λ (l : List Group). GrowsBy models count old new (names before ++ own_names) l (lines (before ++ x ∷ [])) (rules (before ++ x ∷ []))) gs
              (subst (λ (l : List AccessLine). GrowsBy models count old new (names before ++ own_names) (groups before ++ own_groups) l (rules (before ++ x ∷ []))) ls
              (subst (λ (l : List RuleData). GrowsBy models count old new (names before ++ own_names) (groups before ++ own_groups) (lines before ++ own_lines) l) rs
              (grows-then models count old d new (names before) own_names (groups before) own_groups (lines before) own_lines (rules before) own_rules is.grows grows)))));
        }

  -- all of them
  module _ (n : ℕ) (d : Declared) (is : AreAddedTo n d) (high : length entries ≤ n) where
    pub added-fits : first_fault wrong [] entries ≡ None
    added-fits = is.fits ∙ fault-end wrong entries n high

    pub added-all : GrowsBy models count old d (names entries) (groups entries) (lines entries) (rules entries)
    added-all = subst (λ (b : List Data). GrowsBy models count old d (names b) (groups b) (lines b) (rules b)) (take_all n entries high) is.grows

module _ (models : List ModelInfo) (known : List (List ℕ)) (owner : List ℕ) (old : Declared) (entries : List Data) where
  -- ---- groups

  abbrev pub GroupsTo : ℕ → Declared → Type 0
  GroupsTo n d = AreAddedTo models (length known) old (group_fault known owner old.names) (map (name_of owner)) (map (group_from known owner)) (λ b. []) (λ b. []) entries n d

  -- ---- access lines

  abbrev pub LinesTo : ℕ → Declared → Type 0
  LinesTo n d = AreAddedTo models (length known) old (line_fault models known owner) (λ b. []) (λ b. []) (map (line_from models known)) (λ b. []) entries n d

  -- ---- rules

  abbrev pub RulesTo : ℕ → Declared → Type 0
  RulesTo n d = AreAddedTo models (length known) old (rule_fault models known owner old.names) (map (name_of owner)) (λ b. []) (λ b. []) (map (rule_from models known owner)) entries n d

  -- none so far
  pub groups-none : GroupsTo 0 old
  groups-none = added-none models (length known) old (group_fault known owner old.names) (map (name_of owner)) (map (group_from known owner)) (λ b. []) (λ b. []) entries refl refl refl refl

  pub lines-none : LinesTo 0 old
  lines-none = added-none models (length known) old (line_fault models known owner) (λ b. []) (λ b. []) (map (line_from models known)) (λ b. []) entries refl refl refl refl

  pub rules-none : RulesTo 0 old
  rules-none = added-none models (length known) old (rule_fault models known owner old.names) (map (name_of owner)) (λ b. []) (λ b. []) (map (rule_from models known owner)) entries refl refl refl refl

  -- all of them
  module _ (n : ℕ) (d : Declared) (high : length entries ≤ n) (own : List Data) (same : entries ≡ own) where
    pub groups-fit : GroupsTo n d → first_fault (group_fault known owner old.names) [] own ≡ None
    groups-fit is = subst (λ (l : List Data). first_fault (group_fault known owner old.names) [] l ≡ None) same
        (added-fits models (length known) old (group_fault known owner old.names) (map (name_of owner)) (map (group_from known owner)) (λ b. []) (λ b. []) entries n d is high)

    pub groups-grow : GroupsTo n d → GrowsBy models (length known) old d (map (name_of owner) own) (map (group_from known owner) own) [] []
    groups-grow is = subst (λ (l : List Data). GrowsBy models (length known) old d (map (name_of owner) l) (map (group_from known owner) l) [] []) same
        (added-all models (length known) old (group_fault known owner old.names) (map (name_of owner)) (map (group_from known owner)) (λ b. []) (λ b. []) entries n d is high)

    pub lines-fit : LinesTo n d → first_fault (line_fault models known owner) [] own ≡ None
    lines-fit is = subst (λ (l : List Data). first_fault (line_fault models known owner) [] l ≡ None) same
        (added-fits models (length known) old (line_fault models known owner) (λ b. []) (λ b. []) (map (line_from models known)) (λ b. []) entries n d is high)

    pub lines-grow : LinesTo n d → GrowsBy models (length known) old d [] [] (map (line_from models known) own) []
    lines-grow is = subst (λ (l : List Data). GrowsBy models (length known) old d [] [] (map (line_from models known) l) []) same
        (added-all models (length known) old (line_fault models known owner) (λ b. []) (λ b. []) (map (line_from models known)) (λ b. []) entries n d is high)

    pub rules-fit : RulesTo n d → first_fault (rule_fault models known owner old.names) [] own ≡ None
    rules-fit is = subst (λ (l : List Data). first_fault (rule_fault models known owner old.names) [] l ≡ None) same
        (added-fits models (length known) old (rule_fault models known owner old.names) (map (name_of owner)) (λ b. []) (λ b. []) (map (rule_from models known owner)) entries n d is high)

    pub rules-grow : RulesTo n d → GrowsBy models (length known) old d (map (name_of owner) own) [] [] (map (rule_from models known owner) own)
    rules-grow is = subst (λ (l : List Data). GrowsBy models (length known) old d (map (name_of owner) l) [] [] (map (rule_from models known owner) l)) same
        (added-all models (length known) old (rule_fault models known owner old.names) (map (name_of owner)) (λ b. []) (λ b. []) (map (rule_from models known owner)) entries n d is high)

  module _ (n : ℕ) (x : Data) (at : slice_get entries n ≡ Some x) (d new : Declared) where
    module _ (is : GroupsTo n d) where
      names-now : d.names ≡ old.names ++ map (name_of owner) (take n entries)
      names-now = is.grows.names_grow

      place-now : length (take n entries) ≡ n
      place-now = before-it models (length known) old (group_fault known owner old.names) (map (name_of owner)) (map (group_from known owner)) (λ b. []) (λ b. []) entries n x at d is

      group-here : (o : Option FaultyModule) → form_fault owner (in_entry (codes "group") n (group_fits known d.names owner x)) ≡ o → group_fault known owner old.names (take n entries) x ≡ o
      group-here o e =
          ap (λ (k : ℕ). form_fault owner (in_entry (codes "group") k (group_fits known (old.names ++ map (name_of owner) (take n entries)) owner x))) place-now
          ∙ ap (λ (t : List (List ℕ)). form_fault owner (in_entry (codes "group") n (group_fits known t owner x))) (sym names-now) ∙ e

      -- a group that doesn't fit
      pub group-faulty : (faulty : FaultyModule) → form_fault owner (in_entry (codes "group") n (group_fits known d.names owner x)) ≡ Some faulty → first_fault (group_fault known owner old.names) [] entries ≡ Some faulty
      group-faulty faulty e =
          added-fault models (length known) old (group_fault known owner old.names) (map (name_of owner)) (map (group_from known owner)) (λ b. []) (λ b. []) entries n x at d is faulty (group-here (Some faulty) e)

      -- one that fits
      pub group-added : (g : Group) → group_fits known d.names owner x ≡ None → g ≡ group_from known owner x
          → new.names ≡ d.names ++ g.name ∷ [] → new.groups ≡ d.groups ++ g ∷ [] → new.lines ≡ d.lines → new.rules ≡ d.rules → GroupsTo (n + 1) new
      group-added g fits made ns gs ls rs =
          let named : g.name ≡ name_of owner x = ap (λ (o : Group). o.name) made in
          let free : is_among d.names g.name ≡ false = ap (is_among d.names) named ∙ name-free known d.names owner x fits in
          let implies = subst (λ (o : Group). All (IsGroupOf (length known)) o.implies) (sym made) (implied-within known (texts_at (codes "implies") x)) in
          added-next models (length known) old (group_fault known owner old.names) (map (name_of owner)) (map (group_from known owner)) (λ b. []) (λ b. []) entries n x at d is
          new (g.name ∷ []) (g ∷ []) [] [] (group-here None (ap (λ o. form_fault owner (in_entry (codes "group") n o)) fits)) (grows-group models (length known) d new g ns gs ls rs free implies)
          (ap (λ (l : List ℕ). map (name_of owner) (take n entries) ++ l ∷ []) named ∙ sym (map-one (name_of owner) (take n entries) x))
          (ap (λ (l : Group). map (group_from known owner) (take n entries) ++ l ∷ []) made ∙ sym (map-one (group_from known owner) (take n entries) x)) refl refl

    module _ (is : LinesTo n d) where
      line-place : length (take n entries) ≡ n
      line-place = before-it models (length known) old (line_fault models known owner) (λ b. []) (λ b. []) (map (line_from models known)) (λ b. []) entries n x at d is

      line-here : (o : Option FaultyModule) → form_fault owner (in_entry (codes "access") n (line_fits models known x)) ≡ o → line_fault models known owner (take n entries) x ≡ o
      line-here o e = ap (λ (k : ℕ). form_fault owner (in_entry (codes "access") k (line_fits models known x))) line-place ∙ e

      -- an access line that doesn't fit
      pub line-faulty : (faulty : FaultyModule) → form_fault owner (in_entry (codes "access") n (line_fits models known x)) ≡ Some faulty → first_fault (line_fault models known owner) [] entries ≡ Some faulty
      line-faulty faulty e =
          added-fault models (length known) old (line_fault models known owner) (λ b. []) (λ b. []) (map (line_from models known)) (λ b. []) entries n x at d is faulty (line-here (Some faulty) e)

      -- one that fits
      pub line-added : (line : AccessLine) → line_fits models known x ≡ None → line ≡ line_from models known x → HasModel models line.model
          → new.names ≡ d.names → new.groups ≡ d.groups → new.lines ≡ d.lines ++ line ∷ [] → new.rules ≡ d.rules → LinesTo (n + 1) new
      line-added line fits made there ns gs ls rs =
          let group = subst (λ (o : AccessLine). IfSome o.group (IsGroupOf (length known))) (sym made) (named-within known (text_at (codes "group") x)) in
          added-next models (length known) old (line_fault models known owner) (λ b. []) (λ b. []) (map (line_from models known)) (λ b. []) entries n x at d is
          new [] [] (line ∷ []) [] (line-here None (ap (λ o. form_fault owner (in_entry (codes "access") n o)) fits)) (grows-line models (length known) d new line ns gs ls rs (there, group))
          refl refl (ap (λ (l : AccessLine). map (line_from models known) (take n entries) ++ l ∷ []) made ∙ sym (map-one (line_from models known) (take n entries) x)) refl

    module _ (is : RulesTo n d) where
      rule-names : d.names ≡ old.names ++ map (name_of owner) (take n entries)
      rule-names = is.grows.names_grow

      rule-place : length (take n entries) ≡ n
      rule-place = before-it models (length known) old (rule_fault models known owner old.names) (map (name_of owner)) (λ b. []) (λ b. []) (map (rule_from models known owner)) entries n x at d is

      rule-here : (o : Option FaultyModule) → rule_misfit models known owner d.names n x ≡ o → rule_fault models known owner old.names (take n entries) x ≡ o
      rule-here o e =
          ap (λ (k : ℕ). rule_misfit models known owner (old.names ++ map (name_of owner) (take n entries)) k x) rule-place
          ∙ ap (λ (t : List (List ℕ)). rule_misfit models known owner t n x) (sym rule-names) ∙ e

      -- a rule that doesn't fit
      pub rule-faulty : (faulty : FaultyModule) → rule_misfit models known owner d.names n x ≡ Some faulty → first_fault (rule_fault models known owner old.names) [] entries ≡ Some faulty
      rule-faulty faulty e =
          added-fault models (length known) old (rule_fault models known owner old.names) (map (name_of owner)) (λ b. []) (λ b. []) (map (rule_from models known owner)) entries n x at d is faulty (rule-here (Some faulty) e)

      -- one that fits
      pub rule-added : (rule : Rule) → rule_misfit models known owner d.names n x ≡ None → rule_data rule ≡ rule_from models known owner x → HasModel models rule.model → IsOver models rule.model (tree_of_domain rule.domain)
          → new.names ≡ d.names ++ rule.name ∷ [] → new.groups ≡ d.groups → new.lines ≡ d.lines → new.rules ≡ d.rules ++ rule ∷ [] → RulesTo (n + 1) new
      rule-added rule fits made there over ns gs ls rs =
          let named : rule.name ≡ name_of owner x = ap (λ (o : RuleData). o.name) made in
          let listed = subst (λ (o : RuleData). IfSome o.groups (All (IsGroupOf (length known)))) (sym made) (listed-within known (texts_at (codes "groups") x)) in
          added-next models (length known) old (rule_fault models known owner old.names) (map (name_of owner)) (λ b. []) (λ b. []) (map (rule_from models known owner)) entries n x at d is
          new (rule.name ∷ []) [] [] (rule_data rule ∷ []) (rule-here None fits) (grows-rule models (length known) d new rule ns gs ls rs (there, listed, over))
          (ap (λ (l : List ℕ). map (name_of owner) (take n entries) ++ l ∷ []) named ∙ sym (map-one (name_of owner) (take n entries) x)) refl refl
          (ap (λ (l : RuleData). map (rule_from models known owner) (take n entries) ++ l ∷ []) made ∙ sym (map-one (rule_from models known owner) (take n entries) x))
